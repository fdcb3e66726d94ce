use Rattle.std.proofs.Common.{rules}
use Rattle.graphql_names.proofs.SameLemmas.{same_node_str}
use Rattle.graphql_names.proofs.node_str.NodeStrClone.clone.Goals as goal

pub returns : goal.returns
returns c = record { cases = same_node_str _ _ (search rules) (search rules) }
