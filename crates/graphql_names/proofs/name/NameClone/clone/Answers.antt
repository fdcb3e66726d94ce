use Rattle.std.proofs.Common.{rules}
use Rattle.graphql_names.proofs.SameLemmas.{same_name}
use Rattle.graphql_names.proofs.name.NameClone.clone.Goals as goal

pub returns-clause-same : goal.returns-clause-same
returns-clause-same c = same_name _ _ (search rules) (search rules) (search rules)
