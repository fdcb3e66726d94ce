use Rattle.std.proofs.Common.{◌∙◌, ap, sym}
use Rattle.graphql_names.specs.Placed.{Place, Text}
use Rattle.tree_literals.specs.TypeTree.{type_tree}
use Rattle.strict_documents.proofs.Types.{inner_unplaced}
use Rattle.strict_documents.proofs.location.Location.inner_name.Goals as goal

pub returns : goal.returns
returns c = ap (λ (n : Text Place). n.it) c.inner_named_type.ensures ∙ sym (inner_unplaced (type_tree c.args.self.ty.now))
