use Rattle.std.proofs.Common.{rules}
use Rattle.graphql_names.specs.Node.{content}
use Rattle.tree_literals.specs.TypeTree.{type_tree}
use Rattle.document_typing.proofs.DefinedFields.{inner-unplaced}
use Rattle.document_typing.proofs.look_ups.inner_name.Goals as goal

pub returns : goal.returns
returns c =
    let inner = inner-unplaced (type_tree (content c.args.definition.now).ty) in
    search (rules, inner)
