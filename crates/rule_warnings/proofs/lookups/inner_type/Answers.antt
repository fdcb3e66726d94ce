use Rattle.std.proofs.Common.{◌∙◌, ap, sym}
use Rattle.graphql_names.specs.Placed.{Place, Text}
use Rattle.graphql_names.specs.Node.{content}
use Rattle.tree_literals.specs.TypeTree.{type_tree}
use Rattle.tree_literals.specs.TypeQueries.{inner_name}
use Rattle.tree_literals.specs.declared.ty.«Type».{«Type»}
use Rattle.rule_warnings.proofs.Found.{inner_unplaced}
use Rattle.rule_warnings.proofs.lookups.inner_type.Goals as goal

pub returns : goal.returns
returns c =
    ap (λ (n : Text Place). n.it) c.inner_named_type.ensures
    ∙ ap (λ (t : «Type»). (inner_name (type_tree t)).it) c.content.ensures
    ∙ sym (inner_unplaced (type_tree (content c.args.definition.now.ty)))
