use Rattle.std.proofs.Common.{◌≡◌, map, not, true, sym, ap, ◌∙◌, rules}
use Rattle.std.specs.List.{list_any}
use Rattle.graphql_names.specs.Placed.{node_tree}
use Rattle.tree_directives.specs.DirectiveTree.{directive_tree}
use Rattle.document_typed_selections.specs.TypedTree.{typed_selection_tree}
use Rattle.document_typed_selections.specs.TypedParts.{typed_directives}
use Rattle.rule_selection_queries.specs.Stays.{leaves_out}
use Rattle.rule_selection_queries.proofs.Telling.{any_here, directives_meant}
use Rattle.rule_selection_queries.proofs.always.stays.Goals as goal

pub returns-then-leaves_out : goal.returns-then-leaves_out
returns-then-leaves_out c =
    let ds = c.as_slice-directives.result.now in
    let all : map (node_tree directive_tree) ds ≡ typed_directives (typed_selection_tree c.args.selection.now) = search rules in
    let test : leaves_out (node_tree directive_tree c.directive-item.result) ≡ true = sym c.leaves_out.ensures ∙ c.if-leaves_out.true in
    sym (ap not (ap (list_any leaves_out) (sym (directives_meant (typed_selection_tree c.args.selection.now) ds all))
    ∙ any_here (node_tree directive_tree) leaves_out ds c.loop-directive.directive-index c.directive-item.result c.loop-directive-test.true c.directive-item.is test))
