use Rattle.std.proofs.Common.{◌≡◌, ◌||◌, map, codes, sym, ap, ◌∙◌}
use Rattle.std.specs.List.{list_any}
use Rattle.graphql_names.specs.Placed.{node_tree}
use Rattle.tree_directives.specs.DirectiveTree.{directive_tree}
use Rattle.document_typed_selections.specs.TypedTree.{typed_selection_tree}
use Rattle.rule_selection_queries.specs.Lent.{lent}
use Rattle.rule_selection_queries.specs.Stays.{is_directive}
use Rattle.rule_selection_queries.proofs.Staying.{or_left}
use Rattle.rule_selection_queries.proofs.Telling.{directives_meant}
use Rattle.rule_document_definitions.specs.Selected.{selection_directives}
use Rattle.rule_fragments.specs.Thinned.{has_noted}
use Rattle.rule_fragments.proofs.thinned.has_noted.Goals as goal

pub returns-then-has : goal.returns-then-has
returns-then-has c =
    let ds = selection_directives (lent c.args.selection.now) in
    let here = c.directives-directives.result.now.0.items in
    let all : map (node_tree directive_tree) here ≡ ds = directives_meant (typed_selection_tree c.args.selection.now) here c.directives-directives.ensures in
    let skips = ap (list_any (is_directive (codes "skip"))) (sym all) ∙ sym c.has-2.ensures ∙ c.if-has.true in
    c.if-has.true ∙ sym (ap (λ b. has_noted b ds) c.if-deferred.false ∙ or_left (list_any (is_directive (codes "skip")) ds) (list_any (is_directive (codes "include")) ds) skips)

pub returns-else-has : goal.returns-else-has
returns-else-has c =
    let ds = selection_directives (lent c.args.selection.now) in
    let here = c.directives-directives.result.now.0.items in
    let all : map (node_tree directive_tree) here ≡ ds = directives_meant (typed_selection_tree c.args.selection.now) here c.directives-directives.ensures in
    let skips = ap (list_any (is_directive (codes "skip"))) (sym all) ∙ sym c.has-2.ensures ∙ c.if-has.false in
    c.has-else-has.ensures ∙ ap (list_any (is_directive (codes "include"))) all
    ∙ sym (ap (λ b. has_noted b ds) c.if-deferred.false ∙ ap (λ b. b || list_any (is_directive (codes "include")) ds) skips)
