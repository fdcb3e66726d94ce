use Rattle.std.proofs.Common.{◌≡◌, ◌∙◌, ap, sym}
use Rattle.graphql_names.specs.Placed.{node_tree}
use Rattle.tree_literals.specs.TypeTree.{type_tree, unplaced_type}
use Rattle.tree_literals.specs.ValueTree.{value_tree}
use Rattle.tree_literals.specs.declared.ty.«Type».{«Type»}
use Rattle.tree_literals.proofs.TypeLaws.{compatible_both_ways}
use Rattle.rule_selections.proofs.DefinedAlike.{some_map, alike_unless}
use Rattle.rule_selections.proofs.common.are_alike.Goals as goal

pub returns-then-is_assignable_to : goal.returns-then-is_assignable_to
returns-then-is_assignable_to c = λ back.
    let both : c.is_some.result ≡ c.is_some-2.result = alike_unless c.is_some.result c.is_some-2.result c.if-is_some.false in
    let tree = λ (t : «Type»). unplaced_type (type_tree t) in
    let same = compatible_both_ways (type_tree c.content-ty.result.now) (type_tree c.content-other.result.now) (c.is_assignable_to.ensures.0 c.if-is_assignable_to.true) (c.is_assignable_to-then-is_assignable_to.ensures.0 back) in (
      sym (ap tree c.content-ty.ensures) ∙ same ∙ ap tree c.content-other.ensures,
      some_map (node_tree value_tree) c.args.a.now.default_value ∙ sym c.is_some.ensures ∙ both ∙ c.is_some-2.ensures ∙ sym (some_map (node_tree value_tree) c.args.b.now.default_value),
    )
