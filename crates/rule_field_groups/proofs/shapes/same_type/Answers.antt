use Rattle.std.proofs.Common.{◌≡◌, ◌&&◌, ap, sym, ◌∙◌}
use Rattle.tree_literals.specs.TypeTree.{type_tree, unplaced_type}
use Rattle.rule_field_sets.specs.in_schema.SchemaOf.{schema_tree}
use Rattle.rule_selection_queries.specs.in_definitions.Judged.{judged}
use Rattle.rule_selection_queries.specs.in_definitions.Names.{named_in}
use Rattle.rule_field_groups.specs.Shapes.{same_inner}
use Rattle.rule_field_groups.proofs.Shaped.{named_unplaced}
use Rattle.rule_field_groups.proofs.shapes.same_type.Goals as goal

pub returns-then-same_lists_and_marks : goal.returns-then-same_lists_and_marks
returns-then-same_lists_and_marks c =
    let s = judged (schema_tree c.args.schema.now) in
    let a = unplaced_type (type_tree c.args.a.now) in
    let b = unplaced_type (type_tree c.args.b.now) in
    let name : c.inner_named_type-name.result.now.text ≡ named_in a = ap (λ t. t.it) c.inner_named_type-name.ensures ∙ sym (named_unplaced (type_tree c.args.a.now)) in
    let other : c.inner_named_type-other.result.now.text ≡ named_in b = ap (λ t. t.it) c.inner_named_type-other.ensures ∙ sym (named_unplaced (type_tree c.args.b.now)) in
    c.same_inner.ensures ∙ (λ i. same_inner s (name i) (other i))
    ∙ ap (λ m. m && same_inner s (named_in a) (named_in b)) (sym c.if-same_lists_and_marks.true ∙ c.same_lists_and_marks.ensures)

pub returns-else-same_lists_and_marks : goal.returns-else-same_lists_and_marks
returns-else-same_lists_and_marks c =
    let s = judged (schema_tree c.args.schema.now) in
    let a = unplaced_type (type_tree c.args.a.now) in
    let b = unplaced_type (type_tree c.args.b.now) in
    c.if-same_lists_and_marks.false ∙ ap (λ m. m && same_inner s (named_in a) (named_in b)) (sym c.if-same_lists_and_marks.false ∙ c.same_lists_and_marks.ensures)
