use Rattle.std.proofs.Common.{◌∙◌, ◌++◌, ap, refl, length}
use Rattle.document_typed_selections.specs.TypedTree.{typed_set_tree}
use Rattle.document_typed_selections.specs.declared.selection.Field.{Field}
use Rattle.rule_field_sets.specs.Opened.{typed_sets, state_of, place_for, own_set}
use Rattle.rule_field_sets.proofs.Opening.{field_added}
use Rattle.rule_field_sets.proofs.found.Finding.push_field.Goals as goal

pub returns : goal.returns
returns c =
    let w = state_of c.args.self.now c.args.found.now in
    field_added _ c.args.found.now.fields.items c.push.new.self.items (typed_sets c.place_below.new.sets.items) w c.in_ok-push.ensures.items refl refl
    (c.in_ok-below.ensures.place ∙ ap (λ (f : Field). place_for (length w.sets) (typed_set_tree f.selection_set)) c.content.ensures)
    (c.in_ok-below.ensures.sets ∙ ap (λ (f : Field). w.sets ++ own_set (typed_set_tree f.selection_set)) c.content.ensures)
