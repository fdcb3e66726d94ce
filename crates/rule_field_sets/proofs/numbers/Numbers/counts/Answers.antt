use Rattle.std.proofs.Common.{◌∙◌, sym}
use Rattle.std.specs.Borrow.{Bor}
use Rattle.std.proofs.lemmas.List.{length-map}
use Rattle.document_typed_selections.specs.declared.selection.SelectionSet.{SelectionSet}
use Rattle.rule_field_sets.specs.Numbered.{read_of, read_list, set_parts}
use Rattle.rule_field_sets.specs.declared.numbers.FieldKey.{FieldKey}
use Rattle.rule_field_sets.specs.declared.numbers.KnownField.{KnownField}
use Rattle.rule_field_sets.specs.declared.numbers.SetKey.{SetKey}
use Rattle.rule_field_sets.proofs.numbers.Numbers.counts.Goals as goal

pub returns : goal.returns
returns c = record {
  fields = c.len.ensures.len ∙ sym (length-map c.args.self.now.fields.entries (λ (e : FieldKey × KnownField). (e.0, read_of e.1.first)));
  sets = c.len-2.ensures.len ∙ sym (length-map c.args.self.now.sets.entries (λ (e : SetKey × Bor SelectionSet). (set_parts e.0, read_list e.1.now)));
}
