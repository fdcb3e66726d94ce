use Rattle.std.proofs.Common.{◌∷◌, [], rules, subst, ap, sym, ◌∙◌}
use Rattle.indexmap.specs.IndexMap.{get, insert_entry}
use Rattle.indexmap.specs.IndexSet.{insert_key}
use Rattle.indexmap.specs.Entry.{map_with_value, entry_value}
use Rattle.graphql_names.specs.NameValue.{NameValue}
use Rattle.schema_components.specs.Names.{same_text}
use Rattle.schema_types.specs.TypeView.{name_text}
use Rattle.rule_fragments.specs.Held.{AddsEntries}
use Rattle.rule_fragments.proofs.Noted.{one_note}
use Rattle.rule_fragments.proofs.possible_types.note.Goals as goal

pub returns : goal.returns
returns c =
    let m = c.args.noted.now in
    let e = c.in_ok-noted.field-0 in
    let v = c.insert.new.self in
    let copied = c.in_ok-ty.ensures.same in
    let fact = one_note m (map_with_value e v) c.args.ty.now c.args.object.now (entry_value e) c.new-none.result v
    (c.in_ok-noted.ensures.update.1 v ∙ ap (λ (n : NameValue). insert_entry (same_text name_text) m.entries n v) copied)
    (c.in_ok-noted.ensures.value ∙ ap (λ (n : NameValue). get (same_text name_text) m n) copied)
    c.new-none.ensures.empty
    (c.in_ok-insert.ensures.keys ∙ (λ i. insert_key (same_text name_text) (c.or_insert-objects.ensures.value i).keys (c.in_ok-object.ensures.same i))) in
    subst (λ es. AddsEntries m.entries es ((c.args.ty.now.text, c.args.object.now.text) ∷ [])) (sym (search rules)) fact
