use Rattle.std.proofs.Common.{◌≡◌, ◌∙◌, sym, ap, subst}
use Rattle.std.specs.Prelude.{unwrap_or, option_map}
use Rattle.std.specs.Borrow.{Bor}
use Rattle.std.specs.Map.{lookup}
use Rattle.indexmap.specs.IndexMap.{insert_entry}
use Rattle.document_typed_selections.specs.declared.selection.SelectionSet.{SelectionSet}
use Rattle.rule_field_sets.specs.Tables.{Enters}
use Rattle.rule_field_sets.specs.Numbered.{first_sets_of, read_list, set_parts, same_set_key}
use Rattle.rule_field_sets.proofs.Equal.{set_key_decides}
use Rattle.rule_field_sets.proofs.Inserting.{entered, map_or}
use Rattle.rule_field_sets.proofs.numbers.list_number.Goals as goal

pub returns : goal.returns
returns c =
    let k = c.args.key in
    let old = c.args.sets.now.entries in
    let new = c.insert_full.new.self.entries in
    let x = c.args.set.now in
    let value = c.first_set-first.result in
    let n = c.in_ok-number.number in
    let kept : read_list value.now ≡ unwrap_or (option_map (λ (v : Bor SelectionSet). read_list v.now) (lookup (same_set_key k) old)) (read_list x) =
    ap read_list c.first_set-first.ensures ∙ map_or (λ (v : Bor SelectionSet). v.now) read_list (lookup (same_set_key k) old) x in
    let enters : Enters (first_sets_of old) (set_parts k) (read_list x) n (first_sets_of new) =
    subst (λ es. Enters (first_sets_of old) (set_parts k) (read_list x) n (first_sets_of es)) (sym c.in_ok-number.ensures.entries)
    (subst (λ m. Enters (first_sets_of old) (set_parts k) (read_list x) m (first_sets_of (insert_entry same_set_key old k value))) (sym c.in_ok-number.ensures.index)
    (entered set_parts (λ (v : Bor SelectionSet). read_list v.now) same_set_key set_key_decides old k value (read_list x) kept)) in
    record { number = enters; refused = tt }
