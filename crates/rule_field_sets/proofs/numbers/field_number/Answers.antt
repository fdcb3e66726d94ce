use Rattle.std.proofs.Common.{◌≡◌, ◌∙◌, sym, ap, subst, Some, IsTrue}
use Rattle.std.specs.Prelude.{unwrap_or, option_map, slice_get}
use Rattle.std.specs.Map.{lookup}
use Rattle.indexmap.specs.IndexMap.{insert_entry}
use Rattle.rule_field_sets.specs.Tables.{Enters}
use Rattle.rule_field_sets.specs.declared.numbers.FieldKey.{FieldKey}
use Rattle.rule_field_sets.specs.declared.numbers.KnownField.{KnownField}
use Rattle.rule_field_sets.specs.Numbered.{firsts_of, nodes_in, read_of, same_field_key, node_is}
use Rattle.rule_field_sets.proofs.Equal.{field_key_decides}
use Rattle.rule_field_sets.proofs.Inserting.{entered, map_or, noted_there, noted_others, found_at, node_found}
use Rattle.rule_field_sets.proofs.numbers.field_number.Goals as goal

pub returns : goal.returns
returns c =
    let k = c.args.field in
    let old = c.args.fields.now.entries in
    let new = c.insert_full.new.self.entries in
    let x = c.args.selection in
    let first = c.first_field-first.result in
    let value : KnownField = record { first = first; node = c.args.node } in
    let n = c.in_ok-number.number in
    let kept : read_of first ≡ unwrap_or (option_map (λ (v : KnownField). read_of v.first) (lookup (same_field_key k) old)) (read_of x) =
    ap read_of c.first_field-first.ensures ∙ map_or (λ (v : KnownField). v.first) read_of (lookup (same_field_key k) old) x in
    let enters : Enters (firsts_of old) k (read_of x) n (firsts_of new) =
    subst (λ es. Enters (firsts_of old) k (read_of x) n (firsts_of es)) (sym c.in_ok-number.ensures.entries)
    (subst (λ m. Enters (firsts_of old) k (read_of x) m (firsts_of (insert_entry same_field_key old k value))) (sym c.in_ok-number.ensures.index)
    (entered (λ (j : FieldKey). j) (λ (v : KnownField). read_of v.first) same_field_key field_key_decides old k value (read_of x) kept)) in
    let told = node_found (λ (v : KnownField). v.node) (lookup (same_field_key k) old) c.args.node in
    let is : c.has_field.result ≡ node_is (lookup (same_field_key k) old) c.args.node = c.has_field.ensures ∙ ap (λ o. node_is o c.args.node) c.in_ok-number.ensures.old in
    let place : option_map (λ (v : KnownField). v.node) (lookup (same_field_key k) old) ≡ slice_get (nodes_in old) n =
    found_at (λ (v : KnownField). v.node) same_field_key old k ∙ ap (slice_get (nodes_in old)) (sym c.in_ok-number.ensures.index) in
    record {
      number = enters;
      noted = record {
        noted = subst (λ es. slice_get (nodes_in es) n ≡ Some c.args.node) (sym c.in_ok-number.ensures.entries)
            (subst (λ m. slice_get (nodes_in (insert_entry same_field_key old k value)) m ≡ Some c.args.node) (sym c.in_ok-number.ensures.index) (noted_there (λ (v : KnownField). v.node) same_field_key old k value));
        others = λ m differ. ap (λ es. slice_get (nodes_in es) m) c.in_ok-number.ensures.entries
            ∙ noted_others (λ (v : KnownField). v.node) same_field_key old k value m (λ e. differ (e ∙ sym c.in_ok-number.ensures.index));
        told = (λ h. sym place ∙ told.0 (subst IsTrue is h), λ e. subst IsTrue (sym is) (told.1 (place ∙ e)));
      };
      refused = tt;
    }
