-- The places of fragments in a document, by their names.
use Rattle.std.proofs.Common.{◌≡◌, ◌∙◌, ◌++◌, ◌+◌, ◌<◌, ℕ, Bool, true, false, List, [], ◌∷◌, map, take, length, get_or, refl, ap, sym, subst, inl, inr, true≢false, if◌then◌else◌}
use Rattle.std.specs.Prelude.{Option, Some, None, IsSome, nat_eq}
use Rattle.std.specs.List.{position, list_any}
use Rattle.std.specs.Option.{option_map_or}
use Rattle.std.specs.Str.{bytes_eq}
use Rattle.std.specs.Borrow.{Bor}
use Rattle.std.proofs.lemmas.Cmp.{nat_eq_equiv}
use Rattle.std.proofs.lemmas.List.{map-append}
use Rattle.std.proofs.lemmas.List.Elements.{Contains-append_left, Contains-append_cases}
use Rattle.std.proofs.lemmas.Map.Views.{Contains-from_any, list_any-from_Contains, exact_unsigned_eq}
use Rattle.indexmap.specs.IndexSet.{insert_key}
use Rattle.graphql_names.specs.NameValue.{NameValue}
use Rattle.graphql_names.specs.Placed.{Place}
use Rattle.document_typed_operations.specs.Reached.{NamedSet, Fragments, fragment_named}
use Rattle.document_typed_operations.specs.Left.{note}
use Rattle.document_typed_operations.proofs.Finding.{not_in_nil, found_at, missing, position-map}
use Rattle.rule_field_sets.specs.Found.{texts_of, IsPlaceOf, ArePlaces}
use Rattle.rule_field_sets.proofs.Members.{only, in_last, taken_more, none_twice, apart_more}

module _ (fragments : Fragments Place) where
  abbrev keys : List (List ℕ)
  keys = map (λ (f : NamedSet Place). f.0) fragments

  none_noted : ArePlaces fragments [] []
  none_noted = record { within = λ p c. absurd (not_in_nil p c); covers = λ n c is. absurd (not_in_nil n c); apart = none_twice }

  pub places_begun : (places : List ℕ) → places ≡ [] → ArePlaces fragments [] places
  places_begun places none = subst (ArePlaces fragments []) (sym none) none_noted

  -- what is at a place that is found
  place_is : (n : List ℕ) (p : ℕ) → position (bytes_eq n) keys ≡ Some p → IsPlaceOf fragments n p
  place_is n p at =
      let found = found_at (λ (f : NamedSet Place). bytes_eq n f.0) fragments p (sym (position-map (λ (f : NamedSet Place). f.0) (bytes_eq n) fragments) ∙ at) in
      record { place = at; fragment = found.item; stands = found.stands; named = found.first }

  no_fragment : (n : List ℕ) → position (bytes_eq n) keys ≡ None → fragment_named fragments n ≡ None
  no_fragment n at = missing (λ (f : NamedSet Place). bytes_eq n f.0) fragments (sym (position-map (λ (f : NamedSet Place). f.0) (bytes_eq n) fragments) ∙ at)

  module _ (names : List (List ℕ)) (n : List ℕ) (places : List ℕ) (so_far : ArePlaces fragments names places) where
    -- a name without a fragment adds nothing
    none_more : fragment_named fragments n ≡ None → ArePlaces fragments (names ++ n ∷ []) places
    none_more none = record {
      within = λ p c. let m = so_far.within p c in (m.0, (Contains-append_left names (n ∷ []) m.0 m.1.0, m.1.1));
      covers = λ m c is. elim (Contains-append_cases names (n ∷ []) m c) [
        | inl a ↦ so_far.covers m a is
        | inr b ↦ absurd (true≢false (sym (subst IsSome (ap (fragment_named fragments) (sym (only n m b)) ∙ none) is)))
      ];
      apart = so_far.apart;
    }

    -- one with a fragment adds its place, unless that is there
    one_more : (p : ℕ) → IsPlaceOf fragments n p → ArePlaces fragments (names ++ n ∷ []) (insert_key nat_eq places p)
    one_more p its = by (list_any (nat_eq p) places) refl
      where
        by : (b : Bool) → list_any (nat_eq p) places ≡ b → ArePlaces fragments (names ++ n ∷ []) (if b then places else places ++ p ∷ [])
        by true there = record {
          within = λ q c. let m = so_far.within q c in (m.0, (Contains-append_left names (n ∷ []) m.0 m.1.0, m.1.1));
          covers = λ m c is. elim (Contains-append_cases names (n ∷ []) m c) [
            | inl a ↦ so_far.covers m a is
            | inr b ↦ (p, (Contains-from_any exact_unsigned_eq p places there, subst (λ k. IsPlaceOf fragments k p) (only n m b) its))
          ];
          apart = so_far.apart;
        }
        by false there = record {
          within = λ q c. elim (Contains-append_cases places (p ∷ []) q c) [
            | inl a ↦ let m = so_far.within q a in (m.0, (Contains-append_left names (n ∷ []) m.0 m.1.0, m.1.1))
            | inr b ↦ (n, (in_last names n, subst (IsPlaceOf fragments n) (only p q b) its))
          ];
          covers = λ m c is. elim (Contains-append_cases names (n ∷ []) m c) [
            | inl a ↦ let q = so_far.covers m a is in (q.0, (Contains-append_left places (p ∷ []) q.0 q.1.0, q.1.1))
            | inr b ↦ (p, (in_last places p, subst (λ k. IsPlaceOf fragments k p) (only n m b) its))
          ];
          apart = apart_more places p so_far.apart (λ c. absurd (true≢false (sym (list_any-from_Contains nat_eq_equiv p places c) ∙ there)));
        }

    noted : ArePlaces fragments (names ++ n ∷ []) (note fragments places n)
    noted = by (position (bytes_eq n) keys) refl
      where
        by : (o : Option ℕ) → position (bytes_eq n) keys ≡ o → ArePlaces fragments (names ++ n ∷ []) (option_map_or (insert_key nat_eq places) o places)
        by None at = none_more (no_fragment n at)
        by (Some p) at = one_more p (place_is n p at)

  -- name by name
  pub places_step : (names : List (Bor NameValue)) (i : ℕ) (n : Bor NameValue) (old new : List ℕ) → i < length names → n ≡ get_or names i n → new ≡ note fragments old n.now.text
      → ArePlaces fragments (texts_of (take i names)) old → ArePlaces fragments (texts_of (take (i + 1) names)) new
  places_step names i n old new within at is so_far =
      subst (λ l. ArePlaces fragments l new) (sym (ap texts_of (taken_more names i n within at) ∙ map-append (λ (m : Bor NameValue). m.now.text) (take i names) (n ∷ [])))
      (subst (ArePlaces fragments (texts_of (take i names) ++ n.now.text ∷ [])) (sym is) (noted (texts_of (take i names)) n.now.text old so_far))
