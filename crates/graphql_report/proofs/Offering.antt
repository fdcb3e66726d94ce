-- The names that a hint offers are those of the texts.
use Rattle.std.proofs.Common.{◌≡◌, ◌<◌, ◌⊎◌, inl, inr, ℕ, List, map, length, get_or, String, string_bytes, refl, sym, ◌∙◌, subst, arith}
use Rattle.std.specs.Prelude.{Option, None, Some, option_map, Result, Ok, Err, IfOk}
use Rattle.std.proofs.lemmas.List.{get_or-map, length-map}
use Rattle.report_forms.specs.Closest.{meant_words}
use Rattle.graphql_report.specs.declared.text_names.TextName.{TextName}
use Rattle.graphql_report.specs.Offered.{names_of, IsOneOf, Offers}

-- one more name is seen
pub seen_more : (names : List TextName) (k : ℕ) (d : TextName) (name : List ℕ) (old new : Option (List ℕ)) → k < length names → name ≡ (get_or names k d).name.now
    → IsOneOf (names_of names) old → (new ≡ old) ⊎ (new ≡ Some name) → IsOneOf (names_of names) new
seen_more names k d name old new less is h (inl e) = subst (IsOneOf (names_of names)) (sym e) h
seen_more names k d name old new less is h (inr e) =
    let in_names : k < length (names_of names) = omega (arith, less, length-map names (λ (n : TextName). n.name.now)) in
    subst (IsOneOf (names_of names)) (sym e) (k, in_names, get_or-map (λ (n : TextName). n.name.now) names k d name less ∙ sym is)

offers : (names : List (List ℕ)) (sign : List ℕ) (found : Option (List ℕ)) → IsOneOf names found → Offers names (option_map (meant_words sign) found)
offers names sign None h = tt
offers names sign (Some name) h = (sign, name, h, refl)

pub offers_seen : {Z E : Type 0} (made : Result (Option (String Z)) E) (names : List (List ℕ)) (sign : List ℕ) (found : Option (List ℕ)) → IsOneOf names found
    → IfOk made (λ words. option_map string_bytes words ≡ option_map (meant_words sign) found) → IfOk made (λ words. Offers names (option_map string_bytes words))
offers_seen (Ok words) names sign found h e = subst (Offers names) (sym e) (offers names sign found h)
offers_seen (Err refused) names sign found h e = tt
