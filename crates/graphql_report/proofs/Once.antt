-- Departures, each once: one more.
use Rattle.std.proofs.Common.{◌≡◌, ℕ, ◌+◌, ◌<◌, List, [], ◌∷◌, ◌++◌, length, map, get_or, take, Bool, true, false, refl, sym, ◌∙◌, ap, append_assoc, append-nil, if◌then◌else◌}
use Rattle.std.specs.List.{list_any}
use Rattle.std.proofs.lemmas.List.{map-append, map_more}
use Rattle.graphql_names.specs.Placed.{Place}
use Rattle.strict_documents.specs.Departure.{Departure}
use Rattle.strict_documents.specs.DepartureViews.{departure_tree}
use Rattle.strict_documents.specs.declared.departure.Departure.{Departure as Rust}
use Rattle.schema_types.proofs.in_components.Places.{each_place-push}
use Rattle.graphql_report.specs.Alike.{is_alike, each_once}
use Rattle.graphql_report.specs.Warnings.{About, about_departure}
use Rattle.graphql_report.specs.WarningViews.{told_at}
use Rattle.graphql_report.specs.declared.warnings.Warning.{Warning}

-- what one more adds
abbrev pub if_new : List (Departure Place) → Departure Place → List (Departure Place)
if_new before x = if list_any (is_alike x) before then [] else x ∷ []

-- what is told of one more of a list
pub each_more : {X : Type 0} (tree : X → Departure Place) (xs : List X) (k : ℕ) (d : X) → k < length xs
    → map about_departure (each_once (map tree (take (k + 1) xs)))
    ≡ map about_departure (each_once (map tree (take k xs))) ++ map about_departure (if_new (map tree (take k xs)) (tree (get_or xs k d)))
each_more tree xs k d less =
    ap (λ l. map about_departure (each_once l)) (map_more tree xs k d less)
    ∙ ap (map about_departure) (each_place-push if_new (map tree (take k xs)) (tree (get_or xs k d)))
    ∙ map-append about_departure (each_once (map tree (take k xs))) (if_new (map tree (take k xs)) (tree (get_or xs k d)))

new_one : (before : List (Departure Place)) (x : Departure Place) (b : Bool) → list_any (is_alike x) before ≡ b → if_new before x ≡ (if b then [] else x ∷ [])
new_one before x b is = ap (λ b. if b then [] else x ∷ []) is

module _ (base : List (Place × About)) (xs : List Rust) (k : ℕ) (d one : Rust) (told : Bool) where
  abbrev pub before : List (Departure Place)
  before = map departure_tree (take k xs)

  listed : one ≡ get_or xs k d → told ≡ list_any (is_alike (departure_tree one)) before → (b : Bool) → told ≡ b → list_any (is_alike (departure_tree (get_or xs k d))) before ≡ b
  listed is asked b answer = ap (λ o. list_any (is_alike (departure_tree o)) before) (sym is) ∙ sym asked ∙ answer

  -- one that is told already
  pub once_kept : (old : List (Place × Warning)) → k < length xs → one ≡ get_or xs k d → told ≡ list_any (is_alike (departure_tree one)) before → told ≡ true
      → map told_at old ≡ base ++ map about_departure (each_once before) → map told_at old ≡ base ++ map about_departure (each_once (map departure_tree (take (k + 1) xs)))
  once_kept old less is asked answer h =
      let first = map about_departure (each_once before) in
      h ∙ sym (ap (λ l. base ++ l) (each_more departure_tree xs k d less
      ∙ ap (λ l. first ++ map about_departure l) (new_one before (departure_tree (get_or xs k d)) true (listed is asked true answer)) ∙ append-nil first))

  -- one that is new
  pub once_pushed : (old new : List (Place × Warning)) (w : Place × Warning) → k < length xs → one ≡ get_or xs k d → told ≡ list_any (is_alike (departure_tree one)) before → told ≡ false
      → new ≡ old ++ w ∷ [] → told_at w ≡ about_departure (departure_tree one)
      → map told_at old ≡ base ++ map about_departure (each_once before) → map told_at new ≡ base ++ map about_departure (each_once (map departure_tree (take (k + 1) xs)))
  once_pushed old new w less is asked answer grown at h =
      let first = map about_departure (each_once before) in
      ap (map told_at) grown ∙ map-append told_at old (w ∷ []) ∙ ap (λ l. l ++ told_at w ∷ []) h ∙ append_assoc base first (told_at w ∷ [])
      ∙ ap (λ t. base ++ (first ++ t ∷ [])) (at ∙ ap (λ o. about_departure (departure_tree o)) is)
      ∙ sym (ap (λ l. base ++ l) (each_more departure_tree xs k d less
      ∙ ap (λ l. first ++ map about_departure l) (new_one before (departure_tree (get_or xs k d)) false (listed is asked false answer))))
