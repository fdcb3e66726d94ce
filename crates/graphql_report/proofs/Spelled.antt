-- The characters of one more text.
use Rattle.std.proofs.Common.{◌≡◌, ℕ, suc, ◌+◌, ◌<◌, List, [], ◌∷◌, ◌++◌, length, take, get_or, sym, ap, ◌∙◌, append-nil, append_assoc, Option, arith}
use Rattle.std.specs.Str.{chars}
use Rattle.std.proofs.lemmas.List.{take_more, length-take-le}
use Rattle.graphql_names.specs.Placed.{Place}
use Rattle.report_forms.specs.declared.source.Source.{Source}
use Rattle.fault_data.specs.in_rule_definitions.Room.{◌⊕◌}
use Rattle.fault_data.proofs.in_rule_definitions.Room.{room_both}
use Rattle.strict_documents.specs.Departure.{Departure}
use Rattle.strict_documents.specs.Characters.{Stretch, character_departures}
use Rattle.graphql_report.specs.Warnings.{texts_departures}

texts_more : (n : ℕ) (xs : List Source) (s : Source) → texts_departures n (xs ++ s ∷ []) ≡ texts_departures n xs ++ character_departures (n + length xs) 0 (chars s.lines.now)
texts_more n [] s = let same : n ≡ n + 0 = omega arith in append-nil (character_departures n 0 (chars s.lines.now)) ∙ ap (λ m. character_departures m 0 (chars s.lines.now)) same
texts_more n (x ∷ xs) s =
    let own = character_departures n 0 (chars x.lines.now) in
    let same : suc n + length xs ≡ n + suc (length xs) = omega arith in
    ap (λ l. own ++ l) (texts_more (suc n) xs s)
    ∙ sym (append_assoc own (texts_departures (suc n) xs) (character_departures (suc n + length xs) 0 (chars s.lines.now)))
    ∙ ap (λ m. (own ++ texts_departures (suc n) xs) ++ character_departures m 0 (chars s.lines.now)) same

pub text_more : (xs : List Source) (k : ℕ) (d : Source) (file : ℕ) (text : List ℕ) (now new : List (Departure (Option Stretch))) → k < length xs → file ≡ k + 1 → text ≡ (get_or xs k d).lines.now
    → now ≡ [] ⊕ texts_departures 1 (take k xs) → new ≡ now ⊕ character_departures file 0 (chars text) → new ≡ [] ⊕ texts_departures 1 (take (k + 1) xs)
text_more xs k d file text now new less numbered is h told =
    let before = take k xs in
    let s = get_or xs k d in
    let many : length before ≡ k = length-take-le k xs (omega (arith, less)) in
    let at : file ≡ 1 + length before = omega (arith, numbered, many) in
    told ∙ ap (λ l. l ⊕ character_departures file 0 (chars text)) h ∙ room_both [] (texts_departures 1 before) (character_departures file 0 (chars text))
    ∙ ap (λ t. [] ⊕ (texts_departures 1 before ++ character_departures file 0 (chars t))) is
    ∙ ap (λ m. [] ⊕ (texts_departures 1 before ++ character_departures m 0 (chars s.lines.now))) at
    ∙ ap (λ l. [] ⊕ l) (sym (texts_more 1 before s))
    ∙ ap (λ l. [] ⊕ texts_departures 1 l) (sym (take_more xs k d less))
