-- The characters of a text one after the other, and the departures of them.
use Rattle.std.proofs.Common.{◌≡◌, ℕ, ◌+◌, ◌≤◌, List, [], ◌∷◌, ◌++◌, length, sym, ap, ◌∙◌, append-nil, append_assoc, arith}
use Rattle.std.proofs.lemmas.List.{length-append}
use Rattle.std.specs.Char.{encode_utf8}
use Rattle.std.specs.Str.{encode_utf8_all}
use Rattle.std.specs.Str.Iter.{chars_rest, chars_steps}
use Rattle.std.specs.Iterator.{Yields}
use Rattle.std.specs.declared.str.Chars.{Chars}
use Rattle.rule_definitions.specs.Room.{◌⊕◌}
use Rattle.rule_definitions.proofs.Room.{room_both}
use Rattle.strict_documents.specs.Departure.{Departure}
use Rattle.strict_documents.specs.Characters.{Stretch, character_departure, character_departures}
use Rattle.std.proofs.Common.{Option}

-- the text that is left
pub spelled : (ys : List ℕ) (s t : Chars) → Yields chars_steps s ys t → chars_rest s ≡ encode_utf8_all ys ++ chars_rest t
spelled [] s t y = ap chars_rest y
spelled (c ∷ ys) s t y = y.1.0 ∙ ap (λ l. encode_utf8 c ++ l) (spelled ys y.0 t y.2) ∙ sym (append_assoc (encode_utf8 c) (encode_utf8_all ys) (chars_rest t))

-- one more character lies in the text
pub lies_within : (text : List ℕ) (ys : List ℕ) (s t : Chars) (c : ℕ) (rest : List ℕ) → chars_rest s ≡ text → Yields chars_steps s ys t → chars_rest t ≡ encode_utf8 c ++ rest
    → length (encode_utf8_all ys) + length (encode_utf8 c) ≤ length text
lies_within text ys s t c rest all y next =
    let whole = sym all ∙ spelled ys s t y ∙ ap (λ l. encode_utf8_all ys ++ l) next in
    let long = ap length whole ∙ length-append (encode_utf8_all ys) (encode_utf8 c ++ rest) in
    let left = length-append (encode_utf8 c) rest in
    omega (arith, long, left)

-- the bytes of one more character
pub one_longer : (ys : List ℕ) (c : ℕ) → length (encode_utf8_all (ys ++ c ∷ [])) ≡ length (encode_utf8_all ys) + length (encode_utf8 c)
one_longer [] c = let same = ap length (append-nil (encode_utf8 c)) in omega (arith, same)
one_longer (y ∷ ys) c =
    let more = length-append (encode_utf8 y) (encode_utf8_all (ys ++ c ∷ [])) in
    let now = length-append (encode_utf8 y) (encode_utf8_all ys) in
    let rest = one_longer ys c in
    omega (arith, more, now, rest)

module _ (file : ℕ) (told : List (Departure (Option Stretch))) where
  both_parts : (o : ℕ) (ys zs : List ℕ) → character_departures file o (ys ++ zs) ≡ character_departures file o ys ++ character_departures file (o + length (encode_utf8_all ys)) zs
  both_parts o [] zs = let same : o ≡ o + 0 = omega arith in ap (λ n. character_departures file n zs) same
  both_parts o (y ∷ ys) zs =
      let own = character_departure file o y in
      let first = character_departures file (o + length (encode_utf8 y)) ys in
      let same : (o + length (encode_utf8 y)) + length (encode_utf8_all ys) ≡ o + length (encode_utf8_all (y ∷ ys)) = omega (arith, length-append (encode_utf8 y) (encode_utf8_all ys)) in
      ap (λ l. own ++ l) (both_parts (o + length (encode_utf8 y)) ys zs)
      ∙ sym (append_assoc own first (character_departures file ((o + length (encode_utf8 y)) + length (encode_utf8_all ys)) zs))
      ∙ ap (λ n. (own ++ first) ++ character_departures file n zs) same

  -- one more character
  pub character_more : (o : ℕ) (ys : List ℕ) (c : ℕ) (now new : List (Departure (Option Stretch))) → o ≡ length (encode_utf8_all ys) → now ≡ told ⊕ character_departures file 0 ys
      → new ≡ now ⊕ character_departure file o c → new ≡ told ⊕ character_departures file 0 (ys ++ c ∷ [])
  character_more o ys c now new at so_far more =
      let from : length (encode_utf8_all ys) ≡ 0 + length (encode_utf8_all ys) = omega arith in
      more ∙ ap (λ l. l ⊕ character_departure file o c) so_far ∙ room_both told (character_departures file 0 ys) (character_departure file o c)
      ∙ ap (λ n. told ⊕ (character_departures file 0 ys ++ character_departure file n c)) at
      ∙ ap (λ l. told ⊕ (character_departures file 0 ys ++ l)) (sym (append-nil (character_departure file (length (encode_utf8_all ys)) c)))
      ∙ ap (λ n. told ⊕ (character_departures file 0 ys ++ character_departures file n (c ∷ []))) from
      ∙ ap (λ l. told ⊕ l) (sym (both_parts 0 ys (c ∷ [])))
