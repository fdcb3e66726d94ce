-- A text is hashed piece by piece.
use Rattle.std.proofs.Common.{◌≡◌, ℕ, suc, ◌/◌, ◌<◌, ◌≤◌, List, [], ◌∷◌, length, take, drop, fold, sym, ap, ◌∙◌, arith, length-drop}
use Rattle.graphql_names.specs.HashedText.{pieces, hashed_text}

-- a whole piece comes first
piece_first : (text : List ℕ) → 8 ≤ length text → hashed_text text ≡ take 8 text ∷ hashed_text (drop 8 text)
unfolding hashed_text
piece_first text h =
    let count : length text / 8 ≡ suc (length (drop 8 text) / 8) = omega (arith, length-drop 8 text) in
    ap (λ n. pieces n text) count

-- the rest is given at once
piece_last : (text : List ℕ) → length text < 8 → hashed_text text ≡ text ∷ []
unfolding hashed_text
piece_last text h =
    let none : length text / 8 ≡ 0 = omega arith in
    ap (λ n. pieces n text) none

module _ {S : Type 0} (write : S → List ℕ → S) (s t all : S) where
  -- the state after a piece comes to the same with the rest
  pub fed_piece : (left piece rest : List ℕ) → 8 ≤ length left → piece ≡ take 8 left → rest ≡ drop 8 left → t ≡ write s piece → fold write s (hashed_text left) ≡ all → fold write t (hashed_text rest) ≡ all
  fed_piece left piece rest h front back written before =
      ap (λ r. fold write t (hashed_text r)) back
      ∙ ap (λ u. fold write u (hashed_text (drop 8 left))) (written ∙ ap (write s) front)
      ∙ sym (ap (fold write s) (piece_first left h))
      ∙ before

  -- the state after the rest is that after all
  pub fed_rest : (left : List ℕ) → length left < 8 → t ≡ write s left → fold write s (hashed_text left) ≡ all → t ≡ all
  fed_rest left h written before = written ∙ sym (ap (fold write s) (piece_last left h)) ∙ before
