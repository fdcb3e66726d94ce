-- A part of a part of a text is a part of the text.
use Rattle.std.proofs.Common.{◌≡◌, ℕ, ◌+◌, ◌-◌, ◌≤◌, List, length, take, drop, slice_range, sym, ap, ◌∙◌, arith, length-take, length-drop}
use Rattle.std.proofs.lemmas.List.{take-take, drop-drop}
use Rattle.std.proofs.lemmas.Slice.{between_is}

module _ (whole : List ℕ) (start end : ℕ) (ordered : start ≤ end) (fits : end ≤ length whole) where
  length_part : length (slice_range whole start end) ≡ end - start
  length_part = omega (arith, length-take (end - start) (drop start whole), length-drop start whole)

  -- the part from i to j of the part
  pub range_of_range : (i j : ℕ) → i ≤ j → j ≤ length (slice_range whole start end)
      → slice_range whole (start + i) (start + j) ≡ slice_range (slice_range whole start end) i j
  range_of_range i j before within =
      let long : (start + j) - (start + i) ≡ j - i = omega arith in
      ap (λ n. take n (drop (start + i) whole)) long
      ∙ ap (take (j - i)) (sym (drop-drop i start whole))
      ∙ between_is (drop start whole) i j
      ∙ ap (drop i) (sym (take-take j (end - start) (drop start whole) (omega (arith, length_part))))
      ∙ sym (between_is (slice_range whole start end) i j)
