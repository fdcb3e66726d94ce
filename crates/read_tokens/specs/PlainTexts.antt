-- Private: leads to `string_value` and `block_value`. Strings whose value is a part of their own text.
use Rattle.std.specs.Prelude.{◌≡◌, ◌≤◌, ℕ, Bool, ◌||◌, ◌==◌, List, slice_range}
use Rattle.std.specs.Str.{IsCharBoundary}
use Rattle.read_tokens.specs.Blocks.{is_white_space}

-- white space, or of a line terminator
abbrev pub is_space : ℕ → Bool
is_space b = is_white_space b || (b == 10 || b == 13)

-- The bytes of a text from `start` up to `end` are this value, and at both the text may be cut: no character stands across.
pub record IsPiece (text : List ℕ) (start end : ℕ) (value : List ℕ) : Type 0 where
  pub ordered : start ≤ end
  pub begins : IsCharBoundary text start
  pub ends : IsCharBoundary text end
  pub same : slice_range text start end ≡ value
