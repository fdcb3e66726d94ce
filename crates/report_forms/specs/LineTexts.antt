-- The text of a line.
use Rattle.std.specs.Prelude.{◌≡◌, ◌≢◌, ℕ, ◌+◌, ◌<◌, ◌≤◌, ◌⊎◌, List, length, take, drop, slice_index}
use Rattle.report_forms.specs.Ends.{ends_line, how_many}
use Rattle.report_forms.specs.Positions.{IsLineStart}

-- the line with this number begins at this place
pub record IsNumberedStart (text : List ℕ) (number start : ℕ) : Type 0 where
  pub within : start ≤ length text
  pub begins : IsLineStart text start start
  pub counted : number ≡ 1 + how_many (ends_line text) 0 start

-- a text begins with this line: no byte of it is a line feed or a carriage return, and one of these follows it or the text
-- ends
pub record IsFirstLine (text line : List ℕ) : Type 0 where
  pub within : length line ≤ length text
  pub bytes : line ≡ take (length line) text
  pub plain : (k : ℕ) → k < length line → (slice_index text k ≢ 10) × (slice_index text k ≢ 13)
  pub ends : length line < length text → (slice_index text (length line) ≡ 10) ⊎ (slice_index text (length line) ≡ 13)

-- the line with this number, without its terminator
abbrev pub IsLineText : List ℕ → ℕ → List ℕ → Type 0
IsLineText text number line = (start : ℕ) × IsNumberedStart text number start × IsFirstLine (drop start text) line
