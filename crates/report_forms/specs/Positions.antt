-- The position of a place in a text.
use Rattle.std.specs.Prelude.{◌≡◌, ◌≢◌, ℕ, ◌+◌, ◌<◌, ◌≤◌, true, false, List}
use Rattle.report_forms.specs.declared.position.Position.{Position}
use Rattle.report_forms.specs.Ends.{ends_line, ends_character, how_many}

-- the line of the place begins at `start`: the text begins there or a line terminator ends there, and none ends after that, up to
-- the place
pub record IsLineStart (text : List ℕ) (place start : ℕ) : Type 0 where
  pub before : start ≤ place
  pub begins : start ≢ 0 → ends_line text start ≡ true
  pub last : (k : ℕ) → start < k → k ≤ place → ends_line text k ≡ false

-- the line is one more than the number of line terminators that end at or before the place; the column is one more than the number
-- of characters of the line that end at or before it
pub record IsPosition (text : List ℕ) (place : ℕ) (position : Position) : Type 0 where
  pub line : position.line ≡ 1 + how_many (ends_line text) 0 place
  pub column : (start : ℕ) × IsLineStart text place start × (position.column ≡ 1 + how_many (ends_character text) start place)

-- the first place with the position
pub record IsFirstPlace (text : List ℕ) (position : Position) (place : ℕ) : Type 0 where
  pub at : IsPosition text place position
  pub first : (k : ℕ) → k < place → ¬ IsPosition text k position

-- the place has this column in the line that begins at `start`; and it is the first with it
pub record IsColumn (text : List ℕ) (start column place : ℕ) : Type 0 where
  pub line : IsLineStart text place start
  pub counted : column ≡ 1 + how_many (ends_character text) start place

pub record IsFirstInLine (text : List ℕ) (start column place : ℕ) : Type 0 where
  pub at : IsColumn text start column place
  pub first : (k : ℕ) → k < place → ¬ IsColumn text start column k
