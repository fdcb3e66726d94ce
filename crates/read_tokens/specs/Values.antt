-- Private: leads to `string_value` and `block_string_value`. The parts and lines from which the values of strings are made.
use Rattle.std.specs.Prelude.{◌≡◌, ◌⊎◌, ◌≤◌, ℕ, ◌+◌, Bool, not, ◌==◌, if◌then◌else◌, List, [], ◌∷◌, ◌++◌, length, take, drop, map, Option, Some, None}
use Rattle.std.specs.List.{prefix_len, list_all, flat_map}
use Rattle.read_tokens.specs.Blocks.{lines_of, is_blank, indent_of, least, without_blank_front, without_blank_back}
use Rattle.read_tokens.specs.Tokens.{is_in_line, return_len}

-- no backslash
abbrev pub is_plain : ℕ → Bool
is_plain b = not (b == 92)

-- the length of the line terminator that begins the bytes; 0 if none does
abbrev pub terminator_len : List ℕ → ℕ
terminator_len [] = 0
terminator_len (b ∷ bytes) = if b == 13 then return_len bytes else (if b == 10 then 1 else 0)

-- the text before the first line terminator
abbrev pub line_in : List ℕ → List ℕ
line_in text = take (prefix_len is_in_line text) text

-- The lines of the text are this line and those of `following`; or this line alone, and `following` is empty.
abbrev pub Cut : List ℕ → List ℕ → List ℕ → Type 0
Cut text line following = (lines_of text ≡ line ∷ lines_of following) ⊎ ((following ≡ []) × (lines_of text ≡ line ∷ []))

-- the least of the indent of a line, unless it is blank, and the least indent of others
abbrev pub least_indent : List ℕ → Option ℕ → Option ℕ
least_indent line others = if is_blank line then others else Some (least (indent_of line) others)

abbrev pub least_of : Option ℕ → Option ℕ → Option ℕ
least_of None others = others
least_of (Some n) others = Some (least n others)

-- the indent is at most the common one, if there is one
abbrev pub AtMost : ℕ → Option ℕ → Type 0
AtMost k None = Unit {0}
AtMost k (Some n) = k ≤ n

-- how many lines are kept if `count` lines come before `lines`: `kept`, if all of `lines` are blank; else all but the blank ones at the end
abbrev pub kept_of : ℕ → ℕ → List (List ℕ) → ℕ
kept_of kept count lines = if list_all is_blank lines then kept else count + length (without_blank_back lines)

-- these lines without an indent, each after a line feed
abbrev pub further_lines : ℕ → List (List ℕ) → List ℕ
further_lines k lines = flat_map (λ line. 10 ∷ line) (map (drop k) lines)

-- the first of these lines, and those kept of the lines after it, all without an indent
abbrev pub kept_from : ℕ → List (List ℕ) → List ℕ
kept_from k [] = []
kept_from k (line ∷ lines) = drop k line ++ further_lines k (without_blank_back lines)

abbrev pub first_kept : List ℕ → ℕ → List (List ℕ) → List ℕ
first_kept line k lines = if is_blank line then kept_from k (without_blank_front lines) else line ++ further_lines k (without_blank_back lines)
