-- Block strings: how far they reach, and what they stand for (GraphQL, October 2021, section 2.9.4).
use Rattle.std.specs.Prelude.{ℕ, Bool, not, ◌&&◌, ◌||◌, ◌==◌, min, if◌then◌else◌, List, [], ◌∷◌, ◌++◌, drop, map, Option, Some, None}
use Rattle.std.specs.List.{prefix_len, list_all, flat_map}
use Rattle.read_tokens.specs.Bytes.{begins_by, begins_with, run_len, replaced, between}
use Rattle.read_tokens.specs.Strings.{closed_len}

-- `"""`
abbrev pub quotes : List ℕ
quotes = 34 ∷ 34 ∷ 34 ∷ []

-- `\"""`
abbrev pub escaped_quotes : List ℕ
escaped_quotes = 92 ∷ 34 ∷ 34 ∷ 34 ∷ []

-- Laxer: any Unicode scalar value, also a control character, and one above U+FFFF (section 2.1)
-- BlockStringCharacter: `\"""`, or a character that does not begin `"""` (each of its bytes counts as one here)
unfoldable pub block_character_len : List ℕ → Option ℕ
block_character_len [] = None
block_character_len (b ∷ bytes) =
    if begins_with escaped_quotes (b ∷ bytes) then Some 4
    else (if begins_with quotes (b ∷ bytes) then None else Some 1)

-- the length of `"""`, block string characters, `"""`, in a text that begins with `"""`
unfoldable pub block_len : List ℕ → Option ℕ
block_len bytes = closed_len quotes (run_len block_character_len 0 (drop 3 bytes)) bytes

-- ---- what a block string stands for

-- what the block string character at the front of the bytes stands for, and its length
unfoldable pub block_character_at : List ℕ → List ℕ × ℕ
block_character_at [] = ([], 1)
block_character_at (b ∷ bytes) = if begins_with escaped_quotes (b ∷ bytes) then (quotes, 4) else (b ∷ [], 1)

-- the raw value of a BlockString token
unfoldable pub raw_value : List ℕ → List ℕ
raw_value token = replaced block_character_at 0 (between 3 token)

abbrev pub is_line_feed : ℕ → Bool
is_line_feed b = b == 10

-- whether the byte, followed by these, ends a line: a line feed, or a carriage return that no line feed follows
abbrev pub ends_line : ℕ → List ℕ → Bool
ends_line b following = b == 10 || (b == 13 && not (begins_by is_line_feed following))

abbrev pub onto_first : ℕ → List (List ℕ) → List (List ℕ)
onto_first b [] = []
onto_first b (line ∷ lines) = (b ∷ line) ∷ lines

-- the lines of a text, without their line terminators (section 2.1.3); a carriage return and a line feed after it count as one
unfoldable pub lines_of : List ℕ → List (List ℕ)
lines_of [] = [] ∷ []
lines_of (b ∷ bytes) =
    if ends_line b bytes then [] ∷ lines_of bytes
    else (if b == 13 then lines_of bytes else onto_first b (lines_of bytes))

-- WhiteSpace (section 2.1.2)
abbrev pub is_white_space : ℕ → Bool
is_white_space b = b == 9 || b == 32

-- the line contains only white space
abbrev pub is_blank : List ℕ → Bool
is_blank line = list_all is_white_space line

-- the number of leading white space characters
abbrev pub indent_of : List ℕ → ℕ
indent_of line = prefix_len is_white_space line

abbrev pub least : ℕ → Option ℕ → ℕ
least n None = n
least n (Some m) = min n m

-- the least indent of the lines that are not blank, if there are any
abbrev pub common_indent : List (List ℕ) → Option ℕ
common_indent [] = None
common_indent (line ∷ lines) = if is_blank line then common_indent lines else Some (least (indent_of line) (common_indent lines))

abbrev pub or_zero : Option ℕ → ℕ
or_zero None = 0
or_zero (Some n) = n

-- the lines, with the common indent of all but the first removed from all but the first
abbrev pub without_indent : List (List ℕ) → List (List ℕ)
without_indent [] = []
without_indent (first ∷ lines) = first ∷ map (drop (or_zero (common_indent lines))) lines

-- the lines without blank ones at the front
abbrev pub without_blank_front : List (List ℕ) → List (List ℕ)
without_blank_front [] = []
without_blank_front (line ∷ lines) = if is_blank line then without_blank_front lines else line ∷ lines

-- the lines without blank ones at the end
abbrev pub without_blank_back : List (List ℕ) → List (List ℕ)
without_blank_back [] = []
without_blank_back (line ∷ lines) = if list_all is_blank (line ∷ lines) then [] else line ∷ without_blank_back lines

-- the lines, with a line feed before each but the first
abbrev pub formatted : List (List ℕ) → List ℕ
formatted [] = []
formatted (first ∷ lines) = first ++ flat_map (λ line. 10 ∷ line) lines

-- BlockStringValue(rawValue)
unfoldable pub block_string_value : List ℕ → List ℕ
block_string_value raw = formatted (without_blank_back (without_blank_front (without_indent (lines_of raw))))

-- the value of a BlockString token
unfoldable pub block_value : List ℕ → List ℕ
block_value token = block_string_value (raw_value token)
