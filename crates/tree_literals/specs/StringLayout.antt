-- The texts of strings and descriptions (GraphQL, October 2021, section 2.9.4). Texts are their bytes in UTF-8:
-- every character that is escaped has one byte.
use Rattle.std.specs.Prelude.{ℕ, ◌/◌, ◌%◌, ◌==◌, nat_lt, Bool, true, false, not, ◌||◌, ◌&&◌, if◌then◌else◌, List, [], ◌∷◌, map, codes, Option, None, Some}
use Rattle.std.specs.List.{list_any, list_all, slice_split}
use Rattle.std.specs.Fmt.{digit_glyph}
use Rattle.tree_literals.specs.Joined.{joined}
use Rattle.graphql_names.specs.Placed.{Text}
use Rattle.tree_literals.specs.LineLayout.{Prefix, line_start, break_text}

-- \u00XX, in upper case
abbrev pub control_text : ℕ → List ℕ
control_text b = joined (codes "\\u00" ∷ (digit_glyph true (b / 16) ∷ []) ∷ (digit_glyph true (b % 16) ∷ []) ∷ [])

-- a byte within quotes: quotation mark, backslash, LF, CR, tab, BS, FF and other control characters are escaped, all else is not
abbrev pub escaped_byte : ℕ → List ℕ
escaped_byte b =
    if b == 34 then codes "\\\""
    else if b == 92 then codes "\\\\"
    else if b == 10 then codes "\\n"
    else if b == 13 then codes "\\r"
    else if b == 9 then codes "\\t"
    else if b == 8 then codes "\\b"
    else if b == 12 then codes "\\f"
    else if nat_lt b 32 || (b == 127) then control_text b
    else b ∷ []

abbrev pub escaped_text : List ℕ → List ℕ
escaped_text text = joined (map escaped_byte text)

-- "text"
abbrev pub quoted_text : List ℕ → List ℕ
quoted_text text = joined (codes "\"" ∷ escaped_text text ∷ codes "\"" ∷ [])

-- the lines of a text, which line feeds separate
abbrev pub text_lines : List ℕ → List (List ℕ)
text_lines text = slice_split (λ b. b == 10) text

abbrev pub is_tab_or_space : ℕ → Bool
is_tab_or_space b = (b == 9) || (b == 32)

-- only tabs and spaces, or nothing
abbrev pub is_blank : List ℕ → Bool
is_blank line = list_all is_tab_or_space line

-- a line that is not blank, and begins with neither tab nor space
abbrev pub is_at_margin : List ℕ → Bool
is_at_margin [] = false
is_at_margin (b ∷ line) = not (is_tab_or_space b)

abbrev pub first_is_blank : List (List ℕ) → Bool
first_is_blank [] = true
first_is_blank (line ∷ lines) = is_blank line

abbrev pub last_is_blank : List (List ℕ) → Bool
last_is_blank [] = true
last_is_blank (line ∷ []) = is_blank line
last_is_blank (line ∷ next ∷ lines) = last_is_blank (next ∷ lines)

abbrev pub has_byte : ℕ → List ℕ → Bool
has_byte x text = list_any (λ b. b == x) text

-- whether the lines of a text, printed as a block string, are read back unchanged: no CR, no blank line at either end
-- (so the text is not empty), and some line at the margin, so that no common indent is removed
abbrev pub can_be_block_string : List ℕ → Bool
can_be_block_string text =
    not (has_byte 13 text)
    && not (first_is_blank (text_lines text))
    && not (last_is_blank (text_lines text))
    && list_any is_at_margin (text_lines text)

abbrev pub is_quotes : ℕ → ℕ → ℕ → Bool
is_quotes a b c = (a == 34) && (b == 34) && (c == 34)

-- a text in which each """, taken from the left, is written \"""
abbrev pub block_escaped : List ℕ → List ℕ
block_escaped [] = []
block_escaped (a ∷ []) = a ∷ []
block_escaped (a ∷ b ∷ []) = a ∷ b ∷ []
block_escaped (a ∷ b ∷ c ∷ text) = if is_quotes a b c then 92 ∷ 34 ∷ 34 ∷ 34 ∷ block_escaped text else a ∷ block_escaped (b ∷ c ∷ text)

-- a line of a block string, with the line feed before it
abbrev pub block_line : List ℕ → ℕ → List ℕ → List ℕ
block_line prefix level [] = codes "\n"
block_line prefix level (b ∷ line) = joined (codes "\n" ∷ line_start prefix level ∷ block_escaped (b ∷ line) ∷ [])

-- """, the lines, """, each on a line of its own
abbrev pub block_text : List ℕ → ℕ → List ℕ → List ℕ
block_text prefix level text =
    joined (codes "\"\"\"" ∷ joined (map (block_line prefix level) (text_lines text)) ∷ break_text (Some prefix) level ∷ codes "\"\"\"" ∷ [])

-- a description is printed as a block string if the layout has lines and its text has a line feed and can be a block string
abbrev pub description_string : Prefix → ℕ → List ℕ → List ℕ
description_string None level text = quoted_text text
description_string (Some prefix) level text = if has_byte 10 text && can_be_block_string text then block_text prefix level text else quoted_text text

-- a description and the end of its line, before what it describes
abbrev pub description_text : {P : Type 0} → Prefix → ℕ → Option (Text P) → List ℕ
description_text prefix level None = joined []
description_text prefix level (Some text) = joined (description_string prefix level text.it ∷ break_text prefix level ∷ [])
