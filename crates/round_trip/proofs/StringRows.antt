-- Small strings that are printed and read, evaluated.
use Rattle.std.proofs.Common.{◌≡◌, ℕ, true, false, List, [], ◌∷◌, ◌++◌, length, codes, Some, None, refl}
use Rattle.std.specs.Char.{encode_utf8}
use Rattle.tree_literals.specs.Joined.{joined}
use Rattle.tree_literals.specs.StringLayout.{quoted_text, can_be_block_string, block_text}
use Rattle.read_tokens.specs.Bytes.{run_len, replaced}
use Rattle.read_tokens.specs.Strings.{unicode_at, escape_at, part_len, part_at, quoted_len, string_value}
use Rattle.read_tokens.specs.Blocks.{block_character_len, block_character_at, block_len, raw_value, lines_of, block_string_value, block_value}
use Rattle.read_tokens.specs.Tokens.{string_at, token_at}
use Rattle.read_tokens.specs.declared.token.TokenKind.TheVariants as k

-- ---- within quotation marks: the printed text, its token before a space, its value

abbrev Quoted : List ℕ → List ℕ → Type 0
Quoted text printed = (quoted_text text ≡ printed) × (token_at (printed ++ codes " ") ≡ Some (k.String, length printed)) × (string_value printed ≡ text)

empty : Quoted [] (codes "\"\"")
unfolding joined token_at string_at quoted_len run_len part_len string_value replaced
empty = (refl, refl, refl)

quotation_mark : Quoted (34 ∷ []) (codes "\"\\\"\"")
unfolding joined token_at string_at quoted_len run_len part_len escape_at string_value replaced part_at encode_utf8
quotation_mark = (refl, refl, refl)

backslash : Quoted (92 ∷ []) (codes "\"\\\\\"")
unfolding joined token_at string_at quoted_len run_len part_len escape_at string_value replaced part_at encode_utf8
backslash = (refl, refl, refl)

-- a backslash and `n`, which is no line feed
backslash_and_letter : Quoted (codes "\\n") (codes "\"\\\\n\"")
unfolding joined token_at string_at quoted_len run_len part_len escape_at string_value replaced part_at encode_utf8
backslash_and_letter = (refl, refl, refl)

line_ends : Quoted (10 ∷ 13 ∷ 9 ∷ 8 ∷ 12 ∷ []) (codes "\"\\n\\r\\t\\b\\f\"")
unfolding joined token_at string_at quoted_len run_len part_len escape_at string_value replaced part_at encode_utf8
line_ends = (refl, refl, refl)

-- NUL, vertical tab, U+001F and DEL
controls : Quoted (0 ∷ 11 ∷ 31 ∷ 127 ∷ []) (codes "\"\\u0000\\u000B\\u001F\\u007F\"")
unfolding joined token_at string_at quoted_len run_len part_len escape_at unicode_at string_value replaced part_at encode_utf8
controls = (refl, refl, refl)

-- bytes past ASCII are unchanged, even if they are no UTF-8
beyond : Quoted (195 ∷ 169 ∷ 255 ∷ []) (34 ∷ 195 ∷ 169 ∷ 255 ∷ 34 ∷ [])
unfolding joined token_at string_at quoted_len run_len part_len string_value replaced part_at
beyond = (refl, refl, refl)

-- only for the empty text it matters what follows: a third quotation mark begins a block string
third_mark : token_at (quoted_text [] ++ 34 ∷ []) ≡ None
unfolding joined token_at string_at block_len run_len
third_mark = refl

six_marks : token_at (quoted_text [] ++ codes "\"\"\"\"") ≡ Some (k.BlockString, 6)
unfolding joined token_at string_at block_len run_len block_character_len
six_marks = refl

mark_after_another : token_at (quoted_text (codes "x") ++ 34 ∷ []) ≡ Some (k.String, 3)
unfolding joined token_at string_at quoted_len run_len part_len
mark_after_another = refl

-- ---- block strings: the printed text at level 1 under two spaces, its token before a quotation mark, its value

abbrev Block : List ℕ → List ℕ → Type 0
Block text printed =
    (can_be_block_string text ≡ true) × (block_text (codes "  ") 1 text ≡ printed) × (token_at (printed ++ codes "\"") ≡ Some (k.BlockString, length printed)) × (block_value printed ≡ text)

one_line : Block (codes "x") (codes "\"\"\"\n  x\n  \"\"\"")
unfolding joined token_at string_at block_len run_len block_character_len block_value raw_value block_string_value lines_of replaced block_character_at
one_line = (refl, refl, refl, refl)

escaped_marks : Block (codes "a\\\"\"\"\nb") (codes "\"\"\"\n  a\\\\\"\"\"\n  b\n  \"\"\"")
unfolding joined token_at string_at block_len run_len block_character_len block_value raw_value block_string_value lines_of replaced block_character_at
escaped_marks = (refl, refl, refl, refl)

five_marks : Block (codes "a\n\"\"\"\"\"") (codes "\"\"\"\n  a\n  \\\"\"\"\"\"\n  \"\"\"")
unfolding joined token_at string_at block_len run_len block_character_len block_value raw_value block_string_value lines_of replaced block_character_at
five_marks = (refl, refl, refl, refl)

-- an escape of a quoted string is none here
other_escapes : Block (codes "\\n\n\\u0041\\") (codes "\"\"\"\n  \\n\n  \\u0041\\\n  \"\"\"")
unfolding joined token_at string_at block_len run_len block_character_len block_value raw_value block_string_value lines_of replaced block_character_at
other_escapes = (refl, refl, refl, refl)

-- in the middle are an empty line and a line of one tab, which is less than the indent
blanks_between : Block (codes "a\n\n\t\nb") (codes "\"\"\"\n  a\n\n  \t\n  b\n  \"\"\"")
unfolding joined token_at string_at block_len run_len block_character_len block_value raw_value block_string_value lines_of replaced block_character_at
blanks_between = (refl, refl, refl, refl)

first_line_deeper : Block (codes "   a\nb\n\tc") (codes "\"\"\"\n     a\n  b\n  \tc\n  \"\"\"")
unfolding joined token_at string_at block_len run_len block_character_len block_value raw_value block_string_value lines_of replaced block_character_at
first_line_deeper = (refl, refl, refl, refl)

-- ---- texts that cannot be block strings: what would be read of them

abbrev Lost : List ℕ → List ℕ → Type 0
Lost text read = (can_be_block_string text ≡ false) × (block_value (block_text (codes "  ") 1 text) ≡ read)

carriage_return : Lost (codes "a\rb") (codes "  a\nb")
unfolding joined block_value raw_value block_string_value lines_of replaced block_character_at
carriage_return = (refl, refl)

first_line_blank : Lost (codes " \na") (codes "a")
unfolding joined block_value raw_value block_string_value lines_of replaced block_character_at
first_line_blank = (refl, refl)

last_line_blank : Lost (codes "a\n") (codes "a")
unfolding joined block_value raw_value block_string_value lines_of replaced block_character_at
last_line_blank = (refl, refl)

none_at_margin : Lost (codes " a\n  b") (codes "a\n b")
unfolding joined block_value raw_value block_string_value lines_of replaced block_character_at
none_at_margin = (refl, refl)

-- the empty text cannot be one either, though it would be read as it was
nothing : Lost [] []
unfolding joined block_value raw_value block_string_value lines_of replaced block_character_at
nothing = (refl, refl)

-- a prefix that is no white space would be read as text
other_prefix : block_value (block_text (codes "#") 1 (codes "a\n\nb")) ≡ codes "#a\n\n#b\n#"
unfolding joined block_value raw_value block_string_value lines_of replaced block_character_at
other_prefix = refl
