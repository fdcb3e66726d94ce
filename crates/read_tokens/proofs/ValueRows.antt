-- What strings stand for, evaluated.
use Rattle.std.proofs.Common.{◌≡◌, [], ◌∷◌, ◌++◌, codes, refl}
use Rattle.std.specs.Char.{encode_utf8}
use Rattle.read_tokens.specs.Bytes.{replaced}
use Rattle.read_tokens.specs.Strings.{unicode_at, escape_at, part_at, string_value}
use Rattle.read_tokens.specs.Blocks.{quotes, block_character_at, raw_value, lines_of, block_string_value, block_value}

empty : string_value (codes "\"\"") ≡ []
unfolding string_value replaced
empty = refl

escapes : string_value (codes "\"\\\"\\\\\\/\\b\\f\\n\\r\\t\"") ≡ 34 ∷ 92 ∷ 47 ∷ 8 ∷ 12 ∷ 10 ∷ 13 ∷ 9 ∷ []
unfolding string_value replaced part_at escape_at encode_utf8
escapes = refl

unicode : string_value (codes "\"x\\u00e9\\u00E9y\"") ≡ 120 ∷ 195 ∷ 169 ∷ 195 ∷ 169 ∷ 121 ∷ []
unfolding string_value replaced part_at escape_at unicode_at encode_utf8
unicode = refl

-- the lines are empty, two spaces and `a`, four spaces and `b`, two spaces
indented : block_value (quotes ++ (10 ∷ codes "  a" ++ 10 ∷ codes "    b" ++ 10 ∷ codes "  ") ++ quotes) ≡ codes "a" ++ 10 ∷ codes "  b"
unfolding block_value raw_value block_string_value lines_of replaced block_character_at
indented = refl

-- a carriage return and a line feed end one line
return_and_line_feed : block_value (quotes ++ (codes "a" ++ 13 ∷ 10 ∷ codes "b" ++ 13 ∷ codes "c") ++ quotes) ≡ codes "a" ++ 10 ∷ codes "b" ++ 10 ∷ codes "c"
unfolding block_value raw_value block_string_value lines_of replaced block_character_at
return_and_line_feed = refl

-- the first line counts for no indent, and a blank line for none
blank_between : block_value (quotes ++ (codes " a" ++ 10 ∷ 10 ∷ codes "   b") ++ quotes) ≡ codes " a" ++ 10 ∷ 10 ∷ codes "b"
unfolding block_value raw_value block_string_value lines_of replaced block_character_at
blank_between = refl

escaped_inside : block_value (codes "\"\"\"a\\\"\"\"\\n\"\"\"") ≡ codes "a\"\"\"\\n"
unfolding block_value raw_value block_string_value lines_of replaced block_character_at
escaped_inside = refl

blank_alone : block_value (quotes ++ (codes "  " ++ 10 ∷ 9 ∷ []) ++ quotes) ≡ []
unfolding block_value raw_value block_string_value lines_of replaced block_character_at
blank_alone = refl
