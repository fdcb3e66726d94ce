-- Strings within quotation marks: how far they reach, and what they stand for (GraphQL, October 2021, section 2.9.4).
use Rattle.std.specs.Prelude.{ℕ, ◌+◌, ◌-◌, ◌*◌, Bool, ◌||◌, ◌==◌, if◌then◌else◌, List, [], ◌∷◌, length, drop, Option, Some, None, slice_get}
use Rattle.std.specs.Char.{encode_utf8}
use Rattle.read_tokens.specs.Bytes.{within, begins_with, ◌>>=◌, run_len, replaced, between}

-- EscapedCharacter: what the byte after `\` stands for
abbrev pub escaped : ℕ → Option ℕ
escaped b =
    if b == 34 then Some 34
    else if b == 92 then Some 92
    else if b == 47 then Some 47
    else if b == 98 then Some 8
    else if b == 102 then Some 12
    else if b == 110 then Some 10
    else if b == 114 then Some 13
    else if b == 116 then Some 9
    else None

-- the value of a hexadecimal digit, upper or lower case
abbrev pub hexadecimal : ℕ → Option ℕ
hexadecimal b =
    if within 48 57 b then Some (b - 48)
    else if within 65 70 b then Some (b - 55)
    else if within 97 102 b then Some (b - 87)
    else None

-- the value of the hexadecimal digit at an index
abbrev pub hexadecimal_at : ℕ → List ℕ → Option ℕ
hexadecimal_at i bytes = slice_get bytes i >>= hexadecimal

-- the code points that UTF-16 reserves for its pairs; they are not characters
abbrev pub is_surrogate : ℕ → Bool
is_surrogate c = within 55296 57343 c

-- Stricter: the four hexadecimal digits of a surrogate are no escape, in a pair neither
-- EscapedUnicode: the character whose code point the first four bytes write in hexadecimal
unfoldable pub unicode_at : List ℕ → Option ℕ
unicode_at bytes = do
  a ← hexadecimal_at 0 bytes
  b ← hexadecimal_at 1 bytes
  c ← hexadecimal_at 2 bytes
  d ← hexadecimal_at 3 bytes
  if is_surrogate (a * 4096 + b * 256 + c * 16 + d) then None else Some (a * 4096 + b * 256 + c * 16 + d)

abbrev pub with_len : ℕ → Option ℕ → Option (ℕ × ℕ)
with_len n None = None
with_len n (Some c) = Some (c, n)

-- the character that an escape stands for, and how many bytes it takes after its `\`
unfoldable pub escape_at : List ℕ → Option (ℕ × ℕ)
escape_at [] = None
escape_at (b ∷ bytes) = if b == 117 then with_len 5 (unicode_at bytes) else with_len 1 (escaped b)

abbrev pub after_mark : Option (ℕ × ℕ) → Option ℕ
after_mark None = None
after_mark (Some escape) = Some (1 + escape.1)

-- Laxer: any Unicode scalar value, also a control character, and one above U+FFFF (section 2.1)
-- StringCharacter: an escape, or a character other than `"`, `\` and line terminators (each of its bytes counts as one here)
unfoldable pub part_len : List ℕ → Option ℕ
part_len [] = None
part_len (b ∷ bytes) =
    if b == 34 || b == 10 || b == 13 then None
    else (if b == 92 then after_mark (escape_at bytes) else Some 1)

-- the length of a mark, this many bytes, and the mark again, if it is there again
abbrev pub closed_len : List ℕ → ℕ → List ℕ → Option ℕ
closed_len mark n bytes =
    if begins_with mark (drop (length mark + n) bytes) then Some (length mark + n + length mark) else None

-- the length of `"`, string characters, `"`, in a text that begins with `"`
unfoldable pub quoted_len : List ℕ → Option ℕ
quoted_len bytes = closed_len (34 ∷ []) (run_len part_len 0 (drop 1 bytes)) bytes

-- ---- what a quoted string stands for

-- the value of an escape in UTF-8, and the length of the escape
abbrev pub escape_part : Option (ℕ × ℕ) → List ℕ × ℕ
escape_part None = (92 ∷ [], 1)
escape_part (Some escape) = (encode_utf8 escape.0, 1 + escape.1)

-- what the part at the front of the bytes stands for, and its length
unfoldable pub part_at : List ℕ → List ℕ × ℕ
part_at [] = ([], 1)
part_at (b ∷ bytes) = if b == 92 then escape_part (escape_at bytes) else (b ∷ [], 1)

-- the value of a String token: what is between its marks, with each escape replaced
unfoldable pub string_value : List ℕ → List ℕ
string_value token = replaced part_at 0 (between 1 token)
