-- The tokens of a text, and what is ignored between them (GraphQL, October 2021, section 2.1): which piece begins a text,
-- and how many bytes it takes.
use Rattle.std.specs.Prelude.{ℕ, Bool, not, ◌&&◌, ◌||◌, ◌==◌, if◌then◌else◌, List, [], ◌∷◌, Option, Some, None}
use Rattle.std.specs.List.{prefix_len}
use Rattle.std.specs.Char.{is_ascii_digit}
use Rattle.graphql_names.specs.NameSyntax.{is_name_start, is_name_continue}
use Rattle.read_tokens.specs.Bytes.{begins_by, begins_with}
use Rattle.read_tokens.specs.Numbers.{number_at}
use Rattle.read_tokens.specs.Strings.{quoted_len}
use Rattle.read_tokens.specs.Blocks.{quotes, is_line_feed, block_len}
use Rattle.read_tokens.specs.declared.token.TokenKind.{TokenKind}
use Rattle.read_tokens.specs.declared.token.TokenKind.TheVariants as k

-- ---- what is ignored (section 2.1.7)

-- a tab, a space, a line feed or a comma
abbrev pub is_ignored_byte : ℕ → Bool
is_ignored_byte b = b == 9 || b == 32 || b == 10 || b == 44

-- Laxer: in a comment any Unicode scalar value, also a control character, and one above U+FFFF (section 2.1)
-- a byte that is not part of a line terminator (section 2.1.3)
abbrev pub is_in_line : ℕ → Bool
is_in_line b = not (b == 10 || b == 13)

-- the length of a carriage return before these bytes, with the line feed that begins them, if one does
abbrev pub return_len : List ℕ → ℕ
return_len bytes = if begins_by is_line_feed bytes then 2 else 1

-- the length of WhiteSpace, Comma, LineTerminator, Comment (up to the end of the line or of the text) or UnicodeBOM (in UTF-8)
unfoldable pub ignored_at : List ℕ → Option ℕ
ignored_at [] = None
ignored_at (b ∷ bytes) =
    if is_ignored_byte b then Some 1
    else (if b == 13 then Some (return_len bytes)
    else (if b == 35 then Some (prefix_len is_in_line (b ∷ bytes))
    else (if b == 239 && begins_with (187 ∷ 191 ∷ []) bytes then Some 3
    else None)))

-- ---- tokens (section 2.1.6)

-- a Punctuator of one byte (section 2.1.8)
abbrev pub punctuator : ℕ → Option TokenKind
punctuator b =
    if b == 33 then Some k.Bang
    else if b == 36 then Some k.Dollar
    else if b == 38 then Some k.Ampersand
    else if b == 40 then Some k.OpenParen
    else if b == 41 then Some k.CloseParen
    else if b == 58 then Some k.Colon
    else if b == 61 then Some k.Equals
    else if b == 64 then Some k.At
    else if b == 91 then Some k.OpenBracket
    else if b == 93 then Some k.CloseBracket
    else if b == 123 then Some k.OpenBrace
    else if b == 124 then Some k.Pipe
    else if b == 125 then Some k.CloseBrace
    else None

abbrev pub one_byte : Option TokenKind → Option (TokenKind × ℕ)
one_byte None = None
one_byte (Some kind) = Some (kind, 1)

abbrev pub of_kind : TokenKind → Option ℕ → Option (TokenKind × ℕ)
of_kind kind None = None
of_kind kind (Some n) = Some (kind, n)

-- a BlockString or a String, in a text that begins with `"`
unfoldable pub string_at : List ℕ → Option (TokenKind × ℕ)
string_at bytes = if begins_with quotes bytes then of_kind k.BlockString (block_len bytes) else of_kind k.String (quoted_len bytes)

-- The token that begins a text, and its length: a Name (as long as name characters go on, section 2.1.9), a number, a string,
-- `...`, or another punctuator.
unfoldable pub token_at : List ℕ → Option (TokenKind × ℕ)
token_at [] = None
token_at (b ∷ bytes) =
    if is_name_start b then Some (k.Name, prefix_len is_name_continue (b ∷ bytes))
    else (if b == 45 || is_ascii_digit b then number_at (b ∷ bytes)
    else (if b == 34 then string_at (b ∷ bytes)
    else (if b == 46 then (if begins_with (46 ∷ 46 ∷ []) bytes then Some (k.Spread, 3) else None)
    else one_byte (punctuator b))))
