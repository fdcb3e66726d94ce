-- What it means that a printed string is read as a text, and what may be around it.
use Rattle.std.specs.Prelude.{◌≡◌, ◌⊎◌, ℕ, true, false, List, [], ◌∷◌, ◌++◌, length, Some, None}
use Rattle.std.specs.List.{list_all}
use Rattle.tree_literals.specs.LineLayout.{Prefix}
use Rattle.read_tokens.specs.Bytes.{begins_with}
use Rattle.read_tokens.specs.Strings.{string_value}
use Rattle.read_tokens.specs.Blocks.{is_white_space, block_value}
use Rattle.read_tokens.specs.Tokens.{token_at}
use Rattle.read_tokens.specs.declared.token.TokenKind.{TokenKind}
use Rattle.read_tokens.specs.declared.token.TokenKind.TheVariants as k

-- followed by `following`, the text is one token of this kind
abbrev pub IsToken : TokenKind → List ℕ → List ℕ → Type 0
IsToken kind text following = token_at (text ++ following) ≡ Some (kind, length text)

-- followed by `following`, the printed text is one String or BlockString token, and stands for the text
abbrev pub IsReadAs : List ℕ → List ℕ → List ℕ → Type 0
IsReadAs printed text following =
    (IsToken k.String printed following × (string_value printed ≡ text))
    ⊎ (IsToken k.BlockString printed following × (block_value printed ≡ text))

-- what may follow a text within quotation marks: after `""` no third quotation mark, which would begin a block
-- string
abbrev pub MayFollow : List ℕ → List ℕ → Type 0
MayFollow text following = text ≡ [] → begins_with (34 ∷ []) following ≡ false

-- the text is only white space
abbrev pub IsWhite : List ℕ → Type 0
IsWhite text = list_all is_white_space text ≡ true

-- the prefix is only white space, if the layout has lines
abbrev pub IsWhitePrefix : Prefix → Type 0
IsWhitePrefix None = Unit {0}
IsWhitePrefix (Some prefix) = IsWhite prefix
