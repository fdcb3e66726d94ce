-- Terminal symbols: which keyword a name is (GraphQL, October 2021, appendix B).
use Rattle.std.specs.Prelude.{ℕ, if◌then◌else◌, List, [], ◌∷◌, codes}
use Rattle.std.specs.Str.{bytes_eq}
use Rattle.read_tokens.specs.declared.terminal.Terminal.{Terminal}
use Rattle.read_tokens.specs.declared.terminal.Terminal.TheVariants as t
use Rattle.read_tokens.specs.declared.token.TokenKind.{TokenKind}
use Rattle.read_tokens.specs.declared.token.TokenKind.TheVariants.{Bang, Dollar, Ampersand, OpenParen, CloseParen, Spread, Colon, Equals, At, OpenBracket, CloseBracket, OpenBrace, Pipe, CloseBrace, Int, Float, String, BlockString, Name}

-- a word and its symbol
abbrev pub Word : Type 0
Word = List ℕ × Terminal

-- the keywords, and the names of directive locations (section 3.13)
unfoldable pub words : List Word
words =
    (codes "query", t.Query)
    ∷ (codes "mutation", t.Mutation)
    ∷ (codes "subscription", t.Subscription)
    ∷ (codes "fragment", t.Fragment)
    ∷ (codes "on", t.On)
    ∷ (codes "true", t.True)
    ∷ (codes "false", t.False)
    ∷ (codes "null", t.Null)
    ∷ (codes "extend", t.Extend)
    ∷ (codes "schema", t.Schema)
    ∷ (codes "scalar", t.Scalar)
    ∷ (codes "type", t.Type)
    ∷ (codes "interface", t.Interface)
    ∷ (codes "union", t.Union)
    ∷ (codes "enum", t.Enum)
    ∷ (codes "input", t.Input)
    ∷ (codes "directive", t.Directive)
    ∷ (codes "implements", t.Implements)
    ∷ (codes "repeatable", t.Repeatable)
    ∷ (codes "QUERY", t.Location)
    ∷ (codes "MUTATION", t.Location)
    ∷ (codes "SUBSCRIPTION", t.Location)
    ∷ (codes "FIELD", t.Location)
    ∷ (codes "FRAGMENT_DEFINITION", t.Location)
    ∷ (codes "FRAGMENT_SPREAD", t.Location)
    ∷ (codes "INLINE_FRAGMENT", t.Location)
    ∷ (codes "VARIABLE_DEFINITION", t.Location)
    ∷ (codes "SCHEMA", t.Location)
    ∷ (codes "SCALAR", t.Location)
    ∷ (codes "OBJECT", t.Location)
    ∷ (codes "FIELD_DEFINITION", t.Location)
    ∷ (codes "ARGUMENT_DEFINITION", t.Location)
    ∷ (codes "INTERFACE", t.Location)
    ∷ (codes "UNION", t.Location)
    ∷ (codes "ENUM", t.Location)
    ∷ (codes "ENUM_VALUE", t.Location)
    ∷ (codes "INPUT_OBJECT", t.Location)
    ∷ (codes "INPUT_FIELD_DEFINITION", t.Location)
    ∷ (codes "DIRECTIVE_DEFINITION", t.Location)
    ∷ []

-- the symbol of the first of these words that the text spells; `Name` if it spells none
abbrev pub spelled : List Word → List ℕ → Terminal
spelled [] text = t.Name
spelled (word ∷ others) text = if bytes_eq word.0 text then word.1 else spelled others text

-- the symbol of a token: for a Name, by its text; for every other token, by its kind
abbrev pub terminal_of : TokenKind → List ℕ → Terminal
terminal_of Name text = spelled words text
terminal_of Bang text = t.Bang
terminal_of Dollar text = t.Dollar
terminal_of Ampersand text = t.Ampersand
terminal_of OpenParen text = t.OpenParen
terminal_of CloseParen text = t.CloseParen
terminal_of Spread text = t.Spread
terminal_of Colon text = t.Colon
terminal_of Equals text = t.Equals
terminal_of At text = t.At
terminal_of OpenBracket text = t.OpenBracket
terminal_of CloseBracket text = t.CloseBracket
terminal_of OpenBrace text = t.OpenBrace
terminal_of Pipe text = t.Pipe
terminal_of CloseBrace text = t.CloseBrace
terminal_of Int text = t.Int
terminal_of Float text = t.Float
terminal_of String text = t.String
terminal_of BlockString text = t.BlockString
