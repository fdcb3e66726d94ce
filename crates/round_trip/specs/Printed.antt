-- Private: leads to `ReadsAlone`. How printed text is read: the relation from which the laws of this crate are put together.
--
-- A text is `Printed` for a rule of the grammar if, whatever follows it, its tokens come first and the rule reads exactly these,
-- to a tree that satisfies `says`: for instance, that it is the printed tree, ignoring places. The only condition on the text that
-- follows is that it does not lengthen the last token. This is the test `follow`: `any` after a punctuator, and `ends_word`
-- after names, numbers and strings. Both are tests of bytes, so that a text that goes on with a space, a line feed or a
-- punctuator passes them by computation.
--
-- So printed texts are put one after the other (`Sequences`), with ignored bytes between them, and the rules of the grammar with
-- them. No rule looks at the tokens after its own, except those that forbid a `{` there: their `follow` forbids it too.
use Rattle.std.specs.Prelude.{◌≡◌, ℕ, ◌+◌, ◌==◌, ◌||◌, ◌&&◌, not, if◌then◌else◌, Bool, true, List, [], ◌∷◌, ◌++◌, length}
use Rattle.read_operations.specs.in_tokens.Input.{Token, Input, Ending}
use Rattle.read_operations.specs.in_tokens.Lex.{Piece, ArePieces, tokens_among}
use Rattle.graphql_names.specs.NameSyntax.{is_name_start}
use Rattle.read_operations.specs.in_tokens.Tokens.{is_ignored_byte}
use Rattle.read_operations.specs.in_tokens.Numbers.{goes_on}
use Rattle.read_operations.specs.in_grammar.Rules.{Rule}

-- a test of what may follow a text
abbrev pub Follow : Type 0
Follow = List ℕ → Bool

abbrev pub any : Follow
any following = true

-- the end, or a byte that is not a name character, a digit, a dot or a quotation mark
abbrev pub ends_word : Follow
ends_word [] = true
ends_word (b ∷ following) = not (goes_on b || b == 34)

-- the tokens of a whole text whose first byte is at offset `at`
pub record LexesAt (at : ℕ) (text : List ℕ) (tokens : List Token) : Type 0 where
  pub pieces : List Piece
  pub are : ArePieces pieces text []
  pub found : tokens ≡ tokens_among pieces text at

-- the input before these tokens, after a token that ends at offset `last`
abbrev pub before : Ending → ℕ → List Token → Input
before ending last tokens = record { last = last; ahead = tokens; ending = ending }

-- the rule reads the tokens up to `others`, to a tree that satisfies `says`
pub record ReadsUpTo {A : Type 0} (r : Rule A) (says : A → Type 0) (ending : Ending) (last : ℕ) (tokens others : List Token) : Type 0 where
  pub tree : A
  pub end : ℕ
  pub read : r (before ending last tokens) tree (before ending end others)
  pub said : says tree

-- the tokens of `text` followed by `following`; the rule reads them up to `others`
pub record PrintedBefore {A : Type 0} (r : Rule A) (says : A → Type 0) (text following : List ℕ) (at : ℕ) (others : List Token) : Type 0 where
  pub tokens : List Token
  pub lexed : LexesAt at (text ++ following) tokens
  pub reads : (ending : Ending) (last : ℕ) → ReadsUpTo r says ending last tokens others

-- before any text that passes `follow`, the rule reads exactly the tokens of this text, to a tree that satisfies `says`
pub record Printed {A : Type 0} (r : Rule A) (says : A → Type 0) (follow : Follow) (text : List ℕ) : Type 0 where
  pub stands : (following : List ℕ) (at : ℕ) (others : List Token) → follow following ≡ true → LexesAt (at + length text) following others
      → PrintedBefore r says text following at others

-- ignored bytes, and then the end, or the first byte of a name or a string: a keyword or a description of another definition
abbrev pub begins_definition : Follow
begins_definition [] = true
begins_definition (b ∷ following) = if is_ignored_byte b then begins_definition following else (is_name_start b || b == 34)

-- what may follow a definition whose last part is left out: no `{` comes after it
abbrev pub ends_definition : Follow
ends_definition following = ends_word following && begins_definition following
