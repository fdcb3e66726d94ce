-- The faults of tokens that are not a text of a symbol, or nest too deep.
use Rattle.std.specs.Prelude.{◌≡◌, ℕ, ◌<◌, ◌≤◌, Bool, true, false, List, [], ◌∷◌, ◌++◌}
use Rattle.read_tokens.specs.Input.{Token, Ending, Ended, NoTokenAt}
use Rattle.read_grammar.specs.Depth.{is_opening, depth}

-- a symbol: which tokens are a text of it, with which tree
abbrev pub Symbol : Type 0 → Type 1
Symbol A = List Token → A → Type 0

-- a fault with its offset in bytes; `Memory` has none
pub data Fault : Type 0 where
  Memory : Fault
  NoToken : (offset : ℕ) → Fault
  Unexpected : (offset : ℕ) → Fault
  End : (offset : ℕ) → Fault
  Nesting : (offset : ℕ) → Fault

-- whether the text itself is at fault, rather than a limit
abbrev pub is_syntax : Fault → Bool
is_syntax Memory = false
is_syntax (NoToken offset) = true
is_syntax (Unexpected offset) = true
is_syntax (End offset) = true
is_syntax (Nesting offset) = false

-- no text of the symbol begins with these tokens
abbrev pub BeginsNone : {A : Type 0} → Symbol A → List Token → Type 0
BeginsNone {A} symbol tokens = (more : List Token) (tree : A) → symbol (tokens ++ more) tree → ⊥

-- some text of the symbol begins with these tokens
abbrev pub BeginsSome : {A : Type 0} → Symbol A → List Token → Type 0
BeginsSome {A} symbol tokens = (more : List Token) × (tree : A) × symbol (tokens ++ more) tree

-- the token at this offset, after those of `front`
pub record IsTokenAt (tokens front : List Token) (offset : ℕ) (token : Token) : Type 0 where
  pub rest : List Token
  pub parts : tokens ≡ front ++ token ∷ rest
  pub at : token.offset ≡ offset

-- The token at this offset cannot follow: some text of the symbol begins with the tokens before it, but none with those and it.
pub record IsUnexpected {A : Type 0} (symbol : Symbol A) (tokens : List Token) (offset : ℕ) : Type 0 where
  pub front : List Token
  pub token : Token
  pub stands : IsTokenAt tokens front offset token
  pub begins_some : BeginsSome symbol front
  pub begins_none : BeginsNone symbol (front ++ token ∷ [])

-- The token at this offset may follow: some text of the symbol begins with the tokens up to and including it.
pub record MayStand {A : Type 0} (symbol : Symbol A) (tokens : List Token) (offset : ℕ) : Type 0 where
  pub front : List Token
  pub token : Token
  pub stands : IsTokenAt tokens front offset token
  pub begins_some : BeginsSome symbol (front ++ token ∷ [])

-- the first bracket that exceeds the limit opens at this offset
pub record IsTooDeep (tokens : List Token) (nesting offset : ℕ) : Type 0 where
  pub front : List Token
  pub token : Token
  pub stands : IsTokenAt tokens front offset token
  pub opens : is_opening token.kind ≡ true
  pub within : depth front ≤ nesting
  pub above : nesting < depth (front ++ token ∷ [])

-- The fault is due for a text with these tokens and this ending. Every fault but `Memory` is at the earliest place: some text of the
-- symbol begins with the tokens before it.
abbrev pub Says : {A : Type 0} → Symbol A → List Token → Ending → ℕ → Fault → Type 0
Says symbol tokens ending nesting Memory = Unit {0}
-- no token starts at this offset, where the tokens end, and some text of the symbol begins with all of them
Says symbol tokens ending nesting (NoToken offset) = (ending ≡ NoTokenAt offset) × BeginsSome symbol tokens
Says symbol tokens ending nesting (Unexpected offset) = IsUnexpected symbol tokens offset
-- the text ends at this offset, and all its tokens are not a text of the symbol, but some text of the symbol begins with them
Says {A} symbol tokens ending nesting (End offset) = (ending ≡ Ended offset) × ((tree : A) → symbol tokens tree → ⊥) × BeginsSome symbol tokens
-- the first bracket that exceeds the limit opens at this offset, and it may follow the tokens before it
Says symbol tokens ending nesting (Nesting offset) = IsTooDeep tokens nesting offset × MayStand symbol tokens offset
