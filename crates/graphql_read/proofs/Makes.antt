-- What rules make of the tokens of a text passes a test, for each way to put rules together.
use Rattle.std.proofs.Common.{◌≡◌, ℕ, ◌+◌, Bool, true, false, ◌&&◌, List, [], ◌∷◌, take, drop, Option, Some, None, unwrap_or, refl, sym, subst, inl, inr}
use Rattle.std.specs.List.{list_all}
use Rattle.std.proofs.lemmas.Bool.{and_from, and_parts}
use Rattle.read_types.specs.in_definitions.Writable.{has_some}
use Rattle.read_tokens.specs.declared.terminal.Terminal.{Terminal}
use Rattle.read_tokens.specs.declared.token.TokenKind.{TokenKind}
use Rattle.read_tokens.specs.Terminals.{terminal_of}
use Rattle.read_tokens.specs.Input.{Token, Input, past}
use Rattle.read_tokens.specs.Lex.{Piece, with_token, tokens_among, LexesFront}
use Rattle.read_grammar.specs.Meaning.{Meaning}
use Rattle.read_grammar.specs.Rules as rule
use Rattle.read_grammar.specs.Rules.{Rule, one, ◌·◌, ◌<$>◌, ◌∣◌, nothing, optional, optional_unless}

-- ---- the tokens of a text

-- a token's symbol is that of a kind and its text
abbrev pub IsTerminal : Token → Type 0
IsTerminal t = (kind : TokenKind) × (t.kind ≡ terminal_of kind t.text)

abbrev pub AreTerminals : List Token → Type 0
AreTerminals [] = Unit {0}
AreTerminals (t ∷ ts) = IsTerminal t × AreTerminals ts

with_one : (kind : Option TokenKind) (text : List ℕ) (at : ℕ) (ts : List Token) → AreTerminals ts → AreTerminals (with_token kind text at ts)
with_one None text at ts h = h
with_one (Some kind) text at ts h = ((kind, refl), h)

among : (pieces : List Piece) (text : List ℕ) (at : ℕ) → AreTerminals (tokens_among pieces text at)
among [] text at = tt
among (p ∷ ps) text at = with_one p.kind (take p.length text) at (tokens_among ps (drop p.length text) (at + p.length)) (among ps (drop p.length text) (at + p.length))

-- the tokens of a text, or of its front
pub are_terminals : (text : List ℕ) (tokens : List Token) (following : List ℕ) → LexesFront text tokens following → AreTerminals tokens
are_terminals text tokens following lexes = subst AreTerminals (sym lexes.found) (among lexes.pieces text 0)

-- ---- rules

-- what the rule makes of such tokens passes, and such tokens are left
pub record Makes {A : Type 0} (r : Rule A) (good : A → Bool) : Type 0 where
  pub holds : (i : Input) (x : A) (o : Input) → AreTerminals i.ahead → r i x o → (good x ≡ true) × AreTerminals o.ahead

left : (i o : Input) → o ≡ i → AreTerminals i.ahead → AreTerminals o.ahead
left i o e known = subst (λ (w : Input). AreTerminals w.ahead) (sym e) known

pub token : (is : Terminal → Bool) (good : Token → Bool) → ((t : Token) → IsTerminal t → is t.kind ≡ true → good t ≡ true) → Makes (one is) good
token is good says = record { holds = λ i t o known h. go i t o h.1.0 (subst AreTerminals h.1.1 known) h.0 h.1.2 }
  where
    go : (i : Input) (t : Token) (o : Input) (ts : List Token) → AreTerminals (t ∷ ts) → is t.kind ≡ true → o ≡ past i t ts → (good t ≡ true) × AreTerminals o.ahead
    go i t o ts known h e = (says t known.0 h, left (past i t ts) o e known.1)

pub any_token : (is : Terminal → Bool) → Makes (one is) (λ t. true)
any_token is = token is (λ t. true) (λ t known h. refl)

pub mapped : {A B : Type 0} {r : Rule A} {g : A → Bool} {good : B → Bool} (f : A → B) → Makes r g → ((x : A) → g x ≡ true → good (f x) ≡ true) → Makes (f <$> r) good
mapped {A} {B} {r} {g} {good} f rr step = record {
  holds = λ i y o known h.
      let k = rr.holds i h.0 o known h.1 in
      (subst (λ (z : B). good z ≡ true) (sym h.2) (step h.0 k.0), k.1);
}

-- where nothing is asked of the tree
pub mapped_any : {A B : Type 0} {r : Rule A} {g : A → Bool} (f : A → B) → Makes r g → Makes (f <$> r) (λ x. true)
mapped_any f rr = mapped f rr (λ x h. refl)

pub mark : (is : Terminal → Bool) → Makes (rule.mark is) (λ x. true)
mark is = mapped_any (λ _. tt) (any_token is)

pub seq : {A B : Type 0} {r : Rule A} {s : Rule B} {f : A → Bool} {g : B → Bool} → Makes r f → Makes s g → Makes (r · s) (λ x. f x.0 && g x.1)
seq {A} {B} {r} {s} {f} {g} rr ss = record {
  holds = λ i x o known h.
      let k = rr.holds i x.0 h.0 known h.1 in
      let l = ss.holds h.0 x.1 o k.1 h.2 in
      (and_from (f x.0) (g x.1) k.0 l.0, l.1);
}

pub choice : {A : Type 0} {r s : Rule A} {good : A → Bool} → Makes r good → Makes s good → Makes (r ∣ s) good
choice {A} {r} {s} {good} rr ss = record { holds = λ i x o known h. go i x o known h }
  where
    go : (i : Input) (x : A) (o : Input) → AreTerminals i.ahead → (r ∣ s) i x o → (good x ≡ true) × AreTerminals o.ahead
    go i x o known (inl h) = rr.holds i x o known h
    go i x o known (inr h) = ss.holds i x o known h

pub never : {A : Type 0} {good : A → Bool} → Makes nothing good
never = record { holds = λ i x o known h. absurd h }

-- a weaker test
pub weaker : {A : Type 0} {r : Rule A} {g good : A → Bool} → Makes r g → ((x : A) → g x ≡ true → good x ≡ true) → Makes r good
weaker {A} {r} {g} {good} rr step = record { holds = λ i x o known h. let k = rr.holds i x o known h in (step x k.0, k.1) }

pub anyway : {A : Type 0} {r : Rule A} {g : A → Bool} → Makes r g → Makes r (λ x. true)
anyway rr = weaker rr (λ x h. refl)

pub such_that : {A : Type 0} {r : Rule A} {g good : A → Bool} (passes : A → Bool) → Makes r g → ((x : A) → g x ≡ true → passes x ≡ true → good x ≡ true) → Makes (rule.such_that passes r) good
such_that {A} {r} {g} {good} passes rr step = record { holds = λ i x o known h. let k = rr.holds i x o known h.0 in (step x k.0 h.1, k.1) }

pub maybe : {A : Type 0} {r : Rule A} (good : Option A → Bool) → good None ≡ true → Makes r (λ x. good (Some x)) → Makes (optional r) good
maybe {A} {r} good none rr = record { holds = λ i x o known h. go i x o known h }
  where
    go : (i : Input) (x : Option A) (o : Input) → AreTerminals i.ahead → optional r i x o → (good x ≡ true) × AreTerminals o.ahead
    go i None o known h = (none, left i o h known)
    go i (Some x) o known h = rr.holds i x o known h

pub maybe_unless : {A : Type 0} {r : Rule A} (is : Terminal → Bool) (good : Option A → Bool) → good None ≡ true → Makes r (λ x. good (Some x)) → Makes (optional_unless is r) good
maybe_unless {A} {r} is good none rr = record { holds = λ i x o known h. go i x o known h }
  where
    go : (i : Input) (x : Option A) (o : Input) → AreTerminals i.ahead → optional_unless is r i x o → (good x ≡ true) × AreTerminals o.ahead
    go i None o known h = (none, left i o h.0 known)
    go i (Some x) o known h = rr.holds i x o known h

pub maybe_any : {A : Type 0} {r : Rule A} {g : A → Bool} → Makes r g → Makes (optional r) (λ x. true)
maybe_any rr = maybe (λ x. true) refl (anyway rr)

-- a list that may be left out, as an empty one
pub or_none : {A : Type 0} {r : Rule (List A)} (good : List A → Bool) → good [] ≡ true → Makes r good → Makes (optional r) (λ x. good (unwrap_or x []))
or_none good none rr = maybe (λ x. good (unwrap_or x [])) none rr

pub or_none_unless : {A : Type 0} {r : Rule (List A)} (is : Terminal → Bool) (good : List A → Bool) → good [] ≡ true → Makes r good → Makes (optional_unless is r) (λ x. good (unwrap_or x []))
or_none_unless is good none rr = maybe_unless is (λ x. good (unwrap_or x [])) none rr

module _ {A : Type 0} {r : Rule A} {good : A → Bool} (rr : Makes r good) where
  many_holds : (i : Input) (xs : List A) (o : Input) → AreTerminals i.ahead → rule.many r i xs o → (list_all good xs ≡ true) × AreTerminals o.ahead
  many_holds i [] o known h = (refl, left i o h known)
  many_holds i (x ∷ xs) o known h =
      let k = rr.holds i x h.0 known h.1 in
      let l = many_holds h.0 xs o k.1 h.2 in
      (and_from (good x) (list_all good xs) k.0 l.0, l.1)

  pub several : Makes (rule.many r) (λ xs. list_all good xs)
  several = record { holds = many_holds }

  some_holds : (i : Input) (xs : List A) (o : Input) → AreTerminals i.ahead → rule.some r i xs o → ((has_some xs && list_all good xs) ≡ true) × AreTerminals o.ahead
  some_holds i [] o known h = absurd h
  some_holds i (x ∷ xs) o known h =
      let k = rr.holds i x h.0 known h.1 in
      let l = many_holds h.0 xs o k.1 h.2 in
      (and_from (good x) (list_all good xs) k.0 l.0, l.1)

  pub one_or_more : Makes (rule.some r) (λ xs. has_some xs && list_all good xs)
  one_or_more = record { holds = some_holds }

  pub some_all : Makes (rule.some r) (λ xs. list_all good xs)
  some_all = weaker one_or_more (λ xs h. (and_parts (has_some xs) (list_all good xs) h).1)

  pub some_one : Makes (rule.some r) (λ xs. has_some xs)
  some_one = weaker one_or_more (λ xs h. (and_parts (has_some xs) (list_all good xs) h).0)

pub enclosed : {A : Type 0} {r : Rule A} {good : A → Bool} (opening closing : Terminal → Bool) → Makes r good → Makes (rule.between opening r closing) good
enclosed {A} {r} {good} opening closing rr = mapped (λ x. x.1.0) (seq (mark opening) (seq rr (mark closing))) (λ x h. (and_parts (good x.1.0) true h).0)

pub separated : {A : Type 0} {r : Rule A} {good : A → Bool} (is : Terminal → Bool) → Makes r good → Makes (rule.separated is r) (λ xs. has_some xs && list_all good xs)
separated {A} {r} {good} is rr =
    mapped (λ x. x.1.0 ∷ x.1.1) (seq (maybe_any (mark is)) (seq rr (several marked))) (λ x h. h)
  where
    marked : Makes ((λ x. x.1) <$> rule.mark is · r) good
    marked = mapped (λ x. x.1) (seq (mark is) rr) (λ x h. h)

pub located : {P A : Type 0} {r : Rule A} {good : A → Bool} (m : Meaning P) → Makes r good → Makes (rule.placed m r) (λ x. good x.it)
located m rr = record { holds = λ i x o known h. rr.holds i x.it o known h.0 }

-- ---- tests put together otherwise

pub three : (a b c : Bool) → (a && (b && c)) ≡ true → (a && b && c) ≡ true
three true b c h = h
three false b c h = h

pub four : (a b c d : Bool) → (a && (b && (c && d))) ≡ true → (a && b && c && d) ≡ true
four true b c d h = three b c d h
four false b c d h = h
