-- What rules make of the tokens of a text passes a test that rests on what the text of a token is, for each way to put rules together.
use Rattle.std.proofs.Common.{◌≡◌, ℕ, ◌+◌, Bool, true, false, ◌&&◌, List, [], ◌∷◌, take, drop, Option, Some, None, unwrap_or, refl, sym, ap, subst, ◌∙◌, inl, inr}
use Rattle.std.specs.List.{list_all}
use Rattle.std.specs.Option.{option_map_or}
use Rattle.std.proofs.lemmas.Option.{same_Some}
use Rattle.std.proofs.lemmas.Bool.{and_from, and_parts}
use Rattle.tree_definitions.specs.Writable.{has_some}
use Rattle.read_tokens.specs.declared.terminal.Terminal.{Terminal}
use Rattle.read_tokens.specs.declared.token.TokenKind.{TokenKind}
use Rattle.read_tokens.specs.Terminals.{terminal_of}
use Rattle.read_tokens.specs.Input.{Token, Input, past}
use Rattle.read_tokens.specs.Tokens.{ignored_at, token_at}
use Rattle.read_tokens.specs.Forms.{FormOf}
use Rattle.read_tokens.specs.Lex.{Piece, piece_of, piece_at, ArePieces, with_token, tokens_among, LexesFront}
use Rattle.read_tokens.proofs.Forms.{token_form}
use Rattle.read_tokens.proofs.Rests.{token_is}
use Rattle.read_grammar.specs.Meaning.{Meaning}
use Rattle.read_grammar.specs.Rules as rule
use Rattle.read_grammar.specs.Rules.{Rule, one, ◌·◌, ◌<$>◌, ◌∣◌, nothing, optional, optional_unless}

-- ---- the tokens of a text

-- a token's text is what the rules take from the front of some bytes
abbrev pub IsTaken : Token → Type 0
IsTaken t = FormOf (Some t.kind) t.text

abbrev pub AreTaken : List Token → Type 0
AreTaken [] = Unit {0}
AreTaken (t ∷ ts) = IsTaken t × AreTaken ts

piece_kind : (o : Option ℕ) (t : Option (TokenKind × ℕ)) (p : Piece) (kind : TokenKind) → piece_of o t ≡ Some p → p.kind ≡ Some kind → t ≡ Some (kind, p.length)
piece_kind None None p kind e k = absurd cc
piece_kind None (Some t) p kind e k = by t.0 t.1 p.kind p.length (ap (λ o. option_map_or (λ (q : Piece). q.kind) o None) e ∙ k) (ap (λ o. option_map_or (λ (q : Piece). q.length) o 0) e)
  where
    by : (k : TokenKind) (n : ℕ) (o : Option TokenKind) (l : ℕ) → Some k ≡ Some kind → n ≡ l → ◌≡◌ {A = Option (TokenKind × ℕ)} (Some (k, n)) (Some (kind, l))
    by k n o l e f = λ i. Some (same_Some k kind e i, f i)
piece_kind (Some n) t p kind e k = let none : None ≡ Some kind = ap (λ o. option_map_or (λ (q : Piece). q.kind) o None) e ∙ k in absurd cc

token_of : (text : List ℕ) (p : Piece) (kind : TokenKind) → piece_at text ≡ Some p → p.kind ≡ Some kind → token_at text ≡ Some (kind, p.length)
unfolding piece_at
token_of text p kind e k = piece_kind (ignored_at text) (token_at text) p kind e k

taken_at : (text : List ℕ) (kind : TokenKind) (n : ℕ) → token_at text ≡ Some (kind, n) → FormOf (Some (terminal_of kind (take n text))) (take n text)
taken_at text kind n e =
    let is = token_is text kind n (take n text) e refl in
    (token_form text (kind, n) e, record { bytes = text; kind = kind; found = is.0; front = is.1; is = refl })

with_one : (kind : Option TokenKind) (text : List ℕ) (p : Piece) (at : ℕ) (ts : List Token) → piece_at text ≡ Some p → p.kind ≡ kind → AreTaken ts → AreTaken (with_token kind (take p.length text) at ts)
with_one None text p at ts e k h = h
with_one (Some kind) text p at ts e k h = (taken_at text kind p.length (token_of text p kind e k), h)

among : (pieces : List Piece) (text following : List ℕ) (at : ℕ) → ArePieces pieces text following → AreTaken (tokens_among pieces text at)
among [] text following at a = tt
among (p ∷ ps) text following at a = with_one p.kind text p at (tokens_among ps (drop p.length text) (at + p.length)) a.0 refl (among ps (drop p.length text) following (at + p.length) a.1)

-- the tokens of a text, or of its front
pub are_taken : (text : List ℕ) (tokens : List Token) (following : List ℕ) → LexesFront text tokens following → AreTaken tokens
are_taken text tokens following lexes = subst AreTaken (sym lexes.found) (among lexes.pieces text following 0 lexes.are)

-- ---- rules

-- what the rule makes of such tokens passes, and such tokens are left
pub record Makes {A : Type 0} (r : Rule A) (good : A → Bool) : Type 0 where
  pub holds : (i : Input) (x : A) (o : Input) → AreTaken i.ahead → r i x o → (good x ≡ true) × AreTaken o.ahead

left : (i o : Input) → o ≡ i → AreTaken i.ahead → AreTaken o.ahead
left i o e known = subst (λ (w : Input). AreTaken w.ahead) (sym e) known

pub token : (is : Terminal → Bool) (good : Token → Bool) → ((t : Token) → IsTaken t → is t.kind ≡ true → good t ≡ true) → Makes (one is) good
token is good says = record { holds = λ i t o known h. go i t o h.1.0 (subst AreTaken h.1.1 known) h.0 h.1.2 }
  where
    go : (i : Input) (t : Token) (o : Input) (ts : List Token) → AreTaken (t ∷ ts) → is t.kind ≡ true → o ≡ past i t ts → (good t ≡ true) × AreTaken o.ahead
    go i t o ts known h e = (says t known.0 h, left (past i t ts) o e known.1)

pub any_token : (is : Terminal → Bool) → Makes (one is) (λ t. true)
any_token is = token is (λ t. true) (λ t known h. refl)

pub mapped : {A B : Type 0} {r : Rule A} {g : A → Bool} {good : B → Bool} (f : A → B) → Makes r g → ((x : A) → g x ≡ true → good (f x) ≡ true) → Makes (f <$> r) good
mapped {A} {B} {r} {g} {good} f rr step = record {
  holds = λ i y o known h.
      let k = rr.holds i h.0 o known h.1 in
      (subst (λ (z : B). good z ≡ true) (sym h.2) (step h.0 k.0), k.1);
}

-- where nothing is asked of the tree
pub mapped_any : {A B : Type 0} {r : Rule A} {g : A → Bool} (f : A → B) → Makes r g → Makes (f <$> r) (λ x. true)
mapped_any f rr = mapped f rr (λ x h. refl)

pub mark : (is : Terminal → Bool) → Makes (rule.mark is) (λ x. true)
mark is = mapped_any (λ _. tt) (any_token is)

pub seq : {A B : Type 0} {r : Rule A} {s : Rule B} {f : A → Bool} {g : B → Bool} → Makes r f → Makes s g → Makes (r · s) (λ x. f x.0 && g x.1)
seq {A} {B} {r} {s} {f} {g} rr ss = record {
  holds = λ i x o known h.
      let k = rr.holds i x.0 h.0 known h.1 in
      let l = ss.holds h.0 x.1 o k.1 h.2 in
      (and_from (f x.0) (g x.1) k.0 l.0, l.1);
}

pub choice : {A : Type 0} {r s : Rule A} {good : A → Bool} → Makes r good → Makes s good → Makes (r ∣ s) good
choice {A} {r} {s} {good} rr ss = record { holds = λ i x o known h. go i x o known h }
  where
    go : (i : Input) (x : A) (o : Input) → AreTaken i.ahead → (r ∣ s) i x o → (good x ≡ true) × AreTaken o.ahead
    go i x o known (inl h) = rr.holds i x o known h
    go i x o known (inr h) = ss.holds i x o known h

pub never : {A : Type 0} {good : A → Bool} → Makes nothing good
never = record { holds = λ i x o known h. absurd h }

-- a weaker test
pub weaker : {A : Type 0} {r : Rule A} {g good : A → Bool} → Makes r g → ((x : A) → g x ≡ true → good x ≡ true) → Makes r good
weaker {A} {r} {g} {good} rr step = record { holds = λ i x o known h. let k = rr.holds i x o known h in (step x k.0, k.1) }

pub anyway : {A : Type 0} {r : Rule A} {g : A → Bool} → Makes r g → Makes r (λ x. true)
anyway rr = weaker rr (λ x h. refl)

pub such_that : {A : Type 0} {r : Rule A} {g good : A → Bool} (passes : A → Bool) → Makes r g → ((x : A) → g x ≡ true → passes x ≡ true → good x ≡ true) → Makes (rule.such_that passes r) good
such_that {A} {r} {g} {good} passes rr step = record { holds = λ i x o known h. let k = rr.holds i x o known h.0 in (step x k.0 h.1, k.1) }

pub maybe : {A : Type 0} {r : Rule A} (good : Option A → Bool) → good None ≡ true → Makes r (λ x. good (Some x)) → Makes (optional r) good
maybe {A} {r} good none rr = record { holds = λ i x o known h. go i x o known h }
  where
    go : (i : Input) (x : Option A) (o : Input) → AreTaken i.ahead → optional r i x o → (good x ≡ true) × AreTaken o.ahead
    go i None o known h = (none, left i o h known)
    go i (Some x) o known h = rr.holds i x o known h

pub maybe_unless : {A : Type 0} {r : Rule A} (is : Terminal → Bool) (good : Option A → Bool) → good None ≡ true → Makes r (λ x. good (Some x)) → Makes (optional_unless is r) good
maybe_unless {A} {r} is good none rr = record { holds = λ i x o known h. go i x o known h }
  where
    go : (i : Input) (x : Option A) (o : Input) → AreTaken i.ahead → optional_unless is r i x o → (good x ≡ true) × AreTaken o.ahead
    go i None o known h = (none, left i o h.0 known)
    go i (Some x) o known h = rr.holds i x o known h

pub maybe_any : {A : Type 0} {r : Rule A} {g : A → Bool} → Makes r g → Makes (optional r) (λ x. true)
maybe_any rr = maybe (λ x. true) refl (anyway rr)

-- none or more, where a list stands
pub or_none : {A : Type 0} {r : Rule (List A)} (good : List A → Bool) → good [] ≡ true → Makes r good → Makes (optional r) (λ x. good (unwrap_or x []))
or_none good none rr = maybe (λ x. good (unwrap_or x [])) none rr

pub or_none_unless : {A : Type 0} {r : Rule (List A)} (is : Terminal → Bool) (good : List A → Bool) → good [] ≡ true → Makes r good → Makes (optional_unless is r) (λ x. good (unwrap_or x []))
or_none_unless is good none rr = maybe_unless is (λ x. good (unwrap_or x [])) none rr

module _ {A : Type 0} {r : Rule A} {good : A → Bool} (rr : Makes r good) where
  many_holds : (i : Input) (xs : List A) (o : Input) → AreTaken i.ahead → rule.many r i xs o → (list_all good xs ≡ true) × AreTaken o.ahead
  many_holds i [] o known h = (refl, left i o h known)
  many_holds i (x ∷ xs) o known h =
      let k = rr.holds i x h.0 known h.1 in
      let l = many_holds h.0 xs o k.1 h.2 in
      (and_from (good x) (list_all good xs) k.0 l.0, l.1)

  pub several : Makes (rule.many r) (λ xs. list_all good xs)
  several = record { holds = many_holds }

  some_holds : (i : Input) (xs : List A) (o : Input) → AreTaken i.ahead → rule.some r i xs o → ((has_some xs && list_all good xs) ≡ true) × AreTaken o.ahead
  some_holds i [] o known h = absurd h
  some_holds i (x ∷ xs) o known h =
      let k = rr.holds i x h.0 known h.1 in
      let l = many_holds h.0 xs o k.1 h.2 in
      (and_from (good x) (list_all good xs) k.0 l.0, l.1)

  pub one_or_more : Makes (rule.some r) (λ xs. has_some xs && list_all good xs)
  one_or_more = record { holds = some_holds }

  pub some_all : Makes (rule.some r) (λ xs. list_all good xs)
  some_all = weaker one_or_more (λ xs h. (and_parts (has_some xs) (list_all good xs) h).1)

  pub some_one : Makes (rule.some r) (λ xs. has_some xs)
  some_one = weaker one_or_more (λ xs h. (and_parts (has_some xs) (list_all good xs) h).0)

pub enclosed : {A : Type 0} {r : Rule A} {good : A → Bool} (opening closing : Terminal → Bool) → Makes r good → Makes (rule.between opening r closing) good
enclosed {A} {r} {good} opening closing rr = mapped (λ x. x.1.0) (seq (mark opening) (seq rr (mark closing))) (λ x h. (and_parts (good x.1.0) true h).0)

pub separated : {A : Type 0} {r : Rule A} {good : A → Bool} (is : Terminal → Bool) → Makes r good → Makes (rule.separated is r) (λ xs. has_some xs && list_all good xs)
separated {A} {r} {good} is rr =
    mapped (λ x. x.1.0 ∷ x.1.1) (seq (maybe_any (mark is)) (seq rr (several marked))) (λ x h. h)
  where
    marked : Makes ((λ x. x.1) <$> rule.mark is · r) good
    marked = mapped (λ x. x.1) (seq (mark is) rr) (λ x h. h)

pub located : {P A : Type 0} {r : Rule A} {good : A → Bool} (m : Meaning P) → Makes r good → Makes (rule.placed m r) (λ x. good x.it)
located m rr = record { holds = λ i x o known h. rr.holds i x.it o known h.0 }

-- ---- tests put together otherwise

pub three : (a b c : Bool) → (a && (b && c)) ≡ true → (a && b && c) ≡ true
three true b c h = h
three false b c h = h

pub four : (a b c d : Bool) → (a && (b && (c && d))) ≡ true → (a && b && c && d) ≡ true
four true b c d h = three b c d h
four false b c d h = h

pub five : (a b c d e : Bool) → (a && (b && (c && (d && e)))) ≡ true → (a && b && c && d && e) ≡ true
five true b c d e h = four b c d e h
five false b c d e h = h
