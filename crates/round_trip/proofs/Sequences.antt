-- Printed texts one after the other, and the rules of the grammar with them.
use Rattle.std.proofs.Common.{◌≡◌, ℕ, ◌+◌, true, List, [], ◌∷◌, ◌++◌, length, Some, None, refl, sym, subst, inl, inr, append_assoc, append-nil, length-append, arith}
use Rattle.std.specs.List.{list_all}
use Rattle.std.proofs.lemmas.Bool.{and_parts}
use Rattle.read_operations.specs.in_tokens.Input.{Token}
use Rattle.read_operations.specs.in_tokens.Tokens.{is_ignored_byte, ignored_at}
use Rattle.read_operations.specs.in_tokens.Lex.{piece_at}
use Rattle.read_operations.specs.in_grammar.Meaning.{Meaning, place_between}
use Rattle.read_operations.specs.in_grammar.Rules as rule
use Rattle.read_operations.specs.in_grammar.Rules.{Rule, one, ◌·◌, ◌<$>◌, ◌∣◌, optional, many, some}
use Rattle.round_trip.specs.Printed.{Follow, any, ends_word, LexesAt, before, Printed}

-- ---- what follows

-- what ends a word, before what ends a word
pub ends_before : (text following : List ℕ) → ends_word text ≡ true → ends_word following ≡ true → ends_word (text ++ following) ≡ true
ends_before [] following h k = k
ends_before (b ∷ text) following h k = h

-- ---- the same text, and less said

module _ {A : Type 0} {r : Rule A} {says : A → Type 0} {f : Follow} {a : List ℕ} where
  pub as_text : (b : List ℕ) → a ≡ b → Printed r says f a → Printed r says f b
  as_text b e p = subst (Printed r says f) e p

  pub nothing_more : Printed r says f a → Printed r says f (a ++ [])
  nothing_more p = as_text (a ++ []) (sym (append-nil a)) p

  pub saying : (other : A → Type 0) → ((x : A) → says x → other x) → Printed r says f a → Printed r other f a
  saying other tells p = record {
    stands = λ following at others fine lexed.
        let b = p.stands following at others fine lexed in
        record {
          tokens = b.tokens;
          lexed = b.lexed;
          reads = λ ending last. let d = b.reads ending last in record { tree = d.tree; end = d.end; read = d.read; said = tells d.tree d.said };
        };
  }

  -- what may come before anything
  pub before_any : Printed r says any a → Printed r says f a
  before_any p = record { stands = λ following at others fine lexed. p.stands following at others refl lexed }

  pub before_less : (g : Follow) → ((following : List ℕ) → g following ≡ true → f following ≡ true) → Printed r says f a → Printed r says g a
  before_less g meets p = record { stands = λ following at others fine lexed. p.stands following at others (meets following fine) lexed }

-- ---- one rule after the other

moved : (at : ℕ) (a b following : List ℕ) (others : List Token) → LexesAt (at + length (a ++ b)) following others → LexesAt ((at + length a) + length b) following others
moved at a b following others l =
    let size : length (a ++ b) ≡ length a + length b = length-append a b in
    let same : at + length (a ++ b) ≡ (at + length a) + length b = omega arith in
    subst (λ (i : ℕ). LexesAt i following others) same l

module _ {A B : Type 0} {r : Rule A} {s : Rule B} {says : A → Type 0} {tells : B → Type 0} {f g : Follow} {a b : List ℕ} where
  pub seq : ((following : List ℕ) → g following ≡ true → f (b ++ following) ≡ true) → Printed r says f a → Printed s tells g b → Printed (r · s) (λ x. says x.0 × tells x.1) g (a ++ b)
  seq meets p q = record {
    stands = λ following at others fine lexed.
        let second = q.stands following (at + length a) others fine (moved at a b following others lexed) in
        let first = p.stands (b ++ following) at second.tokens (meets following fine) second.lexed in
        record {
          tokens = first.tokens;
          lexed = subst (λ (text : List ℕ). LexesAt at text first.tokens) (sym (append_assoc a b following)) first.lexed;
          reads = λ ending last.
              let x = first.reads ending last in
              let y = second.reads ending x.end in
              record { tree = (x.tree, y.tree); end = y.end; read = (before ending x.end second.tokens, x.read, y.read); said = (x.said, y.said) };
        };
  }

-- a word, and a text that ends words
module _ {A B : Type 0} {r : Rule A} {s : Rule B} {says : A → Type 0} {tells : B → Type 0} {a b : List ℕ} where
  pub seq_word : ends_word b ≡ true → Printed r says ends_word a → Printed s tells ends_word b → Printed (r · s) (λ x. says x.0 × tells x.1) ends_word (a ++ b)
  seq_word ends p q = seq {f = ends_word} (λ following fine. ends_before b following ends fine) p q

-- a rule, and another that reads nothing there
module _ {A B : Type 0} {r : Rule A} {s : Rule B} {says : A → Type 0} {tells : B → Type 0} {f g : Follow} {a : List ℕ} where
  pub then_nothing : ((following : List ℕ) → g following ≡ true → f following ≡ true) → Printed r says f a → Printed s tells g [] → Printed (r · s) (λ x. says x.0 × tells x.1) g a
  then_nothing meets p q = as_text a (append-nil a) (seq meets p q)

-- ---- pieces

-- no byte more
pub from_here : (at : ℕ) (text : List ℕ) (tokens : List Token) → LexesAt (at + 0) text tokens → LexesAt at text tokens
from_here at text tokens l = let same : at + 0 ≡ at = omega arith in subst (λ (i : ℕ). LexesAt i text tokens) same l

-- a byte that is ignored, and what follows it
pub ignored_piece : (b : ℕ) (text : List ℕ) → is_ignored_byte b ≡ true → piece_at (b ∷ text) ≡ Some (record { kind = None; length = 1 })
unfolding piece_at ignored_at
ignored_piece b text h = rw h refl

passed : (front : List ℕ) (at : ℕ) (text : List ℕ) (tokens : List Token) → list_all is_ignored_byte front ≡ true → LexesAt (at + length front) text tokens → LexesAt at (front ++ text) tokens
passed [] at text tokens all l = from_here at text tokens l
passed (b ∷ front) at text tokens all l =
    let (here, others) = and_parts (is_ignored_byte b) (list_all is_ignored_byte front) all in
    let same : at + length (b ∷ front) ≡ (at + 1) + length front = omega arith in
    let rest = passed front (at + 1) text tokens others (subst (λ (i : ℕ). LexesAt i text tokens) same l) in
    record { pieces = record { kind = None; length = 1 } ∷ rest.pieces; are = (ignored_piece b (front ++ text) here, rest.are); found = rest.found }

-- ---- one rule

module _ {A : Type 0} {r : Rule A} {says : A → Type 0} {f : Follow} {a : List ℕ} where
  pub mapped : {B : Type 0} (make : A → B) (tells : B → Type 0) → ((x : A) → says x → tells (make x)) → Printed r says f a → Printed (make <$> r) tells f a
  mapped make tells so p = record {
    stands = λ following at others fine lexed.
        let b = p.stands following at others fine lexed in
        record {
          tokens = b.tokens;
          lexed = b.lexed;
          reads = λ ending last. let d = b.reads ending last in record { tree = make d.tree; end = d.end; read = (d.tree, d.read, refl); said = so d.tree d.said };
        };
  }

  pub left : (s : Rule A) → Printed r says f a → Printed (r ∣ s) says f a
  left s p = record {
    stands = λ following at others fine lexed.
        let b = p.stands following at others fine lexed in
        record {
          tokens = b.tokens;
          lexed = b.lexed;
          reads = λ ending last. let d = b.reads ending last in record { tree = d.tree; end = d.end; read = inl d.read; said = d.said };
        };
  }

  pub right : (s : Rule A) → Printed r says f a → Printed (s ∣ r) says f a
  right s p = record {
    stands = λ following at others fine lexed.
        let b = p.stands following at others fine lexed in
        record {
          tokens = b.tokens;
          lexed = b.lexed;
          reads = λ ending last. let d = b.reads ending last in record { tree = d.tree; end = d.end; read = inr d.read; said = d.said };
        };
  }

  -- what is said of the tree, wherever it is
  pub placed : {P : Type 0} (m : Meaning P) → Printed r says f a → Printed (rule.placed m r) (λ x. says x.it) f a
  placed m p = record {
    stands = λ following at others fine lexed.
        let b = p.stands following at others fine lexed in
        record {
          tokens = b.tokens;
          lexed = b.lexed;
          reads = λ ending last.
              let d = b.reads ending last in
              record {
                tree = record { it = d.tree; place = place_between m (before ending last b.tokens) (before ending d.end others) };
                end = d.end;
                read = (d.read, refl);
                said = d.said;
              };
        };
  }

  -- one that may be left out, and is there
  pub given : Printed r says f a → Printed (optional r) (λ o. (x : A) × (o ≡ Some x) × says x) f a
  given p = record {
    stands = λ following at others fine lexed.
        let b = p.stands following at others fine lexed in
        record {
          tokens = b.tokens;
          lexed = b.lexed;
          reads = λ ending last. let d = b.reads ending last in record { tree = Some d.tree; end = d.end; read = d.read; said = (d.tree, refl, d.said) };
        };
  }

  -- after bytes that are ignored
  pub ignored : (front : List ℕ) → list_all is_ignored_byte front ≡ true → Printed r says f a → Printed r says f (front ++ a)
  ignored front all p = record {
    stands = λ following at others fine lexed.
        let b = p.stands following (at + length front) others fine (moved at front a following others lexed) in
        record {
          tokens = b.tokens;
          lexed = subst (λ (text : List ℕ). LexesAt at text b.tokens) (sym (append_assoc front a following)) (passed front at (a ++ following) b.tokens all b.lexed);
          reads = b.reads;
        };
  }

module _ {A : Type 0} (r : Rule A) where
  -- left out
  pub left_out : (f : Follow) → Printed (optional r) (λ o. o ≡ None) f []
  left_out f = record {
    stands = λ following at others fine lexed.
        record { tokens = others; lexed = from_here at following others lexed; reads = λ ending last. record { tree = None; end = last; read = refl; said = refl } };
  }

  -- no more of them
  pub no_more : (f : Follow) → Printed (many r) (λ xs. xs ≡ []) f []
  no_more f = record {
    stands = λ following at others fine lexed.
        record { tokens = others; lexed = from_here at following others lexed; reads = λ ending last. record { tree = []; end = last; read = refl; said = refl } };
  }

module _ {A : Type 0} {r : Rule A} {says : A → Type 0} {tells : List A → Type 0} {f g : Follow} {a b : List ℕ} (told : List A → Type 0)
    (so : (x : A) (xs : List A) → says x → tells xs → told (x ∷ xs)) (meets : (following : List ℕ) → g following ≡ true → f (b ++ following) ≡ true)
    (p : Printed r says f a) (q : Printed (many r) tells g b) where
  -- one, and more
  pub more : Printed (many r) told g (a ++ b)
  more = let both = seq meets p q in record {
    stands = λ following at others fine lexed.
        let z = both.stands following at others fine lexed in
        record {
          tokens = z.tokens;
          lexed = z.lexed;
          reads = λ ending last. let d = z.reads ending last in record { tree = d.tree.0 ∷ d.tree.1; end = d.end; read = d.read; said = so d.tree.0 d.tree.1 d.said.0 d.said.1 };
        };
  }

  pub one_or_more : Printed (some r) told g (a ++ b)
  one_or_more = let both = seq meets p q in record {
    stands = λ following at others fine lexed.
        let z = both.stands following at others fine lexed in
        record {
          tokens = z.tokens;
          lexed = z.lexed;
          reads = λ ending last. let d = z.reads ending last in record { tree = d.tree.0 ∷ d.tree.1; end = d.end; read = d.read; said = so d.tree.0 d.tree.1 d.said.0 d.said.1 };
        };
  }
