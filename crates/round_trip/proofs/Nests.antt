-- The depth of the tokens ahead of a rule is the greater of the depth of the rule's tree and that of the tokens after it.
use Rattle.std.proofs.Common.{◌≡◌, ℕ, suc, ◌+◌, ◌-◌, max, Bool, true, false, cond, List, [], ◌∷◌, Option, Some, None, unwrap_or, ◌⊎◌, inl, inr, refl, sym, ap, ◌∙◌, arith}
use Rattle.read_operations.specs.in_tokens.declared.terminal.Terminal.{Terminal}
use Rattle.read_operations.specs.in_tokens.Input.{Token, Input}
use Rattle.read_operations.specs.in_grammar.Meaning.{Meaning}
use Rattle.read_operations.specs.in_grammar.Kinds.{next_is}
use Rattle.read_operations.specs.in_grammar.Depth.{is_opening, is_closing, depth}
use Rattle.read_operations.specs.in_grammar.Rules as g
use Rattle.read_operations.specs.in_grammar.Rules.{Rule, one, mark, ◌·◌, ◌<$>◌, ◌∣◌, nothing, optional, optional_unless, many, some, between, separated, placed}
use Rattle.read_operations.proofs.in_grammar.Tests.{Test, apart, from_apart, subset, from_subset}
use Rattle.round_trip.specs.TreeDepth.{deepest, bracketed, deep_if_any}

-- what the rule reads nests as deep as is said of its tree
pub record Nests {A : Type 0} (r : Rule A) (deep : A → ℕ) : Type 0 where
  pub at : (i : Input) (x : A) (o : Input) → r i x o → depth i.ahead ≡ max (deep x) (depth o.ahead)

-- what the rule reads has no brackets
abbrev pub Flat : {A : Type 0} → Rule A → Type 0
Flat r = Nests r (λ _. 0)

-- ---- tokens

abbrev bracket : Test
bracket next = cond (next_is is_opening next) true (next_is is_closing next)

not_bracket : (o c : Bool) → cond o true c ≡ false → (o ≡ false) × (c ≡ false)
not_bracket true c h = absurd cc
not_bracket false c h = (refl, h)

step : (t : Token) (ts : List Token) (o c : Bool) → is_opening t.kind ≡ o → is_closing t.kind ≡ c → depth (t ∷ ts) ≡ cond o (depth ts + 1) (cond c (depth ts - 1) (depth ts))
unfolding depth
step t ts o c ho hc = rw (ho, hc) refl

pub token : (is : Terminal → Bool) → apart (next_is is) bracket ≡ true → Flat (one is)
token is plain = record {
  at = λ i t o h.
      let b = not_bracket (is_opening t.kind) (is_closing t.kind) (from_apart (next_is is) bracket plain (Some t.kind) h.0) in
      let before : depth i.ahead ≡ depth h.1.0 = ap depth h.1.1 ∙ step t h.1.0 false false b.0 b.1 in
      let following : depth o.ahead ≡ depth h.1.0 = ap (λ (z : Input). depth z.ahead) h.1.2 in
      omega (arith, before, following);
}

opening_token : (is : Terminal → Bool) → subset (next_is is) (next_is is_opening) ≡ true → (i : Input) (t : Token) (o : Input) → one is i t o → depth i.ahead ≡ depth o.ahead + 1
opening_token is opens i t o h =
    let both = from_subset (next_is is) (next_is is_opening) opens (Some t.kind) h.0 in
    ap depth h.1.1 ∙ by_closing t h.1.0 (is_closing t.kind) both refl ∙ ap (λ (n : ℕ). n + 1) (sym (ap (λ (z : Input). depth z.ahead) h.1.2))
  where
    by_closing : (t : Token) (ts : List Token) (c : Bool) → is_opening t.kind ≡ true → is_closing t.kind ≡ c → depth (t ∷ ts) ≡ depth ts + 1
    by_closing t ts c ho hc = step t ts true c ho hc

closing_token : (is : Terminal → Bool) → subset (next_is is) (next_is is_closing) ≡ true → (i : Input) (t : Token) (o : Input) → one is i t o → depth i.ahead ≡ depth o.ahead - 1
closing_token is closes i t o h =
    let closing = from_subset (next_is is) (next_is is_closing) closes (Some t.kind) h.0 in
    let opening = from_apart (next_is is_closing) (next_is is_opening) refl (Some t.kind) closing in
    ap depth h.1.1 ∙ step t h.1.0 false true opening closing ∙ ap (λ (n : ℕ). n - 1) (sym (ap (λ (z : Input). depth z.ahead) h.1.2))

-- ---- rules

restated : {A : Type 0} {r : Rule A} {deep deep' : A → ℕ} → Nests r deep → ((x : A) → deep x ≡ deep' x) → Nests r deep'
restated n same = record { at = λ i x o h. n.at i x o h ∙ ap (λ (d : ℕ). max d (depth o.ahead)) (same x) }

pub mapped : {A B : Type 0} {r : Rule A} {deep : A → ℕ} {deep' : B → ℕ} (f : A → B) → Nests r deep → ((x : A) → deep x ≡ deep' (f x)) → Nests (f <$> r) deep'
mapped {A} {B} {r} {deep} {deep'} f n same = record { at = λ i y o h. n.at i h.0 o h.1 ∙ ap (λ (d : ℕ). max d (depth o.ahead)) (same h.0 ∙ ap deep' (sym h.2)) }

pub flat : (is : Terminal → Bool) → apart (next_is is) bracket ≡ true → Flat (mark is)
flat is plain = mapped (λ _. tt) (token is plain) (λ x. refl)

pub both : {A B : Type 0} {r : Rule A} {s : Rule B} {d : A → ℕ} {e : B → ℕ} → Nests r d → Nests s e → Nests (r · s) (λ x. max (d x.0) (e x.1))
both n k = record { at = λ i x o h. omega (arith, n.at i x.0 h.0 h.1, k.at h.0 x.1 o h.2) }

-- of the two only the second has brackets, only the first
pub skip : {A B : Type 0} {r : Rule A} {s : Rule B} {e : B → ℕ} → Flat r → Nests s e → Nests (r · s) (λ x. e x.1)
skip n k = record { at = λ i x o h. omega (arith, n.at i x.0 h.0 h.1, k.at h.0 x.1 o h.2) }

pub ending : {A B : Type 0} {r : Rule A} {s : Rule B} {d : A → ℕ} → Nests r d → Flat s → Nests (r · s) (λ x. d x.0)
ending n k = record { at = λ i x o h. omega (arith, n.at i x.0 h.0 h.1, k.at h.0 x.1 o h.2) }

pub choice : {A : Type 0} {r s : Rule A} {d : A → ℕ} → Nests r d → Nests s d → Nests (r ∣ s) d
choice {A} {r} {s} {d} n k = record { at = λ i x o h. by_case i x o h }
  where
    by_case : (i : Input) (x : A) (o : Input) → (r i x o) ⊎ (s i x o) → depth i.ahead ≡ max (d x) (depth o.ahead)
    by_case i x o (inl h) = n.at i x o h
    by_case i x o (inr h) = k.at i x o h

pub never : {A : Type 0} {d : A → ℕ} → Nests {A = A} nothing d
never = record { at = λ i x o h. absurd h }

pub unless : {A : Type 0} {r : Rule A} {d : A → ℕ} (forbidden : Bool) → Nests r d → Nests (g.unless forbidden r) d
unless true n = never
unless false n = n

pub such_that : {A : Type 0} {r : Rule A} {d : A → ℕ} (passes : A → Bool) → Nests r d → Nests (g.such_that passes r) d
such_that passes n = record { at = λ i x o h. n.at i x o h.0 }

same_after : (i o : Input) → o ≡ i → depth i.ahead ≡ max 0 (depth o.ahead)
same_after i o e = omega (arith, ap (λ (z : Input). depth z.ahead) e)

pub maybe : {A : Type 0} {r : Rule A} {d : A → ℕ} → Nests r d → Nests (optional r) (deep_if_any d)
maybe {A} {r} {d} n = record { at = λ i x o h. by_case i x o h }
  where
    by_case : (i : Input) (x : Option A) (o : Input) → optional r i x o → depth i.ahead ≡ max (deep_if_any d x) (depth o.ahead)
    by_case i None o h = same_after i o h
    by_case i (Some x) o h = n.at i x o h

maybe_unless : {A : Type 0} {r : Rule A} {d : A → ℕ} (is : Terminal → Bool) → Nests r d → Nests (optional_unless is r) (deep_if_any d)
maybe_unless {A} {r} {d} is n = record { at = λ i x o h. by_case i x o h }
  where
    by_case : (i : Input) (x : Option A) (o : Input) → optional_unless is r i x o → depth i.ahead ≡ max (deep_if_any d x) (depth o.ahead)
    by_case i None o h = same_after i o h.0
    by_case i (Some x) o h = n.at i x o h

-- where it is left out it stands for a tree that has no brackets
deep_if_any-unwrap : {A : Type 0} (d : A → ℕ) (z : A) → d z ≡ 0 → (x : Option A) → deep_if_any d x ≡ d (unwrap_or x z)
deep_if_any-unwrap d z e None = sym e
deep_if_any-unwrap d z e (Some x) = refl

pub maybe_or : {A : Type 0} {r : Rule A} {d : A → ℕ} (z : A) → d z ≡ 0 → Nests r d → Nests (optional r) (λ x. d (unwrap_or x z))
maybe_or {A} {r} {d} z e n = restated (maybe n) (deep_if_any-unwrap d z e)

pub maybe_or_unless : {A : Type 0} {r : Rule A} {d : A → ℕ} (is : Terminal → Bool) (z : A) → d z ≡ 0 → Nests r d → Nests (optional_unless is r) (λ x. d (unwrap_or x z))
maybe_or_unless {A} {r} {d} is z e n = restated (maybe_unless is n) (deep_if_any-unwrap d z e)

pub maybe_flat : {A : Type 0} {r : Rule A} → Flat r → Flat (optional r)
maybe_flat {A} n = restated (maybe n) zeros
  where
    zeros : (x : Option A) → deep_if_any (λ _. 0) x ≡ 0
    zeros None = refl
    zeros (Some x) = refl

pub located : {P A : Type 0} {r : Rule A} {d : A → ℕ} (m : Meaning P) → Nests r d → Nests (placed m r) (λ x. d x.it)
located m n = record { at = λ i x o h. n.at i x.it o h.0 }

-- ---- lists

module _ {A : Type 0} {r : Rule A} {d : A → ℕ} (n : Nests r d) where
  many_at : (xs : List A) (i o : Input) → many r i xs o → depth i.ahead ≡ max (deepest d xs) (depth o.ahead)
  many_at [] i o h = same_after i o h
  many_at (x ∷ xs) i o h = omega (arith, n.at i x h.0 h.1, many_at xs h.0 o h.2)

  some_at : (xs : List A) (i o : Input) → some r i xs o → depth i.ahead ≡ max (deepest d xs) (depth o.ahead)
  some_at [] i o h = absurd h
  some_at (x ∷ xs) i o h = omega (arith, n.at i x h.0 h.1, many_at xs h.0 o h.2)

  pub several : Nests (many r) (deepest d)
  several = record { at = λ i xs o h. many_at xs i o h }

  pub one_or_more : Nests (some r) (deepest d)
  one_or_more = record { at = λ i xs o h. some_at xs i o h }

-- a list of what has no brackets
several_flat : {A : Type 0} {r : Rule A} → Flat r → Flat (many r)
several_flat {A} n = restated (several n) zeros
  where
    zeros : (xs : List A) → deepest (λ _. 0) xs ≡ 0
    zeros [] = refl
    zeros (x ∷ xs) = omega (arith, zeros xs)

pub separated_flat : {A : Type 0} {r : Rule A} (is : Terminal → Bool) → apart (next_is is) bracket ≡ true → Flat r → Flat (separated is r)
separated_flat is plain n = mapped (λ x. x.1.0 ∷ x.1.1) (skip (maybe_flat (flat is plain)) (skip n (several_flat (mapped (λ x. x.1) (skip (flat is plain) n) (λ x. refl))))) (λ x. refl)

module _ {A : Type 0} {r : Rule A} {d : A → ℕ} (opening closing : Terminal → Bool) (opens : subset (next_is opening) (next_is is_opening) ≡ true) (closes : subset (next_is closing) (next_is is_closing) ≡ true) (n : Nests r d) where
  pub enclosed_by : {d' : A → ℕ} → ((i : Input) (x : A) (o : Input) → r i x o → suc (d x) ≡ d' x) → Nests (between opening r closing) d'
  enclosed_by {d'} same = record {
    at = λ i y o h.
        let opened = h.1.1 in
        let middle = h.1.2 in
        let closed = middle.2 in
        let before = opening_token opening opens i opened.0 h.1.0 opened.1 in
        let within = n.at h.1.0 h.0.1.0 middle.0 middle.1 in
        let following = closing_token closing closes middle.0 closed.0 o closed.1 in
        let more = same h.1.0 h.0.1.0 middle.0 middle.1 in
        let tree : d' y ≡ d' h.0.1.0 = ap d' h.2 in
        omega (arith, before, within, following, more, tree);
  }

  pub enclosed : Nests (between opening r closing) (λ x. suc (d x))
  enclosed = enclosed_by (λ i x o h. refl)

pub enclosed_some : {A : Type 0} {r : Rule A} {d : A → ℕ} (opening closing : Terminal → Bool) → subset (next_is opening) (next_is is_opening) ≡ true → subset (next_is closing) (next_is is_closing) ≡ true
    → Nests r d → Nests (between opening (some r) closing) (bracketed d)
enclosed_some {A} {r} {d} opening closing opens closes n = enclosed_by opening closing opens closes (one_or_more n) some_bracket
  where
    some_bracket : (i : Input) (xs : List A) (o : Input) → some r i xs o → suc (deepest d xs) ≡ bracketed d xs
    some_bracket i [] o h = absurd h
    some_bracket i (x ∷ xs) o h = refl
