-- What rules make is at the place where it was read.
use Rattle.std.proofs.Common.{◌≡◌, ℕ, Bool, true, false, ◌&&◌, sym, subst}
use Rattle.std.proofs.lemmas.Bool.{and_from}
use Rattle.read_grammar.specs.Meaning.{Meaning, begin_of}
use Rattle.read_grammar.specs.Rules as rule
use Rattle.read_grammar.specs.Rules.{Rule}
use Rattle.graphql_read.proofs.Makes.{Makes, four}

-- each place passes that the meaning gives
pub record Gives {P : Type 0} (m : Meaning P) (passes : P → Bool) : Type 0 where
  pub all : (begin end : ℕ) → passes (m.place begin end) ≡ true

pub stands : {P A : Type 0} {r : Rule A} {g : A → Bool} (m : Meaning P) (passes : P → Bool) → Gives m passes → Makes r g → Makes (rule.placed m r) (λ x. passes x.place && g x.it)
stands {P} {A} {r} {g} m passes gives rr = record {
  holds = λ i x o known h.
      let k = rr.holds i x.it o known h.0 in
      let here = subst (λ (p : P). passes p ≡ true) (sym h.1) (gives.all (begin_of i.ahead) o.last) in
      (and_from (passes x.place) (g x.it) here k.0, k.1);
}

-- ---- tests put together otherwise

pub five : (a b c d e : Bool) → (a && (b && (c && (d && e)))) ≡ true → (a && b && c && d && e) ≡ true
five true b c d e h = four b c d e h
five false b c d e h = h
