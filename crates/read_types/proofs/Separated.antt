-- Lists with marks between are read item by item.
use Rattle.std.proofs.Common.{◌≡◌, Bool, true, false, cond, List, [], ◌∷◌, Option, Some, None, Ok, Err, refl, arith}
use Rattle.read_tokens.specs.declared.terminal.Terminal.{Terminal}
use Rattle.read_tokens.specs.Input.{Input, next}
use Rattle.read_grammar.specs.Kinds.{next_is}
use Rattle.read_grammar.specs.Reading.{Outcome, Parser, and_then, mark, many, following, separated}
use Rattle.read_grammar.proofs.Steady as st
use Rattle.read_grammar.proofs.Steady.{Steady}
use Rattle.read_grammar.proofs.Steps.{with_front}
use Rattle.read_types.specs.MemberSteps.{first}

abbrev done : {A : Type 0} → A → Input → Outcome A
done x z = Ok (x, z)

-- one more after a mark looks at no token after the first that it does not take
pub after_steady : {A : Type 0} (is : Terminal → Bool) {p : Parser A} → Steady 1 p p → Steady 1 (following is p) (following is p)
after_steady is h = st.counted 1 (omega arith) (st.mapped (λ x. x.1) (st.seq (st.mark is) h))

module _ {A : Type 0} (is : Terminal → Bool) (p : Parser A) where
  -- what is read after the first item
  abbrev pub others_from : Outcome A → Outcome (List A)
  others_from y = and_then y (λ x o. with_front (x ∷ []) (many is (following is p) o))

  abbrev Mark : Type 0
  Mark = Option (Unit {0})

  abbrev Read : Type 0
  Read = Mark × (A × List A)

  abbrev item_of : Read → List A
  item_of x = x.1.0 ∷ x.1.1

  abbrev with_mark : Mark → A × List A → Read
  with_mark s r = (s, r)

  abbrev pair : A → List A → A × List A
  pair x xs = (x, xs)

  abbrev after_mark : Unit {0} → A → Unit {0} × A
  after_mark u x = (u, x)

  abbrev joined : Mark → Outcome (A × List A) → Outcome (List A)
  joined s y = and_then (and_then y (λ r o. done (with_mark s r) o)) (λ x o. done (item_of x) o)

  abbrev paired : A → Outcome (List A) → Outcome (A × List A)
  paired x y = and_then y (λ xs z. done (pair x xs) z)

  abbrev read_from : Outcome A → Outcome (A × List A)
  read_from y = and_then y (λ x o. paired x (many is (following is p) o))

  abbrev marked_from : Unit {0} → Outcome A → Outcome A
  marked_from u y = and_then (and_then y (λ x o. done (after_mark u x) o)) (λ x o. done x.1 o)

  last : (s : Mark) (x : A) (y : Outcome (List A)) → joined s (paired x y) ≡ with_front (x ∷ []) y
  last s x (Ok z) = refl
  last s x (Err e) = refl

  plain : (y : Outcome A) → joined None (read_from y) ≡ others_from y
  plain (Ok z) = last None z.0 (many is (following is p) z.1)
  plain (Err e) = refl

  marked : (u : Unit {0}) (y : Outcome A) → joined (Some u) (read_from y) ≡ others_from (marked_from u y)
  marked u (Ok z) = last (Some u) z.0 (many is (following is p) z.1)
  marked u (Err e) = refl

  abbrev mark_read : Bool → Outcome (Unit {0}) → Input → Outcome Mark
  mark_read t y i = cond t (and_then y (λ u o. done (Some u) o)) (done None i)

  pub separated_is : (i : Input) → separated is p i ≡ others_from (first is p i)
  separated_is i = go (next_is is (next i)) (mark is i)
    where
      go : (t : Bool) (y : Outcome (Unit {0}))
          → and_then (and_then (mark_read t y i) (λ s m. and_then (read_from (p m)) (λ r o. done (with_mark s r) o))) (λ x o. done (item_of x) o)
          ≡ others_from (cond t (and_then (and_then y (λ u m. and_then (p m) (λ x o. done (after_mark u x) o))) (λ x o. done x.1 o)) (p i))
      go true (Ok k) = marked k.0 (p k.1)
      go true (Err e) = refl
      go false y = plain (p i)
