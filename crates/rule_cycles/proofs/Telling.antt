-- What is told of the roots of a graph, one after the other.
use Rattle.std.proofs.Common.{◌≡◌, ℕ, ◌+◌, List, [], ◌++◌, refl, ap, subst, ◌∙◌, inl, inr, arith}
use Rattle.std.specs.Prelude.{Contains}
use Rattle.std.proofs.lemmas.Bool.{cases_lt}
use Rattle.std.proofs.lemmas.List.Elements.{Contains-append_cases, Contains-append_left, Contains-append_right}
use Rattle.fault_data.specs.Room.{◌⊕◌}
use Rattle.fault_data.proofs.Room.{room_both}
use Rattle.rule_cycle_search.specs.declared.graph.Graph.{Graph}
use Rattle.rule_cycle_search.specs.Graph.{IsCycleThrough}
use Rattle.rule_cycle_search.specs.declared.found.Found.{Found}
use Rattle.rule_cycle_search.specs.declared.found.Found.TheVariants.{Nothing, Cycle, Deep}
use Rattle.rule_cycle_search.specs.Found.{Finds}
use Rattle.rule_cycles.specs.Telling.{TellsFound, IsOfRoot, TellsRoot, TellsRoots}
use Rattle.rule_cycle_search.proofs.Lists.{not_in_nil}

module _ {F : Type 0} (Recursive : ℕ → List ℕ → List F → Type 0) (IsTooLong : ℕ → List F → Type 0) (g : Graph) where
  pub TellsRoots-none : (old : List F) → TellsRoots Recursive IsTooLong g 0 old old
  TellsRoots-none old = record {
    added = [];
    is = refl;
    right = λ f c. not_in_nil f c;
    full = λ root h path way. absurd (omega arith);
  }

  module _ (number : ℕ) (old middle new : List F) (before : TellsRoots Recursive IsTooLong g number old middle) where
    -- nothing is told of this root
    silent : (same : new ≡ middle) → ((path : List ℕ) → IsCycleThrough g number path → ⊥) → TellsRoots Recursive IsTooLong g (number + 1) old new
    silent same none = record {
      added = before.added;
      is = same ∙ before.is;
      right = before.right;
      full = λ root h path way. elim (cases_lt root number) [
        | inl low ↦ before.full root low path way
        | inr high ↦ let here : root ≡ number = omega arith in absurd (none path (subst (λ r. IsCycleThrough g r path) here way))
      ];
    }

    -- this is told of it
    told : (l : List F) → IsOfRoot Recursive IsTooLong g number l → new ≡ middle ⊕ l → TellsRoots Recursive IsTooLong g (number + 1) old new
    told l of is = record {
      added = before.added ++ l;
      is = is ∙ ap (λ k. k ⊕ l) before.is ∙ room_both old before.added l;
      right = λ f c. elim (Contains-append_cases before.added l f c) [ inl m ↦ before.right f m | inr m ↦ (number, (l, (of, m))) ];
      full = λ root h path way. elim (cases_lt root number) [
        | inl low ↦
            let earlier : (k : List F) × (IsOfRoot Recursive IsTooLong g root k × ((f : F) → Contains k f → Contains before.added f)) = before.full root low path way in
            (earlier.0, (earlier.1.0, λ f c. Contains-append_left before.added l f (earlier.1.1 f c)))
        | inr high ↦
            let here : number ≡ root = omega arith in
            (l, (subst (λ r. IsOfRoot Recursive IsTooLong g r l) here of, λ f c. Contains-append_right before.added l f c))
      ];
    }

    pub TellsRoots-more : TellsRoot Recursive IsTooLong g number middle new → TellsRoots Recursive IsTooLong g (number + 1) old new
    TellsRoots-more (inl s) = silent s.0 s.1
    TellsRoots-more (inr t) = told t.0 t.1.0 t.1.1

  -- what is told of a root is what was found of it
  pub TellsRoot-found : (root : ℕ) (found : Found) (l old new : List F) → Finds g root found → TellsFound Recursive IsTooLong root found l → new ≡ old ⊕ l → TellsRoot Recursive IsTooLong g root old new
  TellsRoot-found root Nothing l old new a t e = inl (e ∙ ap (λ k. old ⊕ k) t, a)
  TellsRoot-found root (Cycle path) l old new a t e = inr (l, (inl (path.items, (a, t)), e))
  TellsRoot-found root Deep l old new a t e = inr (l, (inr (a, t), e))
