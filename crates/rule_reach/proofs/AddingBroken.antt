-- What is added to a list of breaches of documents, check by check.
use Rattle.std.proofs.Common.{◌≡◌, ◌↔◌, ◌⊎◌, ◌++◌, ℕ, List, [], ◌∷◌, length}
use Rattle.std.specs.Prelude.{Vec, Contains}
use Rattle.std.specs.declared.alloc.Global.{Global}
use Rattle.graphql_names.specs.Placed.{Place}
use Rattle.fault_document_errors.specs.declared.build_error.BuildError.{BuildError}
use Rattle.rule_definitions.specs.Words.{AtSomeIndex}
use Rattle.rule_definitions.specs.Room.{◌⊕◌}
use Rattle.rule_definitions.proofs.Listing.{lists_one}
use Rattle.rule_definitions.proofs.Adding.{gains_both, gains_same, gains_nothing, gains_none, gains_more}
use Rattle.rule_document_definitions.specs.DocumentFaults.{Broken}
use Rattle.rule_reach.specs.Broken.{brokens_of, AddsBroken}

abbrev pub Breaches : Type 0
Breaches = Vec (Place × BuildError) Global

-- what is told as a list that has what breaks a rule, and nothing else
pub broken_listed : (old new : Breaches) (l : List (Broken Place)) (R : Broken Place → Type 0) → brokens_of new ≡ brokens_of old ⊕ l → ((f : Broken Place) → Contains l f ↔ R f) → AddsBroken old new R
broken_listed old new l R e h = (l, (e, h))

-- nothing, where no rule breaks
pub broken_nothing : (old : Breaches) (R : Broken Place → Type 0) → ((f : Broken Place) → R f → ⊥) → AddsBroken old old R
broken_nothing old R never = gains_nothing (brokens_of old) R never

-- one
pub broken_one : (old new : Breaches) (x : Broken Place) → brokens_of new ≡ brokens_of old ⊕ (x ∷ []) → AddsBroken old new (λ f. f ≡ x)
broken_one old new x e = (x ∷ [], (e, lists_one x))

-- one check after another
pub broken_both : (old next new : Breaches) (R S : Broken Place → Type 0) → AddsBroken old next R → AddsBroken next new S → AddsBroken old new (λ f. R f ⊎ S f)
broken_both old next new R S a b = gains_both (brokens_of old) (brokens_of next) (brokens_of new) a b

-- by rules that say the same
pub broken_same : (old new : Breaches) (R S : Broken Place → Type 0) → ((f : Broken Place) → R f ↔ S f) → AddsBroken old new R → AddsBroken old new S
broken_same old new R S same a = gains_same (brokens_of old) (brokens_of new) same a

-- over a loop: no element yet, and one element more
pub broken_none : {X : Type 0} (old : Breaches) (R : ℕ → X → Broken Place → Type 0) → AddsBroken old old (λ f. AtSomeIndex [] (λ k x. R k x f))
broken_none old R = gains_none (brokens_of old) R

pub broken_more : {X : Type 0} (old next new : Breaches) (ys zs : List X) (y : X) (R : ℕ → X → Broken Place → Type 0) → zs ≡ ys ++ y ∷ []
    → AddsBroken old next (λ f. AtSomeIndex ys (λ k x. R k x f)) → AddsBroken next new (R (length ys) y) → AddsBroken old new (λ f. AtSomeIndex zs (λ k x. R k x f))
broken_more old next new ys zs y R e a b = gains_more (brokens_of old) (brokens_of next) (brokens_of new) ys zs y R e a b
