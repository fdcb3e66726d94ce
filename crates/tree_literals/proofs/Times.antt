-- The same text several times.
use Rattle.std.proofs.Common.{◌≡◌, ℕ, zero, suc, ◌+◌, List, [], ◌∷◌, ◌++◌, replicate, refl, subst, arith, add-zero}
use Rattle.std.proofs.lemmas.Grind.{replicate_next}
use Rattle.tree_literals.specs.Joined.{joined}

-- no text, several times, is no text
pub empty_times : (n : ℕ) → joined (replicate n []) ≡ joined []
unfolding joined
empty_times zero = refl
empty_times (suc n) = empty_times n

module _ {S : Type 0} (puts : S → List ℕ → S → Type 0) (more : (s t u : S) (texts : List (List ℕ)) (text : List ℕ) → puts s (joined texts) t → puts t text u → puts s (joined (texts ++ text ∷ [])) u) where
  -- a sink that has stopped is as if it had taken the rest
  pub stopped_times : (s t : S) (text : List ℕ) (stopped : (x : List ℕ) → puts t x t) (n m : ℕ) → puts s (joined (replicate n text)) t → puts s (joined (replicate (n + m) text)) t
  stopped_times s t text stopped n zero h = rw add-zero h
  stopped_times s t text stopped n (suc m) h =
      let next : puts s (joined (replicate (n + 1) text)) t = rw replicate_next (more s t t (replicate n text) text h (stopped text)) in
      let same : n + 1 + m ≡ n + suc m = omega arith in
      subst (λ k. puts s (joined (replicate k text)) t) same (stopped_times s t text stopped (n + 1) m next)
