-- Where no node refers to another, nothing is found of any root.
use Rattle.std.proofs.Common.{◌≡◌, ℕ, List, [], ap, subst, ◌∙◌, Some, length, zero, suc}
use Rattle.std.specs.Prelude.{Contains, replicate, slice_get}
use Rattle.std.proofs.lemmas.List.{length-replicate}
use Rattle.std.proofs.lemmas.Option.{same_Some}
use Rattle.rule_cycle_search.specs.declared.graph.Graph.{Graph}
use Rattle.rule_cycle_search.specs.declared.found.Found.{Found}
use Rattle.rule_cycle_search.specs.declared.found.Found.TheVariants.{Nothing}
use Rattle.rule_cycle_search.specs.Graph.{references, IsCycleThrough}
use Rattle.rule_cycle_search.specs.Found.{Finds, AreFound}
use Rattle.rule_cycle_search.proofs.Lists.{not_in_nil}

repeated : {X : Type 0} (k : ℕ) (x y : X) (n : ℕ) → slice_get (replicate k x) n ≡ Some y → x ≡ y
repeated zero x y n h = absurd cc
repeated (suc k) x y zero h = same_Some x y h
repeated (suc k) x y (suc n) h = repeated k x y n h

module _ (g : Graph) (none : (n : ℕ) → references g n ≡ []) where
  no_way : (root : ℕ) → Finds g root Nothing
  no_way root path way = not_in_nil way.0 (subst (λ (l : List ℕ). Contains l way.0) (none root) way.1.1.1.1.0.0)

  pub nothing_found : (all : List Found) → all ≡ replicate g.roots Nothing → AreFound g all
  nothing_found all is = record {
    long = ap length is ∙ length-replicate g.roots Nothing;
    each = λ root found h. subst (Finds g root) (repeated g.roots Nothing found root (subst (λ (l : List Found). slice_get l root ≡ Some found) is h)) (no_way root);
  }
