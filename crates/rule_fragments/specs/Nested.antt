-- Paths of selections in the text of one operation or fragment: some of the paths of `Limits.antt` of the rules' definitions.
use Rattle.std.specs.Prelude.{ℕ, ◌-◌, ◌<◌, Bool, false, ◌||◌, nat_eq, List, ◌∷◌, length, Contains, ◌⊎◌}
use Rattle.std.specs.List.{list_any}
use Rattle.spec_document.specs.MeantTree.{MeantSelection, MeantField, MeantSpread, MeantInline, MeantSet, meant_set, MeantSelections, no_meant, meant_then, MeantFragment, MeantDocument}
use Rattle.rule_cycle_search.specs.Paths.{IsWay}
use Rattle.rule_document_definitions.specs.Selected.{Standing, in_inline, operations, fragments, own, held}
use Rattle.rule_document_definitions.specs.Reached.{AtOperation, InField}
use Rattle.rule_document_definitions.specs.Limits.{path_bound}

module _ {P : Type 0} (d : MeantDocument P) where
  -- y is in the set of x, a field or an inline fragment
  abbrev pub HasInside : Standing P → Unit {0} → Standing P → Type 0
  HasInside x by y = InField d x y ⊎ Contains (in_inline x.position x.it) y

  -- x is in the set of an operation or of a fragment itself
  abbrev pub IsOutermost : Standing P → Type 0
  IsOutermost x = AtOperation d (λ o. Contains (own o) x) ⊎ ((f : MeantFragment P) × (Contains (fragments d) f × Contains (held f) x))

  -- a path from such a selection, each selection in the set of the one before, is longer than the bound
  abbrev pub NestsTooDeep : Type 0
  NestsTooDeep = (x : Standing P) × ((path : List (Standing P)) × (IsOutermost x × (IsWay HasInside (x ∷ path) × (path_bound < length (x ∷ path)))))

-- private: some path from a selection of the set, without spreads between, has more than `b` selections
abbrev mutual
  pub deeper_in : {P : Type 0} → ℕ → MeantSet P → Bool
  deeper_in b (meant_set t ss) = deeper_along b ss

  pub deeper_along : {P : Type 0} → ℕ → MeantSelections P → Bool
  deeper_along b no_meant = false
  deeper_along b (meant_then s ss) = deeper_of b s || deeper_along b ss

  pub deeper_of : {P : Type 0} → ℕ → MeantSelection P → Bool
  deeper_of b (MeantField p d h s) = nat_eq b 0 || deeper_in (b - 1) s
  deeper_of b (MeantSpread p n ds) = nat_eq b 0
  deeper_of b (MeantInline p c ds s) = nat_eq b 0 || deeper_in (b - 1) s

-- private: such a path is longer than the bound in some operation or fragment
abbrev pub some_nests : {P : Type 0} → MeantDocument P → Bool
some_nests d = list_any (λ o. deeper_in path_bound o.set) (operations d) || list_any (λ f. deeper_in path_bound f.set) (fragments d)
