-- The bounds on documents: no rules, but what may be told if one is passed. None of them depends on an order of traversal.
use Rattle.std.specs.Prelude.{◌≡◌, ℕ, ◌<◌, List, [], ◌∷◌, ◌++◌, length, codes, option_to_list, Contains, ◌⊎◌}
use Rattle.spec_document.specs.MeantTree.{MeantOperation, MeantFragment, MeantDocument}
use Rattle.rule_definitions.specs.Diagnostics.{RecursionError, DeeplyNestedType}
use Rattle.rule_definitions.specs.Faults.{wrong}
use Rattle.rule_cycle_search.specs.Paths.{IsWay, HasNoRepeat}
use Rattle.rule_document_definitions.specs.Places.{Places}
use Rattle.rule_document_definitions.specs.DocumentFaults.{DocumentFault, OfData, OfLimit}
use Rattle.rule_document_definitions.specs.Selected.{Standing, StandingField, fragments, spread_name, all_selections}
use Rattle.rule_document_definitions.specs.Reached.{LeadsInto, AtOperation}
use Rattle.rule_document_definitions.specs.Fragments.{RefersBySpread}
use Rattle.rule_document_definitions.specs.Chains.{Chain}
use Rattle.rule_document_definitions.specs.Merging.{Below, Starts}

-- the greatest number of fragments on a path of spreads; below, the greatest length of a path of selections, and of a chain of fields
abbrev pub spread_bound : ℕ
spread_bound = 100

abbrev pub path_bound : ℕ
path_bound = 500

abbrev pub chain_bound : ℕ
chain_bound = 128

-- the names of the fragments that a path of selections enters: if its last selection is a spread, that fragment is not entered
abbrev pub entered : {P : Type 0} → List (Standing P) → List (List ℕ)
entered (x ∷ y ∷ path) = option_to_list (spread_name x.it) ++ entered (y ∷ path)
entered _ = []

module _ {P : Type 0} (d : MeantDocument P) where
  -- a path of spreads without repetition from the fragment has more fragments than the bound
  abbrev pub PassesSpreadBound : MeantFragment P → Type 0
  PassesSpreadBound f = (rest : List (List ℕ)) × (IsWay (RefersBySpread d) (f.name.it ∷ rest) × (HasNoRepeat (f.name.it ∷ rest)
      × (spread_bound < length (f.name.it ∷ rest))))

  -- the selection x of a path leads into the next, y
  abbrev pub Enters : Standing P → Unit {0} → Standing P → Type 0
  Enters x by y = LeadsInto d x y

  -- a path of selections is longer than the bound: each is inside the one before or inside the fragment that it spreads, and no fragment is
  -- entered twice
  abbrev pub PassesPathBound : Type 0
  PassesPathBound = (x : Standing P) × ((path : List (Standing P)) × (Contains (all_selections d) x × (IsWay Enters (x ∷ path)
      × (HasNoRepeat (entered (x ∷ path)) × (path_bound < length (x ∷ path))))))

  -- a chain of fields that begins with a root field of the operation is longer than the bound
  abbrev pub PassesChainBound : MeantOperation P → Type 0
  PassesChainBound o = (c : List (StandingField P)) × (Chain (Below d) (Starts d o) c × (chain_bound < length c))

module _ {P E : Type 0} (places : Places P) (d : MeantDocument P) (fault : DocumentFault P E) where
  -- DeeplyNestedType: a fragment definition is valid only if no path of spreads from it holds more than 100 fragments; told
  -- from the first token of the definition to its name
  abbrev pub SpreadBoundFails : Type 0
  SpreadBoundFails = (f : MeantFragment P) × (Contains (fragments d) f × (PassesSpreadBound d f × ((head : P) × (places.Spans f.place f.name.place head
      × (fault ≡ OfData (wrong head (DeeplyNestedType f.name.it (codes "fragment"))))))))

  -- RecursionError or RecursionLimitError, without a place
  abbrev pub PathBoundFails : Type 0
  PathBoundFails = PassesPathBound d × ((fault ≡ OfData (wrong places.nowhere RecursionError)) ⊎ (fault ≡ OfLimit places.nowhere))

  -- RecursionLimitError, at the operation
  abbrev pub ChainBoundFails : Type 0
  ChainBoundFails = AtOperation d (λ o. PassesChainBound d o × (fault ≡ OfLimit o.place))

  -- SpreadBound, PathBound or ChainBound is passed, with this fault
  abbrev pub BoundFails : Type 0
  BoundFails = SpreadBoundFails ⊎ (PathBoundFails ⊎ ChainBoundFails)
