-- Rules on fragments (GraphQL, October 2021, section 5.5).
use Rattle.std.specs.Prelude.{◌≡◌, ℕ, List, ◌∷◌, reverse, Contains, Option, None, Some, ◌⊎◌}
use Rattle.graphql_names.specs.Placed.{Placed}
use Rattle.tree_directives.specs.DirectiveTree.{unplaced_directives}
use Rattle.rule_definitions.specs.in_schema_types.Addresses.{TypeAt}
use Rattle.spec_document.specs.MeantTree.{MeantSelection, MeantSpread, MeantOperation, MeantFragment, MeantDocument}
use Rattle.rule_definitions.specs.Diagnostics.{SpreadTree, UndefinedFragment, UnusedFragment, RecursiveFragmentDefinition, InvalidFragmentTarget, InvalidFragmentSpread}
use Rattle.rule_definitions.specs.Words.{Present}
use Rattle.rule_definitions.specs.Faults.{FaultAt, wrong}
use Rattle.rule_definitions.specs.Judged.{Judged}
use Rattle.rule_cycle_search.specs.Paths.{Leads}
use Rattle.rule_document_definitions.specs.Places.{Places}
use Rattle.rule_document_definitions.specs.Selected.{InFragment, Standing, all_in, spread_name, inline_condition, selection_place, fragments, fragment_named}
use Rattle.rule_document_definitions.specs.Reached.{ReachesFragment, AtOperation, AtReached, AtReachedFragment}
use Rattle.rule_document_definitions.specs.PossibleTypes.{IsNotComposite, MayApply}

-- ---- references

-- the selection, if it is a spread: without places in it, with its own place
abbrev pub as_spread : {P : Type 0} → MeantSelection P → Option (Placed P SpreadTree)
as_spread (MeantSpread p n ds) = Some (record { it = record { fragment_name = n.it; directives = unplaced_directives ds }; place = p })
as_spread _ = None

-- a fragment refers to another by a spread, at any depth of its selections
abbrev pub RefersBySpread : {P : Type 0} → MeantDocument P → List ℕ → Placed P SpreadTree → List ℕ → Type 0
RefersBySpread {P} d n by to = Present (fragment_named d n) (λ f. (x : Standing P) × (
    Contains (all_in (InFragment n) f.set) x × ((as_spread x.it ≡ Some by) × ((by.it.fragment_name ≡ to) × Present (fragment_named d to) (λ g. Unit {0})))))

-- spreads lead from the fragment back to it
abbrev pub ReachesItself : {P : Type 0} → MeantDocument P → MeantFragment P → Type 0
ReachesItself {P} d f = (by : Placed P SpreadTree) × ((rest : List (Placed P SpreadTree)) × Leads (RefersBySpread d) f.name.it (by ∷ rest) f.name.it)

-- ---- rules that need no schema

module _ {P E : Type 0} (d : MeantDocument P) (fault : FaultAt P E) where
  -- UndefinedFragment: a fragment spread is valid only if the fragment is defined (section 5.5.2.1)
  abbrev pub UndefinedFragmentAt : MeantOperation P → Type 0
  UndefinedFragmentAt o = AtReached d o (λ x. Present (spread_name x.it) (λ n.
      (fragment_named d n ≡ None) × (fault ≡ wrong (selection_place x.it) (UndefinedFragment n))))

  -- RecursiveFragmentDefinition: a fragment definition is valid only if no spreads lead from it back to it
  -- (section 5.5.2.2)
  abbrev pub RecursiveFragmentDefinitionAt : Places P → MeantOperation P → Type 0
  RecursiveFragmentDefinitionAt places o = AtReachedFragment d o (λ f. (by : Placed P SpreadTree) × ((rest : List (Placed P SpreadTree)) × (
      Leads (RefersBySpread d) f.name.it (by ∷ rest) f.name.it
      × ((head : P) × (places.Spans f.place f.name.place head
      × (fault ≡ wrong f.place (RecursiveFragmentDefinition head f.name.it (reverse (by ∷ rest)))))))))

  -- UnusedFragment: a fragment definition is valid only if an operation uses it (section 5.5.1.4)
  abbrev pub UnusedFragmentAt : Type 0
  UnusedFragmentAt = (f : MeantFragment P) × (Contains (fragments d) f
      × ((AtOperation d (λ o. ReachesFragment d o f) → ⊥) × (fault ≡ wrong f.place (UnusedFragment f.name.it))))

-- ---- rules under a schema

module _ {P E : Type 0} (s : Judged) (d : MeantDocument P) (o : MeantOperation P) (fault : FaultAt P E) where
  -- InvalidFragmentTarget: a fragment is valid only if it is on a composite type (section 5.5.1.3)
  abbrev pub InvalidFragmentTargetAt : Type 0
  InvalidFragmentTargetAt =
      AtReachedFragment d o (λ f. IsNotComposite s f.type_condition.it × (fault ≡ wrong f.place (InvalidFragmentTarget (Some f.name.it) f.type_condition.it)))
      ⊎ AtReached d o (λ x. Present (inline_condition x.it) (λ c. IsNotComposite s c × (fault ≡ wrong (selection_place x.it) (InvalidFragmentTarget None c))))

  -- InvalidFragmentSpread: a fragment is valid only if it can apply where it stands (section 5.5.2.3)
  abbrev pub InvalidFragmentSpreadAt : Places P → Type 0
  InvalidFragmentSpreadAt places = AtReached d o (λ x.
      Present (spread_name x.it) (λ n. Present (fragment_named d n) (λ f. (MayApply s x.parent f.type_condition.it → ⊥)
      × (fault ≡ wrong (selection_place x.it) (InvalidFragmentSpread (Some n) x.parent f.type_condition.it f.place (places.at (TypeAt x.parent))))))
      ⊎ Present (inline_condition x.it) (λ c. (MayApply s x.parent c → ⊥)
      × (fault ≡ wrong (selection_place x.it) (InvalidFragmentSpread None x.parent c (selection_place x.it) (places.at (TypeAt x.parent))))))

-- a rule on fragments is broken in an operation, with this fault
abbrev pub FragmentsBreak : {P E : Type 0} → Places P → Judged → MeantDocument P → MeantOperation P → FaultAt P E → Type 0
FragmentsBreak places s d o fault =
    UndefinedFragmentAt d fault o ⊎ (RecursiveFragmentDefinitionAt d fault places o
    ⊎ (InvalidFragmentTargetAt s d o fault ⊎ InvalidFragmentSpreadAt s d o fault places))
