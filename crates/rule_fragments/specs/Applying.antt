-- Conditions with which inline fragments may apply, under the names of the types of the sets that they are in.
use Rattle.std.specs.Prelude.{ℕ, List, Contains, Option}
use Rattle.indexmap.specs.IndexMap.{IndexMap}
use Rattle.indexmap.specs.IndexSet.{IndexSet}
use Rattle.graphql_names.specs.NameValue.{NameValue}
use Rattle.rule_definitions.specs.Judged.{Judged}
use Rattle.rule_document_definitions.specs.PossibleTypes.{IsNotComposite, MayApply}
use Rattle.rule_fragments.specs.Held.{noted_in}
use Rattle.rule_fragments.specs.Possible.{ObjectsOfTypes, ArePossibleIfFound}

module _ (s : Judged) where
  -- each condition that a map has under the name of a type is no type without fields, and a fragment on it may apply there
  abbrev pub MayApplyWhereNoted : {S T : Type 0} → IndexMap NameValue (IndexSet NameValue S) T → Type 0
  MayApplyWhereNoted m = (t c : List ℕ) → Contains (noted_in m.entries t) c → (IsNotComposite s c → ⊥) × MayApply s t c

  -- the same; and the possible types are right, if they are found
  abbrev pub KnowsWhatApplies : {S T : Type 0} → Option ObjectsOfTypes → IndexMap NameValue (IndexSet NameValue S) T → Type 0
  KnowsWhatApplies possible m = ArePossibleIfFound s possible × MayApplyWhereNoted m
