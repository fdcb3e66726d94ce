-- The verdict: which documents keep the rules. It does not depend on places, so it is defined for documents
-- without them.
use Rattle.std.specs.Prelude.{Contains}
use Rattle.spec_document.specs.MeantTree.{MeantSet, MeantOperation, MeantDocument}
use Rattle.rule_definitions.specs.Judged.{Judged}
use Rattle.rule_document_definitions.specs.Places.{Places}
use Rattle.rule_document_definitions.specs.DocumentFaults.{DocumentFault}
use Rattle.rule_document_definitions.specs.Selected.{operations}
use Rattle.rule_document_definitions.specs.Merging.{FieldsMerge}
use Rattle.rule_document_definitions.specs.DocumentRules.{RulesFail}
use Rattle.rule_document_definitions.specs.Limits.{BoundFails}
use Rattle.rule_document_definitions.specs.FieldSets.{FieldSetFails, FieldSetBoundFails}
use Rattle.rule_document_definitions.specs.Standalone.{StandaloneFails}

-- no places: each is the unit value
abbrev pub no_places : Places (Unit {0})
no_places = record { at = λ a. tt; Spans = λ from to whole. Unit {0}; nowhere = tt }

abbrev pub UnplacedFault : Type 0
UnplacedFault = DocumentFault (Unit {0}) (Unit {0})

module _ (s : Judged) (d : MeantDocument (Unit {0})) where
  -- every rule on documents holds
  abbrev pub DocumentRules : Type 0
  DocumentRules = (fault : UnplacedFault) → RulesFail no_places s d fault → ⊥

  -- the fields of each operation merge
  abbrev pub Merging : Type 0
  Merging = (o : MeantOperation (Unit {0})) → Contains (operations d) o → FieldsMerge s d o

-- SpreadBound, PathBound and ChainBound are not passed
abbrev pub WithinBounds : MeantDocument (Unit {0}) → Type 0
WithinBounds d = (fault : UnplacedFault) → BoundFails no_places d fault → ⊥

-- every rule on field sets holds; below, the bound is not passed
abbrev pub FieldSetRules : Judged → MeantSet (Unit {0}) → Type 0
FieldSetRules s set = (fault : UnplacedFault) → FieldSetFails no_places s set fault → ⊥

abbrev pub FieldSetWithinBounds : MeantSet (Unit {0}) → Type 0
FieldSetWithinBounds set = (fault : UnplacedFault) → FieldSetBoundFails no_places set fault → ⊥

-- every rule on documents without a schema holds
abbrev pub StandaloneRules : MeantDocument (Unit {0}) → Type 0
StandaloneRules d = (fault : UnplacedFault) → StandaloneFails no_places d fault → ⊥
