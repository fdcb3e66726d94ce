-- Fragments are stored under their own names, as in every document for which `TypedByPlace` of `document_typing`
-- holds.
use Rattle.std.specs.Prelude.{◌≡◌, Contains, Some}
use Rattle.spec_document.specs.MeantTree.{MeantFragment, MeantDocument}
use Rattle.rule_document_definitions.specs.Selected.{fragments, fragment_named}

-- a lookup of the name of each fragment of the document finds that fragment
abbrev pub FragmentsFoundByName : {P : Type 0} → MeantDocument P → Type 0
FragmentsFoundByName {P} d = (f : MeantFragment P) → Contains (fragments d) f → fragment_named d f.name.it ≡ Some f
