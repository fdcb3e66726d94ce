-- A valid field set: one selection set under a schema, without variables and fragments (sections 5.3, 5.4, 5.6 and 5.7). Merging and
-- @defer are not judged.
use Rattle.spec_document.specs.MeantTree.{MeantSet}
use Rattle.rule_definitions.specs.Judged.{Judged}
use Rattle.rule_document_definitions.specs.Selected.{operations}
use Rattle.rule_document_definitions.specs.Reached.{Reached}
use Rattle.rule_document_definitions.specs.FieldSets.{document_of_set}
use Rattle.book_validity.specs.Words.{Selection, Each}
use Rattle.book_validity.specs.Document.{IsValidSelection}

-- the rules on selections hold in the operation that selects this set and has nothing else
abbrev pub IsValidFieldSet : Judged → MeantSet (Unit {0}) → Type 0
IsValidFieldSet s set = Each (operations (document_of_set tt set)) (λ o. (x : Selection) → Reached (document_of_set tt set) o x → IsValidSelection s (document_of_set tt set) o x)
