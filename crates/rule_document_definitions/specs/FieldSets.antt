-- The rules on a field set: one selection set under a schema, without variables and fragments (GraphQL, October 2021, sections 5.3 to 5.8).
use Rattle.std.specs.Prelude.{[], None, Some}
use Rattle.tree_directives.specs.declared.operation_type.OperationType.TheVariants as operation
use Rattle.spec_document.specs.MeantTree.{MeantSet, MeantDocument}
use Rattle.rule_definitions.specs.Judged.{Judged}
use Rattle.rule_document_definitions.specs.Places.{Places}
use Rattle.rule_document_definitions.specs.DocumentFaults.{DocumentFault, OfData}
use Rattle.rule_document_definitions.specs.DocumentRules.{DataBreaks}
use Rattle.rule_document_definitions.specs.Limits.{PathBoundFails}

-- a document that has one operation, a query that selects this set, and nothing else
abbrev pub document_of_set : {P : Type 0} → P → MeantSet P → MeantDocument P
document_of_set place set = record {
  anonymous = Some (record { place = place; operation_type = operation.Query; name = None; variables = []; directives = []; set = set });
  named = [];
  fragments = [];
}

module _ {P E : Type 0} (places : Places P) where
  -- a rule other than those on merging, subscriptions and `@defer` is broken, with this fault
  abbrev pub FieldSetFails : Judged → MeantSet P → DocumentFault P E → Type 0
  FieldSetFails s set (OfData fault) = DataBreaks places s (document_of_set places.nowhere set) fault
  FieldSetFails s set _ = ⊥

  -- a path of selections is longer than the bound, with this fault
  abbrev pub FieldSetBoundFails : MeantSet P → DocumentFault P E → Type 0
  FieldSetBoundFails set fault = PathBoundFails places (document_of_set places.nowhere set) fault
