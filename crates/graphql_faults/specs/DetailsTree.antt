-- What is wrong with texts, schemas and documents, with its data.
use Rattle.std.specs.Prelude.{List}
use Rattle.graphql_names.specs.Placed.{Place}
use Rattle.graphql_read.specs.declared.fault.SyntaxFaultKind.{SyntaxFaultKind}
use Rattle.schema_fold.specs.BuildErrors as folding
use Rattle.schema_fold.specs.BuildErrors.{Breach}
use Rattle.fault_document_errors.specs.DocumentBreaches.{DocumentBreach, TypingFault}
use Rattle.fault_data.specs.in_rule_definitions.Diagnostics.{Diagnostic}
use Rattle.fault_data.specs.in_rule_definitions.Faults.{FaultAt}
use Rattle.rule_document_definitions.specs.DocumentFaults.{DocumentFault, OfData, OfDocument, OfLimit}

-- P is the type of the places that belong to the data, E that of the places of a type's extensions
pub data DetailsTree (P E : Type 0) : Type 0 where
  Syntax : (kind : SyntaxFaultKind) → DetailsTree P E
  Nesting : DetailsTree P E
  Spent : DetailsTree P E
  SchemaBuild : Breach → DetailsTree P E
  DocumentBuild : DocumentBreach P → DetailsTree P E
  Data : Diagnostic P E → DetailsTree P E
  RecursionLimitError : DetailsTree P E

-- what is wrong, and where
pub record DetailsAt (P E : Type 0) : Type 0 where
  pub place : P
  pub details : DetailsTree P E

-- a fault of a rule on schemas, uses, values or documents
abbrev pub of_rule : {P E : Type 0} → FaultAt P E → DetailsAt P E
of_rule f = record { place = f.place; details = Data f.breach }

-- a fault of a rule of folding
abbrev pub of_folding : folding.BuildFault → DetailsAt Place (List Place)
of_folding f = record { place = f.place; details = SchemaBuild f.breach }

-- a fault of a rule of typing
abbrev pub of_typing : TypingFault Place → DetailsAt Place (List Place)
of_typing f = record { place = f.place; details = DocumentBuild f.breach }

-- what is told of a document
abbrev pub of_document : DocumentFault Place (List Place) → DetailsAt Place (List Place)
of_document (OfData fault) = of_rule fault
of_document (OfDocument broken) = record { place = broken.place; details = DocumentBuild broken.it }
of_document (OfLimit place) = record { place = place; details = RecursionLimitError }

-- what a list tells, in order
abbrev pub Telling : Type 0
Telling = List (DetailsAt Place (List Place))
