-- What is told of a document, and where.
use Rattle.graphql_names.specs.Placed.{Placed}
use Rattle.fault_document_errors.specs.DocumentBreaches.{DocumentBreach}
use Rattle.rule_definitions.specs.Faults.{FaultAt}

-- a breach of a rule on merging, subscriptions or `@defer`, with its place
abbrev pub Broken : Type 0 → Type 0
Broken P = Placed P (DocumentBreach P)

abbrev pub broken : {P : Type 0} → P → DocumentBreach P → Broken P
broken place breach = record { it = breach; place = place }

-- a fault of a rule with data (`Diagnostic`), one of a rule of documents alone (`DocumentBreach`), or a limit of
-- recursion; P is the type of places, E that of the places of a type's extensions
pub data DocumentFault (P E : Type 0) : Type 0 where
  OfData : FaultAt P E → DocumentFault P E
  OfDocument : Broken P → DocumentFault P E
  OfLimit : (place : P) → DocumentFault P E
