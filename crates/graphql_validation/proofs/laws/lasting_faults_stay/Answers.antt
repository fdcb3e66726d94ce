use Rattle.std.proofs.Common.{inl, inr}
use Rattle.rule_definitions.specs.Judged.{judged}
use Rattle.rule_document_definitions.specs.PlacedDocumentFaults.{places_in}
use Rattle.graphql_validation.proofs.Staying.{lasting_stays, cycle_stays}
use Rattle.graphql_validation.proofs.Reasons.{lasting_is_fault, cycle_is_fault, same_document}
use Rattle.graphql_validation.proofs.laws.lasting_faults_stay.Goals as goal

pub returns-clause-stay : goal.returns-clause-stay
returns-clause-stay c s d e fault part h = elim h [
  | inl a ↦ inl (lasting_stays d e part (places_in s) (judged s) fault a)
  | inr a ↦ inr (cycle_stays d e part (places_in s) (judged s) fault a)
]

pub returns-clause-faults : goal.returns-clause-faults
returns-clause-faults c s d fault h = elim h [
  | inl a ↦ lasting_is_fault (places_in s) (judged s) d fault a
  | inr a ↦ cycle_is_fault (places_in s) (judged s) d fault a
]

pub returns-clause-part : goal.returns-clause-part
returns-clause-part c d = same_document d
