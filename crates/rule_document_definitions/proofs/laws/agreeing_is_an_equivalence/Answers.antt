use Rattle.rule_document_definitions.proofs.Equivalences.{shape_sym, shape_trans, selection_sym, selection_trans}
use Rattle.rule_document_definitions.proofs.Reflexive.{shape_refl, selection_refl}
use Rattle.rule_document_definitions.proofs.laws.agreeing_is_an_equivalence.Goals as goal

pub returns-clause-shapes : goal.returns-clause-shapes
returns-clause-shapes c s = record { reflexive = shape_refl s; symmetric = shape_sym s; transitive = shape_trans s }

pub returns-clause-selections : goal.returns-clause-selections
returns-clause-selections c = record { reflexive = selection_refl; symmetric = selection_sym; transitive = selection_trans }
