use Rattle.std.proofs.Common.{refl, subst}
use Rattle.std.proofs.lemmas.Result.{on_ok_weaker}
use Rattle.fault_data.specs.FaultView.{faults_of}
use Rattle.document_typed_selections.specs.TypedTree.{typed_set_tree}
use Rattle.document_typed_operations.specs.declared.operation.Operation.{Operation}
use Rattle.rule_fragments.specs.in_typed_operations.DocumentView.{document_meant, operation_meant}
use Rattle.rule_document_definitions.specs.PlacedDocumentFaults.{places_alone}
use Rattle.rule_fragments.specs.in_reach.NotedNames.{noted_names}
use Rattle.rule_definitions.proofs.Adding.{gains_both, gains_same}
use Rattle.rule_fragments.specs.in_reach.Reach.{reached_members, reached_fragments_of}
use Rattle.rule_fragments.proofs.in_reach.OfDocuments.{ReachesFrom, operation_reaches}
use Rattle.graphql_validation.proofs.Noting.{fragments_noted}
use Rattle.graphql_validation.proofs.Ordered.{ordered_alone}
use Rattle.graphql_validation.proofs.alone.check_operation.Goals as goal

pub returns-clause-told : goal.returns-clause-told
returns-clause-told c =
    let d = document_meant c.args.document.now in
    let o = operation_meant c.args.operation.now in
    let r = c.in_ok-reach.reach in
    let reaches = operation_reaches c.args.document.now c.args.operation.now r (subst (λ (x : Operation). ReachesFrom (typed_set_tree x.selection_set) c.args.document.now.fragments r) c.content.ensures c.in_ok-reach.ensures) in
    let a = faults_of c.args.found.now.faults in
    let b = faults_of c.check_variables_alone.new.faults in
    let e = faults_of c.check_spreads.new.faults in
    let z = faults_of c.check_selections_alone.new.faults in
    on_ok_weaker c.note_fragments.result
    (λ h. gains_same a z (λ f. ordered_alone d o f)
    (gains_both a b z (c.in_ok-check_variables_alone.ensures places_alone.at d reaches)
    (gains_both b e z (c.in_ok-check_spreads.ensures d o reaches refl) (c.in_ok-check_selections_alone.ensures d reaches))))
    c.note_fragments.ensures

pub returns-clause-noted : goal.returns-clause-noted
returns-clause-noted c =
    let d = document_meant c.args.document.now in
    let o = operation_meant c.args.operation.now in
    let r = c.in_ok-reach.reach in
    let reaches = operation_reaches c.args.document.now c.args.operation.now r (subst (λ (x : Operation). ReachesFrom (typed_set_tree x.selection_set) c.args.document.now.fragments r) c.content.ensures c.in_ok-reach.ensures) in
    on_ok_weaker c.note_fragments.result
    (λ h. fragments_noted d o (reached_members r) (reached_fragments_of r) reaches (noted_names c.args.found.now.used) (noted_names c.note_fragments.new.names) h)
    c.note_fragments.ensures
