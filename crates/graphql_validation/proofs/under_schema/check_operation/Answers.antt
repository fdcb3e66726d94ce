use Rattle.std.proofs.Common.{◌≡◌, ◌⊎◌, refl, subst}
use Rattle.std.proofs.lemmas.Result.{on_ok_weaker}
use Rattle.fault_data.specs.FaultView.{faults_of}
use Rattle.rule_fragments.specs.in_schema.SchemaOf.{schema_tree}
use Rattle.rule_fragments.specs.in_typed_operations.DocumentView.{operation_meant}
use Rattle.rule_document_definitions.specs.PlacedDocumentFaults.{place_or_built_in, places_in}
use Rattle.rule_document_definitions.specs.Fragments.{InvalidFragmentTargetAt, InvalidFragmentSpreadAt}
use Rattle.graphql_names.specs.Placed.{Place}
use Rattle.spec_document.specs.MeantTree.{MeantDocument, MeantOperation}
use Rattle.fault_data.specs.Adds.{Adds}
use Rattle.rule_definitions.specs.Judged.{judged}
use Rattle.rule_fragments.specs.Possible.{ArePossibleIfFound}
use Rattle.rule_fragments.specs.in_schema.declared.schema.Schema.{Schema}
use Rattle.rule_fragments.specs.in_reach.NotedNames.{noted_names}
use Rattle.rule_definitions.proofs.Adding.{gains_both, gains_same}
use Rattle.rule_fragments.specs.in_reach.Reach.{IsReachOf, meant_fragments, reached_members, reached_fragments_of}
use Rattle.graphql_validation.proofs.Noting.{fragments_noted, notes_same}
use Rattle.graphql_validation.proofs.Settled.{instead_of, reached_instead, told_instead, named_instead, typed_instead}
use Rattle.graphql_validation.specs.Operations.{ReachesNamed}
use Rattle.graphql_validation.proofs.under_schema.check_operation.Goals as goal

pub returns-clause-told : goal.returns-clause-told
returns-clause-told c =
    let s = schema_tree c.args.schema.now in
    let o = operation_meant c.args.operation.now in
    let fs = meant_fragments c.args.fragments.now in
    let r = c.in_ok-reach.reach in
    let alone = faults_of c.check_variables_alone.new.faults in
    let variables = faults_of c.check_variables.new.faults in
    let selections = faults_of c.check_selections.new.faults in
    let spreads = faults_of c.check_spreads.new.faults in
    let old = faults_of c.args.found.now.faults in
    let new = faults_of c.check_applications.new.faults in
    let applications = subst (λ (y : Schema). (d : MeantDocument Place) (o : MeantOperation Place) → IsReachOf d o r → d.fragments ≡ fs → ArePossibleIfFound (judged (schema_tree y)) c.args.possible.now
    → Adds c.check_spreads.new.faults c.check_applications.new.faults (λ f. InvalidFragmentTargetAt (judged (schema_tree y)) d o f ⊎ InvalidFragmentSpreadAt (judged (schema_tree y)) d o f (places_in (schema_tree y))))
    c.schema.ensures c.in_ok-check_applications.ensures.told in
    on_ok_weaker c.note_fragments.result
    (λ h d in' typed possible.
    let other = instead_of d fs in
    let reaches = reached_instead d c.args.fragments.now c.args.operation.now r c.content.result.now c.content.ensures c.in_ok-reach.ensures in
    gains_same old new (λ f. told_instead s d fs o in' typed f)
    (gains_both old alone new (c.in_ok-check_variables_alone.ensures (place_or_built_in s) other reaches)
    (gains_both alone variables new c.in_ok-check_variables.ensures
    (gains_both variables selections new (c.in_ok-check_selections.ensures other reaches (typed_instead s d fs o in' typed))
    (gains_both selections spreads new (c.in_ok-check_spreads.ensures other o reaches refl) (applications other o reaches refl possible))))))
    c.note_fragments.ensures

pub returns-clause-noted : goal.returns-clause-noted
returns-clause-noted c =
    let s = schema_tree c.args.schema.now in
    let o = operation_meant c.args.operation.now in
    let fs = meant_fragments c.args.fragments.now in
    let r = c.in_ok-reach.reach in
    let old = noted_names c.args.found.now.used in
    let new = noted_names c.note_fragments.new.names in
    on_ok_weaker c.note_fragments.result
    (λ h d in'.
    let other = instead_of d fs in
    let reaches = reached_instead d c.args.fragments.now c.args.operation.now r c.content.result.now c.content.ensures c.in_ok-reach.ensures in
    notes_same (λ x n. ReachesNamed other x n) old new (ReachesNamed other o) (ReachesNamed d o) (named_instead s d fs o in') (fragments_noted other o (reached_members r) (reached_fragments_of r) reaches old new h))
    c.note_fragments.ensures

pub returns-clause-right : goal.returns-clause-right
returns-clause-right c =
    let right = subst (λ (y : Schema). ArePossibleIfFound (judged (schema_tree y)) c.args.possible.now → ArePossibleIfFound (judged (schema_tree y)) c.check_applications.new.possible) c.schema.ensures c.in_ok-check_applications.ensures.right in
    on_ok_weaker c.note_fragments.result (λ h. right) c.note_fragments.ensures
