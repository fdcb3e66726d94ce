use Rattle.std.proofs.Common.{◌∙◌, ap, subst}
use Rattle.std.proofs.lemmas.Result.{on_ok_weaker}
use Rattle.schema_types.specs.Addresses.{place_at}
use Rattle.graphql_schema.specs.SchemaOf.{schema_tree}
use Rattle.document_typed_selections.specs.TypedTree.{typed_selection_tree}
use Rattle.fault_data.specs.FaultView.{faults_of}
use Rattle.fault_data.specs.Adds.{Adds}
use Rattle.rule_definitions.specs.Judged.{judged}
use Rattle.rule_definitions.specs.Uses.{UsesBreak}
use Rattle.rule_arguments.specs.in_rule_values.Wanting.{variables_of}
use Rattle.rule_arguments.specs.Trees.{directives_of}
use Rattle.rule_definitions.proofs.Adding.{gains_both, gains_same, gains_nothing}
use Rattle.rule_selections.specs.SelectionFaults.{FieldBreaks}
use Rattle.rule_selections.proofs.Members.{directives_meant, no_field, one_field, typed_there}
use Rattle.rule_selections.proofs.selections.check_selection.Goals as goal

pub returns-in-None : goal.returns-in-None
returns-in-None c typed =
    let s = schema_tree c.args.schema.now in
    let vs = variables_of c.args.variables.now in
    let t = typed_selection_tree c.args.selection.now in
    let a = faults_of c.args.faults.now in
    let b = faults_of c.check_uses.new.faults in
    let used = ap directives_of c.deref.ensures.value ∙ c.directives.ensures ∙ directives_meant t in
    gains_both a b b
    (subst (λ (X : Type 0). X) (λ i. Adds c.args.faults.now c.check_uses.new.faults (UsesBreak (place_at s) (judged s) vs (c.location_of-location.ensures i) (used i))) c.in_ok-check_uses.ensures)
    (gains_nothing b _ (λ f. no_field c.args.parent.now.text t c.in-None.ensures (λ x. FieldBreaks s vs x f)))

pub returns-in-Some : goal.returns-in-Some
returns-in-Some c =
    let s = schema_tree c.args.schema.now in
    let vs = variables_of c.args.variables.now in
    let parent = c.args.parent.now in
    let field = c.in-Some.field.now in
    let t = typed_selection_tree c.args.selection.now in
    let a = faults_of c.args.faults.now in
    let b = faults_of c.check_uses.new.faults in
    let d = faults_of c.check_field.new.faults in
    let used = ap directives_of c.deref.ensures.value ∙ c.directives.ensures ∙ directives_meant t in
    on_ok_weaker c.check_field.result
    (λ h typed. gains_both a b d
    (subst (λ (X : Type 0). X) (λ i. Adds c.args.faults.now c.check_uses.new.faults (UsesBreak (place_at s) (judged s) vs (c.location_of-location.ensures i) (used i))) c.in_ok-check_uses.ensures)
    (gains_same b d (λ f. one_field parent field t c.in-Some.ensures (λ x. FieldBreaks s vs x f)) (h (typed_there s parent field t c.in-Some.ensures typed))))
    c.check_field.ensures
