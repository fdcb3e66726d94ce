use Rattle.std.proofs.Common.{◌∙◌, ap, subst}
use Rattle.std.proofs.lemmas.Result.{on_ok_weaker}
use Rattle.graphql_names.specs.Placed.{node_tree}
use Rattle.tree_directives.specs.DirectiveTree.{directives_tree}
use Rattle.tree_directives.specs.OperationQueries.{location_of_operation}
use Rattle.tree_directives.specs.declared.directive_location.DirectiveLocation.TheVariants as location
use Rattle.schema_types.specs.Plain.{plain}
use Rattle.schema_types.specs.Addresses.{place_at}
use Rattle.graphql_schema.specs.SchemaOf.{schema_tree}
use Rattle.document_typed_operations.specs.TypedDocument.{typed_operation_tree}
use Rattle.document_typed_operations.specs.declared.operation.Operation.{Operation}
use Rattle.rule_reach.specs.in_typed_operations.DocumentView.{meant_by_operation}
use Rattle.document_typing.specs.Meanings.{meanings}
use Rattle.fault_data.specs.FaultView.{faults_of}
use Rattle.fault_data.specs.Adds.{Adds}
use Rattle.rule_definitions.specs.Words.{AtSomeIndex}
use Rattle.rule_definitions.specs.Judged.{judged}
use Rattle.rule_definitions.specs.Uses.{UsesBreak}
use Rattle.rule_arguments.specs.in_rule_values.Wanting.{variables_of}
use Rattle.rule_arguments.specs.Trees.{directives_of}
use Rattle.rule_definitions.proofs.Adding.{gains_both, gains_same}
use Rattle.rule_reach.specs.Reach.{reached_members, reached_fragments_of}
use Rattle.rule_selections.proofs.Typing.{member_typed}
use Rattle.rule_selections.specs.SelectionFaults.{SelectionBreaks}
use Rattle.rule_selections.proofs.Selecting.{selections_break}
use Rattle.rule_selections.proofs.selections.check_selections.Goals as goal

pub returns : goal.returns
returns c =
    let s = schema_tree c.args.schema.now in
    let o = meant_by_operation (node_tree typed_operation_tree c.args.operation.now) in
    let r = c.args.reach.now in
    let is = c.content-operation.ensures in
    let a = faults_of c.args.faults.now in
    let b = faults_of c.check_uses.new.faults in
    let d = faults_of c.check_each_selection.new.faults in
    let e = faults_of c.check_fragments.new.faults in
    let vs = ap variables_of (c.in_ok-variables.ensures ∙ c.as_slice.ensures.value) ∙ ap (λ (x : Operation). variables_of x.variables.items) is in
    let used = ap directives_of c.deref.ensures.value ∙ ap (λ (x : Operation). directives_tree x.directives) is in
    let at = c.from-location.ensures ∙ ap (λ (x : Operation). location_of_operation x.operation_type) is in
    on_ok_weaker c.check_fragments.result
    (λ h doc reaches typed. gains_same a e (selections_break doc o (reached_members r) (reached_fragments_of r) reaches s)
    (gains_both a b e
    (subst (λ (X : Type 0). X) (λ i. Adds c.args.faults.now c.check_uses.new.faults (UsesBreak (place_at s) (judged s) (vs i) (at i) (used i))) c.in_ok-check_uses.ensures)
    (gains_both b d e
    (subst (λ (X : Type 0). X) (λ i. Adds c.check_uses.new.faults c.check_each_selection.new.faults (λ f. AtSomeIndex (reached_members r) (λ k x. SelectionBreaks s (vs i) x f)))
    (c.in_ok-check_each_selection.ensures (λ x k. member_typed (meanings (plain s)) doc o (reached_members r) (reached_fragments_of r) reaches typed x k)))
    (subst (λ (X : Type 0). X) (λ i. Adds c.check_each_selection.new.faults c.check_fragments.new.faults (λ f. AtSomeIndex (reached_fragments_of r) (λ k x. UsesBreak (place_at s) (judged s) (vs i) location.FragmentDefinition x.directives f))) h))))
    c.check_fragments.ensures
