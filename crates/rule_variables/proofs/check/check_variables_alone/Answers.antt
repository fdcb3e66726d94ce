use Rattle.std.proofs.Common.{◌≡◌, [], vec_len, ap, subst, sym, ◌∙◌}
use Rattle.std.proofs.lemmas.Bool.{eqb-true}
use Rattle.std.proofs.lemmas.Result.{on_ok_weaker}
use Rattle.graphql_names.specs.Placed.{Place, node_tree}
use Rattle.document_typed_operations.specs.TypedDocument.{typed_operation_tree}
use Rattle.document_typed_operations.specs.declared.operation.Operation.{Operation}
use Rattle.rule_reach.specs.in_typed_operations.DocumentView.{meant_by_operation}
use Rattle.rule_definitions.specs.GivenValues.{Variables}
use Rattle.rule_arguments.specs.in_fault_data.FaultView.{faults_of}
use Rattle.rule_arguments.specs.in_fault_data.Adds.{Adds}
use Rattle.rule_arguments.specs.in_rule_values.Wanting.{variables_of}
use Rattle.rule_definitions.proofs.Adding.{gains_nothing, gains_same}
use Rattle.rule_reach.specs.Reach.{reached_members, reached_fragments_of}
use Rattle.rule_reach.specs.NotedNames.{noted_names}
use Rattle.rule_variables.specs.UsedNames.{with_used}
use Rattle.rule_variables.specs.VariableFaults.{AloneBreaks}
use Rattle.rule_variables.proofs.Gathered.{no_items, alone_is, none_break}
use Rattle.rule_variables.proofs.check.check_variables_alone.Goals as goal

pub returns : goal.returns
returns c =
    let o = meant_by_operation (node_tree typed_operation_tree c.args.operation.now) in
    let members = reached_members c.args.reach.now in
    let fragments = reached_fragments_of c.args.reach.now in
    let own = ap variables_of c.deref.ensures.value ∙ ap (λ (p : Operation). variables_of p.variables.items) c.content-own.ensures in
    let names = c.in_ok-used.ensures ∙ ap (λ (p : Operation). with_used [] (typed_operation_tree p).directives members fragments) c.content-own.ensures in
    on_ok_weaker c.check_alone.result
    (λ h at d reach. gains_same (faults_of c.args.faults.now) (faults_of c.check_alone.new.faults) (alone_is d o members fragments reach at)
    (subst (λ ns. Adds c.args.faults.now c.check_alone.new.faults (AloneBreaks o.variables ns)) names
    (subst (λ (vs : Variables Place). Adds c.args.faults.now c.check_alone.new.faults (AloneBreaks vs (noted_names c.in_ok-used.used))) own h)))
    c.check_alone.ensures

pub returns-then-is_empty : goal.returns-then-is_empty
returns-then-is_empty c at d reach =
    let o = meant_by_operation (node_tree typed_operation_tree c.args.operation.now) in
    let members = reached_members c.args.reach.now in
    let fragments = reached_fragments_of c.args.reach.now in
    let own = c.content-own.result.now.variables in
    let none : o.variables ≡ [] = ap (λ (p : Operation). variables_of p.variables.items) (sym c.content-own.ensures) ∙ ap variables_of (no_items own.items (sym own.ok.0 ∙ eqb-true (vec_len own) 0 (sym c.is_empty.ensures ∙ c.if-is_empty.true))) in
    gains_nothing (faults_of c.args.faults.now) _ (λ f q. none_break _ f
    (subst (λ (vs : Variables Place). AloneBreaks vs (with_used [] o.directives members fragments) f) none ((alone_is d o members fragments reach at f).1 q)))
