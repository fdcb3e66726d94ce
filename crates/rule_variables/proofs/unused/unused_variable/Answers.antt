use Rattle.std.proofs.Common.{[], ◌∷◌, Contains, ap, sym, subst, ◌∙◌, true≢false}
use Rattle.std.proofs.lemmas.Result.{on_ok_weaker}
use Rattle.graphql_names.specs.NameValue.{NameValue}
use Rattle.graphql_names.specs.Placed.{node_tree}
use Rattle.tree_operations.specs.OperationTree.{variable_definition_tree}
use Rattle.tree_operations.specs.declared.operation.VariableDefinition.{VariableDefinition}
use Rattle.rule_definitions.specs.Diagnostics.{UnusedVariable}
use Rattle.rule_definitions.specs.Faults.{wrong}
use Rattle.rule_arguments.specs.in_fault_data.FaultView.{faults_of}
use Rattle.rule_definitions.proofs.Listing.{Lists}
use Rattle.rule_definitions.proofs.Adding.{gains_list, gains_nothing}
use Rattle.rule_reach.specs.NotedNames.{noted_names}
use Rattle.rule_variables.specs.VariableFaults.{UnusedAmong}
use Rattle.rule_variables.proofs.Told.{lists_unused}
use Rattle.rule_variables.proofs.unused.unused_variable.Goals as goal

pub returns-then-has_name : goal.returns-then-has_name
returns-then-has_name c =
    let used = noted_names c.args.used.now in
    let x = node_tree variable_definition_tree c.args.variable.now in
    let named = ap (λ (v : VariableDefinition). v.name.text) c.content.ensures in
    gains_nothing (faults_of c.args.faults.now) (UnusedAmong used x) (λ f q. q.0 (subst (λ n. Contains used n) named (c.has_name.ensures.0 c.if-has_name.true)))

pub returns : goal.returns
returns c =
    let used = noted_names c.args.used.now in
    let x = node_tree variable_definition_tree c.args.variable.now in
    let named = ap (λ (v : VariableDefinition). v.name.text) c.content.ensures in
    let text = ap (λ (n : NameValue). n.text) c.in_ok-name.ensures.same ∙ named in
    let unused = subst (λ t. Lists (wrong c.head-location.result (UnusedVariable t) ∷ []) (UnusedAmong used x)) (sym text)
    (lists_unused used x (λ m. true≢false (sym (c.has_name.ensures.1 (subst (λ n. Contains used n) (sym named) m)) ∙ c.if-has_name.false)) c.head-location.result c.head-location.ensures) in
    on_ok_weaker c.tell.result (λ told. gains_list (faults_of c.args.faults.now) (faults_of c.tell.new.faults) (wrong c.head-location.result (UnusedVariable c.in_ok-name.name.text) ∷ []) told unused) c.tell.ensures.told
