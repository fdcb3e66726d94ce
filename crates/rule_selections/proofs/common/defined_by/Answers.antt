use Rattle.std.proofs.Common.{◌<◌, ◌∙◌, length, ap, subst, arith}
use Rattle.graphql_names.specs.Placed.{Place, node_tree}
use Rattle.tree_operations.specs.OperationTree.{variable_definition_tree}
use Rattle.document_typed_operations.specs.declared.operation.Operation.{Operation}
use Rattle.rule_reach.specs.in_typed_operations.DocumentView.{operation_meant}
use Rattle.rule_arguments.specs.in_rule_values.Wanting.{variables_of}
use Rattle.rule_definitions.specs.GivenValues.{Variables}
use Rattle.rule_selections.specs.Settled.{KeepsIfDefined}
use Rattle.rule_selections.proofs.DefinedAlike.{none_kept, more_kept}
use Rattle.rule_selections.proofs.Members.{comes_to}
use Rattle.rule_selections.proofs.common.defined_by.Goals as goal

pub loop-variable-init : goal.loop-variable-init
loop-variable-init c = none_kept (operation_meant c.args.operation.now).variables (variables_of c.args.common.now) (variables_of c.new-kept.result.items) (ap variables_of c.new-kept.ensures.items)

pub loop-variable-preserved : goal.loop-variable-preserved
loop-variable-preserved c =
    let xs = c.args.common.now in
    let i = c.loop-variable.variable-index in
    let x = c.variable-item.result in
    let old = variables_of c.loop-variable.kept.items in
    let new = variables_of c.keep_if_defined.new.kept.items in
    let h : i < length xs = omega arith in
    let same = ap variables_of (c.in_ok-variables.ensures ∙ c.as_slice.ensures.value) ∙ ap (λ (o : Operation). variables_of o.variables.items) c.content.ensures in
    more_kept (operation_meant c.args.operation.now).variables (variables_of xs) old new (node_tree variable_definition_tree x) (comes_to (node_tree variable_definition_tree) xs i x h c.variable-item.is)
    (subst (λ (vs : Variables Place). KeepsIfDefined vs (node_tree variable_definition_tree x) old new) same c.in_ok-keep_if_defined.ensures) c.loop-variable.invariant

pub returns : goal.returns
returns c = c.loop-variable.invariant
