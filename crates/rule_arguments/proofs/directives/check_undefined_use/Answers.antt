use Rattle.std.proofs.Common.{ap, subst, ◌∙◌}
use Rattle.std.proofs.lemmas.Result.{on_ok_weaker}
use Rattle.graphql_names.specs.Placed.{Place, node_tree}
use Rattle.tree_directives.specs.DirectiveTree.{Arguments, directive_tree}
use Rattle.tree_directives.specs.declared.directive.Directive.{Directive}
use Rattle.rule_values.specs.in_fault_data.FaultView.{faults_of}
use Rattle.rule_values.specs.in_fault_data.Adds.{Adds}
use Rattle.rule_values.specs.Wanting.{variables_of}
use Rattle.rule_arguments.specs.Trees.{arguments_of}
use Rattle.rule_arguments.specs.GivenArguments.{VariablesGivenBreak}
use Rattle.rule_arguments.proofs.Alone.{use_apart}
use Rattle.rule_values.proofs.in_fault_data.Adding.{gains_same, gains_both}
use Rattle.rule_arguments.proofs.directives.check_undefined_use.Goals as goal

pub returns : goal.returns
returns c =
    let vs = variables_of c.args.variables.now in
    let d = node_tree directive_tree c.args.directive.now in
    let a = faults_of c.args.faults.now in
    let b = faults_of c.check_directive_alone.new.faults in
    let e = faults_of c.check_variables_given.new.faults in
    let taken = ap arguments_of c.deref.ensures.value ∙ ap (λ (x : Directive). arguments_of x.arguments.items) c.content.ensures in
    on_ok_weaker c.check_variables_given.result
    (λ h location. gains_same a e (use_apart vs location d)
    (gains_both a b e c.in_ok-check_directive_alone.ensures
    (subst (λ (l : Arguments Place). Adds c.check_directive_alone.new.faults c.check_variables_given.new.faults (VariablesGivenBreak vs l)) taken h)))
    c.check_variables_given.ensures
