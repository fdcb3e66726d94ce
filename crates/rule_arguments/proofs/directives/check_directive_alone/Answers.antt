use Rattle.std.proofs.Common.{[], ◌∷◌, ap, subst, ◌∙◌}
use Rattle.std.proofs.lemmas.Result.{on_ok_weaker}
use Rattle.graphql_names.specs.Placed.{Place, node_tree}
use Rattle.tree_directives.specs.DirectiveTree.{Arguments, directive_tree}
use Rattle.tree_directives.specs.declared.directive.Directive.{Directive}
use Rattle.rule_values.specs.in_fault_data.FaultView.{faults_of}
use Rattle.rule_values.specs.in_fault_data.Adds.{Adds}
use Rattle.rule_arguments.specs.Trees.{arguments_of}
use Rattle.rule_arguments.specs.Alone.{ArgumentsBreak}
use Rattle.rule_arguments.specs.UseFaults.{undefined_directive}
use Rattle.rule_values.proofs.in_rule_definitions.Listing.{lists_one}
use Rattle.rule_values.proofs.in_fault_data.Adding.{gains_both, gains_list}
use Rattle.rule_arguments.proofs.directives.check_directive_alone.Goals as goal

pub returns : goal.returns
returns c =
    let d = node_tree directive_tree c.args.directive.now in
    let a = faults_of c.args.faults.now in
    let b = faults_of c.check_arguments_alone.new.faults in
    let e = faults_of c.undefined_directive.new.faults in
    let taken = ap arguments_of c.deref.ensures.value ∙ ap (λ (x : Directive). arguments_of x.arguments.items) c.content.ensures in
    let given = subst (λ (l : Arguments Place). Adds c.args.faults.now c.check_arguments_alone.new.faults (ArgumentsBreak l)) taken c.in_ok-check_arguments_alone.ensures in
    on_ok_weaker c.undefined_directive.result
    (λ h. gains_both a b e given (gains_list b e (undefined_directive d ∷ []) h (lists_one (undefined_directive d))))
    c.undefined_directive.ensures
