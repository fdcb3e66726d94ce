use Rattle.std.proofs.Common.{[], ◌∷◌, sym, ap, subst, ◌∙◌}
use Rattle.std.proofs.lemmas.Result.{on_ok_weaker}
use Rattle.graphql_names.specs.Placed.{Place, node_tree}
use Rattle.tree_directives.specs.DirectiveTree.{Arguments, directive_tree, directive_definition_tree}
use Rattle.tree_directives.specs.declared.directive.Directive.{Directive}
use Rattle.rule_values.specs.in_schema.in_schema_types.Addresses.{place_at, directive_definition_at}
use Rattle.rule_values.specs.in_schema.SchemaOf.{schema_tree}
use Rattle.rule_values.specs.in_fault_data.FaultView.{faults_of}
use Rattle.rule_values.specs.in_rule_definitions.Judged.{judged}
use Rattle.rule_values.specs.in_rule_definitions.Uses.{GivenBreaks}
use Rattle.rule_values.specs.in_fault_data.Adds.{Adds}
use Rattle.rule_values.specs.Wanting.{variables_of}
use Rattle.rule_arguments.specs.Trees.{arguments_of}
use Rattle.rule_arguments.specs.UseFaults.{undefined_directive}
use Rattle.rule_values.proofs.in_rule_definitions.Listing.{lists_one}
use Rattle.rule_values.proofs.in_fault_data.Adding.{gains_same, gains_both, gains_list}
use Rattle.rule_values.proofs.in_fault_data.Judgings.{directive_look}
use Rattle.rule_arguments.proofs.Uses.{use_undefined, use_found}
use Rattle.rule_arguments.proofs.directives.check_use.Goals as goal

pub returns-in-None : goal.returns-in-None
returns-in-None c =
    let s = schema_tree c.args.judging.now.schema.now in
    let vs = variables_of c.args.judging.now.variables.now in
    let d = node_tree directive_tree c.args.directive.now in
    let a = faults_of c.args.faults.now in
    let b = faults_of c.check_given.new.faults in
    let defined = directive_look s in
    let taken = ap arguments_of c.deref.ensures.value ∙ ap (λ (x : Directive). arguments_of x.arguments.items) c.content-used.ensures in
    let given = subst (λ (l : Arguments Place). Adds c.args.faults.now c.check_given.new.faults (GivenBreaks (place_at s) (judged s) vs l)) taken (c.in_ok-check_given.ensures (place_at s) (judged s)) in
    let same = ap (λ (x : Directive). directive_definition_at s x.name.text) (sym c.content-used.ensures) in
    let e = faults_of c.undefined_directive.new.faults in
    on_ok_weaker c.undefined_directive.result
    (λ h. gains_same a e (use_undefined s vs defined c.args.location d (same ∙ sym c.in-None.ensures))
    (gains_both a b e given (gains_list b e (undefined_directive d ∷ []) h (lists_one (undefined_directive d)))))
    c.undefined_directive.ensures

pub returns-in-Some : goal.returns-in-Some
returns-in-Some c =
    let s = schema_tree c.args.judging.now.schema.now in
    let vs = variables_of c.args.judging.now.variables.now in
    let d = node_tree directive_tree c.args.directive.now in
    let a = faults_of c.args.faults.now in
    let b = faults_of c.check_given.new.faults in
    let defined = directive_look s in
    let taken = ap arguments_of c.deref.ensures.value ∙ ap (λ (x : Directive). arguments_of x.arguments.items) c.content-used.ensures in
    let given = subst (λ (l : Arguments Place). Adds c.args.faults.now c.check_given.new.faults (GivenBreaks (place_at s) (judged s) vs l)) taken (c.in_ok-check_given.ensures (place_at s) (judged s)) in
    let same = ap (λ (x : Directive). directive_definition_at s x.name.text) (sym c.content-used.ensures) in
    let e = faults_of c.check_defined_use.new.faults in
    on_ok_weaker c.check_defined_use.result
    (λ h. gains_same a e (use_found s vs defined c.args.location d (node_tree directive_definition_tree c.in-Some.definition.now) (same ∙ sym c.in-Some.ensures)) (gains_both a b e given h))
    c.check_defined_use.ensures
