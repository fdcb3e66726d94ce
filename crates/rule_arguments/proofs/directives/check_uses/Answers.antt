use Rattle.std.proofs.lemmas.Result.{on_ok_weaker}
use Rattle.schema_components.specs.Lists.{each_place}
use Rattle.rule_values.specs.in_schema.in_schema_types.Addresses.{directive_definition_at}
use Rattle.rule_values.specs.in_fault_data.FaultView.{faults_of}
use Rattle.rule_values.specs.in_schema.SchemaOf.{schema_tree}
use Rattle.rule_values.specs.in_rule_definitions.Names.{directive_name}
use Rattle.rule_values.specs.Wanting.{variables_of}
use Rattle.rule_arguments.specs.Trees.{directives_of}
use Rattle.rule_arguments.specs.UseFaults.{repeated_directive}
use Rattle.rule_values.proofs.in_fault_data.Adding.{gains_both, gains_list}
use Rattle.rule_arguments.proofs.Uses.{lists_repeated_directives}
use Rattle.rule_values.proofs.in_fault_data.Judgings.{directive_look}
use Rattle.rule_arguments.proofs.directives.check_uses.Goals as goal

pub returns : goal.returns
returns c =
    let s = schema_tree c.args.schema.now in
    let vs = variables_of c.args.variables.now in
    let ds = directives_of c.args.directives.now in
    let a = faults_of c.args.faults.now in
    let b = faults_of c.tell_repeated_directives.new.faults in
    let d = faults_of c.check_each_use.new.faults in
    on_ok_weaker c.check_each_use.result
    (λ h. gains_both a b d
    (gains_list a b (each_place (λ before d'. repeated_directive (directive_definition_at s (directive_name d')) before d') ds) c.in_ok-tell_repeated_directives.ensures
    (lists_repeated_directives s vs (directive_look s) ds))
    h)
    c.check_each_use.ensures
