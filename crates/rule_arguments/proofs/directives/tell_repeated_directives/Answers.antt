use Rattle.std.proofs.Common.{List, ◌<◌, length, ap, arith}
use Rattle.graphql_names.specs.Placed.{Placed, Place, node_tree}
use Rattle.tree_directives.specs.DirectiveTree.{DirectiveTree, Directives, directive_tree}
use Rattle.rule_values.specs.in_schema.in_schema_types.Addresses.{directive_definition_at}
use Rattle.rule_values.specs.in_schema.SchemaOf.{schema_tree}
use Rattle.rule_values.specs.in_fault_data.FaultView.{faults_of}
use Rattle.rule_values.specs.in_fault_data.Room.{◌⊕◌}
use Rattle.rule_values.specs.in_rule_definitions.Names.{directive_name}
use Rattle.rule_values.specs.in_rule_definitions.PlacedFaults.{PlacedFault}
use Rattle.rule_arguments.specs.UseFaults.{repeated_directive}
use Rattle.rule_arguments.proofs.Again.{few, directive_first}
use Rattle.rule_arguments.proofs.directives.tell_repeated_directives.Goals as goal

pub returns-then-directives-lt2 : goal.returns-then-directives-lt2
returns-then-directives-lt2 c =
    let s = schema_tree c.args.schema.now in
    let tells : Directives Place → Placed Place (DirectiveTree Place) → List PlacedFault = λ before d. repeated_directive (directive_definition_at s (directive_name d)) before d in
    let h : length c.args.directives.now < 2 = omega arith in
    ap (λ l. faults_of c.args.faults.now ⊕ l) (few (node_tree directive_tree) tells (λ d. directive_first (directive_definition_at s (directive_name d)) d) c.args.directives.now h)
