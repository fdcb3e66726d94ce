use Rattle.std.proofs.Common.{◌≡◌, take}
use Rattle.schema_components.specs.Lists.{each_place}
use Rattle.rule_values.specs.in_fault_data.FaultView.{faults_of}
use Rattle.rule_values.specs.in_fault_data.Room.{◌⊕◌}
use Rattle.rule_values.specs.in_rule_definitions.Names.{directive_name}
use Rattle.rule_values.specs.Firsts.{AreFirsts}
use Rattle.rule_arguments.specs.Trees.{directives_of}
use Rattle.rule_arguments.specs.UseFaults.{repeated_directive}
use Rattle.rule_values.specs.in_schema.in_schema_types.Addresses.{directive_definition_at}
use Rattle.rule_values.specs.in_schema.SchemaOf.{schema_tree}
use Rattle.rule_arguments.proofs.directives.tell_directives_again.Given as goal

abbrev pub invariant-loop-directive : goal.invariant-loop-directive
invariant-loop-directive l = record {
  told : faults_of l.faults ≡ faults_of l.fn.faults ⊕ each_place (λ before d. repeated_directive (directive_definition_at (schema_tree l.schema) (directive_name d)) before d) (directives_of (take l.directive-index l.directives));
  noted : AreFirsts directive_name (λ i a. a.place) l.places (directives_of (take l.directive-index l.directives));
}
