use Rattle.std.proofs.Common.{◌≡◌, map}
use Rattle.graphql_names.specs.Placed.{name_tree}
use Rattle.schema_types.specs.TypeView.{extended_type}
use Rattle.fault_data.specs.FaultView.{faults_of}
use Rattle.fault_data.specs.Room.{◌⊕◌}
use Rattle.rule_types.specs.InterfaceFaults.{each_field_faults}
use Rattle.rule_types.specs.InterfaceTrees.{schema_of}
use Rattle.rule_types.proofs.interface_fields.check_each_field.Given as goal

abbrev pub invariant-loop-field_name : goal.invariant-loop-field_name
invariant-loop-field_name l = faults_of l.faults ≡ faults_of l.fn.faults ⊕ each_field_faults (schema_of l.judging) l.implementer.name.now.text (extended_type l.implementer.ty.now) (name_tree l.implementer.interface.now.name) (map (λ e. (e.0.now, e.1.now)) l.yielded)
