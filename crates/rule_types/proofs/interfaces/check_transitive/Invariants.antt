use Rattle.std.proofs.Common.{◌≡◌, map, take}
use Rattle.std.specs.List.{flat_map}
use Rattle.graphql_names.specs.Placed.{name_tree}
use Rattle.schema_components.specs.Given.{component_name_tree}
use Rattle.schema_types.specs.TypeView.{extended_type}
use Rattle.fault_data.specs.FaultView.{faults_of}
use Rattle.fault_data.specs.Room.{◌⊕◌}
use Rattle.rule_types.specs.InterfaceFaults.{transitive_implemented_interfaces}
use Rattle.rule_types.proofs.interfaces.check_transitive.Given as goal

abbrev pub invariant-loop-missing : goal.invariant-loop-missing
invariant-loop-missing l = faults_of l.faults ≡ faults_of l.fn.faults ⊕ flat_map (λ g. transitive_implemented_interfaces l.implementer.name.now.text (extended_type l.implementer.ty.now) (name_tree l.implementer.interface.now.name) g.it) (map component_name_tree (take l.missing-index l.listed))
