use Rattle.std.proofs.Common.{◌≡◌, map, take}
use Rattle.std.specs.List.{flat_map}
use Rattle.schema_components.specs.Given.{component_name_tree}
use Rattle.schema_types.specs.TypeView.{extended_type}
use Rattle.fault_data.specs.FaultView.{faults_of}
use Rattle.fault_data.specs.Room.{◌⊕◌}
use Rattle.rule_types.specs.InterfaceFaults.{interface_faults}
use Rattle.rule_types.specs.InterfaceTrees.{schema_of}
use Rattle.rule_types.proofs.interface_check.check_type.Given as goal

abbrev pub invariant-loop-interface : goal.invariant-loop-interface
invariant-loop-interface l = faults_of l.faults ≡ faults_of l.fn.faults ⊕ flat_map (interface_faults (schema_of l.judging) l.name.text (extended_type l.ty)) (map component_name_tree (take l.interface-index l.interface-items))
