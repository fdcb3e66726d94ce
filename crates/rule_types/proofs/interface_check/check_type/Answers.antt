use Rattle.std.proofs.Common.{arith}
use Rattle.schema_components.specs.Given.{component_name_tree}
use Rattle.schema_types.specs.TypeView.{extended_type}
use Rattle.fault_data.specs.FaultView.{faults_of}
use Rattle.rule_types.specs.InterfaceFaults.{interface_faults}
use Rattle.rule_types.specs.InterfaceTrees.{schema_of}
use Rattle.rule_types.proofs.Telling.{tells_item}
use Rattle.rule_types.proofs.interface_check.check_type.Goals as goal

pub loop-interface-preserved : goal.loop-interface-preserved
loop-interface-preserved c =
    let told = interface_faults (schema_of c.args.judging.now) c.args.name.now.text (extended_type c.args.ty.now) in
    tells_item component_name_tree told (faults_of c.args.faults.now) _ _ c.interfaces_of-interface-items.result.now c.loop-interface.interface-index c.interface-item.result (omega arith) c.interface-item.is
    c.loop-interface.invariant c.in_ok-check_interface.ensures
