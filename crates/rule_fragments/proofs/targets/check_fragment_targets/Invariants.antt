use Rattle.std.proofs.Common.{◌≡◌, map, take}
use Rattle.std.specs.List.{flat_map}
use Rattle.rule_cycles.specs.in_schema.SchemaOf.{schema_tree}
use Rattle.fault_data.specs.FaultView.{faults_of}
use Rattle.rule_definitions.specs.Room.{◌⊕◌}
use Rattle.rule_reach.specs.Reach.{fragment_of}
use Rattle.rule_fragments.specs.Listed.{fragment_target}
use Rattle.rule_fragments.proofs.targets.check_fragment_targets.Given as goal

abbrev pub invariant-loop-index : goal.invariant-loop-index
invariant-loop-index l = faults_of l.faults ≡ faults_of l.fn.faults ⊕ flat_map (fragment_target (schema_tree l.schema)) (map fragment_of (take l.index l.reach.fragments.items))
