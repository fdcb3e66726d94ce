use Rattle.std.proofs.Common.{◌≡◌, map, take}
use Rattle.std.specs.List.{flat_map}
use Rattle.rule_cycles.specs.in_schema.SchemaOf.{schema_tree}
use Rattle.fault_data.specs.FaultView.{faults_of}
use Rattle.rule_definitions.specs.Room.{◌⊕◌}
use Rattle.rule_reach.specs.Reach.{member_of}
use Rattle.rule_fragments.specs.Listed.{inline_target}
use Rattle.rule_fragments.proofs.targets.check_inline_targets.Given as goal

abbrev pub invariant-loop-selection : goal.invariant-loop-selection
invariant-loop-selection l = faults_of l.faults ≡ faults_of l.fn.faults ⊕ flat_map (λ e. inline_target (schema_tree l.schema) e.1) (map member_of (take l.selection-index l.selection-items))
