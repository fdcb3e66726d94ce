use Rattle.std.proofs.Common.{◌≡◌, map, take}
use Rattle.std.specs.List.{flat_map}
use Rattle.rule_cycles.specs.in_schema.SchemaOf.{schema_tree}
use Rattle.fault_data.specs.FaultView.{faults_of}
use Rattle.rule_definitions.specs.Room.{◌⊕◌}
use Rattle.rule_reach.specs.Reach.{member_of, meant_fragments}
use Rattle.rule_fragments.specs.Applied.{invalid_fragment_spread}
use Rattle.rule_fragments.proofs.applications.check_fragment_spreads.Given as goal

abbrev pub invariant-loop-parent : goal.invariant-loop-parent
invariant-loop-parent l = (faults_of l.faults ≡ faults_of l.fn.faults ⊕ flat_map (invalid_fragment_spread (schema_tree l.schema) l.fn.possible (meant_fragments l.fragments)) (map member_of (take l.parent-index l.parent-items)))
    × (l.possible ≡ l.fn.possible)
