use Rattle.std.proofs.Common.{◌≡◌, length}
use Rattle.std.specs.List.{flat_map}
use Rattle.graphql_schema.specs.SchemaOf.{schema_tree}
use Rattle.rule_definitions.specs.Room.{◌⊕◌}
use Rattle.rule_warnings.specs.Views.{uses_of}
use Rattle.rule_warnings.specs.Told.{with_below, selection_uses}
use Rattle.rule_warnings.specs.Telling.{waiting_members}
use Rattle.rule_warnings.proofs.selections.tell_waiting.Given as goal

abbrev pub invariant-loop-parent : goal.invariant-loop-parent
invariant-loop-parent l =
    uses_of l.uses ⊕ flat_map (selection_uses (schema_tree l.schema)) (flat_map with_below (waiting_members l.waiting.items))
    ≡ uses_of l.fn.uses ⊕ flat_map (selection_uses (schema_tree l.schema)) (flat_map with_below (waiting_members l.fn.waiting.items))

abbrev pub decreases-loop-parent : goal.decreases-loop-parent
decreases-loop-parent l = length (flat_map with_below (waiting_members l.waiting.items))
