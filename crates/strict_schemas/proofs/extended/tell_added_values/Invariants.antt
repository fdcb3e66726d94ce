use Rattle.std.proofs.Common.{◌≡◌, map}
use Rattle.rule_definitions.specs.Room.{◌⊕◌}
use Rattle.strict_documents.specs.DepartureViews.{departures_of}
use Rattle.strict_schemas.specs.Told.{added_values_of}
use Rattle.strict_schemas.proofs.extended.tell_added_values.Given as goal

abbrev pub invariant-loop-value : goal.invariant-loop-value
invariant-loop-value l = departures_of l.departures ≡ departures_of l.fn.departures ⊕ added_values_of (map (λ e. (e.0.now, e.1.now)) l.yielded)
