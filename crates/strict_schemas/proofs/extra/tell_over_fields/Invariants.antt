use Rattle.std.proofs.Common.{◌≡◌, map}
use Rattle.rule_definitions.specs.Room.{◌⊕◌}
use Rattle.strict_documents.specs.DepartureViews.{departures_of}
use Rattle.strict_schemas.specs.Told.{extra_fields_of}
use Rattle.strict_schemas.proofs.extra.tell_over_fields.Given as goal

abbrev pub invariant-loop-name : goal.invariant-loop-name
invariant-loop-name l = departures_of l.departures ≡ departures_of l.fn.departures ⊕ extra_fields_of l.ty (map (λ e. (e.0.now, e.1.now)) l.yielded)
