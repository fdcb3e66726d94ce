use Rattle.std.proofs.Common.{◌≡◌, take}
use Rattle.rule_definitions.specs.Room.{◌⊕◌}
use Rattle.strict_documents.specs.DepartureViews.{departures_of}
use Rattle.strict_schemas.specs.Told.{extra_arguments_of}
use Rattle.strict_schemas.proofs.extra.tell_each_argument.Given as goal

abbrev pub invariant-loop-argument : goal.invariant-loop-argument
invariant-loop-argument l = departures_of l.departures ≡ departures_of l.fn.departures ⊕ extra_arguments_of l.wanted (take l.argument-index l.own)
