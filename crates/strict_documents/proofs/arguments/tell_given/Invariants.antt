use Rattle.std.proofs.Common.{◌≡◌, take}
use Rattle.rule_definitions.specs.Room.{◌⊕◌}
use Rattle.strict_documents.specs.Given.{given_departures_of}
use Rattle.strict_documents.specs.DepartureViews.{departures_of}
use Rattle.strict_documents.proofs.arguments.tell_given.Given as goal

abbrev pub invariant-loop-argument : goal.invariant-loop-argument
invariant-loop-argument l = departures_of l.departures ≡ departures_of l.fn.departures ⊕ given_departures_of l.strictness l.definitions (take l.argument-index l.given)
