use Rattle.std.proofs.Common.{◌≡◌, take}
use Rattle.rule_definitions.specs.Room.{◌⊕◌}
use Rattle.strict_documents.specs.Given.{directives_departures_of}
use Rattle.strict_documents.specs.DepartureViews.{departures_of}
use Rattle.strict_documents.proofs.arguments.tell_directives.Given as goal

abbrev pub invariant-loop-directive : goal.invariant-loop-directive
invariant-loop-directive l = departures_of l.departures ≡ departures_of l.fn.departures ⊕ directives_departures_of l.strictness (take l.directive-index l.directives)
