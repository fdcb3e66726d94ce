use Rattle.std.proofs.Common.{◌≡◌, map, take}
use Rattle.rule_definitions.specs.Room.{◌⊕◌}
use Rattle.rule_reach.specs.Reach.{fragment_of}
use Rattle.strict_documents.specs.Given.{schema_of, variables_in}
use Rattle.strict_documents.specs.DepartureViews.{departures_of}
use Rattle.strict_documents.specs.Telling.{fragments_departures}
use Rattle.strict_documents.proofs.reached.tell_fragments.Given as goal

abbrev pub invariant-loop-index : goal.invariant-loop-index
invariant-loop-index l = departures_of l.departures ≡ departures_of l.fn.departures ⊕ fragments_departures (schema_of l.strictness) (variables_in l.strictness) (map fragment_of (take l.index l.reach.fragments.items))
