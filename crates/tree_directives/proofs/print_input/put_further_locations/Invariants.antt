use Rattle.std.proofs.Common.{map, take, codes}
use Rattle.tree_literals.specs.Joined.{further_text}
use Rattle.tree_directives.specs.DirectivePlaces.{location_keyword}
use Rattle.tree_directives.proofs.print_input.put_further_locations.Given as goal

abbrev pub invariant-loop-location : goal.invariant-loop-location
invariant-loop-location g l =
    g.S.Sink.puts l.fn.sink (further_text (codes " | ") (map location_keyword (take l.location-index l.locations))) l.sink
