use Rattle.std.proofs.Common.{◌≡◌, map, length}
use Rattle.schema_built_in.specs.in_definitions.Sources.{numbered_source}
use Rattle.schema_building.specs.SourcesView.{sources_view, with_sources}
use Rattle.schema_building.proofs.sources.add_sources.Given as goal

abbrev pub invariant-loop-file : goal.invariant-loop-file
invariant-loop-file l = with_sources (sources_view l.sources) (map numbered_source l.left) ≡ with_sources (sources_view l.fn.sources) (sources_view l.more)

abbrev pub decreases-loop-file : goal.decreases-loop-file
decreases-loop-file l = length l.left
