use Rattle.std.proofs.Common.{map, nat_eq, sym, ap, ◌∙◌}
use Rattle.schema_built_in.specs.in_definitions.Sources.{numbered_source}
use Rattle.indexmap.specs.IndexMap.{insert_entry}
use Rattle.schema_building.specs.SourcesView.{sources_view, with_sources}
use Rattle.schema_building.proofs.Sourcing.{insert_viewed}
use Rattle.schema_building.proofs.sources.add_sources.Goals as goal

pub loop-file-preserved : goal.loop-file-preserved
loop-file-preserved c =
    let old = c.loop-file.sources in
    let file = c.in-Some.file.now in
    let inserted =
    ap (map numbered_source) c.in_ok-insert.ensures.entries ∙ insert_viewed old.entries file c.in_ok-clone.field-0
    ∙ ap (insert_entry nat_eq (sources_view old) file.0) c.in_ok-clone.ensures.cases in
    ap (λ s. with_sources s (map numbered_source c.in-Some.others)) inserted ∙ sym (ap (λ l. with_sources (sources_view old) (map numbered_source l)) c.in-Some.ensures.parts) ∙ c.loop-file.invariant
