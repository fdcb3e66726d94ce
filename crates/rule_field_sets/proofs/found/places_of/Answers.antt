use Rattle.std.proofs.Common.{◌<◌, length, arith}
use Rattle.document_typed_operations.specs.WalkView.{fragments_tree}
use Rattle.rule_field_sets.proofs.Places.{places_begun, places_step}
use Rattle.rule_field_sets.proofs.found.places_of.Goals as goal

pub loop-name-init : goal.loop-name-init
loop-name-init c = places_begun (fragments_tree c.args.fragments.now) c.new-places.result.keys c.new-places.ensures.empty

pub loop-name-preserved : goal.loop-name-preserved
loop-name-preserved c =
    let i = c.loop-name.name-index in
    let h : i < length c.args.names.now = omega arith in
    places_step (fragments_tree c.args.fragments.now) c.args.names.now i c.name-item.result c.loop-name.places.keys c.note_place.new.places.keys h c.name-item.is c.in_ok-note_place.ensures c.loop-name.invariant
