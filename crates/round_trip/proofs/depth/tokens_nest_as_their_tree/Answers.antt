use Rattle.round_trip.proofs.DocumentsNest.{derived_depth, derived_type_depth, derived_selections_depth}
use Rattle.round_trip.proofs.depth.tokens_nest_as_their_tree.Goals as goal

pub returns : goal.returns
returns c = record { documents = derived_depth; types = derived_type_depth; selections = derived_selections_depth }
