use Rattle.round_trip.proofs.NestAlike.{documents_alike, types_alike, selections_alike}
use Rattle.round_trip.proofs.depth.texts_of_equal_trees_nest_alike.Goals as goal

pub returns : goal.returns
returns c = record { documents = documents_alike; types = types_alike; selections = selections_alike }
