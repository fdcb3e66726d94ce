use Rattle.round_trip.proofs.NestAlike.{printed_document, printed_type, printed_selections}
use Rattle.round_trip.proofs.depth.printed_texts_nest_as_their_tree.Goals as goal

pub returns : goal.returns
returns c = record { documents = printed_document; types = printed_type; selections = printed_selections }
