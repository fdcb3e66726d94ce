use Rattle.round_trip.proofs.UnplacedNests.{document_unplaced, type_unplaced, selections_unplaced}
use Rattle.round_trip.proofs.depth.depths_count_no_places.Goals as goal

pub returns : goal.returns
returns c = record { documents = document_unplaced; types = type_unplaced; selections = selections_unplaced }
