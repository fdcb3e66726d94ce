use Rattle.round_trip.proofs.Descriptions.{description_is_read, description_in_place}
use Rattle.round_trip.proofs.strings.descriptions_are_read.Goals as goal

pub returns : goal.returns
returns c = record { alone = description_is_read; in_place = description_in_place }
