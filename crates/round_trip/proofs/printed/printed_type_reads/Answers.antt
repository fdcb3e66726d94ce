use Rattle.round_trip.proofs.Alone.{type_alone}
use Rattle.round_trip.proofs.printed.printed_type_reads.Goals as goal

pub returns : goal.returns
returns c = type_alone
