use Rattle.read_operations.specs.Meanings.{in_file}
use Rattle.round_trip.proofs.Alone.{literals_read, selections_alone}
use Rattle.round_trip.proofs.printed.printed_selections_read.Goals as goal

pub returns : goal.returns
returns c = λ file. selections_alone (in_file file) literals_read
