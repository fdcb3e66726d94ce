use Rattle.read_operations.specs.Meanings.{in_file}
use Rattle.round_trip.proofs.Alone.{literals_read, value_alone}
use Rattle.round_trip.proofs.printed.printed_value_reads.Goals as goal

pub returns : goal.returns
returns c = λ file. value_alone (in_file file) literals_read
