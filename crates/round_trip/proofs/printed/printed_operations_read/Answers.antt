use Rattle.read_operations.specs.Meanings.{in_file}
use Rattle.round_trip.proofs.Alone.{literals_read, operation_alone, fragment_alone}
use Rattle.round_trip.proofs.printed.printed_operations_read.Goals as goal

pub returns : goal.returns
returns c = record { operation = λ file. operation_alone (in_file file) literals_read; fragment = λ file. fragment_alone (in_file file) literals_read }
