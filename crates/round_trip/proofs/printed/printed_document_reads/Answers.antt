use Rattle.read_operations.specs.Meanings.{in_file}
use Rattle.round_trip.proofs.Alone.{literals_read, document_alone}
use Rattle.round_trip.proofs.printed.printed_document_reads.Goals as goal

pub returns : goal.returns
returns c = λ file. document_alone (in_file file) literals_read
