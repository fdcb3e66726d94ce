use Rattle.round_trip.proofs.BlockStrings.{block_is_token, block_value_is, block_exact}
use Rattle.round_trip.proofs.strings.block_strings_are_read.Goals as goal

pub returns : goal.returns
returns c = record { token = block_is_token; value = block_value_is; exact = block_exact }
