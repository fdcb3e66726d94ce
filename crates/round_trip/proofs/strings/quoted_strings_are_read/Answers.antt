use Rattle.round_trip.proofs.Quoted.{quoted_is_token, quoted_value}
use Rattle.round_trip.proofs.strings.quoted_strings_are_read.Goals as goal

pub returns : goal.returns
returns c = record { token = quoted_is_token; value = quoted_value }
