use Rattle.std.proofs.Common.{refl}
use Rattle.checker_calls.proofs.reading.nesting.Goals as goal

pub returns : goal.returns
returns c = (refl, record { span = _; is = refl; of_file = refl; at = refl; long = refl })
