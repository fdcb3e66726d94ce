use Rattle.std.proofs.Common.{refl}
use Rattle.checker_calls.proofs.Deciding.{syntax_tells}
use Rattle.checker_calls.proofs.reading.syntax.Goals as goal

pub returns : goal.returns
returns c = syntax_tells c.args.file.0 c.args.fault.kind _ refl refl
