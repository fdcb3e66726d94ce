use Rattle.std.proofs.Common.{arith, refl}
use Rattle.read_grammar.proofs.Spans.{place_is}
use Rattle.read_operations.proofs.steps.since.Goals as goal

pub returns-clause-place : goal.returns-clause-place
returns-clause-place c =
    let less = c.saturating_sub.ensures in
    let last = c.last.ensures in
    place_is c.args.file.0 c.args.begin c.args.tokens.now.last _ refl refl (omega arith)
