use Rattle.verdict_laws.proofs.CallsSeen.{check_answers}
use Rattle.verdict_laws.proofs.calls.check.Goals as goal

pub returns : goal.returns
returns c =
    check_answers c.args.schema.now c.args.text.now c.check.result c.check.ensures.schema c.check.ensures.text c.check.ensures.accepted c.check.ensures.refused c.check.ensures.complete
