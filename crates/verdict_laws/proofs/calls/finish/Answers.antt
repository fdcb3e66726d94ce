use Rattle.verdict_laws.proofs.CallsSeen.{finish_answers}
use Rattle.verdict_laws.proofs.calls.finish.Goals as goal

pub returns : goal.returns
returns c = finish_answers c.args.checker c.finish.result c.finish.ensures.schema c.finish.ensures.running c.finish.ensures.refused c.finish.ensures.complete
