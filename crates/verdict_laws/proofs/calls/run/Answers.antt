use Rattle.checker_calls.specs.Layouts.{prefix_of}
use Rattle.graphql_checked.specs.Verdicts.{first_terms}
use Rattle.verdict_laws.proofs.CallsSeen.{run_answers}
use Rattle.verdict_laws.proofs.calls.run.Goals as goal

pub returns : goal.returns
returns g c run seen =
    run_answers g.R.Read.remaining g.D.Read.remaining g.W.Write.contents (prefix_of c.args.layout) (first_terms c.args.limits.nesting) c.args.schemas.now c.run.new.schemas c.args.document.now c.run.new.document c.args.out.now c.run.new.out run seen
    c.run.result c.run.ensures.answers c.run.ensures.fault c.run.ensures.complete
