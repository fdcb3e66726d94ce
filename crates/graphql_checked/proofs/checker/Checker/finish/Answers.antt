use Rattle.std.proofs.Common.{subst}
use Rattle.checker_schemas.specs.Refusals.{RefusalOfSchemas}
use Rattle.checker_schemas.proofs.Refusing.{refusal_of_schemas}
use Rattle.graphql_checked.proofs.checker.Checker.finish.Goals as goal

pub returns-in-Err-clause-complete : goal.returns-in-Err-clause-complete
returns-in-Err-clause-complete c running certain =
    refusal_of_schemas c.args.self.terms c.args.self.texts certain c.in-Err.refusal (subst (λ v. RefusalOfSchemas v.terms v.texts c.in-Err.refusal) c.self.view_is c.in-Err.ensures.refused)
