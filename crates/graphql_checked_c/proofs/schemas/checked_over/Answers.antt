use Rattle.std.proofs.Common.{sym, ap, ◌∙◌}
use Rattle.graphql_checked_c.specs.declared.handle.Kept.{Kept}
use Rattle.std.specs.Prelude.{Some}
use Rattle.graphql_checked_c.proofs.schemas.checked_over.Goals as goal

pub returns-clause-answer : goal.returns-clause-answer
returns-clause-answer c = record { kept = c.deref.result.now; is = c.take-held.ensures.taken ∙ ap (λ (k : Kept). Some k) (sym c.deref.ensures); answers = c.checked-answer.ensures }
