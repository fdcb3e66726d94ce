use Rattle.verdict_laws.proofs.CallsAlike.{verdicts_of_rearranged, schemas_of_rearranged}
use Rattle.verdict_laws.proofs.checked.rearranged_texts_are_checked_alike.Goals as goal

pub returns-clause-verdicts : goal.returns-clause-verdicts
returns-clause-verdicts c = verdicts_of_rearranged

pub returns-clause-schemas : goal.returns-clause-schemas
returns-clause-schemas c = schemas_of_rearranged
