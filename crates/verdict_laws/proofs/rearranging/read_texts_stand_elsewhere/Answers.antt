use Rattle.verdict_laws.proofs.ReadTexts.{texts_elsewhere, is_own_list}
use Rattle.verdict_laws.proofs.rearranging.read_texts_stand_elsewhere.Goals as goal

pub returns-clause-elsewhere : goal.returns-clause-elsewhere
returns-clause-elsewhere c = texts_elsewhere

pub returns-clause-own : goal.returns-clause-own
returns-clause-own c = is_own_list
