use Rattle.verdict_laws.proofs.Adopted.{settled_rearranged, cut_settled}
use Rattle.verdict_laws.proofs.Elsewhere.{settled_elsewhere}
use Rattle.verdict_laws.proofs.rearranging.settings_keep_the_order.Goals as goal

pub returns-clause-rearranged : goal.returns-clause-rearranged
returns-clause-rearranged c = settled_rearranged

pub returns-clause-cut : goal.returns-clause-cut
returns-clause-cut c = cut_settled

pub returns-clause-elsewhere : goal.returns-clause-elsewhere
returns-clause-elsewhere c = settled_elsewhere
