use Rattle.verdict_laws.proofs.PairBack.{pair_road_back, answer_road_back}
use Rattle.verdict_laws.proofs.road_back.pairs_lead_back.Goals as goal

pub returns-clause-pairs : goal.returns-clause-pairs
returns-clause-pairs c = pair_road_back

pub returns-clause-answers : goal.returns-clause-answers
returns-clause-answers c = answer_road_back
