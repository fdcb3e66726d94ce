use Rattle.verdict_laws.proofs.DocumentBack.{document_road_back}
use Rattle.verdict_laws.proofs.road_back.documents_lead_back.Goals as goal

pub returns : goal.returns
returns c = document_road_back
