use Rattle.verdict_laws.proofs.SchemaBack.{schema_road_back}
use Rattle.verdict_laws.proofs.road_back.schemas_lead_back.Goals as goal

pub returns : goal.returns
returns c = schema_road_back
