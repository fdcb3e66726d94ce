use Rattle.rule_schema_laws.proofs.BuiltInFound.{text_reads}
use Rattle.rule_schema_laws.proofs.built_in.built_in_text_reads.Goals as goal

pub returns : goal.returns
returns c = λ file. text_reads file
