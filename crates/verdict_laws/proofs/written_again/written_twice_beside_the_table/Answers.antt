use Rattle.schema_built_in.specs.Table.{built_in_definitions}
use Rattle.verdict_laws.proofs.Twice.{written_twice}
use Rattle.verdict_laws.proofs.RealTable.{real_table}
use Rattle.verdict_laws.proofs.written_again.written_twice_beside_the_table.Goals as goal

pub returns : goal.returns
returns c first again_first texts own rules = written_twice built_in_definitions first again_first texts real_table own rules
