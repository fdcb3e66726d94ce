use Rattle.std.proofs.Common.{◌∙◌}
use Rattle.schema_types.specs.TypeView.{extended_type}
use Rattle.rule_cycles.proofs.Numbering.{numbered}
use Rattle.rule_cycles.proofs.numbers.type_number.Goals as goal

pub returns : goal.returns
returns c = c.get_index_of.ensures.index ∙ numbered extended_type c.args.name.now c.args.schema.now.types
