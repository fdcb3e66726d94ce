use Rattle.std.proofs.Common.{◌∙◌}
use Rattle.rule_types.proofs.SameTypes.{same_as_tested}
use Rattle.rule_types.proofs.interface_arguments.same_type.Goals as goal

pub returns : goal.returns
returns c = c.eq.ensures ∙ same_as_tested c.args.a.now c.args.b.now
