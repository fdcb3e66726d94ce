use Rattle.std.proofs.Common.{sym, arith}
use Rattle.report_forms.specs.Ends.{ends_character}
use Rattle.report_forms.proofs.Counting.{how_many-self}
use Rattle.report_forms.proofs.ends.characters_between.Goals as goal

pub loop-last-init : goal.loop-last-init
loop-last-init c = record { value = sym (how_many-self (ends_character c.args.text.now) c.args.from); bound = omega arith }
