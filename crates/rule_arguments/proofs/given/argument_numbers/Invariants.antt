use Rattle.std.proofs.Common.{take}
use Rattle.rule_values.specs.in_rule_definitions.Names.{argument_name}
use Rattle.rule_values.specs.Firsts.{AreNumbers}
use Rattle.rule_arguments.specs.Trees.{arguments_of}
use Rattle.rule_arguments.proofs.given.argument_numbers.Given as goal

abbrev pub invariant-loop-index : goal.invariant-loop-index
invariant-loop-index l = AreNumbers argument_name l.numbers (arguments_of (take l.index l.given))
