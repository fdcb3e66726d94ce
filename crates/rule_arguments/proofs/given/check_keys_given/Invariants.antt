use Rattle.std.proofs.Common.{take}
use Rattle.rule_values.specs.in_fault_data.Adds.{Adds}
use Rattle.rule_arguments.specs.Trees.{arguments_of}
use Rattle.rule_arguments.specs.Alone.{KeysBreak}
use Rattle.rule_arguments.proofs.given.check_keys_given.Given as goal

abbrev pub invariant-loop-argument : goal.invariant-loop-argument
invariant-loop-argument l = Adds l.fn.faults l.faults (KeysBreak (arguments_of (take l.argument-index l.given)))
