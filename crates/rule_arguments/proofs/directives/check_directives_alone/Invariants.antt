use Rattle.std.proofs.Common.{take}
use Rattle.rule_values.specs.in_fault_data.Adds.{Adds}
use Rattle.rule_arguments.specs.Trees.{directives_of}
use Rattle.rule_arguments.specs.Alone.{DirectivesAloneBreak}
use Rattle.rule_arguments.proofs.directives.check_directives_alone.Given as goal

abbrev pub invariant-loop-directive : goal.invariant-loop-directive
invariant-loop-directive l = Adds l.fn.faults l.faults (DirectivesAloneBreak (directives_of (take l.directive-index l.directives)))
