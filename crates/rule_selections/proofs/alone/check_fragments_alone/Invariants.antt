use Rattle.std.proofs.Common.{map, take}
use Rattle.fault_data.specs.Adds.{Adds}
use Rattle.rule_definitions.specs.Words.{AtSomeIndex}
use Rattle.rule_arguments.specs.Alone.{DirectivesAloneBreak}
use Rattle.rule_reach.specs.Reach.{fragment_of}
use Rattle.rule_selections.proofs.alone.check_fragments_alone.Given as goal

abbrev pub invariant-loop-index : goal.invariant-loop-index
invariant-loop-index l = Adds l.fn.faults l.faults (λ f. AtSomeIndex (map fragment_of (take l.index l.reach.fragments.items)) (λ i x. DirectivesAloneBreak x.directives f))
