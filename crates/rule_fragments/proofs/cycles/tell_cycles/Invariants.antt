use Rattle.fault_data.specs.FaultView.{faults_of}
use Rattle.rule_cycles.specs.Telling.{TellsRoots}
use Rattle.rule_reach.specs.NotedNames.{noted_names}
use Rattle.rule_fragments.specs.SpreadViews.{fragment_entries}
use Rattle.rule_fragments.specs.CycleFaults.{used_at, TellsRecursive, TellsDeep}
use Rattle.rule_fragments.proofs.cycles.tell_cycles.Given as goal

abbrev pub invariant-loop-root : goal.invariant-loop-root
invariant-loop-root l =
    TellsRoots (TellsRecursive l.references (used_at (fragment_entries l.fragments) (noted_names l.used))) (TellsDeep l.references (used_at (fragment_entries l.fragments) (noted_names l.used))) l.references.graph l.root (faults_of l.fn.faults) (faults_of l.faults)
