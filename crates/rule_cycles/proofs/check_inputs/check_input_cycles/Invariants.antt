use Rattle.fault_data.specs.FaultView.{faults_of}
use Rattle.rule_cycles.specs.FaultLists.{TellsInput, TellsDeepInput}
use Rattle.rule_cycles.specs.Telling.{TellsRoots}
use Rattle.rule_cycles.specs.Trees.{schema_of}
use Rattle.rule_cycles.proofs.check_inputs.check_input_cycles.Given as goal

abbrev pub invariant-loop-root : goal.invariant-loop-root
invariant-loop-root l = TellsRoots (TellsInput (schema_of l.judging)) (TellsDeepInput (schema_of l.judging)) l.references.graph l.root (faults_of l.fn.faults) (faults_of l.faults)
