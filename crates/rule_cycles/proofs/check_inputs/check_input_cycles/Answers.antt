use Rattle.std.proofs.Common.{◌≡◌, ◌∙◌, Some, List, length, sym, ap, subst, inl, inr, arith}
use Rattle.std.specs.Prelude.{slice_get}
use Rattle.std.proofs.lemmas.Option.{slice_get-get_or}
use Rattle.fault_data.specs.FaultView.{faults_of}
use Rattle.fault_data.specs.in_rule_definitions.PlacedFaults.{PlacedFault}
use Rattle.rule_cycle_search.specs.declared.found.Found.{Found}
use Rattle.rule_cycle_search.specs.Found.{Finds}
use Rattle.rule_cycles.specs.FaultLists.{TellsInput, TellsDeepInput}
use Rattle.rule_cycles.specs.Telling.{TellsRoot, TellsRoots}
use Rattle.rule_cycles.specs.Trees.{schema_of}
use Rattle.rule_cycles.proofs.Telling.{TellsRoots-none, TellsRoots-more}
use Rattle.rule_cycles.proofs.InputsTold.{inputs_told}
use Rattle.rule_cycles.proofs.check_inputs.check_input_cycles.Goals as goal
use Rattle.rule_cycles.proofs.check_inputs.check_input_cycles.Goals.{in-Nothing, in-Cycle+in_ok-recursive_input_object_definition-in-Cycle, in-Deep+in_ok-deeply_nested_input_object-in-Deep}

pub loop-root-init : goal.loop-root-init
loop-root-init c = TellsRoots-none (TellsInput (schema_of c.args.judging.now)) (TellsDeepInput (schema_of c.args.judging.now)) c.in_ok-references.references.graph (faults_of c.args.faults.now)

pub loop-root-preserved : goal.loop-root-preserved
loop-root-preserved c =
    let s = schema_of c.args.judging.now in
    let found = c.found-item.result in
    let there = slice_get-get_or c.deref-found-items.result.now c.loop-root.root found (omega arith) ∙ ap (λ x. Some x) (sym c.found-item.is) in
    let finds = c.in_ok-all.ensures.each c.loop-root.root found (ap (λ l. slice_get l c.loop-root.root) (sym c.deref-found-items.ensures.value) ∙ there) in
    let g = c.in_ok-references.references.graph in
    let now = faults_of c.loop-root.faults in
    let more = λ (new : List PlacedFault) (told : TellsRoot (TellsInput s) (TellsDeepInput s) g c.loop-root.root now new). TellsRoots-more (TellsInput s) (TellsDeepInput s) g c.loop-root.root (faults_of c.args.faults.now) now new c.loop-root.invariant told in
    elim c.match-found.branch [
      | in-Nothing w ↦
          more (faults_of c.match-found.faults) (inl (ap faults_of w.faults-is, subst (λ (f : Found). Finds g c.loop-root.root f) w.in-Nothing.is finds))
      | in-Cycle+in_ok-recursive_input_object_definition-in-Cycle w ↦
          let path = w.in-Cycle.path.items in
          let told = w.in_ok-recursive_input_object_definition-in-Cycle.ensures in
          let along = subst (λ l. TellsInput s c.loop-root.root l told.0) w.deref.ensures.value told.1.0 in
          more (faults_of c.match-found.faults) (inr (told.0, (inl (path, (subst (λ (f : Found). Finds g c.loop-root.root f) w.in-Cycle.is finds, along)), ap faults_of w.faults-is ∙ told.1.1)))
      | in-Deep+in_ok-deeply_nested_input_object-in-Deep w ↦
          let told = w.in_ok-deeply_nested_input_object-in-Deep.ensures in
          more (faults_of c.match-found.faults) (inr (told.0, (inr (subst (λ (f : Found). Finds g c.loop-root.root f) w.in-Deep.is finds, told.1.0), ap faults_of w.faults-is ∙ told.1.1)))
    ]

pub returns : goal.returns
returns c =
    let s = schema_of c.args.judging.now in
    let whole : c.loop-root.root ≡ c.in_ok-references.references.graph.roots = omega (arith, ap length c.deref-found-items.ensures.value, c.in_ok-all.ensures.long) in
    inputs_told s c.requires c.in_ok-references.references.graph c.in_ok-references.ensures.graph (faults_of c.args.faults.now) (faults_of c.loop-root.faults)
    (subst (λ n. TellsRoots (TellsInput s) (TellsDeepInput s) c.in_ok-references.references.graph n (faults_of c.args.faults.now) (faults_of c.loop-root.faults)) whole c.loop-root.invariant)
