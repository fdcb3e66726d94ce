use Rattle.std.proofs.Common.{◌≡◌, ◌∷◌, [], ◌++◌, length, sym, ap, ◌∙◌, append_assoc, arith}
use Rattle.std.specs.Vec.Iter.{into_iter_items}
use Rattle.fault_data.specs.FaultView.{fault_of}
use Rattle.graphql_faults.specs.DetailsTree.{of_rule}
use Rattle.graphql_faults.proofs.Growing.{grown_more, grown_all, grown_kept}
use Rattle.graphql_faults.proofs.diagnostic_list.DiagnosticList.append_faults.Goals as goal

pub loop-fault-preserved : goal.loop-fault-preserved
loop-fault-preserved c =
    let at = c.loop-fault in
    let x = c.in-Some.fault in
    let steps : into_iter_items at.fault-iterator ≡ x ∷ into_iter_items c.next.new.self = c.in-Some.ensures.steps.0 in (
      grown_more fault_of of_rule _ _ _ at.yielded x at.invariant.0 c.in_ok-push_fault.ensures.added,
      at.invariant.1 ∙ ap (λ r. at.yielded ++ r) steps ∙ sym (append_assoc at.yielded (x ∷ []) (into_iter_items c.next.new.self)),
      let was = at.invariant.2 in
          let gone = c.in-Some.ensures.steps.1 in
          let short = ap length steps in
          omega arith,
    )

pub returns-in_err-push_fault-clause-begins : goal.returns-in_err-push_fault-clause-begins
returns-in_err-push_fault-clause-begins c =
    grown_kept fault_of of_rule _ _ _ _ c.loop-fault.yielded c.loop-fault.invariant.0 c.in_err-push_fault.ensures.kept

pub returns-clause-added : goal.returns-clause-added
returns-clause-added c =
    let at = c.loop-fault in
    grown_all fault_of of_rule _ _ c.args.faults.items at.yielded _ at.invariant.0 at.invariant.1 (sym at.invariant.2 ∙ c.in-None.ensures.steps.0)
