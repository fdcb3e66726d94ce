use Rattle.std.proofs.Common.{Option, Some, Bor, sym, subst}
use Rattle.std.proofs.lemmas.Result.{on_ok_weaker}
use Rattle.graphql_names.specs.declared.node.Node.{Node}
use Rattle.document_typed_operations.specs.declared.operation.Fragment.{Fragment}
use Rattle.rule_cycle_search.specs.declared.found.Found.{Found}
use Rattle.rule_fragments.specs.SpreadViews.{fragment_meant, lent_at}
use Rattle.rule_fragments.specs.CycleFaults.{spread_trace, IsRecursiveFault, Tells, AddsFound}
use Rattle.rule_fragments.proofs.cycles.tell_found.Goals as goal

pub returns-in-Cycle : goal.returns-in-Cycle
returns-in-Cycle c =
    let r = c.args.references.now in
    let root = c.args.root in
    let old = c.args.faults.now in
    let new = c.recursive_fragment_definition.new.faults in
    on_ok_weaker c.recursive_fragment_definition.result
    (λ added. subst (λ (f : Option (Bor (Node Fragment))). AddsFound r (lent_at f) root c.args.found.now old new) (sym c.in-Some.is)
    (subst (λ (x : Found). AddsFound r (lent_at (Some c.in-Some.fragment)) root x old new) (sym c.in-Cycle.is)
    (added.0, (subst (λ path. Tells (IsRecursiveFault (spread_trace r root path)) (Some (fragment_meant c.in-Some.fragment.now)) added.0) c.deref.ensures.value added.1.0, added.1.1))))
    c.recursive_fragment_definition.ensures
