use Rattle.std.proofs.Common.{◌≡◌, ◌+◌, ◌∙◌, length, Some, sym, ap, subst, true, false}
use Rattle.std.specs.Prelude.{slice_get}
use Rattle.std.proofs.lemmas.List.{length_push}
use Rattle.rule_cycle_search.specs.Found.{Finds}
use Rattle.rule_cycle_search.proofs.Counting.{counted_deep, push_each}
use Rattle.rule_cycle_search.proofs.found.find_cycles.Goals as goal
use Rattle.rule_cycle_search.proofs.found.find_cycles.Goals.{then-is_beyond, else-is_beyond}

pub look_back-requires-clause-deep : goal.look_back-requires-clause-deep
look_back-requires-clause-deep c = λ h.
    let g = c.args.graph.now in
    elim c.if-is_beyond.branch [
      | then-is_beyond w ↦
          let b = c.is_beyond.ensures w.if-is_beyond.true in
          counted_deep g true c.in_ok-firsts.firsts.items c.in_ok-firsts.ensures c.loop-root.root b.0 (subst (λ l. slice_get l c.loop-root.root ≡ Some b.0) c.deref-in-loop-root.ensures.value b.1.0) b.1.1
      | else-is_beyond w ↦
          let b = w.is_beyond-is_deep.ensures (sym w.is_deep-is ∙ h) in
          counted_deep g false c.in_ok-others.others.items c.in_ok-others.ensures c.loop-root.root b.0 (subst (λ l. slice_get l c.loop-root.root ≡ Some b.0) w.deref-else-is_beyond.ensures.value b.1.0) b.1.1
    ]

pub loop-root-preserved : goal.loop-root-preserved
loop-root-preserved c =
    let i = c.loop-root.invariant in
    record {
      long = ap length c.in_ok-push.ensures.items ∙ length_push c.loop-root.all.items c.in_ok-found.found ∙ ap (λ n. n + 1) i.long;
      each = λ root found h. push_each (Finds c.args.graph.now) c.loop-root.all.items c.in_ok-found.found i.each
          (subst (λ n. Finds c.args.graph.now n c.in_ok-found.found) (sym i.long) c.in_ok-found.ensures) root found
          (subst (λ l. slice_get l root ≡ Some found) c.in_ok-push.ensures.items h);
    }
