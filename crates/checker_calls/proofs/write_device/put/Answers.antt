use Rattle.std.proofs.Common.{subst, sym, ◌∙◌, arith}
use Rattle.std.specs.Io.KnownBytes.{Appends}
use Rattle.std.proofs.KnownBytes.{Appends-trans}
use Rattle.std.proofs.lemmas.Result.{err_from_is_err_and}
use Rattle.graphql_names.specs.Device.{device_inner}
use Rattle.checker_calls.proofs.InParts.{counted_on, next_more, next_room, next_fault, last_is, last_room, last_fault}
use Rattle.checker_calls.proofs.write_device.put.Goals as goal

pub put_after-requires : goal.put_after-requires
put_after-requires g c = next_room c.args.parts.now c.requires c.deref-start-items.result.now c.deref.result.now c.deref-start-items.ensures.value c.deref.ensures.value c.loop-start.start-index c.loop-start.before c.loop-start.invariant.count c.loop-start-test.true

pub returns-in_err-before-clause-fault : goal.returns-in_err-before-clause-fault
returns-in_err-before-clause-fault g c =
    let p = err_from_is_err_and c.from_residual.result c.from_residual.ensures.1 in
    rw (p.1, p.2) (next_fault c.args.parts.now c.requires c.deref-start-items.result.now c.deref.result.now c.deref-start-items.ensures.value c.deref.ensures.value c.loop-start.start-index c.loop-start.before c.loop-start.invariant.count
    g.W.Write.contents c.args.out.now c.loop-start.out c.put_after.new.out c.in_err-before.field-0.0 c.loop-start.invariant.written c.loop-start-test.true c.in_err-before.ensures.fault)

pub loop-start-preserved : goal.loop-start-preserved
loop-start-preserved g c =
    let more = next_more c.args.parts.now c.requires c.deref-start-items.result.now c.deref.result.now c.deref-start-items.ensures.value c.deref.ensures.value c.loop-start.start-index c.loop-start.before c.loop-start.invariant.count c.loop-start-test.true in
    record {
      count = counted_on c.in_ok-before.before c.loop-start.before _ _ _ c.in_ok-before.ensures.count c.loop-start.invariant.count more;
      written = subst (Appends (g.W.Write.contents (device_inner c.args.out.now)) (g.W.Write.contents (device_inner c.put_after.new.out))) more (Appends-trans _ _ _ _ _ c.loop-start.invariant.written c.in_ok-before.ensures.whole);
      running = c.in_ok-before.ensures.running ∙ c.loop-start.invariant.running;
    }

pub put_after-requires-2 : goal.put_after-requires-2
put_after-requires-2 g c =
    last_room c.args.parts.now c.requires c.deref-start-items.result.now c.deref-2.result.now c.deref-start-items.ensures.value c.deref-2.ensures.value c.loop-start.start-index c.loop-start.before c.loop-start.invariant.count (omega (arith, c.loop-start-test.false))

pub returns-in_err-put_after-clause-fault : goal.returns-in_err-put_after-clause-fault
returns-in_err-put_after-clause-fault g c =
    let p = err_from_is_err_and c.from_residual-in_err-put_after.result c.from_residual-in_err-put_after.ensures.1 in
    rw (p.1, p.2) (last_fault c.args.parts.now c.requires c.deref-start-items.result.now c.deref-2.result.now c.deref-start-items.ensures.value c.deref-2.ensures.value c.loop-start.start-index c.loop-start.before c.loop-start.invariant.count
    g.W.Write.contents c.args.out.now c.loop-start.out c.put_after-2.new.out c.in_err-put_after.field-0.0 c.loop-start.invariant.written (omega (arith, c.loop-start-test.false)) c.in_err-put_after.ensures.fault)

pub returns-clause-whole : goal.returns-clause-whole
returns-clause-whole g c =
    subst (Appends (g.W.Write.contents (device_inner c.args.out.now)) (g.W.Write.contents (device_inner c.put_after-2.new.out)))
    (sym (last_is c.args.parts.now c.requires c.deref-start-items.result.now c.deref-2.result.now c.deref-start-items.ensures.value c.deref-2.ensures.value c.loop-start.start-index c.loop-start.before c.loop-start.invariant.count (omega (arith, c.loop-start-test.false))))
    (Appends-trans _ _ _ _ _ c.loop-start.invariant.written c.in_ok-put_after.ensures.whole)
