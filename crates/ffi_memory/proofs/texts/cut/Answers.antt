use Rattle.std.proofs.Common.{map, drop, sym, subst, List, ℕ, Bor}
use Rattle.ffi_memory.proofs.Cuts.{Going, going_begins, going_pushed, next_end, none_before, none_following, none_over, none_after, none_long, some_long, cut_whole}
use Rattle.ffi_memory.proofs.texts.cut.Goals as goal

pub loop-end-init : goal.loop-end-init
loop-end-init c =
    subst (λ (ts : List (Bor (List ℕ))). Going c.args.bytes.now c.args.ends.now 0 c.args.bytes.now c.args.ends.now (map (λ t. t.now) ts)) (sym c.new-texts.ensures.items) (going_begins c.args.bytes.now c.args.ends.now)

pub loop-end-preserved : goal.loop-end-preserved
loop-end-preserved c =
    going_pushed c.args.bytes.now c.args.ends.now c.loop-end.start c.loop-end.rest.now c.loop-end.end-index c.loop-end.texts.items c.push.new.self.items c.split_at.result.0 c.split_at.result.1
    c.loop-end-test.true c.loop-end.invariant c.split_at.ensures.by_index.0 c.split_at.ensures.front_len c.if-end-start.false c.in_ok-push.ensures.items

pub returns-then-end-start-clause-fault : goal.returns-then-end-start-clause-fault
returns-then-end-start-clause-fault c e =
    none_before c.args.bytes.now c.args.ends.now c.loop-end.start c.loop-end.rest.now (drop c.loop-end.end-index c.args.ends.now) (map (λ t. t.now) c.loop-end.texts.items) c.loop-end.invariant _ _
    (next_end c.args.ends.now c.loop-end.end-index c.loop-end-test.true) c.if-end-start.true

pub returns-then-rest-end-clause-fault : goal.returns-then-rest-end-clause-fault
returns-then-rest-end-clause-fault c e =
    none_following c.args.bytes.now c.args.ends.now c.loop-end.start c.loop-end.rest.now (drop c.loop-end.end-index c.args.ends.now) (map (λ t. t.now) c.loop-end.texts.items) c.loop-end.invariant _ _
    (next_end c.args.ends.now c.loop-end.end-index c.loop-end-test.true) c.if-rest-end.true

pub returns-then-not-is_empty-clause-fault : goal.returns-then-not-is_empty-clause-fault
returns-then-not-is_empty-clause-fault c e =
    none_over c.args.bytes.now c.args.ends.now c.loop-end.start c.loop-end.rest.now (drop c.loop-end.end-index c.args.ends.now) (map (λ t. t.now) c.loop-end.texts.items) c.loop-end.invariant
    (none_after c.args.ends.now c.loop-end.end-index c.loop-end-test.false) (some_long c.loop-end.rest.now (sym c.if-not-is_empty.ensures))

pub returns-clause-texts : goal.returns-clause-texts
returns-clause-texts c =
    cut_whole c.args.bytes.now c.args.ends.now c.loop-end.start c.loop-end.rest.now (drop c.loop-end.end-index c.args.ends.now) (map (λ t. t.now) c.loop-end.texts.items) c.loop-end.invariant
    (none_after c.args.ends.now c.loop-end.end-index c.loop-end-test.false) (none_long c.loop-end.rest.now (sym c.if-not-is_empty.ensures))
