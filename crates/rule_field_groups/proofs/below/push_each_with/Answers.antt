use Rattle.std.proofs.Common.{◌≡◌, ◌<◌, ◌++◌, ℕ, List, length, get_or, sym, subst, append-nil, arith}
use Rattle.std.proofs.lemmas.List.{take_all, get_or_default}
use Rattle.list_interner.specs.NumberRows.{rows_of}
use Rattle.rule_field_groups.specs.Under.{each_with}
use Rattle.rule_field_groups.proofs.Under.{with_more}
use Rattle.rule_field_groups.proofs.below.push_each_with.Goals as goal

pub loop-node-init : goal.loop-node-init
loop-node-init c = sym (append-nil (rows_of c.args.lists.now))

pub loop-node-preserved : goal.loop-node-preserved
loop-node-preserved c =
    let i = c.loop-node.node-index in
    let h : i < length c.args.nodes.now = omega arith in
    let x = get_or c.args.nodes.now i 0 in
    let is : x ≡ get_or c.args.nodes.now i x = get_or_default c.args.nodes.now i 0 x h in
    with_more c.args.last c.args.nodes.now i x h is (rows_of c.args.lists.now) (rows_of c.loop-node.lists) (rows_of c.push_two.new.self) c.loop-node.invariant c.in_ok-push_two.ensures.pushed

pub returns : goal.returns
returns c =
    subst (λ (l : List ℕ). rows_of c.loop-node.lists ≡ rows_of c.args.lists.now ++ each_with l c.args.last)
    (take_all c.loop-node.node-index c.args.nodes.now c.loop-node-test.false) c.loop-node.invariant
