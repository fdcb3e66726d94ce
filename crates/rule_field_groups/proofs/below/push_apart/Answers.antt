use Rattle.std.proofs.Common.{◌≡◌, ◌∙◌, ◌<◌, ◌++◌, ℕ, [], List, length, get_or, sym, subst, append-nil, arith}
use Rattle.std.proofs.lemmas.List.{take_all, get_or_default}
use Rattle.list_interner.specs.NumberRows.{rows_of}
use Rattle.rule_field_groups.specs.Under.{joined, twos_of}
use Rattle.rule_field_groups.proofs.Under.{twos_more}
use Rattle.rule_field_groups.proofs.below.push_apart.Goals as goal

pub loop-node-init : goal.loop-node-init
loop-node-init c = c.in_ok-push_joined.ensures ∙ sym (append-nil (rows_of c.args.lists.now ++ joined [] c.args.further.now))

pub loop-node-preserved : goal.loop-node-preserved
loop-node-preserved c =
    let i = c.loop-node.node-index in
    let h : i < length c.args.further.now = omega arith in
    let x = get_or c.args.further.now i 0 in
    let is : x ≡ get_or c.args.further.now i x = get_or_default c.args.further.now i 0 x h in
    let begun = rows_of c.args.lists.now ++ joined [] c.args.further.now in
    twos_more c.args.first.now c.args.further.now i x h is begun (rows_of c.loop-node.lists) (rows_of c.push_each_with.new.lists) c.loop-node.invariant c.in_ok-push_each_with.ensures

pub returns : goal.returns
returns c =
    subst (λ (l : List ℕ). rows_of c.loop-node.lists ≡ (rows_of c.args.lists.now ++ joined [] c.args.further.now) ++ twos_of c.args.first.now l)
    (take_all c.loop-node.node-index c.args.further.now c.loop-node-test.false) c.loop-node.invariant
