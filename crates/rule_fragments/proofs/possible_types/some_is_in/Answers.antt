use Rattle.std.proofs.Common.{◌<◌, map, length, sym, ap, ◌∙◌, arith}
use Rattle.schema_types.specs.TypeView.{name_text}
use Rattle.rule_fragments.specs.Held.{share_one}
use Rattle.rule_fragments.proofs.Noted.{any_text}
use Rattle.rule_fragments.proofs.Sharing.{passed, met}
use Rattle.rule_fragments.proofs.possible_types.some_is_in.Goals as goal

pub loop-name-init : goal.loop-name-init
loop-name-init c = ap (λ ks. share_one (map name_text ks) (map name_text c.args.set.now.keys)) (sym c.as_slice-name-items.ensures.keys)

pub loop-name-preserved : goal.loop-name-preserved
loop-name-preserved c =
    let xs = c.as_slice-name-items.result.now in
    let i = c.loop-name.name-index in
    let x = c.name-item.result in
    let ks = c.args.set.now.keys in
    let h : i < length xs = omega arith in
    c.loop-name.invariant ∙ passed xs (map name_text ks) i x h c.name-item.is (sym (any_text x ks) ∙ sym c.contains.ensures ∙ c.if-contains.false)

pub returns-then-contains : goal.returns-then-contains
returns-then-contains c =
    let xs = c.as_slice-name-items.result.now in
    let i = c.loop-name.name-index in
    let x = c.name-item.result in
    let ks = c.args.set.now.keys in
    let h : i < length xs = omega arith in
    sym (c.loop-name.invariant ∙ met xs (map name_text ks) i x h c.name-item.is (sym (any_text x ks) ∙ sym c.contains.ensures ∙ c.if-contains.true))
