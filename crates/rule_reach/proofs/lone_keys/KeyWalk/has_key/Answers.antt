use Rattle.std.proofs.Common.{◌<◌, ◌≤◌, ◌∙◌, length, sym, subst, true≢false, arith}
use Rattle.std.proofs.lemmas.List.{take_all}
use Rattle.rule_definitions.proofs.Lists.{not_in_nil}
use Rattle.rule_reach.specs.Passed.{passed_fields, LacksKey}
use Rattle.rule_reach.proofs.Walking.{lacks_more}
use Rattle.rule_reach.proofs.lone_keys.KeyWalk.has_key.Goals as goal

pub loop-field-init : goal.loop-field-init
loop-field-init c = λ x h e. not_in_nil x h

pub loop-field-preserved : goal.loop-field-preserved
loop-field-preserved c =
    let items = c.deref-field-items.result.now in
    let i = c.loop-field.field-index in
    let within : i < length items = omega arith in
    lacks_more items i c.field-item.result c.args.key.now.text within c.field-item.is c.loop-field.invariant
    (λ e. true≢false (sym (c.is_under.ensures.1 e) ∙ c.if-is_under.false))

pub returns : goal.returns
returns c = λ no.
    let items = c.deref-field-items.result.now in
    let i = c.loop-field.field-index in
    let over : length items ≤ i = omega arith in
    subst (λ l. LacksKey (passed_fields l) c.args.key.now.text) (take_all i items over ∙ c.deref-field-items.ensures.value) c.loop-field.invariant
