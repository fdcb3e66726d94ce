use Rattle.std.proofs.Common.{◌<◌, ◌||◌, false, bytes_eq, Some, length, sym, ap, ◌∙◌, arith, rules}
use Rattle.std.specs.List.{list_any}
use Rattle.std.specs.Option.{option_map_or}
use Rattle.std.proofs.lemmas.Result.{IfOk-weaker}
use Rattle.graphql_names.specs.NameValue.{NameValue}
use Rattle.rule_selection_queries.specs.Tests.{plain, noted_names, value_under, plain_entries, same, differing_key}
use Rattle.rule_selection_queries.proofs.Leaves.{leaf_is_same}
use Rattle.rule_selection_queries.proofs.Turns.{key_on, key_here, keys_end, items_end}
use Rattle.rule_selection_queries.proofs.values.+same.Goals as goal

pub is_same-returns-in_default : goal.is_same-returns-in_default
is_same-returns-in_default t c = leaf_is_same c.args.a.now c.args.b.now c.equal_values.result c.in_default.not-List c.in_default.not-Object c.equal_values.ensures

pub same_items-returns : goal.same_items-returns
same_items-returns t c = c.is_empty.ensures ∙ sym (c.loop-item.invariant ∙ items_end c.args.a.now c.loop-item.others.now c.loop-item.item-index c.loop-item-test.false)

pub differing_among-returns-then-not-branch : goal.differing_among-returns-then-not-branch
differing_among-returns-then-not-branch t c =
    let es = c.args.a.now in
    let fs = plain_entries c.args.b.now in
    let e = c.entry-item.result in
    let h : c.loop-entry.entry-index < length es = omega arith in
    ap (λ (n : NameValue). Some n.text) c.in_ok-clone.ensures.same
    ∙ key_here es c.loop-entry.entry-index e h c.entry-item.is fs (noted_names c.loop-entry.seen) (differing_key (noted_names c.args.seen.now) (plain_entries es) fs) c.loop-entry.invariant
    (value_under e.0 c.args.firsts.now) (c.requires e.0) c.in_ok-passes.field-0 (c.in_ok-passes.ensures.passes ∙ ap (λ v. list_any (bytes_eq e.0.text) (noted_names c.loop-entry.seen) || option_map_or (same (plain v)) (value_under e.0 c.args.firsts.now) false) c.content.ensures) (search (rules, c.if-not-branch.true))

pub differing_among-loop-entry-preserved : goal.differing_among-loop-entry-preserved
differing_among-loop-entry-preserved t c =
    let es = c.args.a.now in
    let fs = plain_entries c.args.b.now in
    let e = c.entry-item.result in
    let h : c.loop-entry.entry-index < length es = omega arith in
    key_on es c.loop-entry.entry-index e h c.entry-item.is fs (noted_names c.loop-entry.seen) (differing_key (noted_names c.args.seen.now) (plain_entries es) fs) c.loop-entry.invariant
    (value_under e.0 c.args.firsts.now) (c.requires e.0) c.in_ok-passes.field-0 (c.in_ok-passes.ensures.passes ∙ ap (λ v. list_any (bytes_eq e.0.text) (noted_names c.loop-entry.seen) || option_map_or (same (plain v)) (value_under e.0 c.args.firsts.now) false) c.content.ensures) (noted_names c.passes.new.seen) c.in_ok-passes.ensures.noted (search (rules, c.if-not-branch.false))

pub differing_among-returns : goal.differing_among-returns
differing_among-returns t c =
    IfOk-weaker c.unseen_key.result _ _
    (λ r u. u ∙ sym (c.loop-entry.invariant ∙ keys_end c.args.a.now c.loop-entry.entry-index (plain_entries c.args.b.now) (noted_names c.loop-entry.seen) c.loop-entry-test.false))
    c.unseen_key.ensures
