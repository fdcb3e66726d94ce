use Rattle.std.proofs.Common.{◌<◌, Some, length, ap, ◌∙◌, arith, rules}
use Rattle.graphql_names.specs.NameValue.{NameValue}
use Rattle.rule_selection_queries.specs.Tests.{noted_names, plain_entries, unseen_key}
use Rattle.rule_selection_queries.proofs.Noting.{any_text}
use Rattle.rule_selection_queries.proofs.Turns.{unseen_on, unseen_here}
use Rattle.rule_selection_queries.proofs.values.unseen_key.Goals as goal

pub returns-then-not-contains : goal.returns-then-not-contains
returns-then-not-contains c =
    let es = c.args.entries.now in
    let seen = noted_names c.args.names.now in
    let h : c.loop-entry.entry-index < length es = omega arith in
    ap (λ (n : NameValue). Some n.text) c.in_ok-clone.ensures.same
    ∙ unseen_here es c.loop-entry.entry-index c.entry-item.result h c.entry-item.is seen (unseen_key seen (plain_entries es)) c.loop-entry.invariant c.contains.result
    (c.contains.ensures ∙ any_text c.entry-item.result.0.text c.args.names.now.keys) (search (rules, c.if-not-contains.true))

pub loop-entry-preserved : goal.loop-entry-preserved
loop-entry-preserved c =
    let es = c.args.entries.now in
    let seen = noted_names c.args.names.now in
    let h : c.loop-entry.entry-index < length es = omega arith in
    unseen_on es c.loop-entry.entry-index c.entry-item.result h c.entry-item.is seen (unseen_key seen (plain_entries es)) c.loop-entry.invariant c.contains.result
    (c.contains.ensures ∙ any_text c.entry-item.result.0.text c.args.names.now.keys) (search (rules, c.if-not-contains.false))
