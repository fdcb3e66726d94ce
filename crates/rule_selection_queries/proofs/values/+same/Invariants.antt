use Rattle.std.proofs.Common.{◌≡◌, drop}
use Rattle.rule_selection_queries.specs.Tests.{plain_items, plain_entries, noted_names, same_items, differing_key}
use Rattle.rule_selection_queries.proofs.values.+same.Given as goal

abbrev pub invariant-same_items-loop-item : goal.invariant-same_items-loop-item
invariant-same_items-loop-item l = same_items (plain_items l.fn.a) (plain_items l.fn.b) ≡ same_items (plain_items (drop l.item-index l.a)) (plain_items l.others)

abbrev pub invariant-differing_among-loop-entry : goal.invariant-differing_among-loop-entry
invariant-differing_among-loop-entry l = differing_key (noted_names l.fn.seen) (plain_entries l.a) (plain_entries l.b) ≡ differing_key (noted_names l.seen) (plain_entries (drop l.entry-index l.a)) (plain_entries l.b)
