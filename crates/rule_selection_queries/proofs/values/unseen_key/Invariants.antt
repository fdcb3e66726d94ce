use Rattle.std.proofs.Common.{◌≡◌, drop}
use Rattle.rule_selection_queries.specs.Tests.{plain_entries, noted_names, unseen_key}
use Rattle.rule_selection_queries.proofs.values.unseen_key.Given as goal

abbrev pub invariant-loop-entry : goal.invariant-loop-entry
invariant-loop-entry l = unseen_key (noted_names l.names) (plain_entries l.entries) ≡ unseen_key (noted_names l.names) (plain_entries (drop l.entry-index l.entries))
