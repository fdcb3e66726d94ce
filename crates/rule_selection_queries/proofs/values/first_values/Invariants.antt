use Rattle.std.proofs.Common.{◌≡◌, drop}
use Rattle.std.specs.Option.{option_or}
use Rattle.graphql_names.specs.NameValue.{NameValue}
use Rattle.rule_selection_queries.specs.Tests.{plain_entries, first_under, value_under}
use Rattle.rule_selection_queries.proofs.values.first_values.Given as goal

abbrev pub invariant-loop-entry : goal.invariant-loop-entry
invariant-loop-entry l = (n : NameValue) → first_under n.text (plain_entries l.entries) ≡ option_or (value_under n l.firsts) (first_under n.text (plain_entries (drop l.entry-index l.entries)))
