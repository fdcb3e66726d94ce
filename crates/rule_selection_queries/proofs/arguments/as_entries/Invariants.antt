use Rattle.std.proofs.Common.{◌≡◌, map, take}
use Rattle.rule_selection_queries.specs.Tests.{entry_pair, argument_pair}
use Rattle.rule_selection_queries.proofs.arguments.as_entries.Given as goal

abbrev pub invariant-loop-argument : goal.invariant-loop-argument
invariant-loop-argument l = map entry_pair l.entries.items ≡ map argument_pair (take l.argument-index l.arguments)
