use Rattle.std.proofs.Common.{replicate}
use Rattle.tree_literals.specs.Joined.{joined}
use Rattle.tree_literals.proofs.print_lines.put_times.Given as goal

abbrev pub invariant-loop : goal.invariant-loop
invariant-loop g l = g.S.Sink.puts l.fn.sink (joined (replicate l.counter l.text)) l.sink
