use Rattle.std.proofs.Common.{length}
use denote.Shadow.{shadow}
use denote.Text.{Utf8}
use Rattle.tree_literals.specs.StringLayout.{escaped_text}
use Rattle.tree_literals.proofs.Runs.{PutSoFar}
use Rattle.tree_literals.proofs.print_string.put_escaped.Given as goal

abbrev pub invariant-loop-i : goal.invariant-loop-i
invariant-loop-i g l = record {
  so_far : PutSoFar g.S.Sink.puts l.fn.sink l.sink escaped_text l.rest l.fn.text;
  text : shadow (Utf8 l.rest);
}

abbrev pub decreases-loop-i : goal.decreases-loop-i
decreases-loop-i g l = length l.rest
