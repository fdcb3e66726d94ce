use Rattle.std.proofs.Common.{map}
use Rattle.tree_literals.specs.Joined.{joined}
use Rattle.tree_literals.specs.Levels.{level_depth}
use Rattle.tree_literals.specs.StringLayout.{block_line}
use Rattle.tree_literals.proofs.print_description.put_block_lines.Given as goal

abbrev pub invariant-loop-line : goal.invariant-loop-line
invariant-loop-line g l =
    g.S.Sink.puts l.fn.sink (joined (map (block_line l.prefix (level_depth l.level)) (map (λ x. x.now) l.yielded))) l.sink
