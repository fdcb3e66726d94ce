use Rattle.std.proofs.Common.{◌≡◌, length}
use Rattle.read_tokens.specs.Blocks.{lines_of, common_indent}
use Rattle.read_tokens.specs.Values.{least_of}
use Rattle.read_tokens.proofs.block_lines.common_indent.Given as goal

abbrev pub invariant-lines : goal.invariant-lines
invariant-lines l = least_of l.common (common_indent (lines_of l.left)) ≡ common_indent (lines_of l.fn.bytes)

abbrev pub decreases-lines : goal.decreases-lines
decreases-lines l = length l.left
