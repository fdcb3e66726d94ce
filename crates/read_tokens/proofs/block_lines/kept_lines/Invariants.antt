use Rattle.std.proofs.Common.{◌≡◌, ◌+◌, ◌≤◌, length}
use Rattle.read_tokens.specs.Blocks.{lines_of, without_blank_back}
use Rattle.read_tokens.specs.Values.{kept_of}
use Rattle.read_tokens.proofs.block_lines.kept_lines.Given as goal

abbrev pub invariant-lines : goal.invariant-lines
invariant-lines l = record {
  same : kept_of l.kept l.count (lines_of l.left) ≡ length (without_blank_back (lines_of l.fn.bytes));
  fits : l.count + length l.left ≤ length l.fn.bytes;
}

abbrev pub decreases-lines : goal.decreases-lines
decreases-lines l = length l.left
