use Rattle.std.proofs.Common.{◌≡◌, ◌++◌, take}
use denote.Text.{Utf8}
use denote.Shadow.{shadow}
use Rattle.std.specs.String.{string_bytes}
use Rattle.read_tokens.specs.Blocks.{lines_of, without_blank_back}
use Rattle.read_tokens.specs.Values.{further_lines}
use Rattle.read_tokens.proofs.LineSteps.{Ready}
use Rattle.read_tokens.proofs.block_lines.push_kept.Given as goal

abbrev pub invariant-lines : goal.invariant-lines
invariant-lines l = record {
  text : shadow (Utf8 l.left);
  ready : Ready l.indent l.more l.left;
  so_far : string_bytes l.out ++ further_lines l.indent (take l.more (lines_of l.left)) ≡ string_bytes l.fn.out ++ further_lines l.indent (without_blank_back (lines_of l.fn.text));
}

abbrev pub decreases-lines : goal.decreases-lines
decreases-lines l = l.more
