use Rattle.std.proofs.Common.{◌≡◌, length}
use denote.Text.{Utf8}
use denote.Shadow.{shadow}
use Rattle.std.specs.String.{string_bytes}
use Rattle.read_tokens.specs.Blocks.{lines_of, without_blank_front}
use Rattle.read_tokens.specs.Values.{kept_from}
use Rattle.read_tokens.proofs.LineSteps.{Ready}
use Rattle.read_tokens.proofs.block_lines.push_from.Given as goal

abbrev pub invariant-lines : goal.invariant-lines
invariant-lines l = record {
  text : shadow (Utf8 l.left);
  ready : Ready l.indent 0 l.left;
  same : kept_from l.indent (without_blank_front (lines_of l.left)) ≡ kept_from l.indent (without_blank_front (lines_of l.fn.text));
  out : string_bytes l.out ≡ string_bytes l.fn.out;
}

abbrev pub decreases-lines : goal.decreases-lines
decreases-lines l = length l.left
