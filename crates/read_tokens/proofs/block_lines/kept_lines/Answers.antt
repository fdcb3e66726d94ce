use Rattle.std.proofs.Common.{ℕ, ◌+◌, length, sym, ap, ◌∙◌}
use Rattle.read_tokens.specs.Blocks.{lines_of}
use Rattle.read_tokens.specs.Values.{kept_of}
use Rattle.read_tokens.proofs.LineSteps.{kept_start, kept_step, kept_end, empty_is, full_is, fits_more, fits_none}
use Rattle.read_tokens.proofs.block_lines.kept_lines.Goals as goal

pub lines-init : goal.lines-init
lines-init c = record { same = kept_start (lines_of c.args.bytes.now); fits = fits_none (length c.args.bytes.now) }

pub lines-preserved : goal.lines-preserved
lines-preserved c = record {
  same = ap (λ (n : ℕ). kept_of n (c.lines.count + 1) (lines_of c.cut_bytes.result.1.now)) c.kept_with-kept.ensures
      ∙ kept_step c.lines.left.now c.cut_bytes.result.0.now c.cut_bytes.result.1.now c.lines.count c.lines.kept c.cut_bytes.ensures.cut
      ∙ c.lines.invariant.same;
  fits = fits_more c.lines.count (length c.lines.left.now) (length c.cut_bytes.result.1.now) (length c.args.bytes.now) c.lines.invariant.fits
      (c.cut_bytes.ensures.shorter (full_is c.lines.left.now (sym c.is_empty.ensures ∙ c.lines-test.true)));
}

pub returns : goal.returns
returns c = sym (kept_end c.lines.left.now c.lines.count c.lines.kept (empty_is c.lines.left.now (sym c.is_empty.ensures ∙ c.lines-test.false))) ∙ c.lines.invariant.same
