use Rattle.std.proofs.Common.{ℕ, Option, sym, ap, ◌∙◌}
use Rattle.read_tokens.specs.Blocks.{lines_of, common_indent}
use Rattle.read_tokens.specs.Values.{least_of}
use Rattle.read_tokens.proofs.LineSteps.{common_step, common_end, empty_is}
use Rattle.read_tokens.proofs.block_lines.common_indent.Goals as goal

pub lines-preserved : goal.lines-preserved
lines-preserved c =
    ap (λ (o : Option ℕ). least_of o (common_indent (lines_of c.cut_bytes.result.1.now))) c.least_indent-common.ensures
    ∙ common_step c.lines.left.now c.cut_bytes.result.0.now c.cut_bytes.result.1.now c.lines.common c.cut_bytes.ensures.cut
    ∙ c.lines.invariant

pub returns : goal.returns
returns c = sym (common_end c.lines.left.now c.lines.common (empty_is c.lines.left.now (sym c.is_empty.ensures ∙ c.lines-test.false))) ∙ c.lines.invariant
