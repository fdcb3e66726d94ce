use Rattle.std.proofs.Common.{sym, ◌∙◌, arith}
use Rattle.std.proofs.lemmas.Grind.{common_steps}
use Rattle.tree_literals.proofs.Runs.{sixteen_more}
use Rattle.tree_literals.proofs.print_string.plain_front.Goals as goal

pub sixteens-preserved : goal.sixteens-preserved
sixteens-preserved c = record {
  within = grind (arith, common_steps);
  plain = sixteen_more c.args.bytes.now c.sixteens.front (grind (arith, common_steps)) c.sixteens.invariant.plain (sym c.some_escape.ensures ∙ c.if-some_escape.false);
}
