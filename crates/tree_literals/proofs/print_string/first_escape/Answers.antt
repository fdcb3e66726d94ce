use Rattle.std.proofs.Common.{arith, sym, ◌∙◌}
use Rattle.std.proofs.lemmas.Grind.{common_steps}
use Rattle.tree_literals.proofs.Runs.{raw_all, first_escape-at}
use Rattle.tree_literals.proofs.print_string.first_escape.Goals as goal

pub returns-then-must_escape : goal.returns-then-must_escape
returns-then-must_escape c = first_escape-at _ _ (grind (arith, common_steps)) c.loop-i.invariant (sym c.must_escape.ensures ∙ c.if-must_escape.true)

pub returns : goal.returns
returns c = raw_all _ (λ k l. c.loop-i.invariant k (grind (arith, common_steps)))
