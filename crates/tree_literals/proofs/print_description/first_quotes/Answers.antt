use Rattle.std.proofs.Common.{arith, sym, ◌∙◌}
use Rattle.std.proofs.lemmas.List.{take_rest}
use Rattle.std.proofs.lemmas.Grind.{common_steps}
use Rattle.tree_literals.proofs.Runs.{quotes_all, first_quotes-at}
use Rattle.tree_literals.proofs.print_description.first_quotes.Goals as goal

pub returns-then-begins_with_quotes : goal.returns-then-begins_with_quotes
returns-then-begins_with_quotes c = first_quotes-at _ _ (grind (arith, common_steps)) c.loop-i.invariant (sym (rw take_rest at c.begins_with_quotes.ensures) ∙ c.if-begins_with_quotes.true)

pub returns : goal.returns
returns c = quotes_all _ (λ k l. c.loop-i.invariant k (grind (arith, common_steps)))
