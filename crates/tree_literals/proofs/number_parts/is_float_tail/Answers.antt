use Rattle.tree_literals.proofs.NumberLemmas.{tail-exponent}
use Rattle.tree_literals.proofs.number_parts.is_float_tail.Goals as goal

pub returns-else-first-eq46 : goal.returns-else-first-eq46
returns-else-first-eq46 c =
    tail-exponent _ _ _ _ c.in-Some.ensures.cases.0 c.if-first-eq46.false c.is_exponent.ensures
