use Rattle.tree_literals.proofs.NumberLemmas.{digits-nonempty}
use Rattle.tree_literals.proofs.number_parts.is_digits.Goals as goal

pub returns-in-Some : goal.returns-in-Some
returns-in-Some c =
    digits-nonempty _ _ _ _ c.in-Some.ensures.cases.0 c.all_digits.ensures
