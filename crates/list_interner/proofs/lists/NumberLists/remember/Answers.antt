use Rattle.std.proofs.Common.{arith}
use Rattle.list_interner.proofs.Kept.{both_kept}
use Rattle.list_interner.proofs.lists.NumberLists.remember.Goals as goal

pub returns-in-len2-clause-keeps : goal.returns-in-len2-clause-keeps
returns-in-len2-clause-keeps c =
    both_kept c.remember_two-in-len2.result _ _ c.args.numbers.items c.as_slice.result.now c.as_slice.ensures.value (omega (arith, c.in-len2.len_at_least)) (omega (arith, c.in-len2.len_below)) c.remember_two-in-len2.ensures.keeps
