use Rattle.list_interner.proofs.Rows.{same_trans_bits, sets_after}
use Rattle.list_interner.proofs.bits.Bits.set.Goals as goal

pub returns-clause-set : goal.returns-clause-set
returns-clause-set c = sets_after c.args.self.now c.reach_up.new.self c.mark.new.self c.args.number c.mark.result
    (same_trans_bits c.args.self.now c.reach_down.new.self c.reach_up.new.self c.reach_down.ensures.same c.reach_up.ensures.same) c.mark.ensures
