-- Faults that are told one after the other.
use Rattle.std.proofs.lemmas.Grind.{common_steps}
use Rattle.fault_data.proofs.Room.{room_both}

pub ruleset room_steps = (room_both, common_steps)
