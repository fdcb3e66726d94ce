-- Faults that are told one after the other, and where there is no room.
use Rattle.std.proofs.lemmas.Grind.{common_steps}
use Rattle.fault_data.proofs.Room.{room_both, no_room}

pub ruleset room_steps = (room_both, common_steps)

pub ruleset full_steps = (no_room, common_steps)
