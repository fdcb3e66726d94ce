-- What is told one after the other, and in loops.
use Rattle.std.proofs.lemmas.Grind.{common_steps}
use Rattle.rule_definitions.proofs.Room.{room_both}

pub ruleset room_steps = (room_both, common_steps)
