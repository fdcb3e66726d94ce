use Rattle.std.proofs.Common.{ℕ, ◌+◌, ◌*◌}
use Rattle.read_operations.proofs.type_reader.+ty.Given as goal

abbrev pub decreases-bracketed : goal.decreases-bracketed
decreases-bracketed l = 3 * l.depth

abbrev pub decreases-unmarked : goal.decreases-unmarked
decreases-unmarked l = 3 * l.depth + 1

abbrev pub decreases-ty : goal.decreases-ty
decreases-ty l = 3 * l.depth + 2
