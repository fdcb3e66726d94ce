-- The levels of lines.
use Rattle.std.specs.Prelude.{ℕ, ◌+◌}
use Rattle.tree_literals.specs.declared.level.Level.{Level, Outer, In'}

-- how many prefixes a line at this level has
abbrev pub level_depth : Level → ℕ
level_depth (Outer n) = n
level_depth (In' p outer) = level_depth outer + 1
