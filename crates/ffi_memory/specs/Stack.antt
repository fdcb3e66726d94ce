-- A caller's stack, in bytes. The numbers are from measurements, and no proof is about them.
use Rattle.std.specs.Prelude.{ℕ, ◌+◌, ◌*◌, ◌==◌, if◌then◌else◌}

-- what a text with so many brackets open at once may need: 64 KB, and more for each
abbrev pub stack_of_nesting : ℕ → ℕ
stack_of_nesting nesting = 65536 + 1152 * nesting

-- the stack that there is if a caller gives this number: 512 KB for 0
abbrev pub stack_given : ℕ → ℕ
stack_given stack = if stack == 0 then 524288 else stack
