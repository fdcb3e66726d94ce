-- What a handle owns: nothing, or the value in a box with the right to free its block.
use Rattle.std.specs.Prelude.{Option, None, Some}
use mir.Syntax.{Ty}
use base.Fml.{Fml, ftrue}
use denote.RattleType.{RattleType}
use denote.RawPtr.{Ptr}
use Rattle.std.specs.contracts.impls.GlobalAllocator.TheImpl.{ghosts}
use Rattle.std_alloc.specs.Box.Ownership.{box_owns}

-- the right to free a block of the heap
abbrev pub token : Ty → Ptr → Fml
token = ghosts.dealloc_token (record { memory = record { seal = tt } })

abbrev pub held : (R : RattleType) → Ptr → Option R.Denot → Fml
held R at None = ftrue
held R at (Some value) = box_owns token R at value
