use Rattle.std.proofs.Common.{ℕ, List, subst}
use Rattle.ffi_memory.specs.Room.{IsPut}
use Rattle.graphql_checked_c.proofs.schemas.told.Goals as goal

pub returns-clause-bytes : goal.returns-clause-bytes
returns-clause-bytes c = subst (λ (bytes : List ℕ). IsPut bytes c.args.room.now c.put.new.room c.put.result) c.deref.ensures.value c.put.ensures
