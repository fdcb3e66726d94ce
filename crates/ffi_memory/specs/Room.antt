-- A caller's room for bytes.
use Rattle.std.specs.Prelude.{◌≡◌, ℕ, ◌≤◌, ◌<◌, List, ◌++◌, length, drop}

-- The bytes are at the front of the room if they fit; if not, the room is unchanged. Either way their length is told.
pub record IsPut (bytes old new : List ℕ) (needed : ℕ) : Type 0 where
  pub told : needed ≡ length bytes
  pub fits : needed ≤ length old → new ≡ bytes ++ drop needed old
  pub kept : length old < needed → new ≡ old
