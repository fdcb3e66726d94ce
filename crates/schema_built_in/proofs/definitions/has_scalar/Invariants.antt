use Rattle.std.proofs.Common.{◌≡◌, take, false}
use Rattle.std.specs.List.{list_any}
use Rattle.schema_built_in.specs.Rows.{is_scalar_named}
use Rattle.schema_built_in.proofs.definitions.has_scalar.Given as goal

abbrev pub invariant-loop-row : goal.invariant-loop-row
invariant-loop-row l = list_any (is_scalar_named l.name) (take l.row-index l.rows) ≡ false
