-- Numbers that are appended, and the row that they form.
use Rattle.std.specs.Prelude.{◌≡◌, ◌++◌, ℕ, List, length}
use Rattle.list_interner.specs.declared.number_rows.Row.{Row}
use Rattle.list_interner.specs.declared.number_rows.Row.TheVariants.{Part}

-- the added numbers are appended, and the row is that of these
pub record Writes (old added new : List ℕ) (row : Row) : Type 0 where
  pub is : new ≡ old ++ added
  pub part : row ≡ Part (length old) (length new)
