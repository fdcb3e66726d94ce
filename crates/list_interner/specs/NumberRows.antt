-- Lists of numbers, one after another.
use Rattle.std.specs.Prelude.{ℕ, ◌-◌, ◌∷◌, [], List, map, take, drop}
use Rattle.list_interner.specs.declared.number_rows.Row.{Row}
use Rattle.list_interner.specs.declared.number_rows.Row.TheVariants.{Two, Part}
use Rattle.list_interner.specs.declared.number_rows.NumberRows.{NumberRows}

-- the numbers of a row
abbrev pub part_at : List ℕ → Row → List ℕ
part_at numbers (Two one other) = one ∷ other ∷ []
part_at numbers (Part start end) = take (end - start) (drop start numbers)

-- the lists, in the order in which they were added
abbrev pub rows_of : NumberRows → List (List ℕ)
rows_of r = map (part_at r.numbers.items) r.rows.items
