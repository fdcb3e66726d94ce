-- Lists of numbers, one after another: which stay, and which one comes to them.
use Rattle.std.proofs.Common.{◌≡◌, ◌∙◌, ℕ, ◌-◌, ◌<◌, ◌≤◌, List, [], ◌∷◌, ◌++◌, map, take, drop, get_or, length, Result, Ok, Err, Contains, refl, sym, ap, subst, append_assoc, length-append, length-drop, if◌then◌else◌, Bool, true, false, true≢false, arith, inl, inr}
use Rattle.std.specs.Result.{OnErr}
use Rattle.std.proofs.lemmas.List.{take-append-le, drop-append-le, take_all, drop_at, map_push, get_or-map, length-map}
use Rattle.std.proofs.lemmas.List.Elements.{Contains-push_cases, Contains-append_left, Contains-append_right}
use Rattle.rule_cycle_search.proofs.Lists.{Contains-first}
use Rattle.list_interner.specs.declared.number_rows.Row.{Row}
use Rattle.list_interner.specs.declared.number_rows.Row.TheVariants.{Two, Part}
use Rattle.list_interner.specs.Numbered.{Grows}
use Rattle.list_interner.specs.Writes.{Writes}
use Rattle.list_interner.specs.NumberRows.{part_at}

-- the numbers of each row are there
abbrev pub AreWithin : List ℕ → List Row → Type 0
AreWithin numbers rows = (start end : ℕ) → Contains rows (Part start end) → (start ≤ end) × (end ≤ length numbers)

pub on_err : {T E P : Type 0} (r : Result T E) → P → OnErr r P
on_err (Ok x) p = tt
on_err (Err e) p = p

pub grows_then : (old mid new : List ℕ) → Grows old mid → Grows mid new → Grows old new
grows_then old mid new (a, is) (b, is_too) = (a ++ b, is_too ∙ ap (λ l. l ++ b) is ∙ append_assoc old a b)

-- numbers come last: each row has what it had
part_same : (numbers more : List ℕ) (row : Row) → AreWithin numbers (row ∷ []) → part_at (numbers ++ more) row ≡ part_at numbers row
part_same numbers more (Two one other) within = refl
part_same numbers more (Part start end) within =
    let h = within start end (Contains-first (Part start end) [] (Part start end) refl) in
    ap (take (end - start)) (drop-append-le start numbers more (omega (arith, h.0, h.1)))
    ∙ take-append-le (end - start) (drop start numbers) more (omega (arith, h.0, h.1, length-drop start numbers))

parts_same : (numbers more : List ℕ) (rows : List Row) → AreWithin numbers rows → map (part_at (numbers ++ more)) rows ≡ map (part_at numbers) rows
parts_same numbers more [] within = refl
parts_same numbers more (row ∷ rows) within =
    let first : AreWithin numbers (row ∷ []) = λ start end c. within start end (Contains-append_left (row ∷ []) rows (Part start end) c) in
    let rest : AreWithin numbers rows = λ start end c. within start end (Contains-append_right (row ∷ []) rows (Part start end) c) in
    λ i. part_same numbers more row first i ∷ parts_same numbers more rows rest i

pub still_within : (old new : List ℕ) (rows : List Row) → AreWithin old rows → Grows old new → AreWithin new rows
still_within old new rows within (added, is) start end c = let h = within start end c in (h.0, omega (arith, h.1, ap length is, length-append old added))

pub still_parts : (old new : List ℕ) (rows : List Row) → AreWithin old rows → Grows old new → map (part_at new) rows ≡ map (part_at old) rows
still_parts old new rows within (added, is) = ap (λ l. map (part_at l) rows) is ∙ parts_same old added rows within

-- rows that are equal begin and end alike
abbrev begin_of : Row → ℕ
begin_of (Two one other) = 0
begin_of (Part start end) = start

abbrev end_of : Row → ℕ
end_of (Two one other) = 0
end_of (Part start end) = end

part_bounds : (start end start' end' : ℕ) → Part start end ≡ Part start' end' → (start ≡ start') × (end ≡ end')
part_bounds start end start' end' is = (ap begin_of is, ap end_of is)

abbrev is_two : Row → Bool
is_two (Two one other) = true
is_two (Part start end) = false

-- a row of two numbers more
pub two_within : (numbers : List ℕ) (one other : ℕ) (is_put : Bool) (rows new_rows : List Row) → new_rows ≡ (if is_put then rows ++ Two one other ∷ [] else rows) → AreWithin numbers rows → AreWithin numbers new_rows
two_within numbers one other true rows new_rows is within start end c = elim (Contains-push_cases rows (Two one other) (Part start end) (subst (λ l. Contains l (Part start end)) is c)) [
  | inl there ↦ within start end there
  | inr e ↦ absurd (true≢false (ap is_two e))
]
two_within numbers one other false rows new_rows is within start end c = within start end (subst (λ l. Contains l (Part start end)) is c)

-- one row more, of the numbers that come last
module _ (old added new : List ℕ) (row : Row) (w : Writes old added new row) where
  is_part : part_at new row ≡ added
  is_part =
      ap (part_at new) w.part ∙ ap (λ l. take (length new - length old) (drop (length old) l)) w.is ∙ ap (take (length new - length old)) (drop_at old added (length old) refl)
      ∙ take_all (length new - length old) added (omega (arith, ap length w.is, length-append old added))

  -- a row that is this one
  its_bounds : (start end : ℕ) → row ≡ Part start end → (start ≤ end) × (end ≤ length new)
  its_bounds start end is =
      let first = part_bounds (length old) (length new) start end (sym w.part ∙ is) in
      (omega (arith, first.0, first.1, ap length w.is, length-append old added), omega (arith, first.1))

  one_within : (rows new_rows : List Row) → new_rows ≡ rows ++ row ∷ [] → AreWithin old rows → AreWithin new new_rows
  one_within rows new_rows is within start end c = elim (Contains-push_cases rows row (Part start end) (subst (λ l. Contains l (Part start end)) is c)) [
    | inl there ↦ still_within old new rows within (added, w.is) start end there
    | inr e ↦ its_bounds start end e
  ]

  -- the same whether it was put there or not
  pub either_within : (is_put : Bool) (rows new_rows : List Row) → new_rows ≡ (if is_put then rows ++ row ∷ [] else rows) → AreWithin old rows → AreWithin new new_rows
  either_within true rows new_rows is within = one_within rows new_rows is within
  either_within false rows new_rows is within = subst (AreWithin new) (sym is) (still_within old new rows within (added, w.is))

  pub one_part : (rows new_rows : List Row) → new_rows ≡ rows ++ row ∷ [] → AreWithin old rows → map (part_at new) new_rows ≡ map (part_at old) rows ++ added ∷ []
  one_part rows new_rows is within =
      ap (map (part_at new)) is ∙ map_push (part_at new) rows row ∙ ap (λ l. l ++ part_at new row ∷ []) (still_parts old new rows within (added, w.is))
      ∙ ap (λ l. map (part_at old) rows ++ l ∷ []) is_part

-- what is read of a row
pub read_part : (numbers : List ℕ) (rows : List Row) (place start end : ℕ) (row : Row) → place < length (map (part_at numbers) rows) → row ≡ get_or rows place row → row ≡ Part start end → take (end - start) (drop start numbers) ≡ get_or (map (part_at numbers) rows) place []
read_part numbers rows place start end row h is part =
    let low : place < length rows = omega (arith, h, length-map rows (part_at numbers)) in
    ap (part_at numbers) (sym part ∙ is) ∙ sym (get_or-map (part_at numbers) rows place row [] low)

pub row_within : (numbers : List ℕ) (rows : List Row) (place start end : ℕ) (row : Row) → place < length (map (part_at numbers) rows) → row ≡ get_or rows place row → row ≡ Part start end → AreWithin numbers rows → (start ≤ end) × (end ≤ length numbers)
row_within numbers rows place start end row h is part within =
    let low : place < length rows = omega (arith, h, length-map rows (part_at numbers)) in
    within start end (subst (Contains rows) part (place, low, sym is))
