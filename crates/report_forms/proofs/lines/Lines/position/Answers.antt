use Rattle.std.proofs.Common.{◌≡◌, ℕ, ◌+◌, ◌-◌, ◌≤◌, min, length, List, get_or, true, false, subst, sym, ap, ◌∙◌, arith, rules, inl, inr}
use Rattle.std.proofs.lemmas.Bool.Decides.{leb_tells}
use Rattle.std.proofs.lemmas.List.{get_or_default}
use Rattle.std.proofs.lemmas.List.Sorted.{IsPartitionPoint-from_clause}
use Rattle.std.specs.Prelude.{nat_le}
use Rattle.std.specs.List.Sorted.{IsPartitionedBy, IsPartitionPoint}
use Rattle.report_forms.specs.Ends.{ends_line, ends_character, how_many}
use Rattle.report_forms.specs.Positions.{IsLineStart, IsPosition}
use Rattle.report_forms.specs.Starts.{starts_up_to}
use Rattle.report_forms.proofs.Counts.{counted_between, counted_bound}
use Rattle.report_forms.proofs.LineStarts.{found_line, starts-parted, last_start-is, IsPosition-beyond}
use Rattle.report_forms.proofs.lines.Lines.position.Goals as goal

-- the line that is found, in the list of starts, and what is read there
record Found (text starts : List ℕ) (place i : ℕ) : Type 0 where
  above : 1 ≤ i
  short : i ≤ length starts
  line : i ≡ 1 + how_many (ends_line text) 0 place
  start : (read : ℕ) → read ≡ get_or starts (i - 1) read → IsLineStart text place read

found : (text starts : List ℕ) (place i : ℕ) → starts ≡ starts_up_to text (length text) → place ≤ length text → i ≤ length starts
    → (IsPartitionedBy (λ y. nat_le y place) starts → IsPartitionPoint (λ y. nat_le y place ≡ true) (λ y. nat_le y place ≡ false) starts i) → Found text starts place i
found text starts place i is within short point =
    let parted : IsPartitionedBy (λ y. nat_le y place) starts = subst (IsPartitionedBy (λ y. nat_le y place)) (sym is) (starts-parted text place within) in
    let f = found_line text place i within (subst (λ (l : List ℕ). i ≤ length l) is short)
    (subst (λ (l : List ℕ). IsPartitionPoint (λ y. nat_le y place ≡ true) (λ y. nat_le y place ≡ false) l i) is (point parted)) in
    let above : 1 ≤ i = omega (arith, f.line) in
    record {
      above = above;
      short = short;
      line = omega (arith, f.line);
      start = λ read e. subst (IsLineStart text place) (sym (e ∙ get_or_default starts (i - 1) read 0 (omega (arith, above, short)) ∙ ap (λ l. get_or l (i - 1) 0) is ∙ f.start)) (last_start-is text place);
    }

-- the position of the place that is taken instead of one past the end
at_place : (text : List ℕ) (offset place line start column : ℕ) → place ≡ min offset (length text)
    → line ≡ 1 + how_many (ends_line text) 0 place → IsLineStart text place start → column ≡ how_many (ends_character text) start place
    → IsPosition text offset (record { line = line; column = column + 1 })
at_place text offset place line start column is counted starts count =
    let there : IsPosition text place (record { line = line; column = column + 1 }) = record { line = counted; column = (start, starts, omega (arith, count)) } in
    elim (leb_tells (length text) offset) [
      | inl h ↦ let end : place ≡ length text = omega (arith, h.1) in IsPosition-beyond text offset _ h.1 (subst (λ (p : ℕ). IsPosition text p (record { line = line; column = column + 1 })) end there)
      | inr h ↦ let same : place ≡ offset = omega (arith, h.1) in subst (λ (p : ℕ). IsPosition text p (record { line = line; column = column + 1 })) same there
    ]

pub overflow_sub-line : goal.overflow_sub-line
overflow_sub-line c =
    let place = c.min-place.result in
    (found c.self.inside.text.now c.deref.result.now place c.partition_point-line.result (c.deref.ensures.value ∙ c.self.invariant.of_lines)
    (omega (arith, c.min-place.ensures, ap length c.as_bytes-text.ensures.value)) c.partition_point-line.ensures.bound
    (λ parted. IsPartitionPoint-from_clause (λ y. nat_le y place) c.deref.result.now c.partition_point-line.result c.partition_point-line.ensures.partitioned parted (λ a r q k. search rules))).above

pub index-start-requires : goal.index-start-requires
index-start-requires c =
    let place = c.min-place.result in
    let f = found c.self.inside.text.now c.deref.result.now place c.partition_point-line.result (c.deref.ensures.value ∙ c.self.invariant.of_lines)
    (omega (arith, c.min-place.ensures, ap length c.as_bytes-text.ensures.value)) c.partition_point-line.ensures.bound
    (λ parted. IsPartitionPoint-from_clause (λ y. nat_le y place) c.deref.result.now c.partition_point-line.result c.partition_point-line.ensures.partitioned parted (λ a r q k. search rules)) in
    omega (arith, f.above, f.short, c.deref.ensures.len)

pub characters_up_to-before-requires-clause-within : goal.characters_up_to-before-requires-clause-within
characters_up_to-before-requires-clause-within c =
    let place = c.min-place.result in
    let f = found c.self.inside.text.now c.deref.result.now place c.partition_point-line.result (c.deref.ensures.value ∙ c.self.invariant.of_lines)
    (omega (arith, c.min-place.ensures, ap length c.as_bytes-text.ensures.value)) c.partition_point-line.ensures.bound
    (λ parted. IsPartitionPoint-from_clause (λ y. nat_le y place) c.deref.result.now c.partition_point-line.result c.partition_point-line.ensures.partitioned parted (λ a r q k. search rules)) in
    let starts = f.start c.index-start.result.now (subst (λ (l : List ℕ). c.index-start.result.now ≡ get_or l (c.partition_point-line.result - 1) c.index-start.result.now) (sym c.deref.ensures.value) c.index-start.ensures) in
    omega (arith, starts.before, c.min-place.ensures)

pub overflow_sub-result : goal.overflow_sub-result
overflow_sub-result c =
    let place = c.min-place.result in
    let f = found c.self.inside.text.now c.deref.result.now place c.partition_point-line.result (c.deref.ensures.value ∙ c.self.invariant.of_lines)
    (omega (arith, c.min-place.ensures, ap length c.as_bytes-text.ensures.value)) c.partition_point-line.ensures.bound
    (λ parted. IsPartitionPoint-from_clause (λ y. nat_le y place) c.deref.result.now c.partition_point-line.result c.partition_point-line.ensures.partitioned parted (λ a r q k. search rules)) in
    let starts = f.start c.index-start.result.now (subst (λ (l : List ℕ). c.index-start.result.now ≡ get_or l (c.partition_point-line.result - 1) c.index-start.result.now) (sym c.deref.ensures.value) c.index-start.ensures) in
    omega (arith, counted_between c.as_bytes-text.result.now c.index-start.result.now place c.characters_up_to-before.result c.characters_up_to-characters.result starts.before c.characters_up_to-before.ensures c.characters_up_to-characters.ensures)

pub overflow_add-result : goal.overflow_add-result
overflow_add-result c =
    omega (arith, counted_bound c.as_bytes-text.result.now c.min-place.result c.characters_up_to-characters.result c.characters_up_to-characters.ensures, c.min-place.ensures)

pub returns : goal.returns
returns c =
    let place = c.min-place.result in
    let text = c.self.inside.text.now in
    let start = c.index-start.result.now in
    let before = c.characters_up_to-before.result in
    let upto = c.characters_up_to-characters.result in
    let f = found text c.deref.result.now place c.partition_point-line.result (c.deref.ensures.value ∙ c.self.invariant.of_lines)
    (omega (arith, c.min-place.ensures, ap length c.as_bytes-text.ensures.value)) c.partition_point-line.ensures.bound
    (λ parted. IsPartitionPoint-from_clause (λ y. nat_le y place) c.deref.result.now c.partition_point-line.result c.partition_point-line.ensures.partitioned parted (λ a r q k. search rules)) in
    let starts = f.start start (subst (λ (l : List ℕ). start ≡ get_or l (c.partition_point-line.result - 1) start) (sym c.deref.ensures.value) c.index-start.ensures) in
    let count : upto - before ≡ how_many (ends_character c.as_bytes-text.result.now) start place =
    omega (arith, counted_between c.as_bytes-text.result.now start place before upto starts.before c.characters_up_to-before.ensures c.characters_up_to-characters.ensures) in
    subst (λ (t : List ℕ). IsPosition t c.args.offset (record { line = c.partition_point-line.result; column = upto - before + 1 })) c.self.view_is
    (at_place text c.args.offset place c.partition_point-line.result start (upto - before)
    (c.min-place.ensures ∙ ap (λ n. min c.args.offset n) (ap length c.as_bytes-text.ensures.value)) f.line starts
    (count ∙ ap (λ (t : List ℕ). how_many (ends_character t) start place) c.as_bytes-text.ensures.value))
