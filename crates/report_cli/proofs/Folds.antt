-- The laws of what is printed of many faults.
use Rattle.std.proofs.Common.{◌≡◌, ℕ, zero, suc, ◌+◌, ◌-◌, ◌<◌, ◌≤◌, Bool, true, false, cond, List, [], ◌∷◌, ◌++◌, length, take, get_or, map, min, refl, sym, ◌∙◌, ap, arith, inl, inr, add-one, add_comm, zero-add}
use Rattle.std.specs.Prelude.{nat_lt, nat_le, sum_by, Option, None, Some}
use Rattle.std.specs.Borrow.{Bor}
use Rattle.std.specs.Str.{bytes_eq}
use Rattle.std.specs.Cmp.Lexicographic.{bytes_decides}
use Rattle.std.proofs.Math.Seq.{take-length}
use Rattle.std.proofs.lemmas.Bool.{le-leb, lt-leb, lt-ltb, le-ltb}
use Rattle.std.proofs.lemmas.Bool.Decides.{leb_tells, eqb_tells}
use Rattle.std.proofs.lemmas.List.{take_more, map-append, length-map, get_or-map, take-map}
use Rattle.std.proofs.lemmas.List.Sums.{count_by_more_yes, count_by_more_no, sum_by-append}
use Rattle.std.proofs.lemmas.Option.{unwrap_or-slice_get}
use Rattle.report_cli.specs.declared.folding.Printed.{Printed}
use Rattle.report_cli.specs.Folding.{cause_text, is_cause, count_of, cause_at, before_of, more_after, printed_when, printed_at, printed_up_to, has_cause, printed_of, more_of, IsFolded}

-- what five leave
abbrev rest : ℕ → ℕ → ℕ
rest x total = cond (nat_le 5 x) (total - 5) 0

abbrev pub one_if : Bool → ℕ
one_if b = cond b 1 0

capped : (x : ℕ) → one_if (nat_lt x 5) + min 5 x ≡ min 5 (x + 1)
capped x = elim (leb_tells (suc x) 5) [
  | inl h ↦ let one : one_if (nat_lt x 5) ≡ 1 = ap one_if h.0 in omega (arith, one, h.1)
  | inr h ↦ let none : one_if (nat_lt x 5) ≡ 0 = ap one_if h.0 in omega (arith, none, h.1)
]

rest_more : (x total : ℕ) → cond (nat_lt x 5) (more_after x total) 0 + rest x total ≡ rest (x + 1) total
rest_more x total = elim (leb_tells 5 x) [
  | inl h ↦
      let gone : cond (nat_lt x 5) (more_after x total) 0 ≡ 0 = ap (λ b. cond b (more_after x total) 0) (le-ltb x 5 h.1) in
      let here : rest x total ≡ total - 5 = ap (λ b. cond b (total - 5) 0) h.0 in
      let after : rest (x + 1) total ≡ total - 5 = ap (λ b. cond b (total - 5) 0) (le-leb 5 (x + 1) (omega (arith, h.1))) in
      omega (arith, gone, here, after)
  | inr h ↦ elim (eqb_tells x 4) [
    | inl i ↦
        let here : cond (nat_lt x 5) (more_after x total) 0 ≡ total - 5 = ap (λ b. cond b (more_after x total) 0) (lt-ltb x 5 h.1) ∙ ap (λ b. cond b (total - 5) 0) i.0 in
        let before : rest x total ≡ 0 = ap (λ b. cond b (total - 5) 0) h.0 in
        let after : rest (x + 1) total ≡ total - 5 = ap (λ b. cond b (total - 5) 0) (le-leb 5 (x + 1) (omega (arith, i.1))) in
        omega (arith, here, before, after)
    | inr i ↦
        let here : cond (nat_lt x 5) (more_after x total) 0 ≡ 0 = ap (λ b. cond b (more_after x total) 0) (lt-ltb x 5 h.1) ∙ ap (λ b. cond b (total - 5) 0) i.0 in
        let before : rest x total ≡ 0 = ap (λ b. cond b (total - 5) 0) h.0 in
        let after : rest (x + 1) total ≡ 0 = ap (λ b. cond b (total - 5) 0) (lt-leb 5 (x + 1) (omega (arith, h.1, i.1))) in
        omega (arith, here, before, after)
  ]
]

whole : (total : ℕ) → min 5 total + rest total total ≡ total
whole total = elim (leb_tells 5 total) [
  | inl h ↦ let some : rest total total ≡ total - 5 = ap (λ b. cond b (total - 5) 0) h.0 in omega (arith, some, h.1)
  | inr h ↦ let none : rest total total ≡ 0 = ap (λ b. cond b (total - 5) 0) h.0 in omega (arith, none, h.1)
]

-- one is printed, or none
sum_of_one : (f : Printed → ℕ) (t : Bool) (p : Printed) → sum_by f (cond t (p ∷ []) []) ≡ cond t (f p) 0
sum_of_one f true p = zero-add (f p)
sum_of_one f false p = refl

abbrev none_if : Bool → ℕ
none_if t = cond t 0 0

neither : (t : Bool) → none_if t ≡ 0
neither true = refl
neither false = refl

module _ (cs : List (Option (List ℕ))) (m : List ℕ) where
  abbrev so_far : ℕ → ℕ
  so_far n = count_of m (take n cs)

  read : (n : ℕ) (b : Bool) → is_cause m (cause_at cs n) ≡ b → is_cause m (get_or cs n None) ≡ b
  read n b e = ap (is_cause m) (sym (unwrap_or-slice_get cs n None)) ∙ e

  counts_no : (n : ℕ) → n < length cs → is_cause m (cause_at cs n) ≡ false → so_far (suc n) ≡ so_far n
  counts_no n l e = ap so_far (sym (add-one n)) ∙ count_by_more_no (is_cause m) cs n None l (read n false e)

  counts_yes : (n : ℕ) → n < length cs → is_cause m (cause_at cs n) ≡ true → so_far (suc n) ≡ so_far n + 1
  counts_yes n l e = ap so_far (sym (add-one n)) ∙ count_by_more_yes (is_cause m) cs n None l (read n true e)

  -- what is printed of one entry with another message
  none_of : (f : Printed → ℕ) (n : ℕ) (c : List ℕ) → is_cause m (cause_at cs n) ≡ false
      → sum_by (λ (p : Printed). cond (has_cause cs m p) (f p) 0) (printed_at cs n (Some c)) ≡ 0
  none_of f n c e =
      let before = count_of c (take n cs) in
      let p : Printed = record { index = n; more = more_after before (count_of c cs) } in
      sum_of_one (λ (p : Printed). cond (has_cause cs m p) (f p) 0) (nat_lt before 5) p ∙ ap (λ b. cond (nat_lt before 5) (cond b (f p) 0) 0) e ∙ neither (nat_lt before 5)

  -- of one with this message
  one_of : (f : Printed → ℕ) (n : ℕ) (c : List ℕ) → is_cause m (cause_at cs n) ≡ true
      → sum_by (λ (p : Printed). cond (has_cause cs m p) (f p) 0) (printed_at cs n (Some c))
      ≡ cond (nat_lt (count_of c (take n cs)) 5) (f (record { index = n; more = more_after (count_of c (take n cs)) (count_of c cs) })) 0
  one_of f n c e =
      let before = count_of c (take n cs) in
      let p : Printed = record { index = n; more = more_after before (count_of c cs) } in
      sum_of_one (λ (p : Printed). cond (has_cause cs m p) (f p) 0) (nat_lt before 5) p ∙ ap (λ b. cond (nat_lt before 5) (cond b (f p) 0) 0) e

  five_step : (n : ℕ) (o : Option (List ℕ)) → cause_at cs n ≡ o → n < length cs → printed_of cs m (printed_at cs n o) + min 5 (so_far n) ≡ min 5 (so_far (suc n))
  five_step n None e l = zero-add (min 5 (so_far n)) ∙ ap (λ x. min 5 x) (sym (counts_no n l (ap (is_cause m) e)))
  five_step n (Some c) e l = elim (bytes_eq m c) as (λ b. bytes_eq m c ≡ b → printed_of cs m (printed_at cs n (Some c)) + min 5 (so_far n) ≡ min 5 (so_far (suc n))) [
    | true ↦ λ t.
        let at = ap (is_cause m) e ∙ t in
        let same : count_of c (take n cs) ≡ so_far n = ap (λ q. count_of q (take n cs)) (sym ((bytes_decides m c).0 t)) in
        ap (λ x. x + min 5 (so_far n)) (one_of (λ p. 1) n c at ∙ ap (λ x. one_if (nat_lt x 5)) same) ∙ capped (so_far n) ∙ ap (λ x. min 5 x) (sym (counts_yes n l at))
    | false ↦ λ f.
        let at = ap (is_cause m) e ∙ f in
        ap (λ x. x + min 5 (so_far n)) (none_of (λ p. 1) n c at) ∙ zero-add (min 5 (so_far n)) ∙ ap (λ x. min 5 x) (sym (counts_no n l at))
  ] refl

  others_step : (n : ℕ) (o : Option (List ℕ)) → cause_at cs n ≡ o → n < length cs
      → more_of cs m (printed_at cs n o) + rest (so_far n) (count_of m cs) ≡ rest (so_far (suc n)) (count_of m cs)
  others_step n None e l = zero-add (rest (so_far n) (count_of m cs)) ∙ ap (λ x. rest x (count_of m cs)) (sym (counts_no n l (ap (is_cause m) e)))
  others_step n (Some c) e l = elim (bytes_eq m c) as (λ b. bytes_eq m c ≡ b → more_of cs m (printed_at cs n (Some c)) + rest (so_far n) (count_of m cs) ≡ rest (so_far (suc n)) (count_of m cs)) [
    | true ↦ λ t.
        let at = ap (is_cause m) e ∙ t in
        let same : count_of c (take n cs) ≡ so_far n = ap (λ q. count_of q (take n cs)) (sym ((bytes_decides m c).0 t)) in
        let total : count_of c cs ≡ count_of m cs = ap (λ q. count_of q cs) (sym ((bytes_decides m c).0 t)) in
        ap (λ x. x + rest (so_far n) (count_of m cs)) (one_of (λ p. p.more) n c at ∙ ap (λ x. cond (nat_lt x 5) (more_after x (count_of c cs)) 0) same ∙ ap (λ k. cond (nat_lt (so_far n) 5) (more_after (so_far n) k) 0) total)
        ∙ rest_more (so_far n) (count_of m cs) ∙ ap (λ x. rest x (count_of m cs)) (sym (counts_yes n l at))
    | false ↦ λ f.
        let at = ap (is_cause m) e ∙ f in
        ap (λ x. x + rest (so_far n) (count_of m cs)) (none_of (λ p. p.more) n c at) ∙ zero-add (rest (so_far n) (count_of m cs)) ∙ ap (λ x. rest x (count_of m cs)) (sym (counts_no n l at))
  ] refl

  five_up_to : (n : ℕ) → n ≤ length cs → printed_of cs m (printed_up_to cs n) ≡ min 5 (so_far n)
  five_up_to zero l = refl
  five_up_to (suc n) l =
      let part = printed_at cs n (cause_at cs n) in
      sum_by-append (λ (p : Printed). cond (has_cause cs m p) 1 0) (printed_up_to cs n) part ∙ ap (λ x. x + printed_of cs m part) (five_up_to n (omega (arith, l)))
      ∙ add_comm (min 5 (so_far n)) (printed_of cs m part) ∙ five_step n (cause_at cs n) refl (omega (arith, l))

  others_up_to : (n : ℕ) → n ≤ length cs → more_of cs m (printed_up_to cs n) ≡ rest (so_far n) (count_of m cs)
  others_up_to zero l = refl
  others_up_to (suc n) l =
      let part = printed_at cs n (cause_at cs n) in
      sum_by-append (λ (p : Printed). cond (has_cause cs m p) p.more 0) (printed_up_to cs n) part ∙ ap (λ x. x + more_of cs m part) (others_up_to n (omega (arith, l)))
      ∙ add_comm (rest (so_far n) (count_of m cs)) (more_of cs m part) ∙ others_step n (cause_at cs n) refl (omega (arith, l))

pub is_folded : (cs : List (Option (List ℕ))) (given : List (Option (Bor (List ℕ)))) (printed : List Printed)
    → map cause_text given ≡ cs → printed ≡ printed_up_to (map cause_text given) (length given) → IsFolded cs printed
is_folded cs given printed e h =
    let first : printed ≡ printed_up_to cs (length cs) = h ∙ ap (printed_up_to (map cause_text given)) (sym (length-map given cause_text)) ∙ ap (λ l. printed_up_to l (length l)) e in
    let all : (m : List ℕ) → count_of m (take (length cs) cs) ≡ count_of m cs = λ m. ap (count_of m) (take-length cs) in
    let five : (m : List ℕ) → printed_of cs m printed ≡ min 5 (count_of m cs) = λ m. ap (printed_of cs m) first ∙ five_up_to cs m (length cs) (omega arith) ∙ ap (λ x. min 5 x) (all m) in
    let more : (m : List ℕ) → more_of cs m printed ≡ rest (count_of m cs) (count_of m cs) = λ m. ap (more_of cs m) first ∙ others_up_to cs m (length cs) (omega arith) ∙ ap (λ x. rest x (count_of m cs)) (all m) in
    record {
      first = first;
      five = five;
      others = λ m. ap (λ x. x + more_of cs m printed) (five m) ∙ ap (λ x. min 5 (count_of m cs) + x) (more m) ∙ whole (count_of m cs);
    }

-- one more message is counted
pub counted_more : (given : List (Option (Bor (List ℕ)))) (k : ℕ) (d : Option (Bor (List ℕ))) (q : List ℕ) → k < length given
    → count_of q (map cause_text (take (k + 1) given)) ≡ count_of q (map cause_text (take k given)) + one_if (is_cause q (cause_text (get_or given k d)))
counted_more given k d q l =
    let parts : map cause_text (take (k + 1) given) ≡ map cause_text (take k given) ++ cause_text (get_or given k d) ∷ [] =
    ap (map cause_text) (take_more given k d l) ∙ map-append cause_text (take k given) (get_or given k d ∷ []) in
    ap (count_of q) parts ∙ sum_by-append (λ c. cond (is_cause q c) 1 0) (map cause_text (take k given)) (cause_text (get_or given k d) ∷ [])
    ∙ ap (λ x. count_of q (map cause_text (take k given)) + x) (zero-add (one_if (is_cause q (cause_text (get_or given k d)))))

pub counted_step : (given : List (Option (Bor (List ℕ)))) (k : ℕ) (d : Option (Bor (List ℕ))) (q : List ℕ) (old new : ℕ) → k < length given
    → old ≡ count_of q (map cause_text (take k given)) → new ≡ old + one_if (is_cause q (cause_text (get_or given k d))) → new ≡ count_of q (map cause_text (take (k + 1) given))
counted_step given k d q old new l o n = n ∙ ap (λ x. x + one_if (is_cause q (cause_text (get_or given k d)))) o ∙ sym (counted_more given k d q l)

same_before : (f g : List ℕ → ℕ) → ((q : List ℕ) → f q ≡ g q) → (cause : Option (List ℕ)) → before_of f cause ≡ before_of g cause
same_before f g h None = refl
same_before f g h (Some m) = h m

same_when : (f g : List ℕ → ℕ) → ((q : List ℕ) → f q ≡ g q) → (index before : ℕ) (cause : Option (List ℕ)) → printed_when f index before cause ≡ printed_when g index before cause
same_when f g h index before None = refl
same_when f g h index before (Some m) = ap (λ total. cond (nat_lt before 5) (record { index = index; more = more_after before total } ∷ []) []) (h m)

-- one more entry is printed, or none
pub printed_more : (totals seen : List ℕ → ℕ) (given : List (Option (Bor (List ℕ)))) (k before : ℕ) (d : Option (Bor (List ℕ))) (old new : List Printed) → k < length given
    → ((q : List ℕ) → totals q ≡ count_of q (map cause_text given))
    → ((q : List ℕ) → seen q ≡ count_of q (map cause_text (take k given)))
    → before ≡ before_of seen (cause_text (get_or given k d))
    → new ≡ old ++ printed_when totals k before (cause_text (get_or given k d))
    → old ≡ printed_up_to (map cause_text given) k
    → new ≡ printed_up_to (map cause_text given) (k + 1)
printed_more totals seen given k before d old new l t s b n o =
    let cs = map cause_text given in
    let cause = cause_text (get_or given k d) in
    let at : cause ≡ cause_at cs k = sym (unwrap_or-slice_get cs k None ∙ get_or-map cause_text given k d None l) in
    let counted : before ≡ before_of (λ m. count_of m (take k cs)) cause = b ∙ same_before seen (λ m. count_of m (take k cs)) (λ q. s q ∙ ap (count_of q) (sym (take-map cause_text k given))) cause in
    let one : printed_when totals k before cause ≡ printed_at cs k cause =
    same_when totals (λ m. count_of m cs) t k before cause ∙ ap (λ x. printed_when (λ m. count_of m cs) k x cause) counted in
    n ∙ ap (λ l. l ++ printed_when totals k before cause) o ∙ ap (λ l. printed_up_to cs k ++ l) (one ∙ ap (printed_at cs k) at) ∙ ap (printed_up_to cs) (sym (add-one k))
