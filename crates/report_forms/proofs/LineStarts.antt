-- The places at which lines begin, and the one that a place's line has.
use Rattle.std.proofs.Common.{◌≡◌, ℕ, zero, suc, ◌+◌, ◌-◌, ◌<◌, ◌≤◌, Bool, true, false, not, ◌&&◌, ◌||◌, ◌⊎◌, cond, List, [], ◌∷◌, ◌++◌, length, get_or, refl, sym, ◌∙◌, ap, subst, arith, add-zero, inl, inr, length-append, append_assoc}
use Rattle.std.proofs.lemmas.Bool.Decides.{leb_tells, nat_tests}
use Rattle.std.proofs.lemmas.List.{get_or_append_left, get_or_at, get_or-append_right, get_or_past}
use Rattle.std.proofs.lemmas.Bool.Decides.{eqb_tells}
use Rattle.std.specs.Str.{IsUtf8, IsCharBoundary}
use Rattle.std.proofs.lemmas.Str.{IsCharBoundary-start, IsCharBoundary-after_ascii}
use Rattle.std.specs.List.Sorted.{IsPartitionedBy, IsPartitionPoint}
use Rattle.std.specs.Prelude.{nat_le}
use Rattle.report_forms.specs.declared.position.Position.{Position}
use Rattle.report_forms.specs.Ends.{ends_line, ends_character, continues_character, how_many}
use Rattle.report_forms.specs.Positions.{IsLineStart, IsPosition}
use Rattle.report_forms.specs.LineTexts.{IsNumberedStart}
use Rattle.report_forms.specs.Starts.{starts_up_to}
use Rattle.report_forms.proofs.Counting.{none_here, counted_here, how_many-none}

-- the last place up to n at which a line begins
abbrev pub last_start : List ℕ → ℕ → ℕ
last_start text zero = 0
last_start text (suc n) = cond (ends_line text (suc n)) (suc n) (last_start text n)

pub last_start-is : (text : List ℕ) (n : ℕ) → IsLineStart text n (last_start text n)
last_start-is text zero = record { before = omega arith; begins = λ ne. absurd (ne refl); last = λ k after upto. absurd (omega arith) }
last_start-is text (suc n) = elim (ends_line text (suc n)) as (λ b. ends_line text (suc n) ≡ b → IsLineStart text (suc n) (cond b (suc n) (last_start text n))) [
  | true ↦ λ e. record { before = omega arith; begins = λ _. e; last = λ k after upto. absurd (omega arith) }
  | false ↦ λ e. let ih = last_start-is text n in record {
    before = omega (arith, ih.before);
    begins = ih.begins;
    last = λ k after upto. elim (leb_tells k n) [
      | inl h ↦ ih.last k after h.1
      | inr h ↦ let is : suc n ≡ k = omega arith in subst (λ (m : ℕ). ends_line text m ≡ false) is e
    ];
  }
] refl

-- they end with the last, and before it are as many as line terminators end
pub record EndWithLast (text : List ℕ) (n : ℕ) : Type 0 where
  pub front : List ℕ
  pub split : starts_up_to text n ≡ front ++ last_start text n ∷ []
  pub counted : length front ≡ how_many (ends_line text) 0 n

pub starts-end : (text : List ℕ) (n : ℕ) → EndWithLast text n
starts-end text zero = record { front = []; split = refl; counted = refl }
starts-end text (suc n) = let ih = starts-end text n in elim (ends_line text (suc n)) as (λ b. ends_line text (suc n) ≡ b → EndWithLast text (suc n)) [
  | true ↦ λ e. record {
    front = starts_up_to text n;
    split = ap (λ b. cond b (starts_up_to text n ++ suc n ∷ []) (starts_up_to text n)) e ∙ ap (λ b. starts_up_to text n ++ cond b (suc n) (last_start text n) ∷ []) (sym e);
    counted = ap length ih.split ∙ length-append ih.front (last_start text n ∷ []) ∙ ap (λ m. m + 1) ih.counted ∙ ap (λ x. how_many (ends_line text) 0 n + x) (sym (counted_here n _ e));
  }
  | false ↦ λ e. record {
    front = ih.front;
    split = ap (λ b. cond b (starts_up_to text n ++ suc n ∷ []) (starts_up_to text n)) e ∙ ih.split ∙ ap (λ b. ih.front ++ cond b (suc n) (last_start text n) ∷ []) (sym e);
    counted = ih.counted ∙ sym (add-zero _) ∙ ap (λ x. how_many (ends_line text) 0 n + x) (sym (none_here (nat_le 0 n) _ e));
  }
] refl

pub starts-le : (text : List ℕ) (n k d : ℕ) → k < length (starts_up_to text n) → get_or (starts_up_to text n) k d ≤ n
starts-le text zero zero d less = omega arith
starts-le text zero (suc k) d less = absurd (omega arith)
starts-le text (suc n) k d less = elim (ends_line text (suc n)) as (λ b. k < length (cond b (starts_up_to text n ++ suc n ∷ []) (starts_up_to text n)) → get_or (cond b (starts_up_to text n ++ suc n ∷ []) (starts_up_to text n)) k d ≤ suc n) [
  | true ↦ λ within. elim (leb_tells (length (starts_up_to text n)) k) [
    | inl h ↦ let at : length (starts_up_to text n) ≡ k = omega (arith, h.1, within, length-append (starts_up_to text n) (suc n ∷ [])) in rw (get_or_at (starts_up_to text n) (suc n) [] d k at) (omega arith)
    | inr h ↦ rw (get_or_append_left (starts_up_to text n) (suc n ∷ []) d k h.1) (omega (arith, starts-le text n k d h.1))
  ]
  | false ↦ λ within. omega (arith, starts-le text n k d within)
] less

-- those up to m are those up to n, then others after n
pub record Extend (text : List ℕ) (n m : ℕ) : Type 0 where
  pub rest : List ℕ
  pub split : starts_up_to text m ≡ starts_up_to text n ++ rest
  pub following : (k d : ℕ) → k < length rest → n < get_or rest k d

starts-append_nil : (xs : List ℕ) → xs ≡ xs ++ []
starts-append_nil [] = refl
starts-append_nil (x ∷ xs) = ap (λ l. x ∷ l) (starts-append_nil xs)

pub starts-extend : (text : List ℕ) (n m : ℕ) → n ≤ m → Extend text n m
starts-extend text n zero le = let e : zero ≡ n = omega arith in record {
  rest = [];
  split = ap (λ k. starts_up_to text k) e ∙ starts-append_nil _;
  following = λ k d less. absurd (omega arith);
}
starts-extend text n (suc m) le = elim (leb_tells n m) [
  | inl h ↦ grow h.1 (starts-extend text n m h.1)
  | inr h ↦ let e : suc m ≡ n = omega arith in record {
    rest = [];
    split = ap (λ k. starts_up_to text k) e ∙ starts-append_nil _;
    following = λ k d less. absurd (omega arith);
  }
]
  where
    grow : n ≤ m → Extend text n m → Extend text n (suc m)
    grow below ih = elim (ends_line text (suc m)) as (λ b. ends_line text (suc m) ≡ b → Extend text n (suc m)) [
      | true ↦ λ e. record {
        rest = ih.rest ++ suc m ∷ [];
        split = ap (λ b. cond b (starts_up_to text m ++ suc m ∷ []) (starts_up_to text m)) e ∙ ap (λ l. l ++ suc m ∷ []) ih.split ∙ append_assoc (starts_up_to text n) ih.rest (suc m ∷ []);
        following = λ k d less. elim (leb_tells (length ih.rest) k) [
          | inl h ↦ let at : length ih.rest ≡ k = omega (arith, h.1, less, length-append ih.rest (suc m ∷ [])) in rw (get_or_at ih.rest (suc m) [] d k at) (omega arith)
          | inr h ↦ rw (get_or_append_left ih.rest (suc m ∷ []) d k h.1) (ih.following k d h.1)
        ];
      }
      | false ↦ λ e. record {
        rest = ih.rest;
        split = ap (λ b. cond b (starts_up_to text m ++ suc m ∷ []) (starts_up_to text m)) e ∙ ih.split;
        following = ih.following;
      }
    ] refl

-- a search for the last at or before the place is a search in a list that the test parts
pub starts-parted : (text : List ℕ) (place : ℕ) → place ≤ length text → IsPartitionedBy (λ y. nat_le y place) (starts_up_to text (length text))
starts-parted text place within i j d le less passes =
    let e = starts-extend text place (length text) within in
    let all = starts_up_to text (length text) in
    let early = starts_up_to text place in
    let below : j < length early = elim (leb_tells (length early) j) [
      | inl h ↦ absurd (omega (arith, e.following (j - length early) d (omega (arith, h.1, less, ap length e.split, length-append early e.rest)), after_at e.rest e.split h.1, told passes))
      | inr h ↦ h.1
    ] in
    tells (subst (λ (l : List ℕ). get_or l i d ≤ place) (sym e.split) (rw (get_or_append_left early e.rest d i (omega arith)) (starts-le text place i d (omega arith))))
  where
    told : nat_le (get_or (starts_up_to text (length text)) j d) place ≡ true → get_or (starts_up_to text (length text)) j d ≤ place
    told h = grind (arith, nat_tests)

    tells : get_or (starts_up_to text (length text)) i d ≤ place → nat_le (get_or (starts_up_to text (length text)) i d) place ≡ true
    tells h = grind (arith, nat_tests)

    after_at : (rest : List ℕ) → starts_up_to text (length text) ≡ starts_up_to text place ++ rest → length (starts_up_to text place) ≤ j → get_or (starts_up_to text (length text)) j d ≡ get_or rest (j - length (starts_up_to text place)) d
    after_at rest split h = ap (λ l. get_or l j d) split ∙ get_or-append_right (starts_up_to text place) rest (length (starts_up_to text place)) j d refl h

-- what a search finds: the number of the place's line, and where that begins
pub record FoundLine (text : List ℕ) (place i : ℕ) : Type 0 where
  pub line : i ≡ suc (how_many (ends_line text) 0 place)
  pub start : get_or (starts_up_to text (length text)) (i - 1) 0 ≡ last_start text place

pub found_line : (text : List ℕ) (place i : ℕ) → place ≤ length text → i ≤ length (starts_up_to text (length text))
    → IsPartitionPoint (λ y. nat_le y place ≡ true) (λ y. nat_le y place ≡ false) (starts_up_to text (length text)) i
    → FoundLine text place i
found_line text place i within short point =
    let all : List ℕ = starts_up_to text (length text) in
    let early : List ℕ = starts_up_to text place in
    let parts = starts-extend text place (length text) within in
    let ends = starts-end text place in
    let counted : length early ≡ suc (how_many (ends_line text) 0 place)
    = omega (arith, ap length ends.split, length-append ends.front (last_start text place ∷ []), ends.counted) in
    let sizes : length all ≡ length early + length parts.rest = ap length parts.split ∙ length-append early parts.rest in
    let not_less : length early ≤ i = elim (leb_tells (length early) i) [
      | inl h ↦ h.1
      | inr h ↦
          let first : get_or all i 0 ≡ get_or early i 0 = ap (λ l. get_or l i 0) parts.split ∙ get_or_append_left early parts.rest 0 i h.1 in
          absurd (omega (arith, first, starts-le text place i 0 h.1, refused (get_or all i 0) place (point.1 i 0 (omega arith) (omega (arith, h.1)))))
    ] in
    let not_more : i ≤ length early = elim (leb_tells i (length early)) [
      | inl h ↦ h.1
      | inr h ↦
          let next : get_or all (length early) 0 ≡ get_or parts.rest 0 0 = ap (λ l. get_or l (length early) 0) parts.split ∙ at_seam early parts.rest in
          absurd (omega (arith, next, parts.following 0 0 (omega arith), accepted (get_or all (length early) 0) place (point.0 (length early) 0 (omega arith) h.1)))
    ] in
    let at : i ≡ length early = omega arith in
    record {
      line = at ∙ counted;
      start =
          let before : i - 1 ≡ length ends.front = omega (arith, counted, ends.counted) in
          let inside : length ends.front < length early = omega (arith, counted, ends.counted) in
          ap (λ (n : ℕ). get_or all n 0) before ∙ ap (λ l. get_or l (length ends.front) 0) parts.split
          ∙ get_or_append_left early parts.rest 0 (length ends.front) inside
          ∙ ap (λ l. get_or l (length ends.front) 0) ends.split ∙ get_or_at ends.front (last_start text place) [] 0 (length ends.front) refl;
    }
  where
    refused : (a b : ℕ) → nat_le a b ≡ false → b < a
    refused a b h = grind (arith, nat_tests)

    accepted : (a b : ℕ) → nat_le a b ≡ true → a ≤ b
    accepted a b h = grind (arith, nat_tests)

    at_seam : (xs ys : List ℕ) → get_or (xs ++ ys) (length xs) 0 ≡ get_or ys 0 0
    at_seam [] ys = refl
    at_seam (x ∷ xs) ys = at_seam xs ys

-- after the end of the text no line terminator and no character ends
pub ends_line-beyond : (text : List ℕ) (k : ℕ) → length text < k → ends_line text k ≡ false
ends_line-beyond text zero less = absurd (omega arith)
ends_line-beyond text (suc k) less = rw (get_or_past text k 0 (omega arith)) refl

pub ends_character-beyond : (text : List ℕ) (k : ℕ) → length text < k → ends_character text k ≡ false
ends_character-beyond text zero less = absurd (omega arith)
ends_character-beyond text (suc k) less = elim (leb_tells (suc k) (length text)) [
  | inl h ↦ absurd (omega (arith, h.1))
  | inr h ↦ ap (λ b. b && not (continues_character (get_or text (suc k) 0))) h.0
]

-- a place past the end has the position of the end
pub IsPosition-beyond : (text : List ℕ) (place : ℕ) (position : Position) → length text ≤ place → IsPosition text (length text) position → IsPosition text place position
IsPosition-beyond text place position beyond is =
    let start = is.column.1 in record {
      line = is.line ∙ ap (λ n. 1 + n) (sym (how_many-none (ends_line text) 0 (length text) place beyond (λ k after upto. ends_line-beyond text k after)));
      column = (
        is.column.0,
        record {
          before = omega (arith, start.before);
          begins = start.begins;
          last = λ k after upto. elim (leb_tells k (length text)) [ inl h ↦ start.last k after h.1 | inr h ↦ ends_line-beyond text k h.1 ];
        },
        is.column.2 ∙ ap (λ n. 1 + n) (sym (how_many-none (ends_character text) is.column.0 (length text) place beyond (λ k after upto. ends_character-beyond text k after))),
      );
    }

-- after which byte a line terminator ends
neither : (a b c : Bool) → a ≡ false → b ≡ false → (a || (b && c)) ≡ true → ⊥
neither true b c p q e = cc
neither false true c p q e = cc
neither false false c p q e = cc

pub terminator_byte : (text : List ℕ) (k : ℕ) → ends_line text (suc k) ≡ true → (get_or text k 0 ≡ 10) ⊎ (get_or text k 0 ≡ 13)
terminator_byte text k e = elim (eqb_tells (get_or text k 0) 10) [
  | inl h ↦ inl h.1
  | inr h ↦ elim (eqb_tells (get_or text k 0) 13) [
    | inl i ↦ inr i.1
    | inr i ↦ absurd (neither _ _ _ h.0 i.0 e)
  ]
]

-- a text may be cut where a line begins
pub boundary_at_start : (text : List ℕ) (start : ℕ) → IsUtf8 text → IsLineStart text start start → start ≤ length text → IsCharBoundary text start
boundary_at_start text zero utf8 is within = IsCharBoundary-start text utf8
boundary_at_start text (suc k) utf8 is within =
    let ascii : get_or text k 0 < 128 = elim (terminator_byte text k (is.begins (omega arith))) [ inl h ↦ omega (arith, h) | inr h ↦ omega (arith, h) ] in
    let e : k + 1 ≡ suc k = omega arith in
    subst (IsCharBoundary text) e (IsCharBoundary-after_ascii text k utf8 (omega arith) ascii)

-- how many lines there are
pub length-starts : (text : List ℕ) (n : ℕ) → length (starts_up_to text n) ≡ 1 + how_many (ends_line text) 0 n
length-starts text n =
    let ends = starts-end text n in
    omega (arith, ap length ends.split, length-append ends.front (last_start text n ∷ []), ends.counted)

-- each start has its number
pub numbered : (text : List ℕ) (n i : ℕ) → n ≤ length text → i < length (starts_up_to text n) → IsNumberedStart text (i + 1) (get_or (starts_up_to text n) i 0)
numbered text zero zero within less = record {
  within = omega arith;
  begins = record { before = omega arith; begins = λ ne. absurd (ne refl); last = λ k after upto. absurd (omega arith) };
  counted = refl;
}
numbered text zero (suc i) within less = absurd (omega arith)
numbered text (suc n) i within less = elim (ends_line text (suc n)) as (λ b. ends_line text (suc n) ≡ b → i < length (cond b (starts_up_to text n ++ suc n ∷ []) (starts_up_to text n)) → IsNumberedStart text (i + 1) (get_or (cond b (starts_up_to text n ++ suc n ∷ []) (starts_up_to text n)) i 0)) [
  | true ↦ λ e short. elim (leb_tells (length (starts_up_to text n)) i) [
    | inl h ↦
        let at : length (starts_up_to text n) ≡ i = omega (arith, h.1, short, length-append (starts_up_to text n) (suc n ∷ [])) in
        let one_more : how_many (ends_line text) 0 (suc n) ≡ how_many (ends_line text) 0 n + 1 = ap (λ x. how_many (ends_line text) 0 n + x) (counted_here n _ e) in
        subst (IsNumberedStart text (i + 1)) (sym (get_or_at (starts_up_to text n) (suc n) [] 0 i at)) (record {
          within = within;
          begins = record { before = omega arith; begins = λ _. e; last = λ k after upto. absurd (omega arith) };
          counted = omega (arith, at, one_more, length-starts text n);
        })
    | inr h ↦ subst (IsNumberedStart text (i + 1)) (sym (get_or_append_left (starts_up_to text n) (suc n ∷ []) 0 i h.1)) (numbered text n i (omega arith) h.1)
  ]
  | false ↦ λ e short. numbered text n i (omega arith) short
] refl less
