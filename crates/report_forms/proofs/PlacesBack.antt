-- From a position back to its place.
use Rattle.std.proofs.Common.{◌≡◌, ◌≢◌, ℕ, zero, suc, ◌+◌, ◌<◌, ◌≤◌, Bool, true, false, List, length, sym, ◌∙◌, ap, subst, arith, inl, inr}
use Rattle.std.proofs.lemmas.Bool.Decides.{leb_tells}
use Rattle.report_forms.specs.declared.position.Position.{Position}
use Rattle.report_forms.specs.Ends.{ends_line, ends_character, how_many}
use Rattle.report_forms.specs.Positions.{IsLineStart, IsPosition, IsColumn, IsFirstInLine, IsFirstPlace}
use Rattle.report_forms.specs.LineTexts.{IsNumberedStart}
use Rattle.report_forms.proofs.Counting.{how_many-none, how_many-le, counted_here}
use Rattle.report_forms.proofs.LineStarts.{ends_line-beyond, ends_character-beyond}

-- as many line terminators end up to a place as up to the start of its line
pub counted_from_start : (text : List ℕ) (place start : ℕ) → IsLineStart text place start → how_many (ends_line text) 0 place ≡ how_many (ends_line text) 0 start
counted_from_start text place start is = how_many-none (ends_line text) 0 start place is.before is.last

-- more line terminators end up to the start of a line than up to any place before it
more_at_start : (text : List ℕ) (early late : ℕ) → early < late → (late ≢ 0 → ends_line text late ≡ true) → how_many (ends_line text) 0 early < how_many (ends_line text) 0 late
more_at_start text early zero less begins = absurd (omega arith)
more_at_start text early (suc n) less begins =
    let step : how_many (ends_line text) 0 (suc n) ≡ how_many (ends_line text) 0 n + 1 = ap (λ x. how_many (ends_line text) 0 n + x) (counted_here n (ends_line text (suc n)) (begins (omega arith))) in
    omega (arith, step, how_many-le (ends_line text) 0 early n (omega arith))

-- a line has one start
same_start : (text : List ℕ) (one other : ℕ) → (one ≢ 0 → ends_line text one ≡ true) → (other ≢ 0 → ends_line text other ≡ true)
    → how_many (ends_line text) 0 one ≡ how_many (ends_line text) 0 other → one ≡ other
same_start text one other p q e = elim (leb_tells (suc one) other) [
  | inl h ↦ absurd (omega (arith, e, more_at_start text one other (omega (arith, h.1)) q))
  | inr h ↦ elim (leb_tells (suc other) one) [
    | inl i ↦ absurd (omega (arith, e, more_at_start text other one (omega (arith, i.1)) p))
    | inr i ↦ omega (arith, h.1, i.1)
  ]
]

-- a place with the position has its column in that line
pub column_of : (text : List ℕ) (start place : ℕ) (position : Position) → IsNumberedStart text position.line start → IsPosition text place position → IsColumn text start position.column place
column_of text start place position numbered is =
    let own = is.column.0 in
    let begins = is.column.1 in
    let same : own ≡ start = same_start text own start begins.begins numbered.begins.begins
    (omega (arith, is.line, numbered.counted, counted_from_start text place own begins)) in
    record {
      line = subst (IsLineStart text place) same begins;
      counted = is.column.2 ∙ ap (λ (s : ℕ). 1 + how_many (ends_character text) s place) same;
    }

-- and the other way round
pub position_of : (text : List ℕ) (start place : ℕ) (position : Position) → IsNumberedStart text position.line start → IsColumn text start position.column place → IsPosition text place position
position_of text start place position numbered is = record {
  line = numbered.counted ∙ ap (λ n. 1 + n) (sym (counted_from_start text place start is.line));
  column = (start, is.line, is.counted);
}

pub first_place : (text : List ℕ) (start place : ℕ) (position : Position) → IsNumberedStart text position.line start → IsFirstInLine text start position.column place → IsFirstPlace text position place
first_place text start place position numbered is = record {
  at = position_of text start place position numbered is.at;
  first = λ k less other. is.first k less (column_of text start k position numbered other);
}

-- a position names a line of the text
pub line_is_there : (text : List ℕ) (place : ℕ) (position : Position) → IsPosition text place position → (0 < position.line) × (position.line ≤ 1 + how_many (ends_line text) 0 (length text))
line_is_there text place position is = (
  omega (arith, is.line),
  elim (leb_tells place (length text)) [
    | inl h ↦ omega (arith, is.line, how_many-le (ends_line text) 0 place (length text) h.1)
    | inr h ↦ omega (arith, is.line, how_many-none (ends_line text) 0 (length text) place (omega (arith, h.1)) (λ k after upto. ends_line-beyond text k after))
  ],
)

-- the walk along a line: the column that is reached, and that no place before has the one that is looked for
pub record IsOnTheWay (text : List ℕ) (start column reached place : ℕ) : Type 0 where
  pub line : IsLineStart text place start
  pub counted : reached ≡ 1 + how_many (ends_character text) start place
  pub passed : (k : ℕ) → k < place → ¬ IsColumn text start column k

-- one step further, where no line ends
pub step_on : (text : List ℕ) (start column reached now place : ℕ) → IsOnTheWay text start column reached place → reached ≢ column → ends_line text (suc place) ≡ false
    → now ≡ 1 + how_many (ends_character text) start (suc place) → IsOnTheWay text start column now (suc place)
step_on text start column reached now place way not_yet on counted = record {
  line = record {
    before = omega (arith, way.line.before);
    begins = way.line.begins;
    last = λ k after upto. elim (leb_tells k place) [
      | inl h ↦ way.line.last k after h.1
      | inr h ↦ let e : suc place ≡ k = omega (arith, h.1) in subst (λ (m : ℕ). ends_line text m ≡ false) e on
    ];
  };
  counted = counted;
  passed = λ k less is. elim (leb_tells (suc k) place) [
    | inl h ↦ way.passed k (omega (arith, h.1)) is
    | inr h ↦ let e : k ≡ place = omega (arith, h.1) in not_yet (way.counted ∙ ap (λ (p : ℕ). 1 + how_many (ends_character text) start p) (sym e) ∙ sym is.counted)
  ];
}

-- where a line ends no later place is in it
pub none_following : (text : List ℕ) (start column reached place : ℕ) → IsOnTheWay text start column reached place → reached ≢ column → start ≤ place → ends_line text (suc place) ≡ true
    → (k : ℕ) → ¬ IsColumn text start column k
none_following text start column reached place way not_yet from off k is = elim (leb_tells (suc k) place) [
  | inl h ↦ way.passed k (omega (arith, h.1)) is
  | inr h ↦ elim (leb_tells k place) [
    | inl i ↦ let e : k ≡ place = omega (arith, h.1, i.1) in not_yet (way.counted ∙ ap (λ (p : ℕ). 1 + how_many (ends_character text) start p) (sym e) ∙ sym is.counted)
    | inr i ↦ clash (ends_line text (suc place)) off (is.line.last (suc place) (omega (arith, from)) (omega (arith, i.1)))
  ]
]
  where
    clash : (b : Bool) → b ≡ true → b ≡ false → ⊥
    clash true p q = cc
    clash false p q = cc

-- if the end of the text does not have the column, no place has it
pub none_at_end : (text : List ℕ) (start column reached : ℕ) → IsOnTheWay text start column reached (length text) → reached ≢ column → (k : ℕ) → ¬ IsColumn text start column k
none_at_end text start column reached way not_yet k is = elim (leb_tells (suc k) (length text)) [
  | inl h ↦ way.passed k (omega (arith, h.1)) is
  | inr h ↦ not_yet (way.counted ∙ ap (λ n. 1 + n) (sym (how_many-none (ends_character text) start (length text) k (omega (arith, h.1)) (λ m after upto. ends_character-beyond text m after))) ∙ sym is.counted)
]
