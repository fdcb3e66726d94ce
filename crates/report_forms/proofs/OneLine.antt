-- Texts that have no line feed.
use Rattle.std.proofs.Common.{◌≡◌, ℕ, zero, suc, ◌+◌, ◌/◌, ◌%◌, ◌≤◌, Bool, true, false, cond, ◌&&◌, ◌||◌, List, [], ◌∷◌, ◌++◌, refl, ◌∙◌, ap, arith, inl, inr, decimal}
use Rattle.std.proofs.lemmas.Bool.Decides.{leb_tells, eqb_tells}
use Rattle.std.specs.Fmt.{digit_glyph, digits, digits_onto}
use Rattle.std.specs.Prelude.{Option, None, Some, option_map, codes, string_bytes, nat_le, nat_lt, ◌==◌}
use Rattle.std.specs.Char.{digit_char}
use Rattle.json.specs.Print.{escape_letter, escape_byte, escape, quoted}
use Rattle.std.specs.List.{flat_map, join_by}
use Rattle.report_forms.specs.Forms.{one_line, severity_word}
use Rattle.report_forms.specs.Objects.{place_members, start_members, text_member, related_object, related_member, hint_member, field_member, fields_member, object}
use Rattle.report_forms.specs.declared.position.Position.{Position}
use Rattle.report_forms.specs.declared.entry.Place.{Place}
use Rattle.report_forms.specs.declared.entry.Related.{Related}
use Rattle.report_forms.specs.declared.entry.Field.{Field}
use Rattle.report_forms.specs.declared.entry.Entry.{Entry}

both : (a b : Bool) → a ≡ true → b ≡ true → (a && b) ≡ true
both a b p q = ap (λ x. x && b) p ∙ q

first : (a b : Bool) → (a && b) ≡ true → a ≡ true
first true b e = refl
first false b e = e

rest : (a b : Bool) → (a && b) ≡ true → b ≡ true
rest true b e = e
rest false b e = cc

pub one_line-append : (xs ys : List ℕ) → one_line xs ≡ true → one_line ys ≡ true → one_line (xs ++ ys) ≡ true
one_line-append [] ys p q = q
one_line-append (x ∷ xs) ys p q = both (nat_le 32 x) (one_line (xs ++ ys)) (first (nat_le 32 x) (one_line xs) p) (one_line-append xs ys (rest (nat_le 32 x) (one_line xs) p) q)

big : (n : ℕ) → 32 ≤ n → nat_le 32 n ≡ true
big n le = elim (leb_tells 32 n) [ inl h ↦ h.0 | inr h ↦ absurd (omega (arith, h.1)) ]

glyph : (d : ℕ) → nat_le 32 (digit_glyph false d) ≡ true
glyph d = elim (nat_lt d 10) as (λ b. nat_le 32 (cond b (48 + d) (87 + d)) ≡ true) [ true ↦ big (48 + d) (omega arith) | false ↦ big (87 + d) (omega arith) ]

one_line-digits : (k n : ℕ) (following : List ℕ) → one_line following ≡ true → one_line (digits_onto k 10 false n following) ≡ true
one_line-digits zero n following h = h
one_line-digits (suc k) n following h =
    let more : one_line (digit_glyph false (n % 10) ∷ following) ≡ true = both (nat_le 32 (digit_glyph false (n % 10))) (one_line following) (glyph (n % 10)) h in
    elim (n / 10 == 0) as (λ b. one_line (cond b (digit_glyph false (n % 10) ∷ following) (digits_onto k 10 false (n / 10) (digit_glyph false (n % 10) ∷ following))) ≡ true) [
      | true ↦ more
      | false ↦ one_line-digits k (n / 10) (digit_glyph false (n % 10) ∷ following) more
    ]

pub one_line-decimal : (n : ℕ) → one_line (decimal n) ≡ true
unfolding digits
one_line-decimal n = one_line-digits 64 n [] refl

digit : (d : ℕ) → nat_le 32 (digit_char d) ≡ true
digit d = elim (nat_lt d 10) as (λ b. nat_le 32 (cond b (48 + d) (87 + d)) ≡ true) [ true ↦ big (48 + d) (omega arith) | false ↦ big (87 + d) (omega arith) ]

letter_of : (q b8 b12 b10 b13 b9 : Bool) (x : ℕ) → (q ≡ true → 32 ≤ x)
    → nat_lt 0 (cond q x (cond b8 98 (cond b12 102 (cond b10 110 (cond b13 114 (cond b9 116 0)))))) ≡ true
    → nat_le 32 (cond q x (cond b8 98 (cond b12 102 (cond b10 110 (cond b13 114 (cond b9 116 0)))))) ≡ true
letter_of true b8 b12 b10 b13 b9 x h e = big x (h refl)
letter_of false true b12 b10 b13 b9 x h e = refl
letter_of false false true b10 b13 b9 x h e = refl
letter_of false false false true b13 b9 x h e = refl
letter_of false false false false true b9 x h e = refl
letter_of false false false false false true x h e = refl
letter_of false false false false false false x h e = cc

quote_is_big : (x : ℕ) → ((x == 34) || (x == 92)) ≡ true → 32 ≤ x
quote_is_big x e = elim (eqb_tells x 34) [
  | inl h ↦ omega (arith, h.1)
  | inr h ↦ elim (eqb_tells x 92) [
    | inl i ↦ omega (arith, i.1)
    | inr i ↦ absurd (neither _ _ h.0 i.0 e)
  ]
]
  where
    neither : (a b : Bool) → a ≡ false → b ≡ false → (a || b) ≡ true → ⊥
    neither true b p q r = cc
    neither false true p q r = cc
    neither false false p q r = cc

one_line-escape_byte : (x : ℕ) → one_line (escape_byte x) ≡ true
unfolding escape_byte
one_line-escape_byte x = elim (nat_lt 0 (escape_letter x)) as (λ b. nat_lt 0 (escape_letter x) ≡ b → one_line (cond b (92 ∷ escape_letter x ∷ []) (cond (nat_lt x 32) (92 ∷ 117 ∷ 48 ∷ 48 ∷ digit_char (x / 16) ∷ digit_char (x % 16) ∷ []) (x ∷ []))) ≡ true) [
  | true ↦ λ e. both (nat_le 32 (escape_letter x)) true (letter_of ((x == 34) || (x == 92)) (x == 8) (x == 12) (x == 10) (x == 13) (x == 9) x (quote_is_big x) e) refl
  | false ↦ λ e. elim (leb_tells (suc x) 32) [
    | inl h ↦ ap (λ b. one_line (cond b (92 ∷ 117 ∷ 48 ∷ 48 ∷ digit_char (x / 16) ∷ digit_char (x % 16) ∷ []) (x ∷ []))) h.0
        ∙ both (nat_le 32 (digit_char (x / 16))) (nat_le 32 (digit_char (x % 16)) && true) (digit (x / 16)) (both (nat_le 32 (digit_char (x % 16))) true (digit (x % 16)) refl)
    | inr h ↦ ap (λ b. one_line (cond b (92 ∷ 117 ∷ 48 ∷ 48 ∷ digit_char (x / 16) ∷ digit_char (x % 16) ∷ []) (x ∷ []))) h.0
        ∙ both (nat_le 32 x) true (big x (omega (arith, h.1))) refl
  ]
] refl

one_line-escape : (s : List ℕ) → one_line (escape s) ≡ true
one_line-escape [] = refl
one_line-escape (x ∷ xs) = one_line-append (escape_byte x) (escape xs) (one_line-escape_byte x) (one_line-escape xs)

pub one_line-quoted : (s : List ℕ) → one_line (quoted s) ≡ true
one_line-quoted s = one_line-append (escape s) (34 ∷ []) (one_line-escape s) refl

pub one_line-same : (bs ds : List ℕ) → bs ≡ ds → one_line ds ≡ true → one_line bs ≡ true
one_line-same bs ds e h = ap one_line e ∙ h

-- a number between two texts
pub one_line-number : (front : List ℕ) (n : ℕ) (back : List ℕ) → one_line front ≡ true → one_line back ≡ true → one_line (front ++ (decimal n ++ back)) ≡ true
one_line-number front n back f b = one_line-append front (decimal n ++ back) f (one_line-append (decimal n) back (one_line-decimal n) b)

one_line-text : (head text : List ℕ) → one_line head ≡ true → one_line (text_member head text) ≡ true
one_line-text head text h = one_line-append head (quoted text) h (one_line-quoted text)

one_line-place : (place : Option Place) → one_line (place_members place) ≡ true
one_line-place None = refl
one_line-place (Some p) =
    one_line-number (codes ",\"line\":") p.start.line _ refl
    (one_line-number (codes ",\"column\":") p.start.column _ refl
    (one_line-number (codes ",\"end\":{\"line\":") p.end.line _ refl
    (one_line-number (codes ",\"column\":") p.end.column _ refl
    (one_line-number (codes "},\"offset\":") p.offset _ refl
    (one_line-append (codes ",\"length\":") (decimal p.length) refl (one_line-decimal p.length))))))

one_line-start : (start : Option Position) → one_line (start_members start) ≡ true
one_line-start None = refl
one_line-start (Some p) =
    one_line-number (codes ",\"line\":") p.line _ refl (one_line-append (codes ",\"column\":") (decimal p.column) refl (one_line-decimal p.column))

-- texts with a comma between each two
module _ {X : Type 0} (f : X → List ℕ) (each : (x : X) → one_line (f x) ≡ true) where
  one_line-others : (xs : List X) → one_line (flat_map (λ x. codes "," ++ f x) xs) ≡ true
  one_line-others [] = refl
  one_line-others (x ∷ xs) =
      one_line-append (codes "," ++ f x) (flat_map (λ y. codes "," ++ f y) xs) (one_line-append (codes ",") (f x) refl (each x)) (one_line-others xs)

  one_line-list : (xs : List X) → one_line (join_by f (codes ",") xs) ≡ true
  one_line-list [] = refl
  one_line-list (x ∷ xs) = one_line-append (f x) (flat_map (λ y. codes "," ++ f y) xs) (each x) (one_line-others xs)

one_line-other : (r : Related) → one_line (related_object r) ≡ true
one_line-other r =
    let path = text_member (codes "{\"path\":") (string_bytes r.path) in
    let words = text_member (codes ",\"words\":") (string_bytes r.words) in
    one_line-append (path ++ start_members r.start ++ words) (codes "}")
    (one_line-append (path ++ start_members r.start) words
    (one_line-append path (start_members r.start) (one_line-text (codes "{\"path\":") (string_bytes r.path) refl) (one_line-start r.start))
    (one_line-text (codes ",\"words\":") (string_bytes r.words) refl)) refl

one_line-related : (related : List Related) → one_line (related_member related) ≡ true
one_line-related related =
    let others = join_by related_object (codes ",") related in
    one_line-append (codes ",\"related\":[" ++ others) (codes "]") (one_line-append (codes ",\"related\":[") others refl (one_line-list related_object one_line-other related)) refl

one_line-hint : (hint : Option (List ℕ)) → one_line (hint_member hint) ≡ true
one_line-hint None = refl
one_line-hint (Some hint) = one_line-text (codes ",\"hint\":") hint refl

one_line-field : (f : Field) → one_line (field_member f) ≡ true
one_line-field f = one_line-append (quoted f.name.now) (text_member (codes ":") (string_bytes f.value)) (one_line-quoted f.name.now) (one_line-text (codes ":") (string_bytes f.value) refl)

one_line-fields : (fields : List Field) → one_line (fields_member fields) ≡ true
one_line-fields fields =
    let members = join_by field_member (codes ",") fields in
    one_line-append (codes ",\"fields\":{" ++ members) (codes "}}") (one_line-append (codes ",\"fields\":{") members refl (one_line-list field_member one_line-field fields)) refl

pub one_line-object : (e : Entry) → one_line (object e) ≡ true
one_line-object e =
    let path = text_member (codes "{\"path\":") (string_bytes e.path) in
    let place = place_members e.place in
    let severity = text_member (codes ",\"severity\":") (severity_word e.severity) in
    let rule = text_member (codes ",\"rule\":") e.rule.now in
    let message = text_member (codes ",\"message\":") (string_bytes e.message) in
    let related = related_member e.related.items in
    let hint = hint_member (option_map string_bytes e.hint) in
    one_line-append (path ++ place ++ severity ++ rule ++ message ++ related ++ hint) (fields_member e.fields.items)
    (one_line-append (path ++ place ++ severity ++ rule ++ message ++ related) hint
    (one_line-append (path ++ place ++ severity ++ rule ++ message) related
    (one_line-append (path ++ place ++ severity ++ rule) message
    (one_line-append (path ++ place ++ severity) rule
    (one_line-append (path ++ place) severity
    (one_line-append path place (one_line-text (codes "{\"path\":") (string_bytes e.path) refl) (one_line-place e.place))
    (one_line-text (codes ",\"severity\":") (severity_word e.severity) refl)) (one_line-text (codes ",\"rule\":") e.rule.now refl))
    (one_line-text (codes ",\"message\":") (string_bytes e.message) refl)) (one_line-related e.related.items)) (one_line-hint (option_map string_bytes e.hint)))
    (one_line-fields e.fields.items)
