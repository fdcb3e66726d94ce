-- The texts of Int and Float tokens, part by part, for the crates above that make numbers of them.
use Rattle.std.proofs.Common.{◌≡◌, ◌⊎◌, ℕ, suc, ◌+◌, ◌<◌, Bool, true, false, cond, ◌==◌, List, [], ◌∷◌, ◌++◌, length, take, drop, Some, None, refl, sym, ap, ◌∙◌, subst, inl, inr, arith, one-add, eqb-true, eq-eqb}
use Rattle.std.proofs.Math.Seq.{take-add}
use Rattle.std.specs.List.{prefix_len, list_all}
use Rattle.std.specs.Char.{is_ascii_digit}
use Rattle.std.proofs.lemmas.Bool.{and_from}
use Rattle.read_tokens.specs.Bytes.{begins_by}
use Rattle.read_tokens.specs.Numbers.{is_zero, is_exponent_mark, is_sign, sign_len, whole_len, digits_after, fraction_len, exponent_len, goes_on, number_kind, number_at}
use Rattle.read_tokens.specs.declared.token.TokenKind.{TokenKind}
use Rattle.read_tokens.specs.declared.token.TokenKind.TheVariants as k
use Rattle.read_tokens.proofs.Choices.{some_if, some_unless, choice, bind_some, same_some}
use Rattle.read_tokens.proofs.Forms.{front_passes}

-- one digit or more
pub record Digits (ds : List ℕ) : Type 0 where
  pub some : 0 < length ds
  pub are : list_all is_ascii_digit ds ≡ true

-- digits, of which the first is 0 only if it is the only one
pub record Natural (ds : List ℕ) : Type 0 where
  pub digits : Digits ds
  pub lead : begins_by is_zero ds ≡ true → length ds ≡ 1

-- `.` and digits
pub record Fraction (text : List ℕ) : Type 0 where
  pub digits : List ℕ
  pub is : text ≡ 46 ∷ digits
  pub are : Digits digits

-- a mark, a sign or none, and digits
pub record Exponent (text : List ℕ) : Type 0 where
  pub mark : ℕ
  pub sign : List ℕ
  pub digits : List ℕ
  pub is : text ≡ mark ∷ (sign ++ digits)
  pub marks : is_exponent_mark mark ≡ true
  pub signs : (sign ≡ []) ⊎ ((b : ℕ) × ((sign ≡ b ∷ []) × (is_sign b ≡ true)))
  pub are : Digits digits

pub record NumberText (kind : TokenKind) (text : List ℕ) : Type 0 where
  pub sign : List ℕ
  pub whole : List ℕ
  pub fraction : List ℕ
  pub exponent : List ℕ
  pub is : text ≡ ((sign ++ whole) ++ fraction) ++ exponent
  pub signs : (sign ≡ []) ⊎ (sign ≡ 45 ∷ [])
  pub natural : Natural whole
  pub fractions : (fraction ≡ []) ⊎ Fraction fraction
  pub exponents : (exponent ≡ []) ⊎ Exponent exponent
  pub int : kind ≡ k.Int → (fraction ≡ []) × (exponent ≡ [])
  pub float : kind ≡ k.Float → Fraction fraction ⊎ Exponent exponent

run_digits : (ds : List ℕ) → begins_by is_ascii_digit ds ≡ true → Digits (take (prefix_len is_ascii_digit ds) ds)
run_digits [] h = absurd cc
run_digits (d ∷ ds) h =
    let more : prefix_len is_ascii_digit (d ∷ ds) ≡ suc (prefix_len is_ascii_digit ds) = rw h (one-add (prefix_len is_ascii_digit ds)) in
    subst (λ (n : ℕ). Digits (take n (d ∷ ds))) (sym more) (record { some = omega arith; are = and_from (is_ascii_digit d) (list_all is_ascii_digit (take (prefix_len is_ascii_digit ds) ds)) h (front_passes is_ascii_digit ds) })

whole_natural : (ds : List ℕ) (n : ℕ) → whole_len ds ≡ Some n → Natural (take n ds)
unfolding whole_len
whole_natural [] n h = absurd cc
whole_natural (d ∷ ds) n h = go (d == 48) refl (is_ascii_digit d) refl h
  where
    go : (z : Bool) → (d == 48) ≡ z → (t : Bool) → is_ascii_digit d ≡ t → cond z (Some 1) (cond t (Some (prefix_len is_ascii_digit (d ∷ ds))) None) ≡ Some n → Natural (take n (d ∷ ds))
    go true z t e h =
        let one : 1 ≡ n = same_some 1 n h in
        let is : d ≡ 48 = eqb-true d 48 z in
        subst (λ (m : ℕ). Natural (take m (d ∷ ds))) one (subst (λ (c : ℕ). Natural (c ∷ [])) (sym is) (record { digits = record { some = omega arith; are = refl }; lead = λ _. refl }))
    go false z true e h =
        let len : prefix_len is_ascii_digit (d ∷ ds) ≡ n = same_some _ n h in
        let more : prefix_len is_ascii_digit (d ∷ ds) ≡ suc (prefix_len is_ascii_digit ds) = rw e (one-add (prefix_len is_ascii_digit ds)) in
        subst (λ (m : ℕ). Natural (take m (d ∷ ds))) len (record {
          digits = run_digits (d ∷ ds) e;
          lead = subst (λ (m : ℕ). begins_by is_zero (take m (d ∷ ds)) ≡ true → length (take m (d ∷ ds)) ≡ 1) (sym more) (λ zero_first. let both : true ≡ false = sym zero_first ∙ z in absurd cc);
        })
    go false z false e h = absurd cc

after_digits : (m : ℕ) (bytes : List ℕ) (n : ℕ) → digits_after m bytes ≡ Some n → (ds : List ℕ) × ((take n bytes ≡ take m bytes ++ ds) × Digits ds)
unfolding digits_after
after_digits m bytes n h = elim (some_if (begins_by is_ascii_digit (drop m bytes)) (m + prefix_len is_ascii_digit (drop m bytes)) n None h) [
  | inl e ↦ (
    take (prefix_len is_ascii_digit (drop m bytes)) (drop m bytes),
    (ap (λ (i : ℕ). take i bytes) (sym e.1) ∙ take-add m (prefix_len is_ascii_digit (drop m bytes)) bytes, run_digits (drop m bytes) e.0),
  )
  | inr h ↦ absurd cc
]

fraction_is : (bytes : List ℕ) (n : ℕ) → fraction_len bytes ≡ Some n → (0 ≡ n) ⊎ Fraction (take n bytes)
unfolding fraction_len
fraction_is [] n h = inl (same_some 0 n h)
fraction_is (b ∷ bytes) n h = elim (choice (b == 46) (digits_after 1 (b ∷ bytes)) (Some 0) n h) [
  | inr e ↦ inl (same_some 0 n e)
  | inl e ↦
      let is : b ≡ 46 = eqb-true b 46 e.0 in
      let parts = after_digits 1 (b ∷ bytes) n e.1 in
      inr (record { digits = parts.0; is = parts.1.0 ∙ ap (λ (c : ℕ). c ∷ parts.0) is; are = parts.1.1 })
]

exponent_is : (bytes : List ℕ) (n : ℕ) → exponent_len bytes ≡ Some n → (0 ≡ n) ⊎ Exponent (take n bytes)
unfolding exponent_len
exponent_is [] n h = inl (same_some 0 n h)
exponent_is (b ∷ bytes) n h = elim (choice (is_exponent_mark b) (digits_after (cond (begins_by is_sign bytes) 2 1) (b ∷ bytes)) (Some 0) n h) [
  | inr e ↦ inl (same_some 0 n e)
  | inl e ↦ inr (go bytes (begins_by is_sign bytes) refl e.0 e.1)
]
  where
    go : (bs : List ℕ) (t : Bool) → begins_by is_sign bs ≡ t → is_exponent_mark b ≡ true → digits_after (cond t 2 1) (b ∷ bs) ≡ Some n → Exponent (take n (b ∷ bs))
    go [] true s mark h = absurd cc
    go (c ∷ bs) true s mark h =
        let parts = after_digits 2 (b ∷ c ∷ bs) n h in
        record { mark = b; sign = c ∷ []; digits = parts.0; is = parts.1.0; marks = mark; signs = inr (c, (refl, s)); are = parts.1.1 }
    go bs false s mark h =
        let parts = after_digits 1 (b ∷ bs) n h in
        record { mark = b; sign = []; digits = parts.0; is = parts.1.0; marks = mark; signs = inl refl; are = parts.1.1 }

sign_is : (bytes : List ℕ) → (take (sign_len bytes) bytes ≡ []) ⊎ (take (sign_len bytes) bytes ≡ 45 ∷ [])
sign_is [] = inl refl
sign_is (b ∷ bytes) = go (b == 45) refl
  where
    go : (t : Bool) → (b == 45) ≡ t → (take (cond t 1 0) (b ∷ bytes) ≡ []) ⊎ (take (cond t 1 0) (b ∷ bytes) ≡ 45 ∷ [])
    go true e = inr (ap (λ (c : ℕ). c ∷ []) (eqb-true b 45 e))
    go false e = inl refl

none_taken : (n : ℕ) (bytes : List ℕ) → 0 ≡ n → take n bytes ≡ []
none_taken n bytes e = ap (λ (m : ℕ). take m bytes) (sym e)

or_none : (P : List ℕ → Type 0) (n : ℕ) (bytes : List ℕ) → (0 ≡ n) ⊎ P (take n bytes) → (take n bytes ≡ []) ⊎ P (take n bytes)
or_none P n bytes (inl e) = inl (none_taken n bytes e)
or_none P n bytes (inr p) = inr p

pub number_text : (bytes : List ℕ) (kind : TokenKind) (n : ℕ) → number_at bytes ≡ Some (kind, n) → NumberText kind (take n bytes)
unfolding number_at
number_text bytes kind n h =
    let s : ℕ = sign_len bytes in
    let (w, (d, h1)) = bind_some (whole_len (drop s bytes)) _ (kind, n) h in
    let (f, (g, h2)) = bind_some (fraction_len (drop (s + w) bytes)) _ (kind, n) h1 in
    let (e, (i, h3)) = bind_some (exponent_len (drop (s + w + f) bytes)) _ (kind, n) h2 in
    let is : (number_kind (s + w) (s + w + f + e), s + w + f + e) ≡ (kind, n) =
    same_some _ _ (some_unless (begins_by goes_on (drop (s + w + f + e) bytes)) _ (kind, n) h3) in
    let size : s + w + f + e ≡ n = ap (λ (t : TokenKind × ℕ). t.1) is in
    let kind_is : number_kind (s + w) (s + w + f + e) ≡ kind = ap (λ (t : TokenKind × ℕ). t.0) is in
    parts bytes kind n s w f e size kind_is (whole_natural (drop s bytes) w d) (fraction_is (drop (s + w) bytes) f g) (exponent_is (drop (s + w + f) bytes) e i) (sign_is bytes)
  where
    parts : (bytes : List ℕ) (kind : TokenKind) (n s w f e : ℕ) → s + w + f + e ≡ n → number_kind (s + w) (s + w + f + e) ≡ kind → Natural (take w (drop s bytes))
        → (0 ≡ f) ⊎ Fraction (take f (drop (s + w) bytes)) → (0 ≡ e) ⊎ Exponent (take e (drop (s + w + f) bytes)) → (take s bytes ≡ []) ⊎ (take s bytes ≡ 45 ∷ []) → NumberText kind (take n bytes)
    parts bytes kind n s w f e size kind_is natural fraction exponent sign =
        let at : List ℕ = take s bytes in
        let one : take (s + w) bytes ≡ at ++ take w (drop s bytes) = take-add s w bytes in
        let two : take (s + w + f) bytes ≡ (at ++ take w (drop s bytes)) ++ take f (drop (s + w) bytes) = take-add (s + w) f bytes ∙ ap (λ (xs : List ℕ). xs ++ take f (drop (s + w) bytes)) one in
        let three : take (s + w + f + e) bytes ≡ ((at ++ take w (drop s bytes)) ++ take f (drop (s + w) bytes)) ++ take e (drop (s + w + f) bytes) =
        take-add (s + w + f) e bytes ∙ ap (λ (xs : List ℕ). xs ++ take e (drop (s + w + f) bytes)) two in
        record {
          sign = at;
          whole = take w (drop s bytes);
          fraction = take f (drop (s + w) bytes);
          exponent = take e (drop (s + w + f) bytes);
          is = ap (λ (m : ℕ). take m bytes) (sym size) ∙ three;
          signs = sign;
          natural = natural;
          fractions = or_none Fraction f (drop (s + w) bytes) fraction;
          exponents = or_none Exponent e (drop (s + w + f) bytes) exponent;
          int = λ is_int. let same = all_int (s + w == s + w + f + e) refl (kind_is ∙ is_int) in (none_taken f _ same.0, none_taken e _ same.1);
          float = λ is_float. some_part (s + w == s + w + f + e) refl (kind_is ∙ is_float) fraction exponent;
        }
      where
        all_int : (t : Bool) → (s + w == s + w + f + e) ≡ t → cond t k.Int k.Float ≡ k.Int → (0 ≡ f) × (0 ≡ e)
        all_int true same h = let equal : s + w ≡ s + w + f + e = eqb-true (s + w) (s + w + f + e) same in (omega arith, omega arith)
        all_int false same h = absurd cc

        some_part : (t : Bool) → (s + w == s + w + f + e) ≡ t → cond t k.Int k.Float ≡ k.Float → (0 ≡ f) ⊎ Fraction (take f (drop (s + w) bytes)) → (0 ≡ e) ⊎ Exponent (take e (drop (s + w + f) bytes)) → Fraction (take f (drop (s + w) bytes)) ⊎ Exponent (take e (drop (s + w + f) bytes))
        some_part true same h a b = absurd cc
        some_part false same h (inr a) b = inl a
        some_part false same h (inl a) (inr b) = inr b
        some_part false same h (inl a) (inl b) =
            let equal : s + w ≡ s + w + f + e = omega arith in
            let both : true ≡ false = sym (eq-eqb (s + w) (s + w + f + e) equal) ∙ same in absurd cc
