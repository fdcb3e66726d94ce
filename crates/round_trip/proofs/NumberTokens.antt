-- Numbers are read as they are printed.
use Rattle.std.proofs.Common.{◌≡◌, ◌⊎◌, ℕ, suc, ◌+◌, ◌<◌, ◌==◌, Bool, true, false, cond, not, ◌&&◌, ◌||◌, List, [], ◌∷◌, ◌++◌, length, drop, Option, Some, None, refl, sym, ap, ◌∙◌, subst, inl, inr, arith, one-add, eqb-true, eq-eqb, append-nil, append_assoc, length-append, drop-drop, true≢false}
use Rattle.std.specs.List.{prefix_len, list_all}
use Rattle.std.specs.Char.{is_ascii_digit}
use Rattle.std.proofs.lemmas.Bool.{and_parts, or_cases, or_parts, or_from}
use Rattle.std.proofs.lemmas.Grind.{common_steps}
use Rattle.graphql_names.specs.NameSyntax.{is_name_start, is_name_continue}
use Rattle.read_operations.specs.in_literals.NumberSyntax.{is_digits, is_nothing, has_leading_zero, is_natural, without_minus, without_sign, is_int_value, is_fraction, is_exponent, followed_by, is_float_tail, is_float_value}
use Rattle.read_operations.specs.in_tokens.Bytes.{begins_by}
use Rattle.read_operations.specs.in_tokens.Numbers.{is_point, sign_len, whole_len, digits_after, fraction_len, is_exponent_mark, is_sign, exponent_len, goes_on, number_kind, number_at}
use Rattle.read_operations.specs.in_tokens.Tokens.{token_at}
use Rattle.read_operations.specs.in_tokens.declared.token.TokenKind.{TokenKind}
use Rattle.read_operations.specs.in_tokens.declared.token.TokenKind.TheVariants as t
use Rattle.round_trip.specs.Printed.{ends_word}
use Rattle.round_trip.specs.Literals.{NumbersRead}
use Rattle.round_trip.proofs.Tokens.{drop_front, whole_run}

-- ---- what follows a number

record Ends (following : List ℕ) : Type 0 where
  goes : begins_by goes_on following ≡ false
  digit : begins_by is_ascii_digit following ≡ false
  point : begins_by is_point following ≡ false
  mark : begins_by is_exponent_mark following ≡ false

-- where one passes and the other does not, they are two
apart_from : (p : ℕ → Bool) (b c : ℕ) → p c ≡ true → p b ≡ false → (b == c) ≡ false
apart_from p b c yea nay = go (b == c) refl
  where
    go : (same : Bool) → (b == c) ≡ same → same ≡ false
    go false e = refl
    go true e = absurd (true≢false (sym yea ∙ ap p (sym (eqb-true b c e)) ∙ nay))

neither : (x y : Bool) → not (x || y) ≡ true → x ≡ false
neither true y h = absurd cc
neither false y h = refl

number_ends : (following : List ℕ) → ends_word following ≡ true → Ends following
number_ends [] h = record { goes = refl; digit = refl; point = refl; mark = refl }
number_ends (b ∷ following) h =
    let goes : goes_on b ≡ false = neither (goes_on b) (b == 34) h in
    let (continues, point) = or_parts (is_name_continue b) (b == 46) goes in
    let (start, digit) = or_parts (is_name_start b) (is_ascii_digit b) continues in
    record {
      goes = goes;
      digit = digit;
      point = point;
      mark = or_from (b == 69) (b == 101) (apart_from is_name_start b 69 refl start) (apart_from is_name_start b 101 refl start);
    }

-- ---- digits

digits_begin : (ds rest : List ℕ) → is_digits ds ≡ true → begins_by is_ascii_digit (ds ++ rest) ≡ true
digits_begin [] rest h = absurd cc
digits_begin (d ∷ ds) rest h = (and_parts (is_ascii_digit d) (list_all is_ascii_digit ds) h).0

digits_run : (ds rest : List ℕ) → is_digits ds ≡ true → begins_by is_ascii_digit rest ≡ false → prefix_len is_ascii_digit (ds ++ rest) ≡ length ds
digits_run [] rest h none = absurd cc
digits_run (d ∷ ds) rest h none = whole_run is_ascii_digit (d ∷ ds) rest h none

after_digits : (n : ℕ) (bytes ds rest : List ℕ) → drop n bytes ≡ ds ++ rest → is_digits ds ≡ true → begins_by is_ascii_digit rest ≡ false → digits_after n bytes ≡ Some (n + length ds)
unfolding digits_after
after_digits n bytes ds rest is h none = rw is (rw (digits_begin ds rest h) (rw (digits_run ds rest h none) refl))

-- ---- the integer part

natural_digits : (whole : List ℕ) → is_natural whole ≡ true → is_digits whole ≡ true
natural_digits whole h = (and_parts (is_digits whole) (not (has_leading_zero whole)) h).0

natural_len : (whole rest : List ℕ) → is_natural whole ≡ true → begins_by is_ascii_digit rest ≡ false → whole_len (whole ++ rest) ≡ Some (length whole)
unfolding whole_len
natural_len [] rest h none = absurd cc
natural_len (d ∷ ds) rest h none =
    let (digits, lead) = and_parts (is_digits (d ∷ ds)) (not (has_leading_zero (d ∷ ds))) h in
    go (d == 48) lead (digits_begin (d ∷ ds) rest digits) (digits_run (d ∷ ds) rest digits none)
  where
    alone : (ds : List ℕ) → not (not (is_nothing ds)) ≡ true → 1 ≡ suc (length ds)
    alone [] h = refl
    alone (e ∷ ds) h = absurd cc

    go : (z : Bool) → not (z && not (is_nothing ds)) ≡ true → is_ascii_digit d ≡ true → prefix_len is_ascii_digit (d ∷ (ds ++ rest)) ≡ length (d ∷ ds)
        → cond z (Some 1) (cond (is_ascii_digit d) (Some (prefix_len is_ascii_digit (d ∷ (ds ++ rest)))) None) ≡ Some (length (d ∷ ds))
    go true lead digit run = ap (λ (n : ℕ). Some n) (alone ds lead)
    go false lead digit run = subst (λ (b : Bool). cond b (Some (prefix_len is_ascii_digit (d ∷ (ds ++ rest)))) None ≡ Some (length (d ∷ ds))) (sym digit) (ap (λ (n : ℕ). Some n) run)

-- ---- the fraction

fraction_none : (rest : List ℕ) → begins_by is_point rest ≡ false → fraction_len rest ≡ Some 0
unfolding fraction_len
fraction_none rest h = rw h refl

fraction_there : (text rest : List ℕ) → is_fraction text ≡ true → begins_by is_ascii_digit rest ≡ false → fraction_len (text ++ rest) ≡ Some (length text)
unfolding fraction_len
fraction_there [] rest h none = absurd cc
fraction_there (c ∷ ds) rest h none =
    let (point, digits) = and_parts (c == 46) (is_digits ds) h in
    rw point (after_digits 1 (c ∷ (ds ++ rest)) ds rest refl digits none ∙ ap (λ (n : ℕ). Some n) (one-add (length ds)))

fraction_front : (text rest : List ℕ) → is_fraction text ≡ true → begins_by is_ascii_digit (text ++ rest) ≡ false
fraction_front [] rest h = absurd cc
fraction_front (c ∷ ds) rest h = ap is_ascii_digit (eqb-true c 46 (and_parts (c == 46) (is_digits ds) h).0)

-- ---- the exponent

exponent_none : (rest : List ℕ) → begins_by is_exponent_mark rest ≡ false → exponent_len rest ≡ Some 0
unfolding exponent_len
exponent_none rest h = rw h refl

exchanged : (x y : Bool) → (x || y) ≡ true → (y || x) ≡ true
exchanged true true h = refl
exchanged true false h = refl
exchanged false true h = refl
exchanged false false h = absurd cc

signed_digits : (c : ℕ) (cs rest : List ℕ) → is_digits (without_sign cs) ≡ true → begins_by is_ascii_digit rest ≡ false → digits_after (cond (begins_by is_sign (cs ++ rest)) 2 1) (c ∷ (cs ++ rest)) ≡ Some (length (c ∷ cs))
signed_digits c [] rest h none = absurd cc
signed_digits c (b ∷ cs) rest h none = go (is_sign b) h
  where
    go : (s : Bool) → is_digits (cond s cs (b ∷ cs)) ≡ true → digits_after (cond s 2 1) (c ∷ b ∷ (cs ++ rest)) ≡ Some (length (c ∷ b ∷ cs))
    go true h = after_digits 2 (c ∷ b ∷ (cs ++ rest)) cs rest refl h none ∙ ap (λ (n : ℕ). Some n) (omega arith)
    go false h = after_digits 1 (c ∷ b ∷ (cs ++ rest)) (b ∷ cs) rest refl h none ∙ ap (λ (n : ℕ). Some n) (omega arith)

exponent_there : (text rest : List ℕ) → is_exponent text ≡ true → begins_by is_ascii_digit rest ≡ false → exponent_len (text ++ rest) ≡ Some (length text)
unfolding exponent_len
exponent_there [] rest h none = absurd cc
exponent_there (c ∷ cs) rest h none =
    let (mark, digits) = and_parts (c == 101 || c == 69) (is_digits (without_sign cs)) h in
    rw (exchanged (c == 101) (c == 69) mark) (signed_digits c cs rest digits none)

exponent_front : (text rest : List ℕ) → is_exponent text ≡ true → (begins_by is_ascii_digit (text ++ rest) ≡ false) × (begins_by is_point (text ++ rest) ≡ false)
exponent_front [] rest h = absurd cc
exponent_front (c ∷ cs) rest h = elim (or_cases (c == 101) (c == 69) (and_parts (c == 101 || c == 69) (is_digits (without_sign cs)) h).0) [
  | inl is ↦ (ap is_ascii_digit (eqb-true c 101 is), ap is_point (eqb-true c 101 is))
  | inr is ↦ (ap is_ascii_digit (eqb-true c 69 is), ap is_point (eqb-true c 69 is))
]

-- ---- the number

-- the bytes of a number of which the parts have these lengths
number_found : (bytes : List ℕ) (s w f e : ℕ) → sign_len bytes ≡ s → whole_len (drop s bytes) ≡ Some w → fraction_len (drop (s + w) bytes) ≡ Some f → exponent_len (drop (s + w + f) bytes) ≡ Some e
    → begins_by goes_on (drop (s + w + f + e) bytes) ≡ false → number_at bytes ≡ Some (number_kind (s + w) (s + w + f + e), s + w + f + e)
unfolding number_at
number_found bytes s w f e hs hw hf he hb = rw hs (rw hw (rw hf (rw he (rw hb refl))))

drop_more : (n : ℕ) (bytes text rest : List ℕ) → drop n bytes ≡ text ++ rest → drop (n + length text) bytes ≡ rest
drop_more n bytes text rest h = sym (drop-drop (length text) n bytes) ∙ ap (drop (length text)) h ∙ drop_front text rest

no_name : (b : ℕ) → (b == 45 || is_ascii_digit b) ≡ true → is_name_start b ≡ false
no_name b h = grind (arith, common_steps)

number_token : (bytes : List ℕ) → begins_by (λ b. b == 45 || is_ascii_digit b) bytes ≡ true → token_at bytes ≡ number_at bytes
unfolding token_at
number_token [] h = absurd cc
number_token (b ∷ bytes) h = rw (no_name b h) (rw h refl)

-- ---- the sign

record Signed (text : List ℕ) : Type 0 where
  sign : List ℕ
  is : text ≡ sign ++ without_minus text
  signs : (sign ≡ []) ⊎ (sign ≡ 45 ∷ [])

signed : (text : List ℕ) → Signed text
signed [] = record { sign = []; is = refl; signs = inl refl }
signed (c ∷ cs) = go (c == 45) refl
  where
    go : (m : Bool) → (c == 45) ≡ m → Signed (c ∷ cs)
    go true e = record { sign = 45 ∷ []; is = rw e (ap (λ (b : ℕ). b ∷ cs) (eqb-true c 45 e)); signs = inr refl }
    go false e = record { sign = []; is = rw e refl; signs = inl refl }

sign_before : (sign bytes : List ℕ) → (sign ≡ []) ⊎ (sign ≡ 45 ∷ []) → begins_by is_ascii_digit bytes ≡ true
    → (sign_len (sign ++ bytes) ≡ length sign) × (begins_by (λ b. b == 45 || is_ascii_digit b) (sign ++ bytes) ≡ true)
sign_before sign [] signs h = absurd cc
sign_before sign (b ∷ bytes) signs h = go sign signs (apart_from (λ c. not (is_ascii_digit c)) b 45 refl (ap not h))
  where
    go : (sign : List ℕ) → (sign ≡ []) ⊎ (sign ≡ 45 ∷ []) → (b == 45) ≡ false
        → (sign_len (sign ++ (b ∷ bytes)) ≡ length sign) × (begins_by (λ b. b == 45 || is_ascii_digit b) (sign ++ (b ∷ bytes)) ≡ true)
    go sign (inl is) other = rw is (rw other (refl, h))
    go sign (inr is) other = rw is (refl, refl)

-- a number of these parts, before what follows it
parts_token : (sign whole fraction exponent following : List ℕ) → (sign ≡ []) ⊎ (sign ≡ 45 ∷ []) → is_natural whole ≡ true → begins_by is_ascii_digit (fraction ++ (exponent ++ following)) ≡ false
    → fraction_len (fraction ++ (exponent ++ following)) ≡ Some (length fraction) → exponent_len (exponent ++ following) ≡ Some (length exponent) → begins_by goes_on following ≡ false
    → token_at (sign ++ (whole ++ (fraction ++ (exponent ++ following))))
    ≡ Some (number_kind (length sign + length whole) (length sign + length whole + length fraction + length exponent), length sign + length whole + length fraction + length exponent)
parts_token sign whole fraction exponent following signs natural none hf he hb =
    let after_whole = fraction ++ (exponent ++ following) in
    let bytes = sign ++ (whole ++ after_whole) in
    let s : ℕ = length sign in
    let w : ℕ = length whole in
    let f : ℕ = length fraction in
    let front = sign_before sign (whole ++ after_whole) signs (digits_begin whole after_whole (natural_digits whole natural)) in
    let one : drop s bytes ≡ whole ++ after_whole = drop_front sign (whole ++ after_whole) in
    let two : drop (s + w) bytes ≡ after_whole = drop_more s bytes whole after_whole one in
    let three : drop (s + w + f) bytes ≡ exponent ++ following = drop_more (s + w) bytes fraction (exponent ++ following) two in
    let four : drop (s + w + f + length exponent) bytes ≡ following = drop_more (s + w + f) bytes exponent following three in
    number_token bytes front.1
    ∙ number_found bytes s w f (length exponent) front.0 (ap whole_len one ∙ natural_len whole after_whole natural none) (ap fraction_len two ∙ hf) (ap exponent_len three ∙ he) (ap (begins_by goes_on) four ∙ hb)

abbrev a_token : TokenKind → ℕ → Option (TokenKind × ℕ)
a_token kind n = Some (kind, n)

same_token : (kind wanted : TokenKind) (n m : ℕ) → kind ≡ wanted → n ≡ m → a_token kind n ≡ a_token wanted m
same_token kind wanted n m e f = rw e (rw f refl)

-- ---- Int

pub int_token : (text following : List ℕ) → is_int_value text ≡ true → ends_word following ≡ true → token_at (text ++ following) ≡ Some (t.Int, length text)
int_token text following h fine =
    let ends = number_ends following fine in
    let parts = signed text in
    let sign = parts.sign in
    let whole = without_minus text in
    let size : length text ≡ length sign + length whole = ap length parts.is ∙ length-append sign whole in
    let all : length sign + length whole ≡ length sign + length whole + 0 + 0 = omega arith in
    ap (λ (l : List ℕ). token_at (l ++ following)) parts.is
    ∙ ap token_at (append_assoc sign whole following)
    ∙ parts_token sign whole [] [] following parts.signs h ends.digit (fraction_none following ends.point) (exponent_none following ends.mark) ends.goes
    ∙ same_token _ t.Int _ (length text) (ap (λ (b : Bool). cond b t.Int t.Float) (eq-eqb (length sign + length whole) (length sign + length whole + 0 + 0) all)) (omega arith)

-- ---- Float

-- a text in two parts
record Split (p q : List ℕ → Bool) (text : List ℕ) : Type 0 where
  one : List ℕ
  two : List ℕ
  is : text ≡ one ++ two
  first : p one ≡ true
  second : q two ≡ true

split : (p q : List ℕ → Bool) (text : List ℕ) → followed_by p q text ≡ true → Split p q text
split p q [] h =
    let (first, second) = and_parts (p []) (q []) h in
    record { one = []; two = []; is = refl; first = first; second = second }
split p q (c ∷ cs) h = elim (or_cases (p [] && q (c ∷ cs)) (followed_by (λ ds. p (c ∷ ds)) q cs) h) [
  | inl both ↦
      let (first, second) = and_parts (p []) (q (c ∷ cs)) both in
      record { one = []; two = c ∷ cs; is = refl; first = first; second = second }
  | inr more ↦
      let s = split (λ ds. p (c ∷ ds)) q cs more in
      record { one = c ∷ s.one; two = s.two; is = ap (λ (l : List ℕ). c ∷ l) s.is; first = s.first; second = s.second }
]

-- what follows the integer part: a fraction, an exponent, or both
record Tail (text following : List ℕ) : Type 0 where
  fraction : List ℕ
  exponent : List ℕ
  is : text ≡ fraction ++ exponent
  some : 0 < length fraction + length exponent
  none : begins_by is_ascii_digit (fraction ++ (exponent ++ following)) ≡ false
  fraction_reaches : fraction_len (fraction ++ (exponent ++ following)) ≡ Some (length fraction)
  exponent_reaches : exponent_len (exponent ++ following) ≡ Some (length exponent)

fraction_some : (text : List ℕ) → is_fraction text ≡ true → 0 < length text
fraction_some [] h = absurd cc
fraction_some (c ∷ cs) h = omega arith

exponent_some : (text : List ℕ) → is_exponent text ≡ true → 0 < length text
exponent_some [] h = absurd cc
exponent_some (c ∷ cs) h = omega arith

tail : (text following : List ℕ) → is_float_tail text ≡ true → Ends following → Tail text following
tail text following h ends = elim (or_cases (is_fraction text) (is_exponent text || followed_by is_fraction is_exponent text) h) [
  | inl fraction ↦
      let some = fraction_some text fraction in
      record {
        fraction = text;
        exponent = [];
        is = sym (append-nil text);
        some = omega arith;
        none = fraction_front text following fraction;
        fraction_reaches = fraction_there text following fraction ends.digit;
        exponent_reaches = exponent_none following ends.mark;
      }
  | inr others ↦ elim (or_cases (is_exponent text) (followed_by is_fraction is_exponent text) others) [
    | inl exponent ↦
        let some = exponent_some text exponent in
        let front = exponent_front text following exponent in
        record {
          fraction = [];
          exponent = text;
          is = refl;
          some = omega arith;
          none = front.0;
          fraction_reaches = fraction_none (text ++ following) front.1;
          exponent_reaches = exponent_there text following exponent ends.digit;
        }
    | inr both ↦
        let s = split is_fraction is_exponent text both in
        let some = fraction_some s.one s.first in
        record {
          fraction = s.one;
          exponent = s.two;
          is = s.is;
          some = omega arith;
          none = fraction_front s.one (s.two ++ following) s.first;
          fraction_reaches = fraction_there s.one (s.two ++ following) s.first (exponent_front s.two following s.second).0;
          exponent_reaches = exponent_there s.two following s.second ends.digit;
        }
  ]
]

longer : (n m : ℕ) → n < m → (n == m) ≡ false
longer n m h = go (n == m) refl
  where
    go : (same : Bool) → (n == m) ≡ same → same ≡ false
    go false e = refl
    go true e = let is : n ≡ m = eqb-true n m e in absurd (omega arith)

pub float_token : (text following : List ℕ) → is_float_value text ≡ true → ends_word following ≡ true → token_at (text ++ following) ≡ Some (t.Float, length text)
float_token text following h fine =
    let ends = number_ends following fine in
    let parts = signed text in
    let s = split is_natural is_float_tail (without_minus text) h in
    let rest = tail s.two following s.second ends in
    let sign = parts.sign in
    let whole = s.one in
    let fraction = rest.fraction in
    let exponent = rest.exponent in
    let is : text ≡ sign ++ (whole ++ (fraction ++ exponent)) = parts.is ∙ ap (λ (l : List ℕ). sign ++ l) (s.is ∙ ap (λ (l : List ℕ). whole ++ l) rest.is) in
    let size1 : length text ≡ length sign + length (whole ++ (fraction ++ exponent)) = ap length is ∙ length-append sign (whole ++ (fraction ++ exponent)) in
    let size2 : length (whole ++ (fraction ++ exponent)) ≡ length whole + length (fraction ++ exponent) = length-append whole (fraction ++ exponent) in
    let size3 : length (fraction ++ exponent) ≡ length fraction + length exponent = length-append fraction exponent in
    let some = rest.some in
    let more : length sign + length whole < length sign + length whole + length fraction + length exponent = omega arith in
    ap (λ (l : List ℕ). token_at (l ++ following)) is
    ∙ ap token_at (append_assoc sign (whole ++ (fraction ++ exponent)) following)
    ∙ ap (λ (l : List ℕ). token_at (sign ++ l)) (append_assoc whole (fraction ++ exponent) following)
    ∙ ap (λ (l : List ℕ). token_at (sign ++ (whole ++ l))) (append_assoc fraction exponent following)
    ∙ parts_token sign whole fraction exponent following parts.signs s.first rest.none rest.fraction_reaches rest.exponent_reaches ends.goes
    ∙ same_token _ t.Float _ (length text) (ap (λ (b : Bool). cond b t.Int t.Float) (longer (length sign + length whole) (length sign + length whole + length fraction + length exponent) more)) (omega arith)

pub numbers_read : NumbersRead
numbers_read = record { int = int_token; float = float_token }
