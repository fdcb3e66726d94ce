-- A token begins and ends with a byte of ASCII, so that a text may be cut before it and after it.
use Rattle.std.proofs.Common.{◌≡◌, ◌⊎◌, ℕ, suc, ◌+◌, ◌-◌, ◌<◌, ◌≤◌, Bool, true, false, cond, ◌||◌, ◌==◌, List, [], ◌∷◌, length, drop, get_or, Option, Some, None, sym, ap, ◌∙◌, subst, inl, inr, arith, one-add, eqb-true, leb-true, IsUtf8, IsCharBoundary}
use Rattle.std.specs.List.{prefix_len}
use Rattle.std.specs.Char.{is_ascii_alphabetic, is_ascii_digit}
use Rattle.std.specs.Int.{is_in_range}
use Rattle.std.proofs.lemmas.Bool.{and_parts, or_cases, or_left}
use Rattle.std.proofs.lemmas.List.{get_or-drop, length-drop}
use Rattle.std.proofs.lemmas.List.Sums.{prefix_len_passes, prefix_len-le-length}
use Rattle.std.proofs.lemmas.Str.{IsCharBoundary-before_ascii, IsCharBoundary-after_ascii, IsCharBoundary-end}
use Rattle.graphql_names.specs.NameSyntax.{is_name_start, is_name_continue}
use Rattle.read_tokens.specs.Bytes.{begins_by, begins_with, run_len}
use Rattle.read_tokens.specs.Numbers.{is_zero, is_point, is_exponent_mark, is_sign, sign_len, whole_len, digits_after, fraction_len, exponent_len, goes_on, number_kind, number_at}
use Rattle.read_tokens.specs.Strings.{part_len, closed_len, quoted_len}
use Rattle.read_tokens.specs.Blocks.{quotes, block_character_len, block_len}
use Rattle.read_tokens.specs.Tokens.{punctuator, one_byte, of_kind, string_at, token_at}
use Rattle.read_tokens.specs.declared.token.TokenKind.{TokenKind}
use Rattle.read_tokens.specs.declared.token.TokenKind.TheVariants as k
use Rattle.read_tokens.proofs.Choices.{bind_some, choice, same_some, some_if, some_unless}

-- ---- bytes

range_below : (low high c : ℕ) → is_in_range low high c ≡ true → c ≤ high
range_below low high c h = leb-true c high (and_parts _ _ h).1

digit_below : (c : ℕ) → is_ascii_digit c ≡ true → c < 128
digit_below c h = let low : c ≤ 57 = range_below 48 57 c h in omega arith

start_below : (c : ℕ) → is_name_start c ≡ true → c < 128
start_below c h = elim (or_cases (is_ascii_alphabetic c) (c == 95) h) [
  | inr e ↦ let is : c ≡ 95 = eqb-true c 95 e in omega arith
  | inl a ↦ elim (or_cases _ _ a) [
    | inl e ↦ let low : c ≤ 90 = range_below 65 90 c e in omega arith
    | inr e ↦ let low : c ≤ 122 = range_below 97 122 c e in omega arith
  ]
]

continue_below : (c : ℕ) → is_name_continue c ≡ true → c < 128
continue_below c h = elim (or_cases (is_name_start c) (is_ascii_digit c) h) [
  | inl e ↦ start_below c e
  | inr e ↦ digit_below c e
]

-- ---- where a token ends

-- n bytes, the last of which is of ASCII
pub record EndsAt (bytes : List ℕ) (n : ℕ) : Type 0 where
  pub some : 0 < n
  pub within : n ≤ length bytes
  pub last : get_or bytes (n - 1) 0 < 128

run_ends : (p : ℕ → Bool) → ((c : ℕ) → p c ≡ true → c < 128) → (bytes : List ℕ) → begins_by p bytes ≡ true → EndsAt bytes (prefix_len p bytes)
run_ends p below [] h = absurd cc
run_ends p below (b ∷ bytes) h =
    let m : ℕ = prefix_len p bytes in
    let more : prefix_len p (b ∷ bytes) ≡ suc m = rw h (one-add (prefix_len p bytes)) in
    let fits : m ≤ length bytes = prefix_len-le-length p bytes in
    let before : m < prefix_len p (b ∷ bytes) = omega arith in
    let at : prefix_len p (b ∷ bytes) - 1 ≡ m = omega arith in
    record {
      some = omega arith;
      within = omega arith;
      last = subst (λ (i : ℕ). get_or (b ∷ bytes) i 0 < 128) (sym at) (below _ (prefix_len_passes p (b ∷ bytes) m 0 before));
    }

-- after other bytes
pub shifted : (m : ℕ) (bytes : List ℕ) (n : ℕ) → EndsAt (drop m bytes) n → EndsAt bytes (m + n)
shifted m bytes n ends =
    let some = ends.some in
    let within = ends.within in
    let size : length (drop m bytes) ≡ length bytes - m = length-drop m bytes in
    let at : m + (n - 1) ≡ (m + n) - 1 = omega arith in
    record {
      some = omega arith;
      within = omega arith;
      last = subst (λ (c : ℕ). c < 128) (get_or-drop m bytes (n - 1) 0 ∙ ap (λ (i : ℕ). get_or bytes i 0) at) ends.last;
    }

pub first_ends : (b : ℕ) (bytes : List ℕ) → b < 128 → EndsAt (b ∷ bytes) 1
first_ends b bytes below = record { some = omega arith; within = omega arith; last = below }

-- ---- numbers

zero_ends : (bytes : List ℕ) → begins_by is_zero bytes ≡ true → EndsAt bytes 1
zero_ends [] h = absurd cc
zero_ends (b ∷ bytes) h = let is : b ≡ 48 = eqb-true b 48 h in first_ends b bytes (omega arith)

whole_ends : (bytes : List ℕ) (n : ℕ) → whole_len bytes ≡ Some n → EndsAt bytes n
unfolding whole_len
whole_ends bytes n h = elim (some_if (begins_by is_zero bytes) 1 n _ h) [
  | inl e ↦ subst (EndsAt bytes) e.1 (zero_ends bytes e.0)
  | inr h ↦ elim (some_if (begins_by is_ascii_digit bytes) (prefix_len is_ascii_digit bytes) n None h) [
    | inl e ↦ subst (EndsAt bytes) e.1 (run_ends is_ascii_digit digit_below bytes e.0)
    | inr h ↦ absurd cc
  ]
]

digits_end : (m : ℕ) (bytes : List ℕ) (n : ℕ) → digits_after m bytes ≡ Some n → EndsAt bytes n
unfolding digits_after
digits_end m bytes n h = elim (some_if (begins_by is_ascii_digit (drop m bytes)) (m + prefix_len is_ascii_digit (drop m bytes)) n None h) [
  | inl e ↦ subst (EndsAt bytes) e.1 (shifted m bytes _ (run_ends is_ascii_digit digit_below (drop m bytes) e.0))
  | inr h ↦ absurd cc
]

-- no bytes, or some that end so
abbrev MayEndAt : List ℕ → ℕ → Type 0
MayEndAt bytes n = (0 ≡ n) ⊎ EndsAt bytes n

fraction_ends : (bytes : List ℕ) (n : ℕ) → fraction_len bytes ≡ Some n → MayEndAt bytes n
unfolding fraction_len
fraction_ends bytes n h = elim (choice (begins_by is_point bytes) (digits_after 1 bytes) (Some 0) n h) [
  | inl e ↦ inr (digits_end 1 bytes n e.1)
  | inr e ↦ inl (same_some 0 n e)
]

exponent_ends : (bytes : List ℕ) (n : ℕ) → exponent_len bytes ≡ Some n → MayEndAt bytes n
unfolding exponent_len
exponent_ends bytes n h = elim (choice (begins_by is_exponent_mark bytes) (digits_after (cond (begins_by is_sign (drop 1 bytes)) 2 1) bytes) (Some 0) n h) [
  | inl e ↦ inr (digits_end _ bytes n e.1)
  | inr e ↦ inl (same_some 0 n e)
]

then_ends : (bytes : List ℕ) (m n : ℕ) → EndsAt bytes m → MayEndAt (drop m bytes) n → EndsAt bytes (m + n)
then_ends bytes m n ends (inl none) = let same : m ≡ m + n = omega arith in subst (EndsAt bytes) same ends
then_ends bytes m n ends (inr more) = shifted m bytes n more

number_ends : (bytes : List ℕ) (kind : TokenKind) (n : ℕ) → number_at bytes ≡ Some (kind, n) → EndsAt bytes n
unfolding number_at
number_ends bytes kind n h =
    let s : ℕ = sign_len bytes in
    let (digits, (d, h1)) = bind_some (whole_len (drop s bytes)) _ (kind, n) h in
    let (fraction, (f, h2)) = bind_some (fraction_len (drop (s + digits) bytes)) _ (kind, n) h1 in
    let (exponent, (e, h3)) = bind_some (exponent_len (drop (s + digits + fraction) bytes)) _ (kind, n) h2 in
    let is : (number_kind (s + digits) (s + digits + fraction + exponent), s + digits + fraction + exponent) ≡ (kind, n) =
    same_some _ _ (some_unless (begins_by goes_on (drop (s + digits + fraction + exponent) bytes)) _ (kind, n) h3) in
    let one = shifted s bytes digits (whole_ends (drop s bytes) digits d) in
    let two = then_ends bytes (s + digits) fraction one (fraction_ends _ fraction f) in
    let three = then_ends bytes (s + digits + fraction) exponent two (exponent_ends _ exponent e) in
    subst (EndsAt bytes) (ap (λ (t : TokenKind × ℕ). t.1) is) three

-- ---- strings

mark_ends : (bytes : List ℕ) → begins_with (34 ∷ []) bytes ≡ true → EndsAt bytes 1
mark_ends [] h = absurd cc
mark_ends (b ∷ bytes) h = let is : b ≡ 34 = eqb-true b 34 (and_parts (b == 34) true h).0 in first_ends b bytes (omega arith)

quotes_end : (bytes : List ℕ) → begins_with quotes bytes ≡ true → EndsAt bytes 3
quotes_end [] h = absurd cc
quotes_end (b ∷ []) h = let p = (and_parts (b == 34) false h).1 in absurd cc
quotes_end (b ∷ c ∷ []) h = let p = (and_parts (c == 34) false (and_parts (b == 34) _ h).1).1 in absurd cc
quotes_end (b ∷ c ∷ d ∷ bytes) h =
    let is : d ≡ 34 = eqb-true d 34 (and_parts (d == 34) true (and_parts (c == 34) _ (and_parts (b == 34) _ h).1).1).0 in
    record { some = omega arith; within = omega arith; last = let below : d < 128 = omega arith in below }

closed_ends : (mark : List ℕ) (n : ℕ) (bytes : List ℕ) (m : ℕ) → ((ds : List ℕ) → begins_with mark ds ≡ true → EndsAt ds (length mark)) → closed_len mark n bytes ≡ Some m → EndsAt bytes m
closed_ends mark n bytes m ends h = elim (some_if (begins_with mark (drop (length mark + n) bytes)) (length mark + n + length mark) m None h) [
  | inl e ↦ subst (EndsAt bytes) e.1 (shifted (length mark + n) bytes (length mark) (ends _ e.0))
  | inr e ↦ absurd cc
]

pub of_kind_is : (kind : TokenKind) (o : Option ℕ) (t : TokenKind × ℕ) → of_kind kind o ≡ Some t → o ≡ Some t.1
of_kind_is kind None t h = absurd cc
of_kind_is kind (Some n) t h = ap (λ (u : TokenKind × ℕ). Some u.1) (same_some (kind, n) t h)

string_ends : (bytes : List ℕ) (t : TokenKind × ℕ) → string_at bytes ≡ Some t → EndsAt bytes t.1
unfolding string_at block_len quoted_len
string_ends bytes t h = elim (choice (begins_with quotes bytes) (of_kind k.BlockString (block_len bytes)) (of_kind k.String (quoted_len bytes)) t h) [
  | inl e ↦ closed_ends quotes (run_len block_character_len 0 (drop 3 bytes)) bytes t.1 quotes_end (of_kind_is k.BlockString (block_len bytes) t e.1)
  | inr e ↦ closed_ends (34 ∷ []) (run_len part_len 0 (drop 1 bytes)) bytes t.1 mark_ends (of_kind_is k.String (quoted_len bytes) t e)
]

-- ---- punctuators

punctuator_below : (b : ℕ) (kind : TokenKind) → punctuator b ≡ Some kind → b < 128
punctuator_below b kind h0 = elim (some_if (b == 33) k.Bang kind _ h0) [
  | inl e ↦ let is : b ≡ 33 = eqb-true b 33 e.0 in omega arith
  | inr h1 ↦ elim (some_if (b == 36) k.Dollar kind _ h1) [
    | inl e ↦ let is : b ≡ 36 = eqb-true b 36 e.0 in omega arith
    | inr h2 ↦ elim (some_if (b == 38) k.Ampersand kind _ h2) [
      | inl e ↦ let is : b ≡ 38 = eqb-true b 38 e.0 in omega arith
      | inr h3 ↦ elim (some_if (b == 40) k.OpenParen kind _ h3) [
        | inl e ↦ let is : b ≡ 40 = eqb-true b 40 e.0 in omega arith
        | inr h4 ↦ elim (some_if (b == 41) k.CloseParen kind _ h4) [
          | inl e ↦ let is : b ≡ 41 = eqb-true b 41 e.0 in omega arith
          | inr h5 ↦ elim (some_if (b == 58) k.Colon kind _ h5) [
            | inl e ↦ let is : b ≡ 58 = eqb-true b 58 e.0 in omega arith
            | inr h6 ↦ elim (some_if (b == 61) k.Equals kind _ h6) [
              | inl e ↦ let is : b ≡ 61 = eqb-true b 61 e.0 in omega arith
              | inr h7 ↦ elim (some_if (b == 64) k.At kind _ h7) [
                | inl e ↦ let is : b ≡ 64 = eqb-true b 64 e.0 in omega arith
                | inr h8 ↦ elim (some_if (b == 91) k.OpenBracket kind _ h8) [
                  | inl e ↦ let is : b ≡ 91 = eqb-true b 91 e.0 in omega arith
                  | inr h9 ↦ elim (some_if (b == 93) k.CloseBracket kind _ h9) [
                    | inl e ↦ let is : b ≡ 93 = eqb-true b 93 e.0 in omega arith
                    | inr h10 ↦ elim (some_if (b == 123) k.OpenBrace kind _ h10) [
                      | inl e ↦ let is : b ≡ 123 = eqb-true b 123 e.0 in omega arith
                      | inr h11 ↦ elim (some_if (b == 124) k.Pipe kind _ h11) [
                        | inl e ↦ let is : b ≡ 124 = eqb-true b 124 e.0 in omega arith
                        | inr h12 ↦ elim (some_if (b == 125) k.CloseBrace kind _ h12) [
                          | inl e ↦ let is : b ≡ 125 = eqb-true b 125 e.0 in omega arith
                          | inr h13 ↦ absurd cc
                        ]
                      ]
                    ]
                  ]
                ]
              ]
            ]
          ]
        ]
      ]
    ]
  ]
]

pub one_byte_is : (o : Option TokenKind) (t : TokenKind × ℕ) → one_byte o ≡ Some t → (o ≡ Some t.0) × (1 ≡ t.1)
one_byte_is None t h = absurd cc
one_byte_is (Some kind) t h = let same = same_some (kind, 1) t h in (ap (λ (u : TokenKind × ℕ). Some u.0) same, ap (λ (u : TokenKind × ℕ). u.1) same)

dots_end : (b : ℕ) (bytes : List ℕ) → begins_with (46 ∷ 46 ∷ []) bytes ≡ true → EndsAt (b ∷ bytes) 3
dots_end b [] h = absurd cc
dots_end b (c ∷ []) h = let p = (and_parts (c == 46) false h).1 in absurd cc
dots_end b (c ∷ d ∷ bytes) h =
    let is : d ≡ 46 = eqb-true d 46 (and_parts (d == 46) true (and_parts (c == 46) _ h).1).0 in
    record { some = omega arith; within = omega arith; last = let below : d < 128 = omega arith in below }

-- ---- tokens

-- a token, between two places where a text may be cut
pub record Ends (bytes : List ℕ) (n : ℕ) : Type 0 where
  pub first : get_or bytes 0 0 < 128
  pub ends : EndsAt bytes n

sign_or_digit_below : (b : ℕ) → (b == 45 || is_ascii_digit b) ≡ true → b < 128
sign_or_digit_below b h = elim (or_cases (b == 45) (is_ascii_digit b) h) [
  | inl e ↦ let is : b ≡ 45 = eqb-true b 45 e in omega arith
  | inr e ↦ digit_below b e
]

pub token_ends : (bytes : List ℕ) (t : TokenKind × ℕ) → token_at bytes ≡ Some t → Ends bytes t.1
unfolding token_at
token_ends [] t h = absurd cc
token_ends (b ∷ bytes) t h = elim (some_if (is_name_start b) (k.Name, prefix_len is_name_continue (b ∷ bytes)) t _ h) [
  | inl e ↦ record { first = start_below b e.0; ends = subst (EndsAt (b ∷ bytes)) (ap (λ (u : TokenKind × ℕ). u.1) e.1) (run_ends is_name_continue continue_below (b ∷ bytes) (or_left (is_name_start b) (is_ascii_digit b) e.0)) }
  | inr h ↦ elim (choice (b == 45 || is_ascii_digit b) (number_at (b ∷ bytes)) _ t h) [
    | inl e ↦ record { first = sign_or_digit_below b e.0; ends = number_ends (b ∷ bytes) t.0 t.1 e.1 }
    | inr h ↦ elim (choice (b == 34) (string_at (b ∷ bytes)) _ t h) [
      | inl e ↦ let is : b ≡ 34 = eqb-true b 34 e.0 in record { first = let below : b < 128 = omega arith in below; ends = string_ends (b ∷ bytes) t e.1 }
      | inr h ↦ elim (choice (b == 46) (cond (begins_with (46 ∷ 46 ∷ []) bytes) (Some (k.Spread, 3)) None) (one_byte (punctuator b)) t h) [
        | inl e ↦ elim (some_if (begins_with (46 ∷ 46 ∷ []) bytes) (k.Spread, 3) t None e.1) [
          | inl f ↦ let is : b ≡ 46 = eqb-true b 46 e.0 in record { first = let below : b < 128 = omega arith in below; ends = subst (EndsAt (b ∷ bytes)) (ap (λ (u : TokenKind × ℕ). u.1) f.1) (dots_end b bytes f.0) }
          | inr f ↦ absurd cc
        ]
        | inr h ↦
            let one = one_byte_is (punctuator b) t h in
            let below : b < 128 = punctuator_below b t.0 one.0 in
            record { first = below; ends = subst (EndsAt (b ∷ bytes)) one.1 (first_ends b bytes below) }
      ]
    ]
  ]
]

-- a text may be cut before a token and after it
pub cut_before : (text : List ℕ) (at : ℕ) (t : TokenKind × ℕ) → token_at (drop at text) ≡ Some t → IsCharBoundary text at
cut_before text at t h =
    let e = token_ends (drop at text) t h in
    let some = e.ends.some in
    let within = e.ends.within in
    let size : length (drop at text) ≡ length text - at = length-drop at text in
    let zero_at : at + 0 ≡ at = omega arith in
    IsCharBoundary-before_ascii text at (omega arith) (subst (λ (c : ℕ). c < 128) (get_or-drop at text 0 0 ∙ ap (λ (i : ℕ). get_or text i 0) zero_at) e.first)

pub cut_after : (text : List ℕ) (at : ℕ) (t : TokenKind × ℕ) → token_at (drop at text) ≡ Some t → IsUtf8 text → IsCharBoundary text (at + t.1)
cut_after text at t h utf8 =
    let e = shifted at text t.1 (token_ends (drop at text) t h).ends in
    let some = e.some in
    let within = e.within in
    let n : ℕ = at + t.1 in
    let back : (n - 1) + 1 ≡ n = omega arith in
    subst (IsCharBoundary text) back (IsCharBoundary-after_ascii text (n - 1) utf8 (omega arith) e.last)

pub cut_at_end : (text : List ℕ) → IsCharBoundary text (length text)
cut_at_end text = IsCharBoundary-end text

pub token_fits : (text : List ℕ) (at : ℕ) (t : TokenKind × ℕ) → token_at (drop at text) ≡ Some t → at + t.1 ≤ length text
token_fits text at t h =
    let e = shifted at text t.1 (token_ends (drop at text) t h).ends in
    let within = e.within in
    omega arith

-- after a token a caller goes on
pub goes_on_after : (text : List ℕ) (at : ℕ) (t : TokenKind × ℕ) → token_at (drop at text) ≡ Some t → IsUtf8 text → (0 < t.1) × IsCharBoundary text (at + t.1)
goes_on_after text at t h utf8 = ((token_ends (drop at text) t h).ends.some, cut_after text at t h utf8)
