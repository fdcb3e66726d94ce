-- Texts with their escapes replaced.
use Rattle.std.proofs.Common.{◌≡◌, ◌⊎◌, ℕ, zero, suc, ◌+◌, ◌-◌, ◌<◌, ◌≤◌, Bool, true, false, cond, not, ◌&&◌, ◌||◌, ◌==◌, List, [], ◌∷◌, ◌++◌, length, take, drop, get_or, Option, Some, None, refl, sym, ap, ◌∙◌, subst, inl, inr, arith, one-add, eqb-true, leb-true, IsUtf8, IsCharBoundary}
use Rattle.std.specs.List.{prefix_len, list_any}
use Rattle.std.proofs.lemmas.Bool.{and_parts, and_from, not-false, cases_order}
use Rattle.std.proofs.lemmas.Option.{slice_get_within, get_or_from_slice_get}
use Rattle.std.specs.Prelude.{slice_get}
use Rattle.std.proofs.lemmas.List.Sums.{prefix_len_stops, prefix_len-le-length}
use Rattle.std.proofs.lemmas.Str.{IsCharBoundary-end, IsCharBoundary-before_ascii, IsCharBoundary-after_ascii}
use Rattle.read_tokens.specs.Bytes.{begins_with, within, replaced}
use Rattle.read_tokens.specs.Strings.{escaped, hexadecimal, hexadecimal_at, unicode_at, with_len, escape_at, escape_part, part_at}
use Rattle.read_tokens.specs.Blocks.{quotes, escaped_quotes, block_character_at}
use Rattle.read_tokens.specs.Values.{is_plain}
use Rattle.read_tokens.proofs.Ends.{EndsAt, shifted, first_ends}
use Rattle.read_tokens.proofs.Choices.{some_if, bind_some}

-- ---- where a text may be cut

pub plain_boundary : (text : List ℕ) → IsCharBoundary text (prefix_len is_plain text)
plain_boundary text = go (prefix_len is_plain text) refl (prefix_len-le-length is_plain text)
  where
    go : (n : ℕ) → prefix_len is_plain text ≡ n → n ≤ length text → IsCharBoundary text n
    go n e within = here (cases_order n (length text))
      where
        here : (n ≡ length text) ⊎ ((n < length text) ⊎ (length text < n)) → IsCharBoundary text n
        here (inl is) = subst (IsCharBoundary text) (sym is) (IsCharBoundary-end text)
        here (inr (inl lt)) =
            let lt' : prefix_len is_plain text < length text = omega arith in
            let stops : is_plain (get_or text n 0) ≡ false = rw e at (prefix_len_stops is_plain text 0 lt') in
            let is : get_or text n 0 ≡ 92 = eqb-true (get_or text n 0) 92 (not-false (get_or text n 0 == 92) stops) in
            IsCharBoundary-before_ascii text n lt (omega arith)
        here (inr (inr gt)) = absurd (omega arith)

-- ---- replaced

replaced_left : (rule : List ℕ → List ℕ × ℕ) (n : ℕ) (bytes : List ℕ) → replaced rule n bytes ≡ replaced rule 0 (drop n bytes)
unfolding replaced
replaced_left rule zero bytes = refl
replaced_left rule (suc n) [] = refl
replaced_left rule (suc n) (b ∷ bytes) = replaced_left rule n bytes

-- what begins the bytes, and what follows it
pub replaced_step : (rule : List ℕ → List ℕ × ℕ) (b : ℕ) (bytes : List ℕ) → 0 < (rule (b ∷ bytes)).1 → replaced rule 0 (b ∷ bytes) ≡ (rule (b ∷ bytes)).0 ++ replaced rule 0 (drop (rule (b ∷ bytes)).1 (b ∷ bytes))
unfolding replaced
replaced_step rule b bytes some = ap (λ (rest : List ℕ). (rule (b ∷ bytes)).0 ++ rest) (replaced_left rule ((rule (b ∷ bytes)).1 - 1) bytes ∙ ap (replaced rule 0) (following (rule (b ∷ bytes)).1 some))
  where
    following : (n : ℕ) → 0 < n → drop (n - 1) bytes ≡ drop n (b ∷ bytes)
    following zero h = absurd (omega arith)
    following (suc n) h = let one : suc n - 1 ≡ n = omega arith in ap (λ (m : ℕ). drop m bytes) one

abbrev pub Keeps : (List ℕ → List ℕ × ℕ) → Type 0
Keeps rule = (b : ℕ) (bytes : List ℕ) → is_plain b ≡ true → rule (b ∷ bytes) ≡ (b ∷ [], 1)

-- what comes before a backslash is kept
pub replaced_plain : (rule : List ℕ → List ℕ × ℕ) → Keeps rule → (bytes : List ℕ) → replaced rule 0 bytes ≡ take (prefix_len is_plain bytes) bytes ++ replaced rule 0 (drop (prefix_len is_plain bytes) bytes)
unfolding replaced
replaced_plain rule keeps [] = refl
replaced_plain rule keeps (b ∷ bytes) = go (is_plain b) refl (replaced_plain rule keeps bytes)
  where
    go : (t : Bool) → is_plain b ≡ t → replaced rule 0 bytes ≡ take (prefix_len is_plain bytes) bytes ++ replaced rule 0 (drop (prefix_len is_plain bytes) bytes)
        → replaced rule 0 (b ∷ bytes) ≡ take (cond t (1 + prefix_len is_plain bytes) 0) (b ∷ bytes) ++ replaced rule 0 (drop (cond t (1 + prefix_len is_plain bytes) 0) (b ∷ bytes))
    go true e more =
        let one : (rule (b ∷ bytes)).0 ++ replaced rule ((rule (b ∷ bytes)).1 - 1) bytes ≡ b ∷ replaced rule 0 bytes = ap (λ (p : List ℕ × ℕ). p.0 ++ replaced rule (p.1 - 1) bytes) (keeps b bytes e) in
        one ∙ rw one-add (ap (λ (rest : List ℕ). b ∷ rest) more)
    go false e more = refl

-- after what is plain the text ends, or a backslash follows
pub plain_ends : (bytes : List ℕ) → (drop (prefix_len is_plain bytes) bytes ≡ []) ⊎ (begins_with (92 ∷ []) (drop (prefix_len is_plain bytes) bytes) ≡ true)
plain_ends [] = inl refl
plain_ends (b ∷ bytes) = go (is_plain b) refl (plain_ends bytes)
  where
    go : (t : Bool) → is_plain b ≡ t → (drop (prefix_len is_plain bytes) bytes ≡ []) ⊎ (begins_with (92 ∷ []) (drop (prefix_len is_plain bytes) bytes) ≡ true)
        → (drop (cond t (1 + prefix_len is_plain bytes) 0) (b ∷ bytes) ≡ []) ⊎ (begins_with (92 ∷ []) (drop (cond t (1 + prefix_len is_plain bytes) 0) (b ∷ bytes)) ≡ true)
    go true e more = rw one-add more
    go false e more = inr (and_from (b == 92) true (not-false (b == 92) e) refl)

-- ---- the rules

abbrev kept : ℕ → List ℕ × ℕ
kept b = (b ∷ [], 1)

abbrev marks : List ℕ × ℕ
marks = (quotes, 4)

pub part_keeps : Keeps part_at
unfolding part_at
part_keeps b bytes plain = go (b == 92) plain
  where
    go : (t : Bool) → not t ≡ true → cond t (escape_part (escape_at bytes)) (kept b) ≡ kept b
    go true h = absurd cc
    go false h = refl

pub block_keeps : Keeps block_character_at
unfolding block_character_at
block_keeps b bytes plain = go (b == 92) plain
  where
    go : (t : Bool) → not t ≡ true → cond (t && begins_with quotes bytes) marks (kept b) ≡ kept b
    go true h = absurd cc
    go false h = refl

-- ---- where an escape ends

escaped_below : (b c : ℕ) → escaped b ≡ Some c → b < 128
escaped_below b c h0 = elim (some_if (b == 34) 34 c _ h0) [
  | inl e ↦ let is : b ≡ 34 = eqb-true b 34 e.0 in omega arith
  | inr h1 ↦ elim (some_if (b == 92) 92 c _ h1) [
    | inl e ↦ let is : b ≡ 92 = eqb-true b 92 e.0 in omega arith
    | inr h2 ↦ elim (some_if (b == 47) 47 c _ h2) [
      | inl e ↦ let is : b ≡ 47 = eqb-true b 47 e.0 in omega arith
      | inr h3 ↦ elim (some_if (b == 98) 8 c _ h3) [
        | inl e ↦ let is : b ≡ 98 = eqb-true b 98 e.0 in omega arith
        | inr h4 ↦ elim (some_if (b == 102) 12 c _ h4) [
          | inl e ↦ let is : b ≡ 102 = eqb-true b 102 e.0 in omega arith
          | inr h5 ↦ elim (some_if (b == 110) 10 c _ h5) [
            | inl e ↦ let is : b ≡ 110 = eqb-true b 110 e.0 in omega arith
            | inr h6 ↦ elim (some_if (b == 114) 13 c _ h6) [
              | inl e ↦ let is : b ≡ 114 = eqb-true b 114 e.0 in omega arith
              | inr h7 ↦ elim (some_if (b == 116) 9 c _ h7) [
                | inl e ↦ let is : b ≡ 116 = eqb-true b 116 e.0 in omega arith
                | inr h8 ↦ absurd cc
              ]
            ]
          ]
        ]
      ]
    ]
  ]
]

range_below : (low high c : ℕ) → within low high c ≡ true → c ≤ high
range_below low high c h = leb-true c high (and_parts _ _ h).1

hexadecimal_below : (b d : ℕ) → hexadecimal b ≡ Some d → b < 128
hexadecimal_below b d h = elim (some_if (within 48 57 b) (b - 48) d _ h) [
  | inl e ↦ let low : b ≤ 57 = range_below 48 57 b e.0 in omega arith
  | inr h ↦ elim (some_if (within 65 70 b) (b - 55) d _ h) [
    | inl e ↦ let low : b ≤ 70 = range_below 65 70 b e.0 in omega arith
    | inr h ↦ elim (some_if (within 97 102 b) (b - 87) d None h) [
      | inl e ↦ let low : b ≤ 102 = range_below 97 102 b e.0 in omega arith
      | inr h ↦ absurd cc
    ]
  ]
]

hexadecimal_byte : (i : ℕ) (bytes : List ℕ) (d : ℕ) → hexadecimal_at i bytes ≡ Some d → (i < length bytes) × (get_or bytes i 0 < 128)
hexadecimal_byte i bytes d h =
    let (x, (at, is)) = bind_some (slice_get bytes i) hexadecimal d h in
    let below : x < 128 = hexadecimal_below x d is in
    (slice_get_within bytes i x at, subst (λ (c : ℕ). c < 128) (sym (get_or_from_slice_get bytes i x 0 at)) below)

unicode_ends : (bytes : List ℕ) (c : ℕ) → unicode_at bytes ≡ Some c → EndsAt bytes 4
unfolding unicode_at
unicode_ends bytes c h =
    let (a, (ea, h1)) = bind_some (hexadecimal_at 0 bytes) _ c h in
    let (b, (eb, h2)) = bind_some (hexadecimal_at 1 bytes) _ c h1 in
    let (d, (ed, h3)) = bind_some (hexadecimal_at 2 bytes) _ c h2 in
    let (e, (ee, h4)) = bind_some (hexadecimal_at 3 bytes) _ c h3 in
    let last = hexadecimal_byte 3 bytes e ee in
    let within : 3 < length bytes = last.0 in
    record { some = omega arith; within = omega arith; last = last.1 }

with_len_is : (n : ℕ) (o : Option ℕ) (e : ℕ × ℕ) → with_len n o ≡ Some e → (o ≡ Some e.0) × (n ≡ e.1)
with_len_is n None e h = absurd cc
with_len_is n (Some c) e h =
    let same : (c, n) ≡ e = cc in
    (ap (λ (p : ℕ × ℕ). Some p.0) same, ap (λ (p : ℕ × ℕ). p.1) same)

-- an escape, without its backslash
escape_ends : (bytes : List ℕ) (e : ℕ × ℕ) → escape_at bytes ≡ Some e → EndsAt bytes e.1
unfolding escape_at
escape_ends [] e h = absurd cc
escape_ends (b ∷ bytes) e h = go (b == 117) refl h
  where
    go : (t : Bool) → (b == 117) ≡ t → cond t (with_len 5 (unicode_at bytes)) (with_len 1 (escaped b)) ≡ Some e → EndsAt (b ∷ bytes) e.1
    go true is h =
        let parts = with_len_is 5 (unicode_at bytes) e h in
        subst (EndsAt (b ∷ bytes)) parts.1 (shifted 1 (b ∷ bytes) 4 (unicode_ends bytes e.0 parts.0))
    go false is h =
        let parts = with_len_is 1 (escaped b) e h in
        subst (EndsAt (b ∷ bytes)) parts.1 (first_ends b bytes (escaped_below b e.0 parts.0))

-- the escape that begins a text
pub part_ends : (text : List ℕ) → begins_with (92 ∷ []) text ≡ true → EndsAt text (part_at text).1
unfolding part_at
part_ends [] h = absurd cc
part_ends (b ∷ text) h = rw (and_parts (b == 92) true h).0 (go (escape_at text) refl)
  where
    below : b < 128
    below = let is : b ≡ 92 = eqb-true b 92 (and_parts (b == 92) true h).0 in omega arith

    go : (o : Option (ℕ × ℕ)) → escape_at text ≡ o → EndsAt (b ∷ text) (escape_part o).1
    go None e = first_ends b text below
    go (Some escape) e = shifted 1 (b ∷ text) escape.1 (escape_ends text escape e)

pub ends_boundary : (text : List ℕ) (n : ℕ) → EndsAt text n → IsUtf8 text → IsCharBoundary text n
ends_boundary text n ends utf8 =
    let some = ends.some in
    let within = ends.within in
    let back : (n - 1) + 1 ≡ n = omega arith in
    subst (IsCharBoundary text) back (IsCharBoundary-after_ascii text (n - 1) utf8 (omega arith) ends.last)

pub part_boundary : (text : List ℕ) → begins_with (92 ∷ []) text ≡ true → IsUtf8 text → IsCharBoundary text (part_at text).1
part_boundary text h utf8 = ends_boundary text (part_at text).1 (part_ends text h) utf8

-- what is before the next backslash is kept, and the escape there is replaced
pub parts_more : (text : List ℕ) → begins_with (92 ∷ []) text ≡ true
    → replaced part_at 0 text ≡ (part_at text).0 ++ replaced part_at 0 (drop (part_at text).1 text)
parts_more [] h = absurd cc
parts_more (b ∷ text) h = replaced_step part_at b text (part_ends (b ∷ text) h).some

pub parts_plain : (text : List ℕ) → replaced part_at 0 text ≡ take (prefix_len is_plain text) text ++ replaced part_at 0 (drop (prefix_len is_plain text) text)
parts_plain text = replaced_plain part_at part_keeps text

pub nothing_replaced : (rule : List ℕ → List ℕ × ℕ) → replaced rule 0 [] ≡ []
unfolding replaced
nothing_replaced rule = refl

-- ---- block string characters

quotes_ends : (text : List ℕ) → begins_with quotes text ≡ true → (3 ≤ length text) × (get_or text 2 0 < 128)
quotes_ends [] h = absurd cc
quotes_ends (b ∷ []) h = let p = (and_parts (b == 34) false h).1 in absurd cc
quotes_ends (b ∷ c ∷ []) h = let p = (and_parts (c == 34) false (and_parts (b == 34) _ h).1).1 in absurd cc
quotes_ends (b ∷ c ∷ d ∷ text) h =
    let is : d ≡ 34 = eqb-true d 34 (and_parts (d == 34) true (and_parts (c == 34) _ (and_parts (b == 34) _ h).1).1).0 in
    (omega arith, let below : d < 128 = omega arith in below)

pub character_ends : (text : List ℕ) → begins_with (92 ∷ []) text ≡ true → EndsAt text (block_character_at text).1
unfolding block_character_at
character_ends [] h = absurd cc
character_ends (b ∷ text) h = go (begins_with escaped_quotes (b ∷ text)) refl
  where
    is_mark : (b == 92) ≡ true
    is_mark = (and_parts (b == 92) true h).0

    below : b < 128
    below = let is : b ≡ 92 = eqb-true b 92 is_mark in omega arith

    go : (e : Bool) → begins_with escaped_quotes (b ∷ text) ≡ e → EndsAt (b ∷ text) (cond e marks (kept b)).1
    go true e =
        let ends = quotes_ends text (and_parts (b == 92) (begins_with quotes text) e).1 in
        let within : 3 ≤ length text = ends.0 in
        record { some = omega arith; within = omega arith; last = ends.1 }
    go false e = first_ends b text below

pub character_boundary : (text : List ℕ) → begins_with (92 ∷ []) text ≡ true → IsUtf8 text → IsCharBoundary text (block_character_at text).1
character_boundary text h utf8 = ends_boundary text (block_character_at text).1 (character_ends text h) utf8

pub characters_more : (text : List ℕ) → begins_with (92 ∷ []) text ≡ true
    → replaced block_character_at 0 text ≡ (block_character_at text).0 ++ replaced block_character_at 0 (drop (block_character_at text).1 text)
characters_more [] h = absurd cc
characters_more (b ∷ text) h = replaced_step block_character_at b text (character_ends (b ∷ text) h).some

pub characters_plain : (text : List ℕ) → replaced block_character_at 0 text ≡ take (prefix_len is_plain text) text ++ replaced block_character_at 0 (drop (prefix_len is_plain text) text)
characters_plain text = replaced_plain block_character_at block_keeps text

-- a text without a backslash is kept as it is
pub kept_whole : (rule : List ℕ → List ℕ × ℕ) → Keeps rule → (text : List ℕ) → list_any (λ b. b == 92) text ≡ false → replaced rule 0 text ≡ text
unfolding replaced
kept_whole rule keeps [] h = refl
kept_whole rule keeps (b ∷ text) h = go (b == 92) refl h (kept_whole rule keeps text)
  where
    go : (t : Bool) → (b == 92) ≡ t → t || list_any (λ b. b == 92) text ≡ false → (list_any (λ b. b == 92) text ≡ false → replaced rule 0 text ≡ text) → replaced rule 0 (b ∷ text) ≡ b ∷ text
    go true e h more = absurd cc
    go false e h more =
        let plain : is_plain b ≡ true = rw e refl in
        let one : (rule (b ∷ text)).0 ++ replaced rule ((rule (b ∷ text)).1 - 1) text ≡ b ∷ replaced rule 0 text = ap (λ (p : List ℕ × ℕ). p.0 ++ replaced rule (p.1 - 1) text) (keeps b text plain) in
        one ∙ ap (λ (rest : List ℕ). b ∷ rest) (more h)

pub all_kept : (text : List ℕ) → list_any (λ b. b == 92) text ≡ false → replaced block_character_at 0 text ≡ text
all_kept text h = kept_whole block_character_at block_keeps text h
