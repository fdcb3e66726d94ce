-- What is printed between quotation marks is read as it was.
use Rattle.std.proofs.Common.{◌≡◌, ◌⊎◌, ℕ, zero, suc, ◌<◌, Bool, true, false, cond, List, [], ◌∷◌, ◌++◌, length, Some, refl, sym, ap, ◌∙◌, subst, inl, inr, arith, ltb-true, append-nil, append_assoc}
use Rattle.std.specs.Char.{encode_utf8}
use Rattle.std.specs.Prelude.{nat_lt}
use Rattle.std.proofs.lemmas.Bool.{cases_order}
use Rattle.std.proofs.lemmas.Grind.{common_steps}
use Rattle.tree_literals.specs.Joined.{joined}
use Rattle.tree_literals.specs.StringLayout.{escaped_byte, escaped_text, quoted_text}
use Rattle.tree_literals.specs.EscapeRuns.{must_escape}
use Rattle.read_tokens.specs.Bytes.{begins_with, run_len, replaced, between}
use Rattle.read_tokens.specs.Strings.{unicode_at, escape_at, part_len, part_at, quoted_len, string_value}
use Rattle.read_tokens.specs.Blocks.{quotes, block_len}
use Rattle.read_tokens.specs.Tokens.{string_at, token_at, of_kind}
use Rattle.read_tokens.specs.declared.token.TokenKind.TheVariants as k
use Rattle.read_tokens.proofs.Bytes.{run_end}
use Rattle.round_trip.specs.Readings.{IsToken, MayFollow}
use Rattle.round_trip.proofs.Between.{NoMark, none_begin, closed, within}
use Rattle.round_trip.proofs.Pieces.{Reads, Piece, reads_none, reads_piece, reads_both}

-- ---- a byte

abbrev pub QuotedPiece : ℕ → List ℕ → Type 0
QuotedPiece b rest = Piece part_len part_at (escaped_byte b) (b ∷ []) rest

abbrev AllBelow : (ℕ → Type 0) → ℕ → Type 0
AllBelow P zero = Unit {0}
AllBelow P (suc n) = P n × AllBelow P n

one_below : (P : ℕ → Type 0) (n : ℕ) → AllBelow P n → (k : ℕ) → k < n → P k
one_below P zero all k lt = absurd (omega arith)
one_below P (suc n) all k lt = go (cases_order k n) (one_below P n all.1 k)
  where
    go : (k ≡ n) ⊎ ((k < n) ⊎ (n < k)) → (k < n → P k) → P k
    go (inl is) more = subst P (sym is) all.0
    go (inr (inl less)) more = more less
    go (inr (inr above)) more = absurd (omega arith)

-- what the rules say of a byte that is computed
abbrev Computes : List ℕ → ℕ → Type 0
Computes rest b = (part_len (escaped_byte b ++ rest) ≡ Some (length (escaped_byte b))) × (part_at (escaped_byte b ++ rest) ≡ (b ∷ [], length (escaped_byte b))) × (nat_lt 0 (length (escaped_byte b)) ≡ true)

controls : (rest : List ℕ) → AllBelow (Computes rest) 32
unfolding joined part_len part_at escape_at unicode_at encode_utf8
controls rest = assumption

delete_computes : (rest : List ℕ) → Computes rest 127
unfolding joined part_len part_at escape_at unicode_at encode_utf8
delete_computes rest = (refl, refl, refl)

quotation_mark : (rest : List ℕ) → Computes rest 34
unfolding joined part_len part_at escape_at unicode_at encode_utf8
quotation_mark rest = (refl, refl, refl)

backslash : (rest : List ℕ) → Computes rest 92
unfolding joined part_len part_at escape_at unicode_at encode_utf8
backslash rest = (refl, refl, refl)

computed : (b : ℕ) (rest : List ℕ) → Computes rest b → QuotedPiece b rest
computed b rest c = record { some = ltb-true 0 (length (escaped_byte b)) c.2; sized = c.0; parted = c.1 }

pub raw_byte : (b : ℕ) → must_escape b ≡ false → escaped_byte b ≡ b ∷ []
raw_byte b h = grind (arith, common_steps)

raw_computes : (b : ℕ) (rest : List ℕ) → must_escape b ≡ false → (part_len (b ∷ rest) ≡ Some 1) × (part_at (b ∷ rest) ≡ (b ∷ [], 1))
unfolding part_len part_at
raw_computes b rest h = (grind (arith, common_steps), grind (arith, common_steps))

raw_piece : (b : ℕ) (rest : List ℕ) → must_escape b ≡ false → QuotedPiece b rest
raw_piece b rest h =
    let is : b ∷ [] ≡ escaped_byte b = sym (raw_byte b h) in
    let both = raw_computes b rest h in
    subst (λ (e : List ℕ). Piece part_len part_at e (b ∷ []) rest) is (record { some = omega arith; sized = both.0; parted = both.1 })

escaped_cases : (b : ℕ) → must_escape b ≡ true → (b < 32) ⊎ ((b ≡ 34) ⊎ ((b ≡ 92) ⊎ (b ≡ 127)))
escaped_cases b h = grind (arith, common_steps)

pub quoted_piece : (b : ℕ) (rest : List ℕ) → QuotedPiece b rest
quoted_piece b rest = go (must_escape b) refl
  where
    go : (t : Bool) → must_escape b ≡ t → QuotedPiece b rest
    go false e = raw_piece b rest e
    go true e = elim (escaped_cases b e) [
      | inl below ↦ computed b rest (one_below (Computes rest) 32 (controls rest) b below)
      | inr (inl is) ↦ computed b rest (subst (Computes rest) (sym is) (quotation_mark rest))
      | inr (inr (inl is)) ↦ computed b rest (subst (Computes rest) (sym is) (backslash rest))
      | inr (inr (inr is)) ↦ computed b rest (subst (Computes rest) (sym is) (delete_computes rest))
    ]

-- ---- a text

pub escaped_reads : (text rest : List ℕ) → Reads part_len part_at (escaped_text text) text rest
unfolding joined
escaped_reads [] rest = reads_none part_len part_at rest
escaped_reads (b ∷ text) rest =
    reads_both part_len part_at (escaped_byte b) (b ∷ []) (escaped_text text) text rest
    (reads_piece part_len part_at (escaped_byte b) (b ∷ []) (escaped_text text ++ rest) (quoted_piece b (escaped_text text ++ rest)))
    (escaped_reads text rest)

quoted_is : (text : List ℕ) → quoted_text text ≡ 34 ∷ (escaped_text text ++ 34 ∷ [])
unfolding joined
quoted_is text = refl

nothing : replaced part_at 0 [] ≡ []
unfolding replaced
nothing = refl

-- What is printed between quotation marks stands for the text.
pub quoted_value : (text : List ℕ) → string_value (quoted_text text) ≡ text
unfolding string_value
quoted_value text =
    ap (λ (t : List ℕ). replaced part_at 0 (between 1 t)) (quoted_is text)
    ∙ ap (replaced part_at 0) (within (34 ∷ []) (escaped_text text) ∙ sym (append-nil (escaped_text text)))
    ∙ (escaped_reads text []).stands
    ∙ ap (λ (v : List ℕ). text ++ v) nothing
    ∙ append-nil text

-- ---- the token

ends_at_mark : (following : List ℕ) → run_len part_len 0 (34 ∷ following) ≡ 0
unfolding part_len
ends_at_mark following = run_end part_len (34 ∷ following) refl

escaped_length : (text following : List ℕ) → run_len part_len 0 (escaped_text text ++ 34 ∷ following) ≡ length (escaped_text text)
escaped_length text following =
    let all = (escaped_reads text (34 ∷ following)).passed in
    let end = ends_at_mark following in
    omega arith

quoted_reach : (text following : List ℕ) → quoted_len (34 ∷ (escaped_text text ++ 34 ∷ following)) ≡ Some (length (quoted_text text))
unfolding quoted_len
quoted_reach text following =
    closed (34 ∷ []) (escaped_text text) following (run_len part_len 0 (escaped_text text ++ 34 ∷ following)) (escaped_length text following)
    ∙ ap (λ (t : List ℕ). Some (length t)) (sym (quoted_is text))

-- no escape begins with a quotation mark
escaped_begins : (b : ℕ) (rest : List ℕ) → NoMark (escaped_byte b ++ rest)
unfolding joined
escaped_begins b rest = grind (arith, common_steps)

no_block : (text following : List ℕ) → MayFollow text following → begins_with quotes (34 ∷ (escaped_text text ++ 34 ∷ following)) ≡ false
unfolding joined
no_block [] following h = h refl
no_block (b ∷ text) following h =
    ap (begins_with (34 ∷ 34 ∷ [])) (append_assoc (escaped_byte b) (escaped_text text) (34 ∷ following))
    ∙ none_begin (escaped_byte b ++ (escaped_text text ++ 34 ∷ following)) (34 ∷ []) (escaped_begins b (escaped_text text ++ 34 ∷ following))

string_found : (bytes : List ℕ) → token_at (34 ∷ bytes) ≡ string_at (34 ∷ bytes)
unfolding token_at
string_found bytes = refl

-- What is printed between quotation marks is one String token, whatever follows it; but two quotation marks alone are one only if
-- no third follows.
pub quoted_is_token : (text following : List ℕ) → MayFollow text following → IsToken k.String (quoted_text text) following
unfolding string_at
quoted_is_token text following h =
    ap (λ (t : List ℕ). token_at (t ++ following)) (quoted_is text)
    ∙ ap (λ (t : List ℕ). token_at (34 ∷ t)) (append_assoc (escaped_text text) (34 ∷ []) following)
    ∙ string_found (escaped_text text ++ 34 ∷ following)
    ∙ ap (λ (t : Bool). cond t (of_kind k.BlockString (block_len (34 ∷ (escaped_text text ++ 34 ∷ following)))) (of_kind k.String (quoted_len (34 ∷ (escaped_text text ++ 34 ∷ following))))) (no_block text following h)
    ∙ ap (of_kind k.String) (quoted_reach text following)
