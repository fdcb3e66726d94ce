-- Where a byte is found first: the number of bytes before it.
use Rattle.std.proofs.Common.{◌≡◌, ℕ, zero, suc, ◌+◌, ◌<◌, Bool, true, false, not, ◌&&◌, ◌||◌, ◌==◌, List, [], ◌∷◌, length, get_or, drop, cond, Option, Some, None, refl, sym, ap, arith, one-add}
use Rattle.std.specs.Prelude.{unwrap_or, is_some}
use Rattle.std.specs.List.{prefix_len, list_any}
use Rattle.std.proofs.lemmas.List.Sums.{prefix_len_is}
use Rattle.memchr.specs.Find.{IsFirstByte, is_byte, is_byte2}
use Rattle.read_tokens.specs.Bytes.{begins_with, run_len}
use Rattle.read_tokens.specs.Tokens.{is_ignored_byte, ignored_at}
use Rattle.read_tokens.specs.Strings.{after_mark, escape_at, part_len}
use Rattle.read_tokens.specs.Blocks.{quotes, block_character_len}
use Rattle.read_tokens.specs.Runs.{is_plain_part, is_plain_character}

fails : (t : Bool) → ¬ (t ≡ true) → t ≡ false
fails true never = absurd (never refl)
fails false never = refl

before : (test : ℕ → Bool) (bytes : List ℕ) (r : Option ℕ) → IsFirstByte test bytes r → unwrap_or r (length bytes) ≡ prefix_len (λ b. not (test b)) bytes
before test bytes None none = sym (prefix_len_is (λ b. not (test b)) bytes (length bytes) 0 (omega arith)
    (λ k below. ap not (fails (test (get_or bytes k 0)) (none k (omega arith) below)))
    (λ below. absurd (omega arith)))
before test bytes (Some n) first = let high = first.0.high in sym (prefix_len_is (λ b. not (test b)) bytes n 0 (omega arith)
    (λ k below. ap not (fails (test (get_or bytes k 0)) (first.0.before k (omega arith) below)))
    (λ below. ap not first.1))

pub before_one : (byte : ℕ) (bytes : List ℕ) (r : Option ℕ) → IsFirstByte (is_byte byte) bytes r → unwrap_or r (length bytes) ≡ prefix_len (λ b. not (b == byte)) bytes
before_one byte bytes r first = before (is_byte byte) bytes r first

pub before_two : (one other : ℕ) (bytes : List ℕ) (r : Option ℕ) → IsFirstByte (is_byte2 one other) bytes r → unwrap_or r (length bytes) ≡ prefix_len (λ b. not (b == one || b == other)) bytes
before_two one other bytes r first = before (is_byte2 one other) bytes r first

passes_at : (test : ℕ → Bool) (bytes : List ℕ) (k : ℕ) → k < length bytes → test (get_or bytes k 0) ≡ true → true ≡ list_any test bytes
passes_at test [] k below h = absurd (omega arith)
passes_at test (b ∷ bytes) zero below h = rw h refl
passes_at test (b ∷ bytes) (suc k) below h = let less : k < length bytes = omega arith in go (test b) (passes_at test bytes k less h)
  where
    go : (t : Bool) → true ≡ list_any test bytes → true ≡ (t || list_any test bytes)
    go true more = refl
    go false more = more

passes_none : (test : ℕ → Bool) (bytes : List ℕ) → ((k : ℕ) → k < length bytes → test (get_or bytes k 0) ≡ false) → false ≡ list_any test bytes
passes_none test [] none = refl
passes_none test (b ∷ bytes) none = rw (none 0 (omega arith)) (passes_none test bytes (λ k below. none (suc k) (omega arith)))

pub somewhere : (byte : ℕ) (bytes : List ℕ) (r : Option ℕ) → IsFirstByte (is_byte byte) bytes r → is_some r ≡ list_any (λ b. b == byte) bytes
somewhere byte bytes None none = passes_none (is_byte byte) bytes (λ k below. fails (get_or bytes k 0 == byte) (none k (omega arith) below))
somewhere byte bytes (Some n) first = passes_at (is_byte byte) bytes n first.0.high first.1

-- ---- pieces of one byte

-- the rule finds a piece of one byte wherever a byte that passes begins
abbrev pub Steps : (ℕ → Bool) → (List ℕ → Option ℕ) → Type 0
Steps passes rule = (b : ℕ) (bytes : List ℕ) → passes b ≡ true → rule (b ∷ bytes) ≡ Some 1

-- as many bytes as pass at the front are pieces of their own
pub run_plain : (passes : ℕ → Bool) (rule : List ℕ → Option ℕ) → Steps passes rule → (bytes : List ℕ)
    → run_len rule 0 bytes ≡ prefix_len passes bytes + run_len rule 0 (drop (prefix_len passes bytes) bytes)
unfolding run_len
run_plain passes rule steps [] = refl
run_plain passes rule steps (b ∷ bytes) = go (passes b) refl (run_plain passes rule steps bytes)
  where
    go : (t : Bool) → passes b ≡ t → run_len rule 0 bytes ≡ prefix_len passes bytes + run_len rule 0 (drop (prefix_len passes bytes) bytes)
        → run_len rule 0 (b ∷ bytes) ≡ cond t (1 + prefix_len passes bytes) 0 + run_len rule 0 (drop (cond t (1 + prefix_len passes bytes) 0) (b ∷ bytes))
    go true e more = rw (steps b bytes e, one-add (prefix_len passes bytes)) (omega arith)
    go false e more = omega arith

ignored_steps : Steps is_ignored_byte ignored_at
unfolding ignored_at
ignored_steps b bytes h = rw h refl

pub ignored_bytes : (bytes : List ℕ) → run_len ignored_at 0 bytes ≡ prefix_len is_ignored_byte bytes + run_len ignored_at 0 (drop (prefix_len is_ignored_byte bytes) bytes)
ignored_bytes bytes = run_plain is_ignored_byte ignored_at ignored_steps bytes

part_steps : Steps is_plain_part part_len
unfolding part_len
part_steps b bytes h = go (b == 34) (b == 92) (b == 10) (b == 13) h
  where
    go : (q e n r : Bool) → not (q || e || n || r) ≡ true → cond {A = Option ℕ} (q || n || r) None (cond e (after_mark (escape_at bytes)) (Some 1)) ≡ Some 1
    go true e n r h = absurd cc
    go false true n r h = absurd cc
    go false false true r h = absurd cc
    go false false false true h = absurd cc
    go false false false false h = refl

pub plain_parts : (bytes : List ℕ) → run_len part_len 0 bytes ≡ prefix_len is_plain_part bytes + run_len part_len 0 (drop (prefix_len is_plain_part bytes) bytes)
plain_parts bytes = run_plain is_plain_part part_len part_steps bytes

character_steps : Steps is_plain_character block_character_len
unfolding block_character_len
character_steps b bytes h = go (b == 34) (b == 92) h
  where
    go : (q e : Bool) → not (q || e) ≡ true → cond {A = Option ℕ} (e && begins_with quotes bytes) (Some 4) (cond (q && begins_with (34 ∷ 34 ∷ []) bytes) None (Some 1)) ≡ Some 1
    go true e h = absurd cc
    go false true h = absurd cc
    go false false h = refl

pub plain_characters : (bytes : List ℕ) → run_len block_character_len 0 bytes ≡ prefix_len is_plain_character bytes + run_len block_character_len 0 (drop (prefix_len is_plain_character bytes) bytes)
plain_characters bytes = run_plain is_plain_character block_character_len character_steps bytes
