-- What begins a list of bytes, and pieces that follow one another.
use Rattle.std.specs.Prelude.{ℕ, zero, suc, ◌+◌, ◌-◌, Bool, true, false, ◌&&◌, ◌==◌, nat_le, List, [], ◌∷◌, ◌++◌, length, take, drop, Option, Some, None}

-- whether the byte is from low to high, both included
abbrev pub within : ℕ → ℕ → ℕ → Bool
within low high b = nat_le low b && nat_le b high

-- the first byte passes
abbrev pub begins_by : (ℕ → Bool) → List ℕ → Bool
begins_by passes [] = false
begins_by passes (b ∷ bytes) = passes b

-- the bytes begin with these
abbrev pub begins_with : List ℕ → List ℕ → Bool
begins_with [] bytes = true
begins_with (x ∷ xs) [] = false
begins_with (x ∷ xs) (b ∷ bytes) = b == x && begins_with xs bytes

infixl 10 ◌>>=◌
abbrev pub ◌>>=◌ : {A B : Type 0} → Option A → (A → Option B) → Option B
(Some x) >>= f = f x
None >>= f = None

abbrev pub run_on : Option ℕ → (ℕ → ℕ) → ℕ
run_on None more = 0
run_on (Some n) more = more n

-- How many bytes are taken by the pieces at the front that follow one another, as far as a rule finds them: the rule
-- gives the length of the piece that begins the bytes. `left` counts the bytes that are left of a piece.
unfoldable pub run_len : (List ℕ → Option ℕ) → ℕ → List ℕ → ℕ
run_len rule left [] = 0
run_len rule (suc left) (b ∷ bytes) = 1 + run_len rule left bytes
run_len rule zero (b ∷ bytes) = run_on (rule (b ∷ bytes)) (λ n. 1 + run_len rule (n - 1) bytes)

-- The bytes with each piece replaced: the rule gives the replacement, and the length of the piece. `left` is as above.
unfoldable pub replaced : (List ℕ → List ℕ × ℕ) → ℕ → List ℕ → List ℕ
replaced rule left [] = []
replaced rule (suc left) (b ∷ bytes) = replaced rule left bytes
replaced rule zero (b ∷ bytes) = (rule (b ∷ bytes)).0 ++ replaced rule ((rule (b ∷ bytes)).1 - 1) bytes

-- the bytes without this many at the front and at the back
abbrev pub between : ℕ → List ℕ → List ℕ
between n bytes = take (length bytes - n - n) (drop n bytes)
