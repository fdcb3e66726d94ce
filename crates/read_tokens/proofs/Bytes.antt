-- Pieces that follow one another.
use Rattle.std.proofs.Common.{◌≡◌, ℕ, zero, suc, ◌+◌, ◌-◌, ◌<◌, ◌≤◌, List, [], ◌∷◌, length, drop, Option, Some, None, refl, ap, ◌∙◌, arith}
use Rattle.read_tokens.specs.Bytes.{run_len}

sub_one : (n : ℕ) → suc n - 1 ≡ n
sub_one n = omega arith

-- what is left of a piece is passed over
run_left : (rule : List ℕ → Option ℕ) (n : ℕ) (bytes : List ℕ) → n ≤ length bytes → run_len rule n bytes ≡ n + run_len rule 0 (drop n bytes)
unfolding run_len
run_left rule zero bytes within = omega arith
run_left rule (suc n) [] within = absurd (omega arith)
run_left rule (suc n) (b ∷ bytes) within =
    let within' : n ≤ length bytes = omega arith in
    let more : run_len rule n bytes ≡ n + run_len rule 0 (drop n bytes) = run_left rule n bytes within' in
    omega arith

-- one piece, then the others
pub run_step : (rule : List ℕ → Option ℕ) (bytes : List ℕ) (n : ℕ) → rule bytes ≡ Some n → 0 < n → n ≤ length bytes → run_len rule 0 bytes ≡ n + run_len rule 0 (drop n bytes)
unfolding run_len
run_step rule [] n found some within = absurd (omega arith)
run_step rule (b ∷ bytes) zero found some within = absurd (omega arith)
run_step rule (b ∷ bytes) (suc n) found some within =
    let within' : n ≤ length bytes = omega arith in
    let more : run_len rule n bytes ≡ n + run_len rule 0 (drop n bytes) = run_left rule n bytes within' in
    rw found (ap (λ (m : ℕ). 1 + run_len rule m bytes) (sub_one n) ∙ omega arith)

-- no piece more
pub run_end : (rule : List ℕ → Option ℕ) (bytes : List ℕ) → rule bytes ≡ None → run_len rule 0 bytes ≡ 0
unfolding run_len
run_end rule [] none = refl
run_end rule (b ∷ bytes) none = rw none refl
