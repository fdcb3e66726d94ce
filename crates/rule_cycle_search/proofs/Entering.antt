-- A depth-first search comes to an end.
use Rattle.std.proofs.Common.{◌≡◌, ℕ, ◌<◌, ◌+◌, Bool, true, false, cond, List, [], ◌∷◌, length, get_or, set, ap, zero, suc, arith}
use Rattle.std.specs.Prelude.{Vec}
use Rattle.std.specs.Global.{Global}
use Rattle.rule_cycle_search.specs.Graph.{listed}
use Rattle.rule_cycle_search.specs.Order.{to_enter}

-- one more is entered
pub entered_less : (es : List Bool) (ls : List (Vec ℕ Global)) (i : ℕ) (d : Bool) → i < length es → get_or es i d ≡ false → to_enter (set es i true) ls + (1 + length (listed ls i)) ≡ to_enter es ls
entered_less [] ls i d h f = absurd (omega arith)
entered_less (e ∷ es) [] zero d h f = omega (arith, ap {B = ℕ} (λ (b : Bool). cond b 0 1) f)
entered_less (e ∷ es) (l ∷ ls) zero d h f = omega (arith, ap {B = ℕ} (λ (b : Bool). cond b 0 (1 + length l.items)) f)
entered_less (e ∷ es) [] (suc i) d h f = omega (arith, entered_less es [] i d (omega arith) f)
entered_less (e ∷ es) (l ∷ ls) (suc i) d h f = omega (arith, entered_less es ls i d (omega arith) f)
