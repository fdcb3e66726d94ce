-- What there is at numbers.
use Rattle.std.proofs.Common.{◌≡◌, ℕ, ◌≤◌, List, [], length, ap}
use Rattle.std.specs.Option.{option_map_or}
use Rattle.std.proofs.lemmas.Option.{slice_get_past}
use Rattle.rule_cycles.specs.Numbers.{at_number}

-- nothing is at numbers beyond the last
pub past_the_last : {K V Y : Type 0} (f : V → List Y) (es : List (K × V)) (i : ℕ) → length es ≤ i → at_number f es i ≡ []
past_the_last {K} {V} f es i h = ap (λ o. option_map_or (λ (e : K × V). f e.1) o []) (slice_get_past es i h)
