-- A map of indices has the names that a list has.
use Rattle.std.proofs.Common.{◌≡◌, ℕ, suc, Bool, true, false, ◌||◌, List, [], ◌∷◌, Bor, Option, None, Some, is_some, bytes_eq, refl, if◌then◌else◌}
use Rattle.std.specs.List.{list_any}
use Rattle.std.specs.Option.{option_copied}
use Rattle.schema_inputs.specs.Firsts.{first_told}

pub lent_some : {X : Type 0} (r : Option (Bor X)) → is_some r ≡ is_some (option_copied r)
lent_some None = refl
lent_some (Some x) = refl

pub first_some : {X V : Type 0} (name : X → List ℕ) (tell : ℕ → X → V) (xs : List X) (n : List ℕ) → is_some (first_told name tell xs n) ≡ list_any (λ x. bytes_eq (name x) n) xs
first_some name tell [] n = refl
first_some name tell (x ∷ xs) n = by (bytes_eq (name x) n) (first_some name (λ i. tell (suc i)) xs n)
  where
    by : (b : Bool) → is_some (first_told name (λ i. tell (suc i)) xs n) ≡ list_any (λ y. bytes_eq (name y) n) xs
        → is_some (if b then Some (tell 0 x) else first_told name (λ i. tell (suc i)) xs n) ≡ (b || list_any (λ y. bytes_eq (name y) n) xs)
    by true rest = refl
    by false rest = rest
