-- What choices of a definition tell.
use Rattle.std.proofs.Common.{◌≡◌, ◌⊎◌, Bool, true, false, cond, Option, Some, None, refl, inl, inr}
use Rattle.read_tokens.specs.Bytes.{◌>>=◌}

pub some_if : {A : Type 0} (t : Bool) (x y : A) (other : Option A) → cond t (Some x) other ≡ Some y → ((t ≡ true) × (x ≡ y)) ⊎ (other ≡ Some y)
some_if true x y other e = inl (refl, cc)
some_if false x y other e = inr e

pub some_unless : {A : Type 0} (t : Bool) (x : Option A) (y : A) → cond t None x ≡ Some y → x ≡ Some y
some_unless true x y e = absurd cc
some_unless false x y e = e

pub choice : {A : Type 0} (t : Bool) (x other : Option A) (y : A) → cond t x other ≡ Some y → ((t ≡ true) × (x ≡ Some y)) ⊎ (other ≡ Some y)
choice true x other y e = inl (refl, e)
choice false x other y e = inr e

pub bind_some : {A B : Type 0} (o : Option A) (f : A → Option B) (y : B) → (o >>= f) ≡ Some y → (x : A) × ((o ≡ Some x) × (f x ≡ Some y))
bind_some None f y e = absurd cc
bind_some (Some x) f y e = (x, (refl, e))

pub same_some : {A : Type 0} (x y : A) → Some x ≡ Some y → x ≡ y
same_some x y e = cc
