-- What is known of many input values: it stands beside what the schema has, and the required ones are enough to tell which are missing.
use Rattle.std.proofs.Common.{◌≡◌, ℕ, ◌+◌, zero, suc, Bool, true, false, List, [], ◌∷◌, ◌++◌, map, flat_map, length, slice_get, Option, None, Some, is_some, refl, sym, ap, subst, ◌∙◌, if◌then◌else◌, true≢false, arith}
use Rattle.std.proofs.lemmas.Option.{same_Some}
use Rattle.std.proofs.lemmas.List.{map-append, length-append, length-map}
use Rattle.graphql_names.specs.Placed.{Place}
use Rattle.tree_directives.specs.DirectiveTree.{InputValues}
use Rattle.tree_directives.specs.DirectiveQueries.{is_required_input}
use Rattle.schema_inputs.specs.Inputs.{AreEach, if_required, required_inputs}

-- ---- two lists side by side

module _ {X Y : Type 0} (R : X → Y → Type 0) where
  pub each_nothing : (xs : List X) → AreEach R xs []
  each_nothing [] = tt
  each_nothing (x ∷ xs) = tt

  -- one more of each
  pub each_more : (xs : List X) (ys : List Y) (x : X) (y : Y) → length ys ≡ length xs → AreEach R xs ys → R x y → AreEach R (xs ++ x ∷ []) (ys ++ y ∷ [])
  each_more [] [] x y e h r = (r, tt)
  each_more [] (z ∷ ys) x y e h r = absurd (omega (arith, e))
  each_more (z ∷ xs) [] x y e h r = absurd (omega (arith, e))
  each_more (z ∷ xs) (w ∷ ys) x y e h r = (h.0, each_more xs ys x y (omega (arith, e)) h.1 r)

  -- the elements at one index fit
  pub each_at : (xs : List X) (ys : List Y) (i : ℕ) (x : X) (y : Y) → AreEach R xs ys → slice_get xs i ≡ Some x → slice_get ys i ≡ Some y → R x y
  each_at [] ys i x y h e f = absurd (true≢false (sym (ap is_some e)))
  each_at (z ∷ xs) [] i x y h e f = absurd (true≢false (sym (ap is_some f)))
  each_at (z ∷ xs) (w ∷ ys) zero x y h e f = subst (λ a. R a y) (same_Some _ _ e) (subst (λ b. R z b) (same_Some _ _ f) h.0)
  each_at (z ∷ xs) (w ∷ ys) (suc i) x y h e f = each_at xs ys i x y h.1 e f

-- ---- those that pass a test, where nothing is told of others

module _ {X Y : Type 0} (test : X → Bool) (f : X → List Y) (none : (x : X) → test x ≡ false → f x ≡ []) where
  pub only_those : (xs : List X) → flat_map f (flat_map (λ x. if test x then x ∷ [] else []) xs) ≡ flat_map f xs
  only_those [] = refl
  only_those (x ∷ xs) = by (test x) refl (only_those xs)
    where
      by : (b : Bool) → test x ≡ b → flat_map f (flat_map (λ x. if test x then x ∷ [] else []) xs) ≡ flat_map f xs
          → flat_map f ((if b then x ∷ [] else []) ++ flat_map (λ x. if test x then x ∷ [] else []) xs) ≡ f x ++ flat_map f xs
      by true t rest = ap (λ l. f x ++ l) rest
      by false t rest = rest ∙ ap (λ l. l ++ flat_map f xs) (sym (none x t))

-- the required ones of the required ones are these
pub required_again : (vs : InputValues Place) → required_inputs (required_inputs vs) ≡ required_inputs vs
required_again vs = only_those (λ v. is_required_input v.it) if_required (λ v t. ap (λ b. if b then v ∷ [] else []) t) vs

-- ---- in loops over a map

-- one more entry, and what is kept of it
pub each_yielded : {X Y Z W : Type 0} (R : Z → W → Type 0) (g : Y → Z) (d : X → Y) (xs : List X) (ws new : List W) (x : X) (w : W) → new ≡ ws ++ w ∷ [] → length ws ≡ length xs → AreEach R (map g (map d xs)) ws → R (g (d x)) w
    → AreEach R (map g (map d (xs ++ x ∷ []))) new × (length new ≡ length (xs ++ x ∷ []))
each_yielded R g d xs ws new x w is e h r = (
  subst (λ l. AreEach R l new) (sym (ap (map g) (map-append d xs (x ∷ [])) ∙ map-append g (map d xs) (d x ∷ [])))
      (subst (λ l. AreEach R (map g (map d xs) ++ g (d x) ∷ []) l) (sym is) (each_more R (map g (map d xs)) ws (g (d x)) w (e ∙ sym (length-map (map d xs) g ∙ length-map xs d)) h r)),
  ap length is ∙ length-append ws (w ∷ []) ∙ ap (λ n. n + 1) e ∙ sym (length-append xs (x ∷ [])),
)
