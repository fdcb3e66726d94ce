-- What is reached, by levels: the first ones, what these lead to, and so on, until a level is empty.
use Rattle.std.proofs.Common.{◌≡◌, ℕ, zero, suc, List, [], ◌++◌, Option, None, Some, Contains, is_some, refl, sym, ap, subst, inl, inr, true≢false}
use Rattle.std.specs.List.{flat_map}
use Rattle.std.specs.Option.{option_map_or}
use Rattle.std.proofs.lemmas.Option.{same_Some}
use Rattle.std.proofs.lemmas.List.Elements.{Contains-append_left, Contains-append_right}
use Rattle.rule_definitions.specs.Words.{Present}
use Rattle.rule_definitions.proofs.Lists.{not_in_nil, given_in}
use Rattle.spec_document.specs.MeantTree.{MeantOperation, MeantDocument}
use Rattle.rule_document_definitions.specs.Selected.{Standing, standing_in, in_inline, spread_name, as_field, fragment_named, own, held}
use Rattle.rule_document_definitions.specs.Reached.{Closed, first, next, InFragmentOf, LeadsInto, Reached, AtRoot}

-- ---- levels

module _ {X : Type 0} (next_of : X → List X) where
  abbrev pub level : List X → ℕ → List X
  level xs zero = xs
  level xs (suc k) = level (flat_map next_of xs) k

  -- the levels below one
  abbrev pub up_to : List X → ℕ → List X
  up_to xs zero = []
  up_to xs (suc k) = xs ++ up_to (flat_map next_of xs) k

  nothing : (k : ℕ) → level [] k ≡ []
  nothing zero = refl
  nothing (suc k) = nothing k

  within : (x : X) (n k : ℕ) (xs : List X) → level xs n ≡ [] → Contains (level xs k) x → Contains (up_to xs n) x
  within x zero k xs e h = not_in_nil x (subst (λ l. Contains l x) (nothing k) (subst (λ ys. Contains (level ys k) x) e h))
  within x (suc n) zero xs e h = Contains-append_left xs (up_to (flat_map next_of xs) n) x h
  within x (suc n) (suc k) xs e h = Contains-append_right xs (up_to (flat_map next_of xs) n) x (within x n k (flat_map next_of xs) e h)

  onward : (x y : X) (k : ℕ) (xs : List X) → Contains (level xs k) x → Contains (next_of x) y → Contains (level xs (suc k)) y
  onward x y zero xs h c = given_in next_of y xs x h c
  onward x y (suc k) xs h c = onward x y k (flat_map next_of xs) h c

  module _ {First : X → Type 0} {Next : X → X → Type 0} (xs : List X)
      (firsts : (x : X) → First x → Contains xs x) (nexts : (x y : X) → Next x y → Contains (next_of x) y) where
    at_level : (x : X) → Closed First Next x → (k : ℕ) × Contains (level xs k) x
    at_level x (first h) = (0, firsts x h)
    at_level y (next {x} r l) = let p = at_level x r in (suc p.0, onward x y p.0 xs p.1 (nexts x y l))

    -- all that is reached is below an empty level
    pub in_levels : (n : ℕ) → level xs n ≡ [] → (x : X) → Closed First Next x → Contains (up_to xs n) x
    in_levels n e x r = let p = at_level x r in within x n p.0 xs e p.1

-- ---- in a document

pub present_given : {X Y : Type 0} (g : X → List Y) (y : Y) (o : Option X) → Present o (λ x. Contains (g x) y) → Contains (option_map_or g o []) y
present_given g y None (x, (e, h)) = absurd (true≢false (sym (ap is_some e)))
present_given g y (Some z) (x, (e, h)) = subst (λ w. Contains (g w) y) (sym (same_Some _ _ e)) h

module _ {P : Type 0} (d : MeantDocument P) where
  abbrev pub spread_here : Standing P → List (Standing P)
  spread_here x = option_map_or (λ n. option_map_or held (fragment_named d n) []) (spread_name x.it) []

  -- what is in the inline fragment, or in the fragment that is spread
  abbrev pub in_fragment_of : Standing P → List (Standing P)
  in_fragment_of x = in_inline x.position x.it ++ spread_here x

  abbrev pub in_field : Standing P → List (Standing P)
  in_field x = option_map_or (λ f. standing_in f.position f.set) (as_field x) []

  abbrev pub in_selection : Standing P → List (Standing P)
  in_selection x = in_field x ++ in_fragment_of x

  pub fragment_step : (x y : Standing P) → InFragmentOf d x y → Contains (in_fragment_of x) y
  fragment_step x y (inl h) = Contains-append_left (in_inline x.position x.it) (spread_here x) y h
  fragment_step x y (inr (n, (e, p))) = Contains-append_right (in_inline x.position x.it) (spread_here x) y
      (present_given (λ m. option_map_or held (fragment_named d m) []) y (spread_name x.it) (n, (e, present_given held y (fragment_named d n) p)))

  pub selection_step : (x y : Standing P) → LeadsInto d x y → Contains (in_selection x) y
  selection_step x y (inl p) = Contains-append_left (in_field x) (in_fragment_of x) y (present_given (λ f. standing_in f.position f.set) y (as_field x) p)
  selection_step x y (inr p) = Contains-append_right (in_field x) (in_fragment_of x) y (fragment_step x y p)

  -- all that an operation reaches, of so many levels; the same at its root
  pub reached_in : (o : MeantOperation P) (n : ℕ) → level in_selection (own o) n ≡ [] → (x : Standing P) → Reached d o x → Contains (up_to in_selection (own o) n) x
  reached_in o n e x r = in_levels in_selection (own o) (λ x h. h) selection_step n e x r

  pub root_in : (o : MeantOperation P) (n : ℕ) → level in_fragment_of (own o) n ≡ [] → (x : Standing P) → AtRoot d o x → Contains (up_to in_fragment_of (own o) n) x
  root_in o n e x r = in_levels in_fragment_of (own o) (λ x h. h) fragment_step n e x r
