-- What a further definition does to what is kept: it adds what it has, if its name is new.
use Rattle.std.proofs.Common.{◌≡◌, ℕ, true, false, ◌||◌, List, [], ◌∷◌, ◌++◌, map, flat_map, Option, None, Some, refl, sym, ap, ◌∙◌, append_assoc, if◌then◌else◌, is_some}
use Rattle.std.specs.Prelude.{slice_get}
use Rattle.std.specs.Str.{bytes_eq}
use Rattle.std.specs.Option.{option_map}
use Rattle.std.proofs.lemmas.List.{append-nil}
use Rattle.schema_types.specs.in_components.Lists.{each_place, each_place_after, firsts, has_name}
use Rattle.schema_types.proofs.in_components.Firsts.{has_name-firsts, firsts-push_new, firsts-push_seen}
use Rattle.document_typing.specs.TypedDefinitions.{is_under}

-- what grows at each place by what `f` gives there is all that `f` gives
module _ {X Y : Type 0} (f : List X → X → List Y) (g : List X → List Y) (none : g [] ≡ []) (more : (xs : List X) (x : X) → g (xs ++ x ∷ []) ≡ g xs ++ f xs x) where
  grown-after : (before xs : List X) → g (before ++ xs) ≡ g before ++ each_place_after f before xs
  grown-after before [] = ap g (append-nil before) ∙ sym (append-nil (g before))
  grown-after before (x ∷ xs) =
      ap g (sym (append_assoc before (x ∷ []) xs))
      ∙ grown-after (before ++ x ∷ []) xs
      ∙ ap (λ l. l ++ each_place_after f (before ++ x ∷ []) xs) (more before x)
      ∙ append_assoc (g before) (f before x) (each_place_after f (before ++ x ∷ []) xs)

  pub is-each_place : (xs : List X) → g xs ≡ each_place f xs
  is-each_place xs = grown-after [] xs ∙ ap (λ l. l ++ each_place f xs) none

flat_map-more : {X Y : Type 0} (f : X → List Y) (xs : List X) (x : X) → flat_map f (xs ++ x ∷ []) ≡ flat_map f xs ++ f x
flat_map-more f [] x = append-nil (f x)
flat_map-more f (y ∷ xs) x = ap (λ l. f y ++ l) (flat_map-more f xs x) ∙ sym (append_assoc (f y) (flat_map f xs) (f x))

-- the first of each name of what the elements of a list have
module _ {D B : Type 0} (here : D → List B) (name : B → List ℕ) where
  abbrev kept : List D → List B
  kept ds = firsts name (flat_map here ds)

  -- what d adds to those before it, if it has this element
  abbrev pub added_of : List D → List B → List B
  added_of before [] = []
  added_of before (b ∷ bs) = if has_name name (name b) (kept before) then [] else b ∷ []

  pub kept-none : (ds : List D) (d : D) → here d ≡ [] → kept (ds ++ d ∷ []) ≡ kept ds
  kept-none ds d e = ap (firsts name) (flat_map-more here ds d ∙ ap (λ l. flat_map here ds ++ l) e ∙ append-nil (flat_map here ds))

  pub kept-seen : (ds : List D) (d : D) (b : B) → here d ≡ b ∷ [] → has_name name (name b) (kept ds) ≡ true → kept (ds ++ d ∷ []) ≡ kept ds
  kept-seen ds d b e known =
      ap (firsts name) (flat_map-more here ds d ∙ ap (λ l. flat_map here ds ++ l) e)
      ∙ firsts-push_seen name (flat_map here ds) b (sym (has_name-firsts name (name b) (flat_map here ds)) ∙ known)

  pub kept-new : (ds : List D) (d : D) (b : B) → here d ≡ b ∷ [] → has_name name (name b) (kept ds) ≡ false → kept (ds ++ d ∷ []) ≡ kept ds ++ b ∷ []
  kept-new ds d b e known =
      ap (firsts name) (flat_map-more here ds d ∙ ap (λ l. flat_map here ds ++ l) e)
      ∙ firsts-push_new name (flat_map here ds) b (sym (has_name-firsts name (name b) (flat_map here ds)) ∙ known)

-- the first of all
module _ {D B : Type 0} (here : D → List B) where
  abbrev first : List D → Option B
  first ds = slice_get (flat_map here ds) 0

  first-append : (xs ys : List B) → slice_get (xs ++ ys) 0 ≡ (if is_some (slice_get xs 0) then slice_get xs 0 else slice_get ys 0)
  first-append [] ys = refl
  first-append (x ∷ xs) ys = refl

  pub first-none : (ds : List D) (d : D) → here d ≡ [] → first (ds ++ d ∷ []) ≡ first ds
  first-none ds d e = ap (λ l. slice_get l 0) (flat_map-more here ds d ∙ ap (λ l. flat_map here ds ++ l) e ∙ append-nil (flat_map here ds))

  pub first-seen : (ds : List D) (d : D) → is_some (first ds) ≡ true → first (ds ++ d ∷ []) ≡ first ds
  first-seen ds d known = ap (λ l. slice_get l 0) (flat_map-more here ds d) ∙ first-append (flat_map here ds) (here d) ∙ ap (λ b. if b then first ds else slice_get (here d) 0) known

  pub first-new : (ds : List D) (d : D) (b : B) → here d ≡ b ∷ [] → is_some (first ds) ≡ false → first (ds ++ d ∷ []) ≡ Some b
  first-new ds d b e known =
      ap (λ l. slice_get l 0) (flat_map-more here ds d) ∙ first-append (flat_map here ds) (here d)
      ∙ ap (λ c. if c then first ds else slice_get (here d) 0) known ∙ ap (λ l. slice_get l 0) e

-- a name among entries under the names of what they are made of
pub under-made : {A B : Type 0} (name : A → List ℕ) (made : A → B) (n : List ℕ) (xs : List A) → is_under n (map (λ x. (name x, made x)) xs) ≡ has_name name n xs
under-made name made n [] = refl
under-made name made n (x ∷ xs) = ap (λ b. bytes_eq n (name x) || b) (under-made name made n xs)

pub is_some-made : {A B : Type 0} (made : A → B) (o : Option A) → is_some (option_map made o) ≡ is_some o
is_some-made made None = refl
is_some-made made (Some x) = refl
