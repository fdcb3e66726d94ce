-- What is told in loops, of what is there, and one after the other.
use Rattle.std.proofs.Common.{◌≡◌, ℕ, ◌+◌, ◌<◌, ◌≤◌, List, [], ◌++◌, map, take, length, get_or, flat_map, sym, ap, ◌∙◌, Option, None, Some}
use Rattle.std.specs.Option.{option_map_or}
use Rattle.std.proofs.lemmas.List.{take_all}
use Rattle.std.proofs.lemmas.List.Folds.{flat_map-map}
use Rattle.rule_definitions.specs.Room.{◌⊕◌}
use Rattle.rule_definitions.proofs.Room.{room_both, room_flat_map}
use Rattle.rule_definitions.proofs.Listing.{mapped_more}

-- one list after the other
pub next : {A : Type 0} (old mid new l m : List A) → mid ≡ old ⊕ l → new ≡ mid ⊕ m → new ≡ old ⊕ (l ++ m)
next old mid new l m one two = two ∙ ap (λ x. x ⊕ m) one ∙ room_both old l m

-- ---- of what is found

module _ {A X : Type 0} (f : X → List A) (old : List A) where
  pub nothing_told : (o : Option X) → o ≡ None → old ≡ old ⊕ option_map_or f o []
  nothing_told o is = ap (λ p. old ⊕ option_map_or f p []) (sym is)

  pub found_told : (o : Option X) (x : X) (new : List A) → o ≡ Some x → new ≡ old ⊕ f x → new ≡ old ⊕ option_map_or f o []
  found_told o x new is told = told ∙ ap (λ p. old ⊕ option_map_or f p []) (sym is)

-- ---- in loops over slices

module _ {A X Y : Type 0} (tree : X → Y) (f : Y → List A) (old : List A) (xs : List X) (i : ℕ) where
  pub told_more : (now new : List A) (x : X) → i < length xs → x ≡ get_or xs i x → now ≡ old ⊕ flat_map f (map tree (take i xs)) → new ≡ now ⊕ f (tree x)
      → new ≡ old ⊕ flat_map f (map tree (take (i + 1) xs))
  told_more now new x h at so_far told =
      told ∙ ap (λ l. l ⊕ f (tree x)) so_far ∙ room_flat_map f old (map tree (take i xs)) (tree x) ∙ ap (λ l. old ⊕ flat_map f l) (sym (mapped_more tree xs i x h at))

  pub told_all : (now : List A) → length xs ≤ i → now ≡ old ⊕ flat_map f (map tree (take i xs)) → now ≡ old ⊕ flat_map f (map tree xs)
  told_all now h is = is ∙ ap (λ l. old ⊕ flat_map f (map tree l)) (take_all i xs h)

-- ---- of a map's entries, as trees

pub told_as : {A X Y : Type 0} (tree : X → Y) (f : Y → List A) (old new : List A) (xs : List X) (ys : List Y) → map tree xs ≡ ys → new ≡ old ⊕ flat_map (λ x. f (tree x)) xs → new ≡ old ⊕ flat_map f ys
told_as tree f old new xs ys are told = told ∙ ap (λ l. old ⊕ l) (sym (flat_map-map f tree xs) ∙ ap (flat_map f) are)
