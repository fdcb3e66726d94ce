-- What is told of what a lookup finds, of two one after the other, and in loops.
use Rattle.std.proofs.Common.{◌≡◌, ℕ, true, false, ◌+◌, ◌<◌, ◌≤◌, List, [], ◌∷◌, ◌++◌, length, get_or, map, take, sym, ap, ◌∙◌, Option, None, Some}
use Rattle.std.specs.List.{flat_map}
use Rattle.std.specs.Option.{option_map_or}
use Rattle.std.proofs.lemmas.List.{take_all}
use Rattle.tree_literals.specs.TypeTree.{TypeTree}
use Rattle.rule_definitions.specs.Room.{◌⊕◌}
use Rattle.rule_definitions.proofs.Listing.{mapped_more}
use Rattle.rule_definitions.proofs.Room.{room_both, room_flat_map}
use Rattle.strict_documents.specs.Locations.{Location}

-- the location of an argument of that type without a default
abbrev pub argument_at : TypeTree (Unit {0}) → Location
argument_at ty = record { ty = ty; has_default = false; is_argument = true; is_item = false }

-- ---- what a lookup finds

module _ {A X : Type 0} (f : X → List A) (old : List A) where
  pub nothing_told : (o : Option X) → None ≡ o → old ≡ old ⊕ option_map_or f o []
  nothing_told o is = ap (λ p. old ⊕ option_map_or f p []) is

  pub found_told : (o : Option X) (x : X) (new : List A) → Some x ≡ o → new ≡ old ⊕ f x → new ≡ old ⊕ option_map_or f o []
  found_told o x new is told = told ∙ ap (λ p. old ⊕ option_map_or f p []) is

-- two one after the other
pub both_told : {A : Type 0} (old mid new l m k n : List A) → mid ≡ old ⊕ l → new ≡ mid ⊕ m → l ≡ k → m ≡ n → new ≡ old ⊕ (k ++ n)
both_told old mid new l m k n one two same same' = two ∙ (λ i. (one ∙ ap (λ x. old ⊕ x) same) i ⊕ same' i) ∙ room_both old k n

-- ---- loops

module _ {A X Y : Type 0} (tree : X → Y) (f : Y → List A) (old : List A) (xs : List X) (i : ℕ) where
  pub told_more : (now new : List A) (x : X) → i < length xs → x ≡ get_or xs i x → now ≡ old ⊕ flat_map f (map tree (take i xs)) → new ≡ now ⊕ f (tree x)
      → new ≡ old ⊕ flat_map f (map tree (take (i + 1) xs))
  told_more now new x h at so_far told =
      told ∙ ap (λ l. l ⊕ f (tree x)) so_far ∙ room_flat_map f old (map tree (take i xs)) (tree x) ∙ ap (λ l. old ⊕ flat_map f l) (sym (mapped_more tree xs i x h at))

  pub told_all : (now : List A) → length xs ≤ i → now ≡ old ⊕ flat_map f (map tree (take i xs)) → now ≡ old ⊕ flat_map f (map tree xs)
  told_all now h is = is ∙ ap (λ l. old ⊕ flat_map f (map tree l)) (take_all i xs h)

-- those that are left of a list
pub left_told : {A X : Type 0} (f : X → List A) (before after : List A) (x : X) (left rest : List X) (all : List A) → left ≡ x ∷ rest → after ≡ before ⊕ f x → all ≡ before ⊕ flat_map f left → all ≡ after ⊕ flat_map f rest
left_told f before after x left rest all is told so_far = so_far ∙ ap (λ l. before ⊕ flat_map f l) is ∙ sym (room_both before (f x) (flat_map f rest)) ∙ ap (λ l. l ⊕ flat_map f rest) (sym told)
