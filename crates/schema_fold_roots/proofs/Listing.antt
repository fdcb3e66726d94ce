-- Lemmas on the definitions of a list.
use Rattle.std.proofs.Common.{◌≡◌, ℕ, Bool, true, false, List, [], ◌∷◌, ◌++◌, Option, None, Some, refl, ap, cond, if◌then◌else◌, option_to_list, slice_get}
use Rattle.std.specs.List.{flat_map, find}
use Rattle.std.specs.Option.{option_map, option_map_or}
use Rattle.std.specs.Str.{bytes_eq}
use Rattle.graphql_names.specs.Placed.{Place}
use Rattle.schema_fold.specs.in_definitions.DefinitionTree.{DefinitionTree}
use Rattle.schema_components.specs.Lists.{each_place_after}
use Rattle.schema_fold.specs.in_schema_types.TypeParts.{TypeDefinition, type_here}
use Rattle.schema_fold.specs.in_schema_types.declared.type_kind.TypeKind.{TypeKind}
use Rattle.schema_fold.specs.NumberedDefinition.{Definitions, listed_after, numbered, type_name, types_in, definitions_of}
use Rattle.schema_fold_roots.specs.KindNamed.{kind_here, kind_named}

numbered_after : (first : ℕ) (before ds : Definitions) → definitions_of (each_place_after (λ b d. listed_after first b d ∷ []) before ds) ≡ ds
numbered_after first before [] = refl
numbered_after first before (d ∷ ds) = ap (λ l. d ∷ l) (numbered_after first (before ++ d ∷ []) ds)

-- numbers change no definition
pub definitions_numbered : (first : ℕ) (ds : Definitions) → definitions_of (numbered first ds) ≡ ds
definitions_numbered first ds = numbered_after first [] ds

-- the first that some elements give
module _ {X Y : Type 0} (f : X → Option Y) where
  abbrev pub first_given : List X → Option Y
  first_given xs = slice_get (flat_map (λ x. option_to_list (f x)) xs) 0

  pub first_none : (x : X) (xs : List X) → f x ≡ None → first_given (x ∷ xs) ≡ first_given xs
  first_none x xs e = ap (λ o. slice_get (option_to_list o ++ flat_map (λ y. option_to_list (f y)) xs) 0) e

  pub first_some : (x : X) (xs : List X) (y : Y) → f x ≡ Some y → first_given (x ∷ xs) ≡ Some y
  first_some x xs y e = ap (λ o. slice_get (option_to_list o ++ flat_map (λ z. option_to_list (f z)) xs) 0) e

-- the kind of the first type of a name
module _ (n : List ℕ) (ds : Definitions) where
  abbrev kind_of : TypeDefinition Place → TypeKind
  kind_of t = t.parts.kind

  abbrev of_name : TypeDefinition Place → Bool
  of_name t = bytes_eq n (type_name t)

  abbrev here : Option (TypeDefinition Place) → Option TypeKind
  here o = option_map_or (λ t. if of_name t then Some (kind_of t) else None) o None

  abbrev found : Option (TypeDefinition Place) → Option TypeKind
  found o = option_map kind_of (find of_name (option_to_list o ++ types_in ds))

  found_some : (o : Option (TypeDefinition Place)) (k : TypeKind) → here o ≡ Some k → found o ≡ Some k
  found_some None k h = cc
  found_some (Some t) k h = by (of_name t) h
    where
      by : (b : Bool) → cond b (Some (kind_of t)) None ≡ Some k → option_map kind_of (cond b (Some t) (find of_name (types_in ds))) ≡ Some k
      by true e = e
      by false e = cc

  found_none : (o : Option (TypeDefinition Place)) → here o ≡ None → found o ≡ kind_named n ds
  found_none None h = refl
  found_none (Some t) h = by (of_name t) h
    where
      by : (b : Bool) → cond b (Some (kind_of t)) None ≡ None → option_map kind_of (cond b (Some t) (find of_name (types_in ds))) ≡ kind_named n ds
      by true e = cc
      by false e = refl

  pub kind_some : (d : DefinitionTree Place) (k : TypeKind) → kind_here n d ≡ Some k → kind_named n (d ∷ ds) ≡ Some k
  kind_some d k h = found_some (type_here d) k h

  pub kind_none : (d : DefinitionTree Place) → kind_here n d ≡ None → kind_named n (d ∷ ds) ≡ kind_named n ds
  kind_none d h = found_none (type_here d) h
