-- A type of a name is looked up in the table: it is a scalar exactly when a row of a scalar has the name.
use Rattle.std.proofs.Common.{◌≡◌, ℕ, Bool, true, false, not, ◌&&◌, ◌||◌, cond, List, [], ◌∷◌, ◌++◌, Some, refl, sym}
use Rattle.std.specs.Option.{option_map_or}
use Rattle.std.specs.List.{find, list_any, list_all}
use Rattle.std.specs.Str.{bytes_eq}
use Rattle.graphql_names.specs.Placed.{Place}
use Rattle.schema_fold.specs.in_schema_types.SchemaTree.{same_kind}
use Rattle.schema_fold.specs.in_schema_types.TypeParts.{TypeDefinition}
use Rattle.schema_fold.specs.in_schema_types.declared.type_kind.TypeKind.TheVariants as kind
use Rattle.schema_fold.specs.NumberedDefinition.{type_name, types_in}
use Rattle.schema_fold.specs.BuiltIn.{built_in_scalars, introspection_types}
use Rattle.schema_fold.specs.BuildErrors.{is_built_in_scalar}
use Rattle.schema_built_in.specs.Table.{built_in_definitions}

module _ {X : Type 0} (p f : X → Bool) where
  -- none of those passes f
  none_found : (xs : List X) → list_all (λ x. not (f x)) xs ≡ true → option_map_or f (find p xs) false ≡ false
  none_found [] h = refl
  none_found (x ∷ xs) h = go (p x) (f x) refl h (none_found xs)
    where
      go : (b y : Bool) → f x ≡ y → (not y && list_all (λ x. not (f x)) xs) ≡ true
          → (list_all (λ x. not (f x)) xs ≡ true → option_map_or f (find p xs) false ≡ false)
          → option_map_or f (cond b (Some x) (find p xs)) false ≡ false
      go true true e h more = absurd cc
      go true false e h more = e
      go false true e h more = absurd cc
      go false false e h more = more h

  -- those all pass f, and none of these
  found_front : (xs ys : List X) → list_all f xs ≡ true → list_all (λ x. not (f x)) ys ≡ true → list_any p xs ≡ option_map_or f (find p (xs ++ ys)) false
  found_front [] ys h none = sym (none_found ys none)
  found_front (x ∷ xs) ys h none = go (p x) (f x) refl h (λ k. found_front xs ys k none)
    where
      go : (b y : Bool) → f x ≡ y → (y && list_all f xs) ≡ true
          → (list_all f xs ≡ true → list_any p xs ≡ option_map_or f (find p (xs ++ ys)) false)
          → (b || list_any p xs) ≡ option_map_or f (cond b (Some x) (find p (xs ++ ys))) false
      go true true e h more = sym e
      go true false e h more = absurd cc
      go false true e h more = more h
      go false false e h more = absurd cc

abbrev is_scalar : TypeDefinition Place → Bool
is_scalar t = same_kind t.parts.kind kind.Scalar

pub scalar_is_built_in : (n : List ℕ) → list_any (λ t. bytes_eq n (type_name t)) (types_in built_in_scalars) ≡ is_built_in_scalar built_in_definitions [] n
unfolding built_in_definitions
scalar_is_built_in n = found_front (λ t. bytes_eq n (type_name t)) is_scalar (types_in built_in_scalars) (types_in introspection_types) refl refl
