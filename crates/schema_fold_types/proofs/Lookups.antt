-- A type is found under its name where a definition of it stands.
use Rattle.std.proofs.Common.{◌≡◌, ℕ, Bool, true, false, List, [], ◌∷◌, map, Some, refl, ap, ◌∙◌, cond}
use Rattle.std.specs.List.{find}
use Rattle.std.specs.Map.{lookup}
use Rattle.std.specs.Option.{option_map}
use Rattle.std.specs.Str.{bytes_eq}
use Rattle.schema_fold_index.specs.in_components.Lists.{firsts}
use Rattle.schema_fold_index.specs.in_fold.NumberedDefinition.{Definitions, numbered, type_name, type_named, types_in}
use Rattle.schema_fold_index.specs.in_fold.Fold.{folded_type, folded_types}
use Rattle.schema_fold_types.proofs.Named.{named, find_firsts}

module _ {X V : Type 0} (key : X → List ℕ) (made : X → V) where
  lookup_made : (n : List ℕ) (xs : List X) → lookup (bytes_eq n) (map (λ x. (key x, made x)) xs) ≡ option_map made (find (named key n) xs)
  lookup_made n [] = refl
  lookup_made n (x ∷ xs) = by (named key n x) (lookup_made n xs)
    where
      by : (b : Bool) → lookup (bytes_eq n) (map (λ y. (key y, made y)) xs) ≡ option_map made (find (named key n) xs)
          → cond b (Some (made x)) (lookup (bytes_eq n) (map (λ y. (key y, made y)) xs)) ≡ option_map made (cond b (Some x) (find (named key n) xs))
      by true rest = refl
      by false rest = rest

-- under a name stands what the first definition of the name folds to
pub lookup_folded_types : (n : List ℕ) (first : ℕ) (ds : Definitions) → lookup (bytes_eq n) (folded_types first ds) ≡ option_map (folded_type (numbered first ds)) (type_named n ds)
lookup_folded_types n first ds =
    lookup_made type_name (folded_type (numbered first ds)) n (firsts type_name (types_in ds))
    ∙ ap (option_map (folded_type (numbered first ds))) (find_firsts type_name n (types_in ds))
