-- Looking for the object with a default name.
use Rattle.std.proofs.Common.{◌≡◌, ℕ, Bool, true, false, cond, List, [], ◌∷◌, map, Some, find, refl}
use Rattle.std.specs.Option.{option_map_or}
use Rattle.std.specs.Map.{lookup}
use Rattle.std.specs.Str.{bytes_eq}
use Rattle.graphql_names.specs.NameValue.{NameValue}
use Rattle.graphql_names.specs.Placed.{Place}
use Rattle.schema_types.specs.SchemaTree.{SchemaType, same_kind}
use Rattle.schema_types.specs.TypeView.{name_text, extended_type}
use Rattle.schema_types.specs.Out.{is_object_named}
use Rattle.schema_types.specs.declared.extended_type.ExtendedType.{ExtendedType}
use Rattle.schema_types.specs.declared.type_kind.TypeKind.TheVariants.{Object}

abbrev pub is_object : ExtendedType → Bool
is_object t = same_kind (extended_type t).kind Object

-- whether a lookup finds an object
pub found_object : (name : List ℕ) (es : List (NameValue × ExtendedType)) → is_object_named (map (λ e. (name_text e.0, extended_type e.1)) es) name ≡ option_map_or is_object (lookup (λ k. bytes_eq name k.text) es) false
found_object name [] = refl
found_object name (e ∷ es) = by (bytes_eq name e.0.text) (found_object name es)
  where
    by : (b : Bool) → is_object_named (map (λ d. (name_text d.0, extended_type d.1)) es) name ≡ option_map_or is_object (lookup (λ k. bytes_eq name k.text) es) false
        → option_map_or (λ (d : List ℕ × SchemaType Place). same_kind d.1.kind Object) (cond b (Some (name_text e.0, extended_type e.1)) (find (λ d. bytes_eq name d.0) (map (λ d. (name_text d.0, extended_type d.1)) es))) false
        ≡ option_map_or is_object (cond b (Some e.1) (lookup (λ k. bytes_eq name k.text) es)) false
    by true rest = refl
    by false rest = rest
