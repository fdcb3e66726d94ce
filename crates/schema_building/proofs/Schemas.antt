-- Lemmas on the object that a list defines under a name, and on the names of built-in types.
use Rattle.std.proofs.Common.{◌≡◌, ℕ, Bool, true, false, List, [], ◌∷◌, ◌++◌, map, Option, None, Some, refl, ap, ◌∙◌, cond, codes, option_to_list}
use Rattle.std.specs.List.{find}
use Rattle.std.specs.Option.{option_map_or}
use Rattle.std.specs.Str.{bytes_eq}
use Rattle.graphql_names.specs.Placed.{Place}
use Rattle.schema_built_in.specs.in_definitions.DefinitionTree.{DefinitionTree}
use Rattle.schema_built_in.specs.in_schema_types.SchemaTree.{same_kind}
use Rattle.schema_built_in.specs.in_schema_types.TypeParts.{TypeDefinition, type_here}
use Rattle.schema_built_in.specs.in_schema_types.declared.type_kind.TypeKind.TheVariants.{Object}
use Rattle.schema_built_in.specs.in_fold.NumberedDefinition.{Definitions, type_name, types_in}
use Rattle.schema_built_in.specs.in_fold.SchemaFold.{is_object_in}
use Rattle.schema_built_in.specs.Table.{built_in_definitions}

-- a definition before others defines no type, or one of the name, or one of another name
module _ (n : List ℕ) (d : DefinitionTree Place) (ds : Definitions) where
  abbrev by : Option (TypeDefinition Place) → Bool
  by o = option_map_or (λ t. same_kind t.parts.kind Object) (find (λ t. bytes_eq n (type_name t)) (option_to_list o ++ types_in ds)) false

  abbrev of_name : TypeDefinition Place → Bool → Bool
  of_name t b = option_map_or (λ u. same_kind u.parts.kind Object) (cond b (Some t) (find (λ u. bytes_eq n (type_name u)) (types_in ds))) false

  pub object_none : type_here d ≡ None → is_object_in (d ∷ ds) n ≡ is_object_in ds n
  object_none e = ap by e

  pub object_here : (t : TypeDefinition Place) → type_here d ≡ Some t → bytes_eq n (type_name t) ≡ true → is_object_in (d ∷ ds) n ≡ same_kind t.parts.kind Object
  object_here t e same = ap by e ∙ ap (of_name t) same

  pub object_other : (t : TypeDefinition Place) → type_here d ≡ Some t → bytes_eq n (type_name t) ≡ false → is_object_in (d ∷ ds) n ≡ is_object_in ds n
  object_other t e other = ap by e ∙ ap (of_name t) other

pub built_in_names : map type_name (types_in built_in_definitions)
    ≡ codes "Int" ∷ codes "Float" ∷ codes "String" ∷ codes "Boolean" ∷ codes "ID" ∷ codes "__Schema" ∷ codes "__Type" ∷ codes "__TypeKind" ∷ codes "__Field"
    ∷ codes "__InputValue" ∷ codes "__EnumValue" ∷ codes "__Directive" ∷ codes "__DirectiveLocation" ∷ []
unfolding built_in_definitions
built_in_names = refl
