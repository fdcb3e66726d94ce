-- What is told by what stands before a definition is what is told by what is seen before it.
use Rattle.std.proofs.Common.{◌≡◌, ℕ, Bool, ◌&&◌, ◌||◌, not, List, ◌++◌, Option, None, Some, refl, sym, ap, ◌∙◌, is_some}
use Rattle.std.specs.Option.{option_map_or, option_or}
use Rattle.graphql_names.specs.Placed.{Place}
use Rattle.schema_fold_index.specs.in_definitions.DefinitionTree.{DefinitionTree}
use Rattle.schema_fold_index.specs.in_components.Lists.{has_name}
use Rattle.schema_fold_index.specs.in_schema_types.TypeParts.{type_here}
use Rattle.schema_fold_index.specs.in_fold.NumberedDefinition.{Definitions, type_name, type_named, types_in}
use Rattle.schema_fold_index.specs.in_fold.SchemaFold.{schema_here, schema_definition_in}
use Rattle.schema_fold_index.specs.in_fold.BuildErrors.{SchemaDefinitionCollision, TypeDefinitionCollision}
use Rattle.schema_fold_types.specs.DefinedKinds.{DefinedKinds, seen_of, kind_in, is_scalar_in, kind_seen, told_where, faults_at, executable_told, scalar_redefinition_told, definition_faults, definition_faults_after}
use Rattle.schema_fold_types.proofs.Named.{some_named}
use Rattle.schema_fold_types.proofs.Seeing.{kind_in_is, some_map}

some_or : {A : Type 0} (o p : Option A) → is_some (option_or o p) ≡ (is_some o || is_some p)
some_or None p = refl
some_or (Some a) p = refl

-- a kind is seen where the name is defined
some_kind : (before : Definitions) (n : List ℕ) → is_some (kind_in (seen_of before) n) ≡ has_name type_name n (types_in before)
some_kind before n = ap is_some (kind_in_is before n) ∙ some_map (type_named n before) ∙ some_named type_name n (types_in before)

module _ (built_in : DefinedKinds) (schema : Bool) (defined : List ℕ → Bool) (before : Definitions) (schema_is : schema ≡ is_some (schema_definition_in before))
    (defined_is : (n : List ℕ) → defined n ≡ has_name type_name n (types_in before)) where
  stands : (n : List ℕ) → (is_some (kind_in built_in n) || defined n) ≡ is_some (kind_seen built_in (seen_of before) n)
  stands n = ap (λ b. is_some (kind_in built_in n) || b) (defined_is n ∙ sym (some_kind before n)) ∙ sym (some_or (kind_in built_in n) (kind_in (seen_of before) n))

  pub faults_are : (d : DefinitionTree Place) → definition_faults_after built_in schema defined d ≡ definition_faults built_in (seen_of before) d
  faults_are d = λ i.
      faults_at d (executable_told d) ++ (faults_at d (told_where (schema_is i && is_some (schema_here d)) SchemaDefinitionCollision)
      ++ (faults_at d (option_map_or (λ t. told_where (stands (type_name t) i && not (is_scalar_in built_in (type_name t))) (TypeDefinitionCollision (type_name t))) (type_here d) None)
      ++ faults_at d (scalar_redefinition_told built_in d)))
