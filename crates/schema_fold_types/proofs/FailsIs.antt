-- The folding rules are those on positions, that on directive definitions, that on roots, and those on the components of types.
use Rattle.std.proofs.Common.{◌⊎◌, ℕ, inl, inr}
use Rattle.std.specs.Prelude.{◌↔◌}
use Rattle.schema_fold_index.specs.in_fold.NumberedDefinition.{Definitions}
use Rattle.schema_fold_index.specs.in_fold.BuildErrors as fails
use Rattle.schema_fold_index.specs.in_fold.BuildErrors.{BuildFault, Fails, BreaksSomewhere, DirectiveDefinitionCollisionAt, DuplicateRootOperationIn}
use Rattle.schema_fold_types.specs.TypeFaults as of_type
use Rattle.schema_fold_types.specs.TypeFaults.{FailsInType}
use Rattle.schema_fold_types.specs.Misplaced as placed
use Rattle.schema_fold_types.specs.Misplaced.{Misplaced}

module _ (built_in : Definitions) (first : ℕ) (texts : Definitions) (f : BuildFault) where
  -- the four parts of the rules, each told by one call
  abbrev pub FailsInParts : Type 0
  FailsInParts = Misplaced built_in texts f ⊎ (BreaksSomewhere built_in texts DirectiveDefinitionCollisionAt f ⊎ (DuplicateRootOperationIn built_in texts first f ⊎ FailsInType built_in texts first f))

  abbrev type_part : FailsInType built_in texts first f → FailsInParts
  type_part h = inr (inr (inr h))

  in_parts : Fails built_in first texts f → FailsInParts
  in_parts (fails.executable_definition h) = inl (placed.executable_definition h)
  in_parts (fails.schema_definition_collision h) = inl (placed.schema_definition_collision h)
  in_parts (fails.directive_definition_collision h) = inr (inl h)
  in_parts (fails.type_definition_collision h) = inl (placed.type_definition_collision h)
  in_parts (fails.built_in_scalar_type_redefinition h) = inl (placed.built_in_scalar_type_redefinition h)
  in_parts (fails.orphan_schema_extension h) = inl (placed.orphan_schema_extension h)
  in_parts (fails.orphan_type_extension h) = inl (placed.orphan_type_extension h)
  in_parts (fails.type_extension_kind_mismatch h) = inl (placed.type_extension_kind_mismatch h)
  in_parts (fails.duplicate_root_operation h) = inr (inr (inl h))
  in_parts (fails.duplicate_implements_interface_in_object h) = type_part (of_type.duplicate_implements_interface_in_object h)
  in_parts (fails.duplicate_implements_interface_in_interface h) = type_part (of_type.duplicate_implements_interface_in_interface h)
  in_parts (fails.object_field_name_collision h) = type_part (of_type.object_field_name_collision h)
  in_parts (fails.interface_field_name_collision h) = type_part (of_type.interface_field_name_collision h)
  in_parts (fails.enum_value_name_collision h) = type_part (of_type.enum_value_name_collision h)
  in_parts (fails.union_member_name_collision h) = type_part (of_type.union_member_name_collision h)
  in_parts (fails.input_field_name_collision h) = type_part (of_type.input_field_name_collision h)

  of_misplaced : Misplaced built_in texts f → Fails built_in first texts f
  of_misplaced (placed.executable_definition h) = fails.executable_definition h
  of_misplaced (placed.schema_definition_collision h) = fails.schema_definition_collision h
  of_misplaced (placed.type_definition_collision h) = fails.type_definition_collision h
  of_misplaced (placed.built_in_scalar_type_redefinition h) = fails.built_in_scalar_type_redefinition h
  of_misplaced (placed.orphan_schema_extension h) = fails.orphan_schema_extension h
  of_misplaced (placed.orphan_type_extension h) = fails.orphan_type_extension h
  of_misplaced (placed.type_extension_kind_mismatch h) = fails.type_extension_kind_mismatch h

  of_fails_in_type : FailsInType built_in texts first f → Fails built_in first texts f
  of_fails_in_type (of_type.duplicate_implements_interface_in_object h) = fails.duplicate_implements_interface_in_object h
  of_fails_in_type (of_type.duplicate_implements_interface_in_interface h) = fails.duplicate_implements_interface_in_interface h
  of_fails_in_type (of_type.object_field_name_collision h) = fails.object_field_name_collision h
  of_fails_in_type (of_type.interface_field_name_collision h) = fails.interface_field_name_collision h
  of_fails_in_type (of_type.enum_value_name_collision h) = fails.enum_value_name_collision h
  of_fails_in_type (of_type.union_member_name_collision h) = fails.union_member_name_collision h
  of_fails_in_type (of_type.input_field_name_collision h) = fails.input_field_name_collision h

  of_parts : FailsInParts → Fails built_in first texts f
  of_parts (inl h) = of_misplaced h
  of_parts (inr (inl h)) = fails.directive_definition_collision h
  of_parts (inr (inr (inl h))) = fails.duplicate_root_operation h
  of_parts (inr (inr (inr h))) = of_fails_in_type h

  -- a fault of folding is one of these
  pub fails_is : Fails built_in first texts f ↔ FailsInParts
  fails_is = (in_parts, of_parts)
