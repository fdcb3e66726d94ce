-- What can be asked of a definition (GraphQL, October 2021, sections 2.2 and 3).
use Rattle.std.specs.Prelude.{◌≡◌, ◌≢◌, Bool, true, false, Option, Some, None}
use Rattle.std.specs.Borrow.{Bor}
use Rattle.tree_operations.specs.Placed.{Text}
use Rattle.tree_operations.specs.DirectiveTree.{Directives}
pub use Rattle.tree_type_members.specs.ArgumentQueries.{argument_named}
use Rattle.spec_tree.specs.DefinitionTree.{DefinitionTree, Operation, Fragment, DirectiveDefinition, Schema, ScalarType, ObjectType, InterfaceType, UnionType, EnumType, InputObjectType, ExtendSchema, ExtendScalar, ExtendObject, ExtendInterface, ExtendUnion, ExtendEnum, ExtendInputObject}

-- the content of a borrowed enum, if it is of the variant that `make` makes; `None` exactly when it is of another variant
abbrev pub IsContentOf : {A B : Type 0} → (A → B) → B → Option (Bor A) → Type 0
IsContentOf {A} make whole None = (x : A) → whole ≢ make x
IsContentOf make whole (Some x) = whole ≡ make x.now

module _ {P : Type 0} where
  -- an ExecutableDefinition: an operation or a fragment (section 2.2)
  abbrev pub is_executable : DefinitionTree P → Bool
  is_executable (Operation p o) = true
  is_executable (Fragment p f) = true
  is_executable _ = false

  -- a TypeSystemExtension: of the schema or of a type (section 3.1)
  abbrev pub is_extension : DefinitionTree P → Bool
  is_extension (ExtendSchema p s) = true
  is_extension (ExtendScalar p t) = true
  is_extension (ExtendObject p t) = true
  is_extension (ExtendInterface p t) = true
  is_extension (ExtendUnion p t) = true
  is_extension (ExtendEnum p t) = true
  is_extension (ExtendInputObject p t) = true
  is_extension _ = false

  -- the place of a definition
  abbrev pub definition_place : DefinitionTree P → P
  definition_place (Operation p o) = p
  definition_place (Fragment p f) = p
  definition_place (DirectiveDefinition p d) = p
  definition_place (Schema p d s) = p
  definition_place (ScalarType p d t) = p
  definition_place (ObjectType p d t) = p
  definition_place (InterfaceType p d t) = p
  definition_place (UnionType p d t) = p
  definition_place (EnumType p d t) = p
  definition_place (InputObjectType p d t) = p
  definition_place (ExtendSchema p s) = p
  definition_place (ExtendScalar p t) = p
  definition_place (ExtendObject p t) = p
  definition_place (ExtendInterface p t) = p
  definition_place (ExtendUnion p t) = p
  definition_place (ExtendEnum p t) = p
  definition_place (ExtendInputObject p t) = p

  -- the name that a definition defines or, as an extension, extends: schemas have none, and operations may have none
  abbrev pub definition_name : DefinitionTree P → Option (Text P)
  definition_name (Operation p o) = o.name
  definition_name (Fragment p f) = Some f.name
  definition_name (DirectiveDefinition p d) = Some d.name
  definition_name (Schema p d s) = None
  definition_name (ScalarType p d t) = Some t.name
  definition_name (ObjectType p d t) = Some t.name
  definition_name (InterfaceType p d t) = Some t.name
  definition_name (UnionType p d t) = Some t.name
  definition_name (EnumType p d t) = Some t.name
  definition_name (InputObjectType p d t) = Some t.name
  definition_name (ExtendSchema p s) = None
  definition_name (ExtendScalar p t) = Some t.name
  definition_name (ExtendObject p t) = Some t.name
  definition_name (ExtendInterface p t) = Some t.name
  definition_name (ExtendUnion p t) = Some t.name
  definition_name (ExtendEnum p t) = Some t.name
  definition_name (ExtendInputObject p t) = Some t.name

  -- the directives that are applied to a definition
  abbrev pub definition_directives : DefinitionTree P → Option (Directives P)
  definition_directives (Operation p o) = Some o.directives
  definition_directives (Fragment p f) = Some f.directives
  definition_directives (DirectiveDefinition p d) = Some d.directives
  definition_directives (Schema p d s) = Some s.directives
  definition_directives (ScalarType p d t) = Some t.directives
  definition_directives (ObjectType p d t) = Some t.directives
  definition_directives (InterfaceType p d t) = Some t.directives
  definition_directives (UnionType p d t) = Some t.directives
  definition_directives (EnumType p d t) = Some t.directives
  definition_directives (InputObjectType p d t) = Some t.directives
  definition_directives (ExtendSchema p s) = Some s.directives
  definition_directives (ExtendScalar p t) = Some t.directives
  definition_directives (ExtendObject p t) = Some t.directives
  definition_directives (ExtendInterface p t) = Some t.directives
  definition_directives (ExtendUnion p t) = Some t.directives
  definition_directives (ExtendEnum p t) = Some t.directives
  definition_directives (ExtendInputObject p t) = Some t.directives
