-- What types and directives have: fields, arguments, input fields, enum values (sections 2.1.9, 3.4.2, 3.6.1, 3.9, 3.10 and 3.13).
use Rattle.std.specs.Prelude.{◌≡◌, ℕ, Bool, true, false, List, [], map, slice_get, Some}
use Rattle.tree_directives.specs.DirectiveTree.{DirectiveTree, InputValueTree, InputValues}
use Rattle.tree_directives.specs.declared.directive_location.DirectiveLocation.{DirectiveLocation}
use Rattle.tree_directives.specs.declared.directive_location.DirectiveLocation.TheVariants as location
use Rattle.tree_type_members.specs.TypeSystemTree.{FieldDefinitionTree, EnumValueTree}
use Rattle.schema_types.specs.SchemaTree.{is_input_kind, is_output_kind}
use Rattle.schema_types.specs.Addresses.{Address, FieldAt, ValueAt, ArgumentAt}
use Rattle.schema_types.specs.declared.type_kind.TypeKind.{TypeKind}
use Rattle.rule_definitions.specs.Words.{Present}
use Rattle.rule_definitions.specs.Judged.{Judged, applied_directives}
use Rattle.rule_definitions.specs.Names.{is_reserved, named_in, input_name}
use Rattle.book_validity.specs.Words.{AreUnique}
use Rattle.book_validity.specs.Directives.{AreDirectivesValid}

module _ (s : Judged) where
  -- 2.1.9 "must not start with two underscores": what is at the address is built in, or its name does not
  abbrev pub IsNameAllowed : Address → List ℕ → Type 0
  IsNameAllowed at name = s.built_in at ≡ false → is_reserved name ≡ false

  -- the type of the name exists, and its kind passes the test
  abbrev pub IsOfKind : (TypeKind → Bool) → List ℕ → Type 0
  IsOfKind test n = Present (s.type_named n) (λ t. test t.kind ≡ true)

  -- 5.7, for the directives that are applied in a schema, where there are no variables
  abbrev pub AreApplied : DirectiveLocation → List (DirectiveTree (Unit {0})) → Type 0
  AreApplied place ds = AreDirectivesValid s [] place (map (λ d. record { it = d; place = tt }) ds)

  -- Laxer than later editions: nothing is asked of its default value, as in section 3 of October 2021
  -- 3.6.1, 3.10: an argument definition or input field
  pub record IsValidInputValue (at : Address) (name : List ℕ) (place : DirectiveLocation) (v : InputValueTree (Unit {0})) : Type 0 where
    pub allowed : IsNameAllowed at name
    -- "must accept a type where IsInputType(argumentType) returns true"
    pub input_type : IsOfKind is_input_kind (named_in v.ty.it)
    pub directives : AreApplied place (applied_directives v.directives)

  -- 3.6.1, 3.13: the arguments of a field or directive
  pub record AreArgumentDefinitionsValid (holder : Address) (vs : InputValues (Unit {0})) : Type 0 where
    -- Stricter: October 2021 asks names that differ of fields and input fields, not of arguments
    pub unique : AreUnique input_name vs
    pub each : (i : ℕ) (v : _) → slice_get vs i ≡ Some v → IsValidInputValue (ArgumentAt holder i) (input_name v) location.ArgumentDefinition v.it

  -- 3.6: the field m of the type n
  pub record IsValidFieldDefinition (n m : List ℕ) (f : FieldDefinitionTree (Unit {0})) : Type 0 where
    pub allowed : IsNameAllowed (FieldAt n m) m
    -- "must return a type where IsOutputType(fieldType) returns true"
    pub output_type : IsOfKind is_output_kind (named_in f.ty)
    pub arguments : AreArgumentDefinitionsValid (FieldAt n m) f.arguments
    pub directives : AreApplied location.FieldDefinition (applied_directives f.directives)

  -- 3.9: the value m of the enum n
  pub record IsValidEnumValue (n m : List ℕ) (v : EnumValueTree (Unit {0})) : Type 0 where
    pub allowed : IsNameAllowed (ValueAt n m) m
    pub directives : AreApplied location.EnumValue (applied_directives v.directives)
