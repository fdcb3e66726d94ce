-- The rules on uses at each place of a schema, entry by entry, and what they tell of the schema.
use Rattle.std.specs.Prelude.{◌≡◌, false, [], ◌⊎◌}
use Rattle.graphql_names.specs.Placed.{Placed, Place}
use Rattle.graphql_names.specs.Places.{is_built_in}
use Rattle.tree_directives.specs.DirectiveTree.{Directives, InputValueTree, InputValues, DirectiveDefinitionTree}
use Rattle.tree_directives.specs.declared.directive_location.DirectiveLocation.{DirectiveLocation}
use Rattle.tree_directives.specs.declared.directive_location.DirectiveLocation.TheVariants as location
use Rattle.tree_type_members.specs.TypeSystemTree.{FieldDefinitionTree, EnumValueTree}
use Rattle.schema_components.specs.Names.{Entries}
use Rattle.schema_components.specs.Given.{Given}
use Rattle.schema_types.specs.SchemaTree.{SchemaType, SchemaTree}
use Rattle.schema_types.specs.Addresses.{place_at, applied}
use Rattle.rule_values.specs.in_rule_definitions.Words.{AtSomeIndex}
use Rattle.rule_values.specs.in_rule_definitions.Judged.{judged, is_built_in_scalar, type_location}
use Rattle.rule_values.specs.in_rule_definitions.Uses.{UsesBreak}
use Rattle.rule_values.specs.in_rule_definitions.PlacedFaults.{PlacedFault}

module _ (s : SchemaTree Place) where
  -- a rule on uses is broken at one place
  abbrev pub UsesAt : DirectiveLocation → Directives Place → PlacedFault → Type 0
  UsesAt place ds f = UsesBreak (place_at s) (judged s) [] place ds f

  -- at these argument definitions
  abbrev pub ArgumentUses : InputValues Place → PlacedFault → Type 0
  ArgumentUses vs f = AtSomeIndex vs (λ i v. UsesAt location.ArgumentDefinition v.it.directives f)

  -- at a field and its arguments
  abbrev pub FieldUses : FieldDefinitionTree Place → PlacedFault → Type 0
  FieldUses x f = UsesAt location.FieldDefinition x.directives f ⊎ ArgumentUses x.arguments f

  abbrev pub FieldsUses : Entries (Given Place (Placed Place (FieldDefinitionTree Place))) → PlacedFault → Type 0
  FieldsUses es f = AtSomeIndex es (λ i e. FieldUses e.1.it.it f)

  -- at the values of an enum
  abbrev pub ValuesUses : Entries (Given Place (Placed Place (EnumValueTree Place))) → PlacedFault → Type 0
  ValuesUses es f = AtSomeIndex es (λ i e. UsesAt location.EnumValue e.1.it.it.directives f)

  -- at the fields of an input object
  abbrev pub InputsUses : Entries (Given Place (Placed Place (InputValueTree Place))) → PlacedFault → Type 0
  InputsUses es f = AtSomeIndex es (λ i e. UsesAt location.InputFieldDefinition e.1.it.it.directives f)

  -- at the type itself, unless it is a built-in scalar
  abbrev pub OwnUses : SchemaType Place → PlacedFault → Type 0
  OwnUses t f = (is_built_in_scalar t ≡ false) × UsesAt (type_location t.kind) (applied s t.directives) f

  -- at the parts of the type
  abbrev pub PartsUses : SchemaType Place → PlacedFault → Type 0
  PartsUses t f = FieldsUses t.fields f ⊎ (ValuesUses t.values f ⊎ InputsUses t.inputs f)

  -- at the type and its parts
  abbrev pub TypeUses : SchemaType Place → PlacedFault → Type 0
  TypeUses t f = OwnUses t f ⊎ PartsUses t f

  abbrev pub TypesUses : Entries (SchemaType Place) → PlacedFault → Type 0
  TypesUses es f = AtSomeIndex es (λ i e. TypeUses e.1 f)

  -- at the definition of a directive itself, unless it is built in
  abbrev pub OwnDefinitionUses : Placed Place (DirectiveDefinitionTree Place) → PlacedFault → Type 0
  OwnDefinitionUses d f = (is_built_in d.place ≡ false) × UsesAt location.DirectiveDefinition d.it.directives f

  -- at the definition and its arguments
  abbrev pub DefinitionUses : Placed Place (DirectiveDefinitionTree Place) → PlacedFault → Type 0
  DefinitionUses d f = OwnDefinitionUses d f ⊎ ArgumentUses d.it.arguments f

  abbrev pub DefinitionsUses : Entries (Placed Place (DirectiveDefinitionTree Place)) → PlacedFault → Type 0
  DefinitionsUses es f = AtSomeIndex es (λ i e. DefinitionUses e.1 f)

  -- at some place of the schema
  abbrev pub SchemaUses : PlacedFault → Type 0
  SchemaUses f = UsesAt location.Schema (applied s s.definition.directives) f ⊎ (TypesUses s.types f ⊎ DefinitionsUses s.directives f)
