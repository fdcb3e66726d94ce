-- SchemaRules: the rules on a schema (GraphQL, October 2021, sections 3 and 5).
use Rattle.std.specs.Prelude.{◌≡◌, false, List, [], ◌∷◌, map, option_to_list, flat_map, ◌++◌, ◌⊎◌}
use Rattle.std.specs.Option.{option_map_or}
use Rattle.graphql_names.specs.Placed.{Place}
use Rattle.tree_directives.specs.DirectiveTree.{DirectiveTree}
use Rattle.tree_directives.specs.declared.directive_location.DirectiveLocation.{DirectiveLocation}
use Rattle.tree_directives.specs.declared.directive_location.DirectiveLocation.TheVariants as location
use Rattle.schema_types.specs.in_components.Lists.{firsts}
use Rattle.schema_types.specs.in_components.Given.{Given, ExtensionTree}
use Rattle.schema_types.specs.SchemaTree.{SchemaType, SchemaTree}
use Rattle.schema_types.specs.Addresses.{Address, SchemaAt, DirectiveDefinitionAt, TypeAt, FieldAt, ValueAt, InputAt, type_at}
use Rattle.rule_definitions.specs.Diagnostics.{map_places}
use Rattle.rule_definitions.specs.Spots.{At, spotted_directives, spot_place, SpotIsAt}
use Rattle.rule_definitions.specs.Faults.{FaultAt, SchemaFault}
use Rattle.rule_definitions.specs.Judged.{Judged, judged, applied_directives, type_location, IsBuiltInScalar, AtType, AtField, AtValue, AtInputField, AtArgument, AtDirectiveDefinition}
use Rattle.rule_definitions.specs.Roots.{QueryRootOperationTypeAt, UndefinedRootAt, RootOperationObjectTypeAt, DuplicateRootOperationTypeAt}
use Rattle.rule_definitions.specs.ReservedNames.{ReservedNameAt}
use Rattle.rule_definitions.specs.TypesUsed.{UndefinedFieldTypeAt, UndefinedInputTypeAt, UndefinedMemberAt, OutputTypeAt, InputTypeAt, UnionMemberObjectTypeAt, UniqueArgumentDefinitionAt}
use Rattle.rule_definitions.specs.Empty.{EmptyFieldSetAt, EmptyValueSetAt, EmptyMemberSetAt, EmptyInputValueSetAt}
use Rattle.rule_definitions.specs.Interfaces.{UndefinedInterfaceAt, RecursiveInterfaceDefinitionAt, TransitiveImplementedInterfacesAt, MissingInterfaceFieldAt, InvalidImplementationFieldTypeAt, MissingInterfaceFieldArgumentAt, InvalidImplementationFieldArgumentTypeAt, ExtraRequiredImplementationFieldArgumentAt}
use Rattle.rule_definitions.specs.Cycles.{RecursiveInputObjectDefinitionAt, RecursiveDirectiveDefinitionAt, PassesReferenceBound}
use Rattle.rule_definitions.specs.Uses.{UsesBreak}

module _ (s : Judged) where
  -- P holds at some place where directives are applied, other than a built-in scalar or the definition of a built-in directive
  abbrev pub AtDirectives : (Address → DirectiveLocation → List (DirectiveTree (Unit {0})) → Type 0) → Type 0
  AtDirectives P =
      P SchemaAt location.Schema s.definition.directives
      ⊎ (AtType s (λ n t. (IsBuiltInScalar s n t → ⊥) × P (TypeAt n) (type_location t.kind) t.directives)
      ⊎ (AtField s (λ n m f. P (FieldAt n m) location.FieldDefinition (applied_directives f.directives))
      ⊎ (AtArgument s (λ at v. P at location.ArgumentDefinition (applied_directives v.directives))
      ⊎ (AtValue s (λ n m v. P (ValueAt n m) location.EnumValue (applied_directives v.directives))
      ⊎ (AtInputField s (λ n m v. P (InputAt n m) location.InputFieldDefinition (applied_directives v.directives))
      ⊎ AtDirectiveDefinition s (λ n d. (s.built_in (DirectiveDefinitionAt n) ≡ false) × P (DirectiveDefinitionAt n) location.DirectiveDefinition (applied_directives d.directives)))))))

  -- a rule on the use of directives is broken, with this fault; there are no variables
  abbrev pub SchemaUsesBreak : SchemaFault → Type 0
  SchemaUsesBreak fault = AtDirectives (λ holder place ds. UsesBreak At s [] place (spotted_directives holder ds) fault)

  -- a rule on roots, names or the types that are referred to is broken, with this fault
  abbrev pub ReferencesBreak : SchemaFault → Type 0
  ReferencesBreak fault =
      QueryRootOperationTypeAt s fault ⊎ (UndefinedRootAt s fault ⊎ (RootOperationObjectTypeAt s fault ⊎ (DuplicateRootOperationTypeAt s fault
      ⊎ (ReservedNameAt s fault ⊎ (UndefinedFieldTypeAt s fault ⊎ (UndefinedInputTypeAt s fault ⊎ (UndefinedMemberAt s fault
      ⊎ (OutputTypeAt s fault ⊎ (InputTypeAt s fault ⊎ (UnionMemberObjectTypeAt s fault ⊎ UniqueArgumentDefinitionAt s fault))))))))))

  -- a rule against empty types is broken, with this fault
  abbrev pub EmptyBreaks : SchemaFault → Type 0
  EmptyBreaks fault = EmptyFieldSetAt s fault ⊎ (EmptyValueSetAt s fault ⊎ (EmptyMemberSetAt s fault ⊎ EmptyInputValueSetAt s fault))

  -- a rule on interfaces is broken, with this fault
  abbrev pub InterfacesBreak : SchemaFault → Type 0
  InterfacesBreak fault =
      UndefinedInterfaceAt s fault ⊎ (RecursiveInterfaceDefinitionAt s fault ⊎ (TransitiveImplementedInterfacesAt s fault
      ⊎ (MissingInterfaceFieldAt s fault ⊎ (InvalidImplementationFieldTypeAt s fault ⊎ (MissingInterfaceFieldArgumentAt s fault
      ⊎ (InvalidImplementationFieldArgumentTypeAt s fault ⊎ ExtraRequiredImplementationFieldArgumentAt s fault))))))

  -- a definition leads back to itself, with this fault
  abbrev pub CyclesBreak : SchemaFault → Type 0
  CyclesBreak fault = RecursiveInputObjectDefinitionAt s fault ⊎ RecursiveDirectiveDefinitionAt s fault

  -- a rule on schemas is broken, with this fault
  abbrev pub Breaks : SchemaFault → Type 0
  Breaks fault = ReferencesBreak fault ⊎ (EmptyBreaks fault ⊎ (InterfacesBreak fault ⊎ (CyclesBreak fault ⊎ SchemaUsesBreak fault)))

  -- every rule holds
  abbrev pub SchemaRules : Type 0
  SchemaRules = (fault : SchemaFault) → Breaks fault → ⊥

-- ---- faults at their places

-- the extensions that gave some of these components
abbrev pub extensions_of : {A : Type 0} → List (Given Place A) → List (ExtensionTree Place)
extensions_of gs = flat_map (λ g. option_to_list g.extension) gs

-- the places of the extensions of a type, each once, in the order of their first components
abbrev pub extension_places : SchemaType Place → List Place
extension_places t = map (λ e. e.place) (firsts (λ e. e.number ∷ []) (
    extensions_of t.directives ++ (extensions_of t.interfaces
    ++ (extensions_of (map (λ e. e.1) t.fields) ++ (extensions_of t.members
    ++ (extensions_of (map (λ e. e.1) t.values) ++ extensions_of (map (λ e. e.1) t.inputs)))))))

module _ (s : SchemaTree Place) where
  abbrev pub extension_places_at : Address → List Place
  extension_places_at (TypeAt n) = option_map_or extension_places (type_at s n) []
  extension_places_at _ = []

  -- the second fault is the first at its place, with the places that belong to its data
  abbrev pub IsToldAs : SchemaFault → FaultAt Place (List Place) → Type 0
  IsToldAs broken fault = SpotIsAt s broken.place fault.place × (fault.breach ≡ map_places (spot_place s) extension_places_at broken.breach)

  -- a rule on schemas is broken, with this fault
  abbrev pub RulesFail : FaultAt Place (List Place) → Type 0
  RulesFail fault = (broken : SchemaFault) × (Breaks (judged s) broken × IsToldAs broken fault)

  -- the bound on references is passed, with this fault
  abbrev pub BoundFails : FaultAt Place (List Place) → Type 0
  BoundFails fault = (broken : SchemaFault) × (PassesReferenceBound (judged s) broken × IsToldAs broken fault)
