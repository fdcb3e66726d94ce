-- Private: leads to `StrictBreaks`. The same faults, entry by entry.
use Rattle.std.specs.Prelude.{◌⊎◌}
use Rattle.graphql_names.specs.Placed.{Placed, Place}
use Rattle.tree_directives.specs.DirectiveTree.{InputValueTree, InputValues, DirectiveDefinitionTree}
use Rattle.tree_type_members.specs.TypeSystemTree.{FieldDefinitionTree}
use Rattle.schema_components.specs.Given.{Given}
use Rattle.schema_components.specs.Names.{Entries}
use Rattle.schema_types.specs.SchemaTree.{SchemaType, SchemaTree}
use Rattle.rule_definitions.specs.Words.{AtSomeIndex}
use Rattle.rule_definitions.specs.PlacedFaults.{PlacedFault}
use Rattle.strict_schemas.specs.Faults.{DefaultBreaks, ScalarBreaks}

module _ (s : SchemaTree Place) where
  abbrev pub DefaultsIn : InputValues Place → PlacedFault → Type 0
  DefaultsIn vs fault = AtSomeIndex vs (λ i v. DefaultBreaks s v fault)

  -- of the arguments of fields, and of input fields
  abbrev pub ArgumentDefaults : Entries (Given Place (Placed Place (FieldDefinitionTree Place))) → PlacedFault → Type 0
  ArgumentDefaults es fault = AtSomeIndex es (λ i e. DefaultsIn e.1.it.it.arguments fault)

  abbrev pub InputDefaults : Entries (Given Place (Placed Place (InputValueTree Place))) → PlacedFault → Type 0
  InputDefaults es fault = AtSomeIndex es (λ i e. DefaultBreaks s e.1.it fault)

  -- of types, and of definitions of directives
  abbrev pub TypeDefaults : SchemaType Place → PlacedFault → Type 0
  TypeDefaults t fault = ArgumentDefaults t.fields fault ⊎ InputDefaults t.inputs fault

  abbrev pub TypesDefaults : Entries (SchemaType Place) → PlacedFault → Type 0
  TypesDefaults es fault = AtSomeIndex es (λ i e. TypeDefaults e.1 fault)

  abbrev pub DefinitionsDefaults : Entries (Placed Place (DirectiveDefinitionTree Place)) → PlacedFault → Type 0
  DefinitionsDefaults es fault = AtSomeIndex es (λ i e. DefaultsIn e.1.it.arguments fault)

  abbrev pub ScalarsIn : Entries (SchemaType Place) → PlacedFault → Type 0
  ScalarsIn es fault = AtSomeIndex es (λ i e. ScalarBreaks s e.1 fault)
