-- What later editions ask of defaults, and what the specification asks of the directives of built-in scalars: rules that the checker does
-- not ask of a schema (GraphQL, October 2021, sections 3.6.1, 3.10, 5.6 and 5.7).
use Rattle.std.specs.Prelude.{◌≡◌, true, [], ◌⊎◌}
use Rattle.graphql_names.specs.Placed.{Placed, Place}
use Rattle.tree_literals.specs.ValueTree.{ValueTree}
use Rattle.tree_directives.specs.DirectiveTree.{InputValueTree}
use Rattle.tree_directives.specs.declared.directive_location.DirectiveLocation.TheVariants as location
use Rattle.schema_types.specs.SchemaTree.{SchemaType, SchemaTree}
use Rattle.schema_types.specs.Addresses.{place_at, applied}
use Rattle.rule_definitions.specs.Words.{Present, AtSomeIndex}
use Rattle.rule_definitions.specs.Judged.{judged, is_built_in_scalar}
use Rattle.rule_definitions.specs.GivenValues.{Wanted}
use Rattle.rule_definitions.specs.Values.{TypeBreaks, UniqueInputValueIn}
use Rattle.rule_definitions.specs.PlacedFaults.{PlacedFault}
use Rattle.rule_values.specs.Wanting.{wanted}
use Rattle.rule_arguments.specs.SchemaUses.{UsesAt}
use Rattle.strict_schemas.specs.Inputs.{inputs_of}

module _ (s : SchemaTree Place) where
  -- without variables the value breaks a rule on values: an object in it has a key twice (5.6.3), or it does not fit the type (5.6.1)
  abbrev pub LiteralBreaks : Wanted Place → Place → ValueTree Place → PlacedFault → Type 0
  LiteralBreaks wanted p x fault = UniqueInputValueIn x fault ⊎ TypeBreaks (place_at s) (judged s) [] wanted p x fault

  -- the default of an argument or input field breaks such a rule, against its type
  abbrev pub DefaultBreaks : Placed Place (InputValueTree Place) → PlacedFault → Type 0
  DefaultBreaks v fault = Present v.it.default_value (λ x. LiteralBreaks (wanted v.it.ty.it v.it.ty.place) x.place x.it fault)

  -- the same of some argument or input field of the schema
  abbrev pub DefaultsBreak : PlacedFault → Type 0
  DefaultsBreak fault = AtSomeIndex (inputs_of s) (λ i v. DefaultBreaks v fault)

  -- the directives that are applied to the type, a built-in scalar, break a rule on uses
  abbrev pub ScalarBreaks : SchemaType Place → PlacedFault → Type 0
  ScalarBreaks t fault = (is_built_in_scalar t ≡ true) × UsesAt s location.Scalar (applied s t.directives) fault

  -- the same of some type of the schema
  abbrev pub ScalarsBreak : PlacedFault → Type 0
  ScalarsBreak fault = AtSomeIndex s.types (λ i e. ScalarBreaks e.1 fault)

  abbrev pub StrictBreaks : PlacedFault → Type 0
  StrictBreaks fault = DefaultsBreak fault ⊎ ScalarsBreak fault
