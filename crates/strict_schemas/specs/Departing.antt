-- What the specification does not allow in a schema and the checker lets pass, in the order of the schema (GraphQL, October 2021, sections 3.6,
-- 3.13, 3.13.3 and 4.2).
use Rattle.std.specs.Prelude.{ℕ, Bool, List, [], ◌∷◌, ◌++◌, ◌&&◌, not, flat_map, codes, is_some, find, if◌then◌else◌}
use Rattle.std.specs.List.{list_any}
use Rattle.std.specs.Option.{option_map_or}
use Rattle.std.specs.Str.{bytes_eq}
use Rattle.graphql_names.specs.Places.{is_built_in}
use Rattle.graphql_names.specs.Placed.{Placed, Place, Text}
use Rattle.tree_literals.specs.TypeQueries.{has_mark}
use Rattle.tree_directives.specs.DirectiveTree.{InputValueTree, InputValues, DirectiveTree, DirectiveDefinitionTree, unplaced_input_value}
use Rattle.tree_directives.specs.DirectiveQueries.{directive_has_name, input_value_has_name, is_required_input}
use Rattle.tree_type_members.specs.TypeSystemTree.{FieldDefinitionTree, EnumValueTree}
use Rattle.schema_components.specs.Given.{Given}
use Rattle.schema_components.specs.Names.{Entries}
use Rattle.schema_types.specs.SchemaTree.{SchemaType, SchemaTree, same_kind}
use Rattle.schema_types.specs.Addresses.{under}
use Rattle.schema_types.specs.declared.type_kind.TypeKind.TheVariants as kind
use Rattle.graphql_schema.specs.LookUps.{type_of_kind}
use Rattle.strict_documents.specs.Departure.{Departure}
use Rattle.strict_documents.specs.Departing.{departure_if, value_departures}
use Rattle.strict_documents.specs.Locations.{argument_location}
use Rattle.strict_documents.specs.declared.departure.DepartureKind.TheVariants as departure

-- ---- RequiredDeprecated: an argument or input field that is required has `@deprecated` (section 3.13.3; in later editions too)

abbrev pub is_required_deprecated : InputValueTree Place → Bool
is_required_deprecated v = is_required_input v && is_some (find (directive_has_name (codes "deprecated")) v.directives)

abbrev pub deprecated_departures : Placed Place (InputValueTree Place) → List (Departure Place)
deprecated_departures v = departure_if (is_required_deprecated v.it) v.place departure.RequiredDeprecated v.it.name.it

-- ---- OwnBuiltInDirective: a directive of the specification is defined by the schema itself (section 3.13)

-- the directives of the specification
abbrev pub specified_directives : List (List ℕ)
specified_directives = codes "skip" ∷ codes "include" ∷ codes "deprecated" ∷ codes "specifiedBy" ∷ []

abbrev pub is_own_built_in : Placed Place (DirectiveDefinitionTree Place) → Bool
is_own_built_in d = list_any (bytes_eq d.it.name.it) specified_directives && not (is_built_in d.place)

abbrev pub own_departures : Placed Place (DirectiveDefinitionTree Place) → List (Departure Place)
own_departures d = departure_if (is_own_built_in d) d.place departure.OwnBuiltInDirective d.it.name.it

-- ---- DirectiveOnDirective: a directive is applied to the definition of a directive (section 3.13)

abbrev pub applied_departure : Placed Place (DirectiveTree Place) → List (Departure Place)
applied_departure u = record { place = u.place; kind = departure.DirectiveOnDirective; name = u.it.name.it } ∷ []

abbrev pub applied_departures : Placed Place (DirectiveDefinitionTree Place) → List (Departure Place)
applied_departures d = flat_map applied_departure d.it.directives

-- ---- ExtendedBuiltIn: to a built-in type other than a scalar a text adds a directive, an interface, a field, a member, a value or an input
-- field (section 4.2)

abbrev pub added_departures : Place → List ℕ → List (Departure Place)
added_departures place n = departure_if (not (is_built_in place)) place departure.ExtendedBuiltIn n

abbrev pub added_directive : Given Place (Placed Place (DirectiveTree Place)) → List (Departure Place)
added_directive g = added_departures g.it.place g.it.it.name.it

-- an interface or a member
abbrev pub added_name : Given Place (Text Place) → List (Departure Place)
added_name g = added_departures g.it.place g.it.it

abbrev pub added_field : List ℕ × Given Place (Placed Place (FieldDefinitionTree Place)) → List (Departure Place)
added_field e = added_departures e.1.it.place e.1.it.it.name.it

abbrev pub added_value : List ℕ × Given Place (Placed Place (EnumValueTree Place)) → List (Departure Place)
added_value e = added_departures e.1.it.place e.1.it.it.value.it

abbrev pub added_input : List ℕ × Given Place (Placed Place (InputValueTree Place)) → List (Departure Place)
added_input e = added_departures e.1.it.place e.1.it.it.name.it

abbrev pub added_to : SchemaType Place → List (Departure Place)
added_to t = flat_map added_directive t.directives ++ (flat_map added_name t.interfaces ++ (flat_map added_field t.fields
    ++ (flat_map added_name t.members ++ (flat_map added_value t.values ++ flat_map added_input t.inputs))))

-- the type is built in, and no scalar
abbrev pub is_built_in_other : SchemaType Place → Bool
is_built_in_other t = is_built_in t.place && not (same_kind t.kind kind.Scalar)

abbrev pub extended_departures : SchemaType Place → List (Departure Place)
extended_departures t = if is_built_in_other t then added_to t else []

-- ---- ExtraRequiredArgument: an argument of a field of a type has a `!` and a default, and an interface that the type implements has a field
-- of that name without such an argument (section 3.6, IsValidImplementation); told once for each such interface

-- given the arguments of the interface's field
abbrev pub is_extra : InputValues Place → InputValueTree Place → Bool
is_extra wanted v = (has_mark v.ty.it && is_some v.default_value) && not (list_any (input_value_has_name v.name.it) wanted)

abbrev pub extra_departure : InputValues Place → Placed Place (InputValueTree Place) → List (Departure Place)
extra_departure wanted v = departure_if (is_extra wanted v.it) v.place departure.ExtraRequiredArgument v.it.name.it

-- of a type over a field of an interface
abbrev pub extra_over_field : SchemaType Place → List ℕ × Given Place (Placed Place (FieldDefinitionTree Place)) → List (Departure Place)
extra_over_field t e = option_map_or (λ own. flat_map (extra_departure e.1.it.it.arguments) own.it.it.arguments) (under e.0 t.fields) []

-- of a type over an interface that it lists
abbrev pub extra_over : SchemaTree Place → SchemaType Place → Given Place (Text Place) → List (Departure Place)
extra_over s t g = option_map_or (λ over. flat_map (extra_over_field t) over.fields) (type_of_kind s kind.Interface g.it.it) []

abbrev pub extra_departures : SchemaTree Place → SchemaType Place → List (Departure Place)
extra_departures s t = flat_map (extra_over s t) t.interfaces

-- ---- all, in the order of the schema

module _ (s : SchemaTree Place) where
  -- FloatPast64Bits and ItemIsNoList, at any depth of the default of an argument or input field (sections 3.5.2 and 3.11)
  abbrev pub default_departures : InputValueTree Place → List (Departure Place)
  default_departures v = option_map_or (λ x. value_departures s [] (argument_location (unplaced_input_value v)) x.place x.it) v.default_value []

  -- of an argument definition or input field
  abbrev pub input_departures : Placed Place (InputValueTree Place) → List (Departure Place)
  input_departures v = deprecated_departures v ++ default_departures v.it

  abbrev pub inputs_departures : InputValues Place → List (Departure Place)
  inputs_departures vs = flat_map input_departures vs

  -- of the arguments of fields, and of input fields
  abbrev pub arguments_departures : Entries (Given Place (Placed Place (FieldDefinitionTree Place))) → List (Departure Place)
  arguments_departures es = flat_map (λ e. inputs_departures e.1.it.it.arguments) es

  abbrev pub input_fields_departures : Entries (Given Place (Placed Place (InputValueTree Place))) → List (Departure Place)
  input_fields_departures es = flat_map (λ e. input_departures e.1.it) es

  abbrev pub type_departures : SchemaType Place → List (Departure Place)
  type_departures t = extended_departures t ++ (extra_departures s t ++ (arguments_departures t.fields ++ input_fields_departures t.inputs))

  abbrev pub definition_departures : Placed Place (DirectiveDefinitionTree Place) → List (Departure Place)
  definition_departures d = own_departures d ++ (applied_departures d ++ inputs_departures d.it.arguments)

  -- of its types, and then of the definitions of directives
  abbrev pub departures_of_schema : List (Departure Place)
  departures_of_schema = flat_map (λ e. type_departures e.1) s.types ++ flat_map (λ e. definition_departures e.1) s.directives
