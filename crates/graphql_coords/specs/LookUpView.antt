-- What contracts see of the results of lookups.
use Rattle.std.specs.Prelude.{Result, Ok, Err}
use Rattle.std.specs.Borrow.{Bor}
use Rattle.graphql_names.specs.declared.node.Node.{Node}
use Rattle.graphql_names.specs.Placed.{Placed, Place, node_tree}
use Rattle.tree_directives.specs.DirectiveTree.{InputValueTree, input_value_tree, directive_definition_tree}
use Rattle.tree_directives.specs.declared.input_value.InputValueDefinition.{InputValueDefinition}
use Rattle.tree_type_members.specs.TypeSystemTree.{field_definition_tree, enum_value_tree}
use Rattle.schema_components.specs.Given.{component_tree}
use Rattle.graphql_schema.specs.in_schema_types.SchemaTree.{SchemaTree}
use Rattle.graphql_schema.specs.in_schema_types.TypeView.{extended_type}
use Rattle.schema_coordinates.specs.Coordinate.{Coordinate, OfType, OfAttribute, OfArgument, OfDirective, OfDirectiveArgument}
use Rattle.graphql_coords.specs.LookUps.{LookupFault, MissingType, MissingAttribute, InvalidArgumentAttribute, MissingArgument, InvalidType, Attribute, OfField, OfInputField, OfEnumValue, Named, NamedType, NamedDirective, NamedAttribute, NamedArgument, found_as, type_lookup, attribute_lookup, argument_lookup, directive_lookup, directive_argument_lookup}
use Rattle.graphql_coords.specs.declared.lookup_answers.SchemaLookupError.{SchemaLookupError}
use Rattle.graphql_coords.specs.declared.lookup_answers.SchemaLookupError.TheVariants as error
use Rattle.graphql_coords.specs.declared.lookup_answers.TypeAttributeLookup.{TypeAttributeLookup}
use Rattle.graphql_coords.specs.declared.lookup_answers.TypeAttributeLookup.TheVariants as attribute
use Rattle.graphql_coords.specs.declared.lookup_answers.SchemaCoordinateLookup.{SchemaCoordinateLookup}
use Rattle.graphql_coords.specs.declared.lookup_answers.SchemaCoordinateLookup.TheVariants as any

abbrev pub fault_of : SchemaLookupError → LookupFault
fault_of (error.MissingType n) = MissingType n.now.text
fault_of (error.MissingAttribute n) = MissingAttribute n.now.text
fault_of (error.InvalidArgumentAttribute n) = InvalidArgumentAttribute n.now.text
fault_of (error.MissingArgument n) = MissingArgument n.now.text
fault_of (error.InvalidType t) = InvalidType (extended_type t.now)

abbrev pub attribute_of : TypeAttributeLookup → Attribute
attribute_of (attribute.Field f) = OfField (component_tree field_definition_tree f.now)
attribute_of (attribute.InputField f) = OfInputField (component_tree input_value_tree f.now)
attribute_of (attribute.EnumValue v) = OfEnumValue (component_tree enum_value_tree v.now)

abbrev pub named_of : SchemaCoordinateLookup → Named
named_of (any.Named t) = NamedType (extended_type t.now)
named_of (any.Directive d) = NamedDirective (node_tree directive_definition_tree d.now)
named_of (any.Field f) = NamedAttribute (OfField (component_tree field_definition_tree f.now))
named_of (any.InputField f) = NamedAttribute (OfInputField (component_tree input_value_tree f.now))
named_of (any.EnumValue v) = NamedAttribute (OfEnumValue (component_tree enum_value_tree v.now))
named_of (any.Argument a) = NamedArgument (node_tree input_value_tree a.now)

-- the result of a lookup as contracts see it: f of the borrow that it has, or the fault
abbrev pub answer : {A B : Type 0} → (A → B) → Result A SchemaLookupError → Result B LookupFault
answer f (Ok x) = Ok (f x)
answer f (Err e) = Err (fault_of e)

-- the same for the definition of an argument
abbrev pub argument_answer : Result (Bor (Node InputValueDefinition)) SchemaLookupError → Result (Placed Place (InputValueTree Place)) LookupFault
argument_answer r = answer (λ a. node_tree input_value_tree a.now) r

-- what a coordinate of any form names
abbrev pub lookup_of : SchemaTree Place → Coordinate → Result Named LookupFault
lookup_of s (OfType n) = found_as NamedType (type_lookup s n)
lookup_of s (OfAttribute n a) = found_as NamedAttribute (attribute_lookup s n a)
lookup_of s (OfArgument n f a) = found_as NamedArgument (argument_lookup s n f a)
lookup_of s (OfDirective d) = found_as NamedDirective (directive_lookup s d)
lookup_of s (OfDirectiveArgument d a) = found_as NamedArgument (directive_argument_lookup s d a)
