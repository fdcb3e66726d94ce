-- What contracts see of coordinates.
use Rattle.std.specs.Prelude.{Bool, true, false}
use Rattle.schema_coordinates.specs.Coordinate.{Coordinate, OfType, OfAttribute, OfArgument, OfDirective, OfDirectiveArgument}
use Rattle.schema_coordinates.specs.declared.coordinate.TypeCoordinate.{TypeCoordinate}
use Rattle.schema_coordinates.specs.declared.coordinate.TypeAttributeCoordinate.{TypeAttributeCoordinate}
use Rattle.schema_coordinates.specs.declared.coordinate.FieldArgumentCoordinate.{FieldArgumentCoordinate}
use Rattle.schema_coordinates.specs.declared.coordinate.DirectiveCoordinate.{DirectiveCoordinate}
use Rattle.schema_coordinates.specs.declared.coordinate.DirectiveArgumentCoordinate.{DirectiveArgumentCoordinate}
use Rattle.schema_coordinates.specs.declared.coordinate.SchemaCoordinate.{SchemaCoordinate}
use Rattle.schema_coordinates.specs.declared.coordinate.SchemaCoordinate.TheVariants as rust

abbrev pub type_coordinate : TypeCoordinate → Coordinate
type_coordinate c = OfType c.ty.text

abbrev pub attribute_coordinate : TypeAttributeCoordinate → Coordinate
attribute_coordinate c = OfAttribute c.ty.text c.attribute.text

abbrev pub argument_coordinate : FieldArgumentCoordinate → Coordinate
argument_coordinate c = OfArgument c.ty.text c.field.text c.argument.text

abbrev pub directive_coordinate : DirectiveCoordinate → Coordinate
directive_coordinate c = OfDirective c.directive.text

abbrev pub directive_argument_coordinate : DirectiveArgumentCoordinate → Coordinate
directive_argument_coordinate c = OfDirectiveArgument c.directive.text c.argument.text

abbrev pub schema_coordinate : SchemaCoordinate → Coordinate
schema_coordinate (rust.Named c) = type_coordinate c
schema_coordinate (rust.TypeAttribute c) = attribute_coordinate c
schema_coordinate (rust.FieldArgument c) = argument_coordinate c
schema_coordinate (rust.Directive c) = directive_coordinate c
schema_coordinate (rust.DirectiveArgument c) = directive_argument_coordinate c

-- which form a coordinate has
abbrev pub any_form : Coordinate → Bool
any_form c = true

abbrev pub type_form : Coordinate → Bool
type_form (OfType t) = true
type_form _ = false

abbrev pub attribute_form : Coordinate → Bool
attribute_form (OfAttribute t a) = true
attribute_form _ = false

abbrev pub argument_form : Coordinate → Bool
argument_form (OfArgument t f a) = true
argument_form _ = false

abbrev pub directive_form : Coordinate → Bool
directive_form (OfDirective d) = true
directive_form _ = false

abbrev pub directive_argument_form : Coordinate → Bool
directive_argument_form (OfDirectiveArgument d a) = true
directive_argument_form _ = false
