-- What is given and defined, and what takes arguments, as rules read it.
use Rattle.std.specs.Prelude.{◌≡◌, ℕ, List, [], map, Option, None, Some, slice_get}
use Rattle.std.specs.Borrow.{Bor}
use Rattle.graphql_names.specs.Placed.{Placed, Place, node_tree, unplaced_node}
use Rattle.graphql_names.specs.declared.node.Node.{Node}
use Rattle.tree_directives.specs.DirectiveTree.{Arguments, Directives, InputValueTree, InputValues, argument_tree, directive_tree, input_value_trees, unplaced_input_value}
use Rattle.tree_directives.specs.declared.directive.Argument.{Argument}
use Rattle.tree_directives.specs.declared.directive.Directive.{Directive}
use Rattle.schema_coordinates.specs.Coordinate.{Coordinate, OfAttribute, OfArgument, OfDirective, OfDirectiveArgument}
use Rattle.rule_values.specs.in_schema.in_schema_types.SchemaTree.{SchemaTree}
use Rattle.rule_values.specs.in_schema.in_schema_types.Addresses.{Address, TypeAt, FieldAt, InputAt, ArgumentAt, TypeReferenceAt, DirectiveDefinitionAt, place_at}
use Rattle.rule_values.specs.in_schema.SchemaOf.{schema_tree}
use Rattle.rule_values.specs.in_schema.declared.schema.Schema.{Schema}
use Rattle.rule_values.specs.in_rule_definitions.Uses.{Taker}
use Rattle.rule_arguments.specs.declared.taker.Taker.{Taker as Rust}
use Rattle.rule_arguments.specs.declared.taker.TakerName.{TakerName}
use Rattle.rule_arguments.specs.declared.taker.TakerName.TheVariants.{OfDirective as OfDirectiveNamed, OfField}

abbrev pub arguments_of : List (Node Argument) → Arguments Place
arguments_of given = map (node_tree argument_tree) given

abbrev pub directives_of : List (Node Directive) → Directives Place
directives_of ds = map (node_tree directive_tree) ds

-- definitions of arguments without places
abbrev pub plain_inputs : InputValues Place → InputValues (Unit {0})
plain_inputs vs = map (unplaced_node unplaced_input_value) vs

-- the address at which its arguments are defined; below, its coordinate and those of its arguments
abbrev pub holder_of : TakerName → Address
holder_of (OfDirectiveNamed d) = DirectiveDefinitionAt d.now.text
holder_of (OfField t f) = FieldAt t.now.text f.now.text

abbrev pub coordinate_of : TakerName → Coordinate
coordinate_of (OfDirectiveNamed d) = OfDirective d.now.text
coordinate_of (OfField t f) = OfAttribute t.now.text f.now.text

abbrev pub argument_coordinate_of : TakerName → List ℕ → Coordinate
argument_coordinate_of (OfDirectiveNamed d) a = OfDirectiveArgument d.now.text a
argument_coordinate_of (OfField t f) a = OfArgument t.now.text f.now.text a

abbrev pub taker_of : Rust → Taker Place
taker_of t = record {
  place = t.location;
  given = arguments_of t.given.now;
  holder = holder_of t.name;
  definitions = plain_inputs (input_value_trees t.definitions.now);
  definition_location = t.definition_location;
  coordinate = coordinate_of t.name;
  argument_coordinate = argument_coordinate_of t.name;
}

-- both give the same places of types, of input fields and of their references to types
pub record TellSamePlaces (at other : Address → Place) : Type 0 where
  pub types : (n : List ℕ) → at (TypeAt n) ≡ other (TypeAt n)
  pub inputs : (n m : List ℕ) → at (InputAt n m) ≡ other (InputAt n m)
  pub references : (n m : List ℕ) → at (TypeReferenceAt (InputAt n m)) ≡ other (TypeReferenceAt (InputAt n m))

-- the places of a schema, but the definitions that the taker has are at their own places: those of a meta-field are in no schema
pub record TellsPlaces (at : Address → Place) (s : SchemaTree Place) (t : Rust) : Type 0 where
  pub schema : TellSamePlaces at (place_at s)
  pub arguments : (i : ℕ) (v : Placed Place (InputValueTree Place)) → slice_get (input_value_trees t.definitions.now) i ≡ Some v
      → (at (ArgumentAt (holder_of t.name) i) ≡ v.place) × (at (TypeReferenceAt (ArgumentAt (holder_of t.name) i)) ≡ v.it.ty.place)

-- an empty schema
abbrev pub no_schema_tree : SchemaTree Place
no_schema_tree = record {
  definition = record { place = None; description = None; directives = []; query = None; mutation = None; subscription = None };
  directives = [];
  types = [];
}

-- the schema, or an empty one
abbrev pub tree_of : Option (Bor Schema) → SchemaTree Place
tree_of None = no_schema_tree
tree_of (Some s) = schema_tree s.now
