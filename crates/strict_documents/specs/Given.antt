-- What contracts see of what is given to a walk over values, and the departures of it.
use Rattle.std.specs.Prelude.{ℕ, List, [], map, flat_map}
use Rattle.std.specs.Option.{option_map_or}
use Rattle.graphql_names.specs.Node.{content, place}
use Rattle.graphql_names.specs.Placed.{Place, node_tree}
use Rattle.graphql_names.specs.declared.name.Name.{Name}
use Rattle.graphql_names.specs.declared.node.Node.{Node}
use Rattle.tree_literals.specs.TypeTree.{type_tree, unplaced_type}
use Rattle.tree_literals.specs.ValueTree.{ValueTree, ItemTrees, EntryTrees, ListTree, ObjectTree, value_tree}
use Rattle.tree_literals.specs.declared.value.Value.{Value}
use Rattle.tree_directives.specs.DirectiveTree.{argument_tree, directive_tree, input_value_trees}
use Rattle.tree_directives.specs.declared.directive.Argument.{Argument}
use Rattle.tree_directives.specs.declared.directive.Directive.{Directive}
use Rattle.tree_directives.specs.declared.input_value.InputValueDefinition.{InputValueDefinition}
use Rattle.document_typed_selections.specs.TypedTree.{typed_selection_tree}
use Rattle.document_typed_selections.specs.TypedParts.{typed_head}
use Rattle.document_typed_selections.specs.declared.selection.Field.{Field}
use Rattle.document_typed_selections.specs.declared.selection.Selection.{Selection}
use Rattle.graphql_schema.specs.SchemaOf.{schema_tree}
use Rattle.schema_types.specs.SchemaTree.{SchemaTree}
use Rattle.spec_document.specs.MeantTree.{meant}
use Rattle.rule_definitions.specs.Judged.{judged}
use Rattle.rule_definitions.specs.Names.{named_in}
use Rattle.rule_definitions.specs.GivenValues.{Variables}
use Rattle.rule_values.specs.Wanting.{variables_of}
use Rattle.strict_documents.specs.Departure.{Departure}
use Rattle.strict_documents.specs.Locations.{Location, Part, item_parts, entry_parts, field_location, item_location, input_field}
use Rattle.strict_documents.specs.Departing.{part_departures, value_departures, plain_inputs, argument_departures, given_departures, directive_departures, directives_departures, field_departures, own_departures, selection_departures}
use Rattle.strict_documents.specs.declared.location.Location.{Location as Rust}
use Rattle.strict_documents.specs.declared.location.Strictness.{Strictness}

abbrev pub location_of : Rust → Location
location_of l = record { ty = unplaced_type (type_tree l.ty.now); has_default = l.has_default; is_argument = l.is_argument; is_item = l.is_item }

-- the schema by which values are judged; below, the variables that they may have
abbrev pub schema_of : Strictness → SchemaTree Place
schema_of strictness = schema_tree strictness.schema.now

abbrev pub variables_in : Strictness → Variables Place
variables_in strictness = variables_of strictness.variables.now

-- a value that is given for a location
abbrev pub part_of : Rust → Node Value → Part Place
part_of l v = record { location = location_of l; place = place v; value = value_tree (content v) }

-- ---- values, as the program has them

module _ (t : SchemaTree Place) (variables : Variables Place) where
  -- the values inside a list or an object
  abbrev pub inside_parts : Location → ValueTree Place → List (Part Place)
  inside_parts l (ListTree ts) = item_parts (judged t) (item_location l) ts
  inside_parts l (ObjectTree es) = entry_parts (judged t) (named_in l.ty) es
  inside_parts l v = []

  abbrev pub inside_departures : Location → ValueTree Place → List (Departure Place)
  inside_departures l v = flat_map (part_departures variables) (inside_parts l v)

  abbrev pub item_departures : Location → ItemTrees Place → List (Departure Place)
  item_departures l ts = flat_map (part_departures variables) (item_parts (judged t) l ts)

  abbrev pub entries_departures : List ℕ → EntryTrees Place → List (Departure Place)
  entries_departures ty es = flat_map (part_departures variables) (entry_parts (judged t) ty es)

  -- of an entry of an object for the input object of this name
  abbrev pub entry_departures : List ℕ → Name × Node Value → List (Departure Place)
  entry_departures ty e = option_map_or (λ f. value_departures t variables (field_location f) (place e.1) (value_tree (content e.1))) (input_field (judged t) ty e.0.text) []

module _ (strictness : Strictness) where
  abbrev pub value_departures_of : Rust → Node Value → List (Departure Place)
  value_departures_of l v = value_departures (schema_of strictness) (variables_in strictness) (location_of l) (place v) (value_tree (content v))

  abbrev pub inside_departures_of : Rust → Value → List (Departure Place)
  inside_departures_of l v = inside_departures (schema_of strictness) (variables_in strictness) (location_of l) (value_tree v)

  -- ---- what is given, and what is applied

  abbrev pub argument_departures_of : List (Node InputValueDefinition) → Node Argument → List (Departure Place)
  argument_departures_of definitions a = argument_departures (schema_of strictness) (variables_in strictness) (plain_inputs (input_value_trees definitions)) (node_tree argument_tree a)

  abbrev pub given_departures_of : List (Node InputValueDefinition) → List (Node Argument) → List (Departure Place)
  given_departures_of definitions given = given_departures (schema_of strictness) (variables_in strictness) (plain_inputs (input_value_trees definitions)) (map (node_tree argument_tree) given)

  abbrev pub directive_departures_of : Node Directive → List (Departure Place)
  directive_departures_of d = directive_departures (schema_of strictness) (variables_in strictness) (node_tree directive_tree d)

  abbrev pub directives_departures_of : List (Node Directive) → List (Departure Place)
  directives_departures_of ds = directives_departures (schema_of strictness) (variables_in strictness) (map (node_tree directive_tree) ds)

  abbrev pub field_departures_of : List ℕ → Field → List (Departure Place)
  field_departures_of parent f = field_departures (schema_of strictness) (variables_in strictness) parent (typed_head f)

  abbrev pub own_departures_of : List ℕ → Selection → List (Departure Place)
  own_departures_of parent x = own_departures (schema_of strictness) (variables_in strictness) parent (meant (typed_selection_tree x))

  abbrev pub selection_departures_of : List ℕ → Selection → List (Departure Place)
  selection_departures_of parent x = selection_departures (schema_of strictness) (variables_in strictness) parent (meant (typed_selection_tree x))
