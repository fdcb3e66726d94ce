-- Private: leads to `TellsDeprecatedUses`. What is told of trees as the program has them.
use Rattle.std.specs.Prelude.{◌≡◌, ℕ, Vec, List, [], ◌∷◌, ◌++◌, map, fold, Option}
use Rattle.std.specs.Option.{option_map_or}
use Rattle.std.specs.Borrow.{Bor}
use Rattle.std.specs.declared.alloc.Global.{Global}
use Rattle.graphql_names.specs.NameValue.{NameValue}
use Rattle.graphql_names.specs.Node.{content}
use Rattle.graphql_names.specs.Placed.{Placed, Place, Text, name_tree, node_tree, unplaced_node}
use Rattle.graphql_names.specs.declared.name.Name.{Name}
use Rattle.graphql_names.specs.declared.node.Node.{Node}
use Rattle.tree_literals.specs.ValueTree.{value_tree}
use Rattle.tree_literals.specs.declared.value.Value.{Value}
use Rattle.tree_directives.specs.DirectiveTree.{Arguments, Directives, InputValues, argument_tree, directive_tree, input_value_tree, unplaced_input_value}
use Rattle.tree_directives.specs.declared.directive.Argument.{Argument}
use Rattle.tree_directives.specs.declared.directive.Directive.{Directive}
use Rattle.tree_directives.specs.declared.input_value.InputValueDefinition.{InputValueDefinition}
use Rattle.tree_operations.specs.OperationTree.{VariableDefinitionTree, variable_definition_tree}
use Rattle.tree_operations.specs.declared.operation.VariableDefinition.{VariableDefinition}
use Rattle.schema_types.specs.SchemaTree.{SchemaTree}
use Rattle.schema_coordinates.specs.Coordinate.{Coordinate, OfAttribute, OfArgument, OfDirectiveArgument}
use Rattle.document_typed_selections.specs.TypedTree.{typed_selection_tree}
use Rattle.document_typed_selections.specs.TypedParts.{typed_head}
use Rattle.document_typed_selections.specs.declared.selection.Field.{Field}
use Rattle.document_typed_selections.specs.declared.selection.Selection.{Selection}
use Rattle.spec_document.specs.MeantTree.{meant}
use Rattle.rule_definitions.specs.Judged.{Judged}
use Rattle.rule_definitions.specs.Names.{named_in}
use Rattle.rule_definitions.specs.Room.{◌⊕◌}
use Rattle.rule_warnings.specs.Deprecated.{DeprecatedUse, deprecation, input_field}
use Rattle.rule_warnings.specs.Views.{uses_of}
use Rattle.rule_warnings.specs.Told.{Member, use_of, value_uses, argument_uses, directive_uses, field_uses, selection_uses, variable_uses}
use Rattle.rule_warnings.specs.declared.owner.Owner.{Owner}
use Rattle.rule_warnings.specs.declared.owner.Owner.TheVariants as owner
use Rattle.rule_warnings.specs.declared.deprecated_use.UseKind.{UseKind}
use Rattle.rule_warnings.specs.declared.deprecated_use.UseKind.TheVariants as kind
use Rattle.rule_warnings.specs.declared.deprecated_use.DeprecatedUse.{DeprecatedUse as Rust}

-- the old uses, then these, as long as the list has fewer than 1,000
abbrev pub Tells : Vec Rust Global → Vec Rust Global → List (DeprecatedUse Place) → Type 0
Tells old new told = uses_of new ≡ uses_of old ⊕ told

-- what a name with this owner is, and its coordinate
abbrev pub kind_by : Owner → UseKind
kind_by (owner.OfField t) = kind.Field
kind_by (owner.OfFieldArgument t f) = kind.Argument
kind_by (owner.OfDirectiveArgument d) = kind.Argument
kind_by (owner.OfInputField t) = kind.InputField
kind_by (owner.OfEnumValue t) = kind.EnumValue

abbrev pub coordinate_by : Owner → List ℕ → Coordinate
coordinate_by (owner.OfField t) n = OfAttribute t.now.text n
coordinate_by (owner.OfFieldArgument t f) n = OfArgument t.now.text f.now.text n
coordinate_by (owner.OfDirectiveArgument d) n = OfDirectiveArgument d.now.text n
coordinate_by (owner.OfInputField t) n = OfAttribute t.now.text n
coordinate_by (owner.OfEnumValue t) n = OfAttribute t.now.text n

-- the use of a name of that owner, if its definition is deprecated for this reason
abbrev pub use_by : Owner → Option (List ℕ) → Text Place → List (DeprecatedUse Place)
use_by o reason n = use_of (kind_by o) (coordinate_by o n.it) reason n

-- definitions of arguments without their places
abbrev pub plain_definitions : List (Node InputValueDefinition) → InputValues (Unit {0})
plain_definitions vs = map (unplaced_node unplaced_input_value) (map (node_tree input_value_tree) vs)

abbrev pub applied_directives : List (Node Directive) → Directives Place
applied_directives ds = map (node_tree directive_tree) ds

abbrev pub given_arguments : List (Node Argument) → Arguments Place
given_arguments given = map (node_tree argument_tree) given

abbrev pub defined_variables : List (Node VariableDefinition) → List (Placed Place (VariableDefinitionTree Place))
defined_variables vs = map (node_tree variable_definition_tree) vs

-- a selection, with the name of the type of its set; those that wait, the next one last
abbrev pub member_of : Bor NameValue × Bor Selection → Member Place
member_of e = (e.0.now.text, meant (typed_selection_tree e.1.now))

abbrev pub waiting_members : List (Bor NameValue × Bor Selection) → List (Member Place)
waiting_members xs = fold (λ es x. member_of x ∷ es) [] xs

module _ (s : Judged) where
  -- of an entry of an object for the input object of this name
  abbrev pub entry_uses_of : List ℕ → Name × Node Value → List (DeprecatedUse Place)
  entry_uses_of ty e =
      option_map_or (λ f. use_of kind.InputField (OfAttribute ty e.0.text) (deprecation f.directives) (name_tree e.0) ++ value_uses s (named_in f.ty.it) (value_tree (content e.1)))
      (input_field s ty e.0.text) []

  -- nodes give the same at any place
  abbrev pub argument_uses_of : Owner → List (Node InputValueDefinition) → Node Argument → List (DeprecatedUse Place)
  argument_uses_of o definitions a = argument_uses s (kind_by o) (coordinate_by o) (plain_definitions definitions) (node_tree argument_tree a)

  abbrev pub directive_uses_of : Node Directive → List (DeprecatedUse Place)
  directive_uses_of d = directive_uses s (node_tree directive_tree d)

  abbrev pub variable_uses_of : Node VariableDefinition → List (DeprecatedUse Place)
  variable_uses_of v = variable_uses s (variable_definition_tree (content v))

module _ (t : SchemaTree Place) where
  abbrev pub field_uses_of : NameValue → Field → List (DeprecatedUse Place)
  field_uses_of ty f = field_uses t ty.text (typed_head f)

  abbrev pub selection_uses_of : NameValue → Selection → List (DeprecatedUse Place)
  selection_uses_of ty x = selection_uses t (ty.text, meant (typed_selection_tree x))
