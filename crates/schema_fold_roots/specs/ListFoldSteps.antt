-- Private: leads to `folded_schema` and `folded_directives`. The definitions of a list, and the steps over it, as the program has them.
use Rattle.std.specs.Prelude.{◌≡◌, List, ◌∷◌, ◌++◌, map, Vec, None}
use Rattle.std.specs.List.{flat_map}
use Rattle.std.specs.Option.{option_map}
use Rattle.std.specs.declared.alloc.Global.{Global}
use Rattle.indexmap.specs.IndexMap.{IndexMap}
use Rattle.graphql_names.specs.Node.{content, place}
use Rattle.graphql_names.specs.NameValue.{NameValue}
use Rattle.graphql_names.specs.Placed.{Place, text_tree, node_tree}
use Rattle.graphql_names.specs.declared.node.Node.{Node}
use Rattle.graphql_names.specs.declared.name.Name.{Name}
use Rattle.tree_directives.specs.DirectiveTree.{directives_tree}
use Rattle.tree_directives.specs.declared.directive.DirectiveDefinition.{DirectiveDefinition}
use Rattle.tree_directives.specs.declared.directive.DirectiveList.{DirectiveList}
use Rattle.tree_directives.specs.declared.operation_type.OperationType.{OperationType}
use Rattle.tree_input_types.specs.declared.schema.SchemaDefinition.{SchemaDefinition}
use Rattle.schema_components.specs.Given.{Given, origin_tree, component_tree}
use Rattle.schema_components.specs.declared.component.Component.{Component}
use Rattle.schema_components.specs.declared.component.ComponentOrigin.{ComponentOrigin}
use Rattle.schema_fold.specs.in_definitions.DefinitionTree.{root_tree, schema_parts}
use Rattle.schema_fold.specs.in_schema_types.SchemaTree.{SchemaRoots}
use Rattle.schema_fold.specs.Components.{all_given}
use Rattle.schema_fold.specs.FaultView.{faults_of}
use Rattle.schema_fold.specs.Keeping.{KeepsOn}
use Rattle.schema_fold.specs.NumberedDefinition.{Definitions, definitions_of, directive_name, directives_in}
use Rattle.schema_fold.specs.ListedView.{listed_view}
use Rattle.schema_fold.specs.SchemaFold.{Root, extends_schema}
use Rattle.schema_fold.specs.declared.build_error.BuildError.{BuildError}
use Rattle.schema_fold.specs.declared.numbered_definition.NumberedDefinition.{NumberedDefinition}
use Rattle.schema_fold_roots.specs.DirectiveFold.{Directive, directive_fault}
use Rattle.schema_fold_roots.specs.DirectivesView.{entries_view}
use Rattle.schema_fold_roots.specs.ListFold.{Parts, schema_from}
use Rattle.schema_fold_roots.specs.RootFold.{KeepsRoot}
use Rattle.schema_fold_roots.specs.RootsView.{root_names, roots_given_by}
use Rattle.schema_fold_roots.specs.declared.roots.Roots.{Roots}

-- a list of faults, as the program has it
abbrev pub Faults : Type 0
Faults = Vec (Place × BuildError) Global

-- the definitions of a list, and those of directives among them
abbrev pub definitions_listed : List NumberedDefinition → Definitions
definitions_listed list = definitions_of (map listed_view list)

abbrev pub directives_listed : List NumberedDefinition → List Directive
directives_listed list = directives_in (definitions_listed list)

-- what adding a directive after others does to the definitions that are kept and to the faults
abbrev pub KeepsDirective : {S : Type 0} → Directive → IndexMap NameValue (Node DirectiveDefinition) S → Faults → IndexMap NameValue (Node DirectiveDefinition) S → Faults → Type 0
KeepsDirective d kept faults kept' faults' = KeepsOn directive_name directive_fault d (entries_view kept) (faults_of faults) (entries_view kept') (faults_of faults')

-- a root as contracts see it
abbrev pub root_given_by : Component (OperationType × Name) → Given Place Root
root_given_by c = component_tree root_tree c

-- what adding a root after others does to the roots that are kept and to the faults
abbrev pub KeepsRootGiven : Component (OperationType × Name) → Roots → Faults → Roots → Faults → Type 0
KeepsRootGiven c kept faults kept' faults' = KeepsRoot (root_given_by c) (root_names kept) (faults_of faults) (root_names kept') (faults_of faults')

-- the new roots are the old ones followed by these, with the definition as their origin
abbrev pub AddsRoots : Vec (Component (OperationType × Name)) Global → Vec (Component (OperationType × Name)) Global → List Root → Type 0
AddsRoots old new roots = roots_given_by new.items ≡ roots_given_by old.items ++ all_given None roots

-- these directives and roots, with that origin
abbrev pub parts_at : ComponentOrigin → DirectiveList → List (Node (OperationType × Name)) → Parts
parts_at origin directives roots = record { extension = origin_tree origin; it = record { directives = directives_tree directives; roots = map (node_tree root_tree) roots } }

-- the parts of a schema definition, then those of each schema extension of the list
abbrev pub defined_parts : SchemaDefinition → List NumberedDefinition → List Parts
defined_parts defined list = record { extension = None; it = schema_parts defined } ∷ flat_map extends_schema (map listed_view list)

-- the schema definition with those parts
abbrev pub defined_schema : Node SchemaDefinition → List NumberedDefinition → SchemaRoots Place
defined_schema defined list = schema_from (place defined) (option_map text_tree (content defined).description) (defined_parts (content defined) list)
