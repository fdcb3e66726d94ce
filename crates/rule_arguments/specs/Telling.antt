-- Private: leads to `Uses` of the definitions of the rules. What is told of uses, arguments and definitions as the program has them.
use Rattle.std.specs.Prelude.{◌≡◌, ◌↔◌, Bool, ℕ, List, take, slice_get, Option, Some, IsTrue, Vec, Contains}
use Rattle.std.specs.List.{flat_map}
use Rattle.std.specs.declared.alloc.Global.{Global}
use Rattle.indexmap.specs.IndexMap.{IndexMap}
use Rattle.graphql_names.specs.Node.{content, place}
use Rattle.graphql_names.specs.NameValue.{NameValue}
use Rattle.graphql_names.specs.Placed.{Placed, Place, node_tree}
use Rattle.graphql_names.specs.declared.node.Node.{Node}
use Rattle.tree_directives.specs.DirectiveTree.{DirectiveDefinitionTree, argument_tree, directive_tree, directive_definition_tree, input_value_tree, input_value_trees}
use Rattle.tree_directives.specs.declared.directive.Argument.{Argument}
use Rattle.tree_directives.specs.declared.directive.Directive.{Directive}
use Rattle.tree_directives.specs.declared.directive.DirectiveDefinition.{DirectiveDefinition}
use Rattle.tree_directives.specs.declared.directive_location.DirectiveLocation.{DirectiveLocation}
use Rattle.tree_directives.specs.declared.input_value.InputValueDefinition.{InputValueDefinition}
use Rattle.tree_operations.specs.declared.operation.VariableDefinition.{VariableDefinition}
use Rattle.tree_type_members.specs.TypeSystemTree.{FieldDefinitionTree, field_definition_tree}
use Rattle.tree_type_members.specs.declared.field_definition.FieldDefinition.{FieldDefinition}
use Rattle.schema_components.specs.Given.{Given, component_tree}
use Rattle.schema_components.specs.Lists.{each_place}
use Rattle.schema_components.specs.Names.{Entries, entries_of}
use Rattle.schema_components.specs.declared.component.Component.{Component}
use Rattle.rule_values.specs.in_schema.SchemaOf.{schema_tree}
use Rattle.rule_values.specs.in_schema.declared.schema.Schema.{Schema}
use Rattle.rule_values.specs.in_schema.in_schema_types.SchemaTree.{SchemaTree}
use Rattle.rule_values.specs.in_schema.in_schema_types.Addresses.{place_at, directive_definition_at}
use Rattle.rule_values.specs.in_schema.in_schema_types.TypeView.{name_text}
use Rattle.rule_values.specs.in_fault_data.DiagnosticView.{plain_reference}
use Rattle.rule_values.specs.in_fault_data.declared.fault.Fault.{Fault}
use Rattle.rule_values.specs.in_rule_definitions.Diagnostics.{DisallowedVariableUsage}
use Rattle.rule_values.specs.in_rule_definitions.Faults.{wrong}
use Rattle.rule_values.specs.in_rule_definitions.Words.{AtSomeIndex}
use Rattle.rule_values.specs.in_rule_definitions.Judged.{judged}
use Rattle.rule_values.specs.in_rule_definitions.Names.{directive_name}
use Rattle.rule_values.specs.in_rule_definitions.GivenValues.{Variables}
use Rattle.rule_values.specs.in_rule_definitions.Uses.{UseBreaks}
use Rattle.rule_values.specs.in_rule_definitions.PlacedFaults.{PlacedFault}
use Rattle.rule_values.specs.Telling.{Tells}
use Rattle.rule_values.specs.Wanting.{variables_of}
use Rattle.rule_arguments.specs.AddedFaults.{AddsUsesFaults}
use Rattle.rule_arguments.specs.GivenArguments.{GivenArgumentBreaks, DefinedArgumentBreaks, FirstGivenBreaks, DefinedUseBreaks}
use Rattle.rule_arguments.specs.Trees.{arguments_of, directives_of, no_schema_tree, taker_of}
use Rattle.rule_arguments.specs.UseFaults.{undefined_argument, required_argument, unsupported_location, repeated_directive, directive_again}
use Rattle.rule_arguments.specs.declared.rule_context.RuleContext.{RuleContext}
use Rattle.rule_arguments.specs.declared.taker.Taker.{Taker}

abbrev Definitions : Type 0
Definitions = List (Node VariableDefinition)

-- the schema by which uses are judged; below, the variables that are defined for them
abbrev pub schema_of : RuleContext → SchemaTree Place
schema_of judging = schema_tree judging.schema.now

abbrev pub variables_in : RuleContext → Variables Place
variables_in judging = variables_of judging.variables.now

-- ---- arguments against their definitions

-- the fault of an argument that is given and not defined
abbrev pub undefined_argument_of : Taker → Node Argument → List PlacedFault
undefined_argument_of taker argument = undefined_argument (taker_of taker) (input_value_trees taker.definitions.now) (node_tree argument_tree argument)

abbrev pub undefined_arguments_of : Taker → List PlacedFault
undefined_arguments_of taker = flat_map (undefined_argument (taker_of taker) (input_value_trees taker.definitions.now)) (arguments_of taker.given.now)

-- the faults of the required arguments that are not given
abbrev pub required_arguments_of : Taker → List PlacedFault
required_arguments_of taker = flat_map (required_argument (taker_of taker)) (input_value_trees taker.definitions.now)

-- the argument at that index has that name
abbrev pub IsNamedAt : List (Node Argument) → ℕ → NameValue → Type 0
IsNamedAt given index name = (a : Node Argument) × ((slice_get given index ≡ Some a) × ((content a).name.text ≡ name.text))

-- the fault of a variable that is given for an argument and must not be used there
abbrev pub told_usage : Node Argument → NameValue → Node VariableDefinition → InputValueDefinition → PlacedFault
told_usage argument name variable definition =
    wrong (place argument) (DisallowedVariableUsage name.text (plain_reference (content (content variable).ty)) (place variable) (content argument).name.text (plain_reference (content definition.ty)) (place argument))

-- a given argument breaks a rule, judged by its definition; below, the same if the taker defines it, and the same for the first argument of some name
abbrev pub BreaksDefinition : RuleContext → Node InputValueDefinition → Node Argument → PlacedFault → Type 0
BreaksDefinition judging definition argument = GivenArgumentBreaks (schema_of judging) (variables_in judging) (input_value_tree (content definition)) (node_tree argument_tree argument)

abbrev pub BreaksIfDefined : RuleContext → Taker → Node Argument → PlacedFault → Type 0
BreaksIfDefined judging taker argument = DefinedArgumentBreaks (schema_of judging) (variables_in judging) (input_value_trees taker.definitions.now) (node_tree argument_tree argument)

abbrev pub SomeGivenBreaks : RuleContext → Taker → PlacedFault → Type 0
SomeGivenBreaks judging taker fault =
    AtSomeIndex (arguments_of taker.given.now) (λ j a. FirstGivenBreaks (schema_of judging) (variables_in judging) (input_value_trees taker.definitions.now) (take j (arguments_of taker.given.now)) a fault)

-- ---- directives that are used

-- the fault of a directive that its definition does not allow at the location is added; if it is allowed, nothing
abbrev pub AddsUnsupported : Node DirectiveDefinition → DirectiveLocation → Node Directive → Vec Fault Global → Vec Fault Global → Type 0
AddsUnsupported definition location directive old new =
    (b : Bool) × ((IsTrue b ↔ Contains (content definition).locations.items location)
    × Tells old new (unsupported_location b (node_tree directive_definition_tree definition) location (node_tree directive_tree directive)))

-- the fault of a directive, given the place of the first directive of its name before it, if there is one
abbrev pub directive_used_again : Schema → Option Place → Node Directive → List PlacedFault
directive_used_again schema first later = directive_again (directive_definition_at (schema_tree schema) (content later).name.text) first (node_tree directive_tree later)

-- the faults of the directives that are not repeatable and are used before
abbrev pub repeated_directives_of : Schema → List (Node Directive) → List PlacedFault
repeated_directives_of schema directives = each_place (λ before d. repeated_directive (directive_definition_at (schema_tree schema) (directive_name d)) before d) (directives_of directives)

-- a use breaks a rule, judged by its directive's definition; below: a use breaks a rule, one of several uses does, one does without a schema
abbrev pub BreaksItsDefinition : RuleContext → DirectiveLocation → Node Directive → Node DirectiveDefinition → PlacedFault → Type 0
BreaksItsDefinition judging location directive definition =
    DefinedUseBreaks (schema_of judging) (variables_in judging) location (node_tree directive_tree directive) (input_value_trees (content definition).arguments.items)

abbrev pub OneUseBreaks : RuleContext → DirectiveLocation → Node Directive → PlacedFault → Type 0
OneUseBreaks judging location directive = UseBreaks (place_at (schema_of judging)) (judged (schema_of judging)) (variables_in judging) location (node_tree directive_tree directive)

abbrev pub SomeUseBreaks : RuleContext → DirectiveLocation → List (Node Directive) → PlacedFault → Type 0
SomeUseBreaks judging location directives fault =
    AtSomeIndex (directives_of directives) (λ i d. UseBreaks (place_at (schema_of judging)) (judged (schema_of judging)) (variables_in judging) location d fault)

abbrev pub UndefinedUseBreaks : Definitions → DirectiveLocation → Node Directive → PlacedFault → Type 0
UndefinedUseBreaks variables location directive = UseBreaks (place_at no_schema_tree) (judged no_schema_tree) (variables_of variables) location (node_tree directive_tree directive)

-- the faults of uses without a schema, for every location
abbrev pub AddsUndefinedUses : Definitions → List (Node Directive) → Vec Fault Global → Vec Fault Global → Type 0
AddsUndefinedUses variables directives old new = (location : DirectiveLocation) → AddsUsesFaults no_schema_tree (variables_of variables) location (directives_of directives) old new

-- ---- maps of a schema

abbrev pub fields_of : {S : Type 0} → IndexMap NameValue (Component FieldDefinition) S → Entries (Given Place (Placed Place (FieldDefinitionTree Place)))
fields_of fields = entries_of name_text (component_tree field_definition_tree) fields

abbrev pub definitions_of : {S : Type 0} → IndexMap NameValue (Node DirectiveDefinition) S → Entries (Placed Place (DirectiveDefinitionTree Place))
definitions_of definitions = entries_of name_text (node_tree directive_definition_tree) definitions
