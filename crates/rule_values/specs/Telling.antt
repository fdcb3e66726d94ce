-- Private: leads to `TypeBreaks` and `UndefinedVariableIn`. What is told of values, types and entries as the program has them.
use Rattle.std.specs.Prelude.{◌≡◌, ◌∷◌, [], List, Vec, find, bytes_eq, Option, IfSome}
use Rattle.std.specs.declared.alloc.Global.{Global}
use Rattle.indexmap.specs.IndexMap.{IndexMap}
use Rattle.graphql_names.specs.Placed.{Placed, Place}
use Rattle.graphql_names.specs.Node.{content, place}
use Rattle.graphql_names.specs.NameValue.{NameValue}
use Rattle.graphql_names.specs.declared.name.Name.{Name}
use Rattle.graphql_names.specs.declared.node.Node.{Node}
use Rattle.tree_literals.specs.TypeTree.{type_tree}
use Rattle.tree_literals.specs.ValueTree.{value_tree, item_trees, entry_trees}
use Rattle.tree_literals.specs.declared.value.Value.{Value}
use Rattle.tree_literals.specs.declared.ty.«Type».{«Type»}
use Rattle.tree_directives.specs.DirectiveTree.{input_value_tree}
use Rattle.tree_directives.specs.declared.input_value.InputValueDefinition.{InputValueDefinition}
use Rattle.tree_operations.specs.OperationTree.{VariableDefinitionTree}
use Rattle.tree_operations.specs.declared.operation.VariableDefinition.{VariableDefinition}
use Rattle.schema_components.specs.Given.{component_tree}
use Rattle.schema_components.specs.Names.{entries_of}
use Rattle.schema_components.specs.declared.component.Component.{Component}
use Rattle.graphql_schema.specs.SchemaOf.{schema_tree}
use Rattle.graphql_schema.specs.declared.schema.Schema.{Schema}
use Rattle.graphql_schema.specs.in_schema_types.TypeView.{extended_type, name_text}
use Rattle.graphql_schema.specs.in_schema_types.declared.extended_type.ExtendedType.{ExtendedType}
use Rattle.fault_data.specs.FaultView.{faults_of}
use Rattle.fault_data.specs.Room.{◌⊕◌}
use Rattle.fault_data.specs.declared.fault.Fault.{Fault}
use Rattle.fault_data.specs.in_rule_definitions.Diagnostics.{UndefinedInputValue}
use Rattle.fault_data.specs.in_rule_definitions.Faults.{wrong}
use Rattle.fault_data.specs.in_rule_definitions.Names.{defined_name}
use Rattle.fault_data.specs.in_rule_definitions.PlacedFaults.{PlacedFault}
use Rattle.rule_values.specs.Wanting.{variables_of, is_not_provided, required_among}
use Rattle.rule_values.specs.ValueFaults.{unsupported_value_type, int_coercion_error, undefined_enum_value, undefined_key, required_if, required_field, required_fields, each_first, form_faults, inner_faults, item_faults, entry_faults, type_faults, field_faults}
use Rattle.rule_values.specs.VariableFaults.{variable_faults, variable_faults_entries}
use Rattle.rule_values.specs.declared.rule_context.RuleContext.{RuleContext}
use Rattle.rule_values.specs.declared.objects.GivenObject.{GivenObject}
use Rattle.rule_values.specs.declared.objects.InputFields.{InputFields}
use Rattle.schema_inputs.specs.Inputs.{AreRequired}
use Rattle.rule_values.specs.declared.wanted.Wanted.{Wanted}

-- the old faults, then these, as long as the list has fewer than 1,000
abbrev pub Tells : Vec Fault Global → Vec Fault Global → List PlacedFault → Type 0
Tells old new told = faults_of new ≡ faults_of old ⊕ told

abbrev Definitions : Type 0
Definitions = List (Node VariableDefinition)

abbrev Entries : Type 0
Entries = List (Name × Node Value)

-- ---- variables

-- the first definition of that name
abbrev pub first_defined : Definitions → NameValue → Option (Placed Place (VariableDefinitionTree Place))
first_defined variables name = find (λ v. bytes_eq (defined_name v) name.text) (variables_of variables)

abbrev pub variable_faults_of : Definitions → Node Value → List PlacedFault
variable_faults_of variables value = variable_faults (variables_of variables) (place value) (value_tree (content value))

abbrev pub variable_faults_among : Definitions → Entries → List PlacedFault
variable_faults_among variables entries = variable_faults_entries (variables_of variables) (entry_trees value_tree entries)

-- ---- the form of a value, where `found` is the inner type of the expected type

abbrev pub unsupported_of : Definitions → Wanted → ExtendedType → Node Value → List PlacedFault
unsupported_of variables wanted found value = unsupported_value_type (variables_of variables) (type_tree wanted.ty.now) wanted.location (extended_type found) (place value) (value_tree (content value))

abbrev pub integer_faults_of : NameValue → ExtendedType → Place → Value → List PlacedFault
integer_faults_of name found p value = int_coercion_error name.text (extended_type found) p (value_tree value)

abbrev pub enum_faults_of : NameValue → ExtendedType → Place → Value → List PlacedFault
enum_faults_of name found p value = undefined_enum_value name.text (extended_type found) p (value_tree value)

abbrev pub form_faults_of : Definitions → Wanted → ExtendedType → Node Value → List PlacedFault
form_faults_of variables wanted found value = form_faults (variables_of variables) (type_tree wanted.ty.now) wanted.location (extended_type found) (place value) (value_tree (content value))

-- ---- the entries of an object, where the input object type `found` has that name

abbrev pub undefined_key_of : NameValue → ExtendedType → Entries → List PlacedFault
undefined_key_of name found entries = undefined_key name.text (extended_type found) (entry_trees value_tree entries)

-- the fault of an entry whose key has no field
abbrev pub told_key : NameValue → ExtendedType → Name × Node Value → List PlacedFault
told_key name found entry = wrong (place entry.1) (UndefinedInputValue entry.0.text name.text (extended_type found).place) ∷ []

abbrev pub required_fields_of : NameValue → ExtendedType → Place → Value → List PlacedFault
required_fields_of name found p value = required_fields name.text (extended_type found) p (value_tree value)

-- the faults of the required fields among these that the entries do not give
abbrev pub required_among_entries : {S : Type 0} → NameValue → Place → Entries → IndexMap NameValue (Component InputValueDefinition) S → List PlacedFault
required_among_entries name p entries fields =
    each_first (required_field name.text p (entry_trees value_tree entries)) [] (entries_of name_text (component_tree input_value_tree) fields)

-- the same for an object as it is noted: of one field; below, of each of these fields
abbrev pub required_of_given : GivenObject → NameValue → Component InputValueDefinition → List PlacedFault
required_of_given given name field = required_if (is_not_provided given.nulls.now name) given.name.now.text given.location name.text (component_tree input_value_tree field)

abbrev pub required_by_given : GivenObject → List (NameValue × Component InputValueDefinition) → List PlacedFault
required_by_given given fields = required_among (is_not_provided given.nulls.now) given.name.now.text given.location fields

-- `required`, if it is known, has the required ones of the fields
abbrev pub AreRequiredIfKnown : InputFields → Type 0
AreRequiredIfKnown fields = IfSome fields.required (λ required. AreRequired (entries_of name_text (component_tree input_value_tree) fields.all.now) required.now)

-- ---- whole values

-- the faults of a value that is given for a type
abbrev pub faults_for : Schema → Definitions → Node «Type» → Node Value → List PlacedFault
faults_for schema variables ty value = type_faults (schema_tree schema) (variables_of variables) (type_tree (content ty)) (place ty) (place value) (value_tree (content value))

-- the faults of a value against the expected type
abbrev pub faults_against : RuleContext → Wanted → Node Value → List PlacedFault
faults_against judging wanted value =
    type_faults (schema_tree judging.schema.now) (variables_of judging.variables.now) (type_tree wanted.ty.now) wanted.location (place value) (value_tree (content value))

-- the faults of what is inside a list or an object
abbrev pub faults_inside : RuleContext → Wanted → ExtendedType → Value → List PlacedFault
faults_inside judging wanted found value =
    inner_faults (schema_tree judging.schema.now) (variables_of judging.variables.now) (type_tree wanted.ty.now) wanted.location (extended_type found) (value_tree value)

-- the faults of items against the type of items
abbrev pub faults_of_items : RuleContext → Wanted → List (Node Value) → List PlacedFault
faults_of_items judging wanted items =
    item_faults (schema_tree judging.schema.now) (variables_of judging.variables.now) (type_tree wanted.ty.now) wanted.location (item_trees value_tree items)

-- the faults of entries, each against the type of its field
abbrev pub faults_of_entries : RuleContext → ExtendedType → Entries → List PlacedFault
faults_of_entries judging found entries =
    entry_faults (schema_tree judging.schema.now) (variables_of judging.variables.now) (extended_type found) [] (entry_trees value_tree entries)

-- the faults of an entry against the type of the field of its key
abbrev pub faults_of_entry : RuleContext → ExtendedType → Name × Node Value → List PlacedFault
faults_of_entry judging found entry =
    field_faults (schema_tree judging.schema.now) (variables_of judging.variables.now) (extended_type found) entry.0.text (place entry.1) (value_tree (content entry.1))
