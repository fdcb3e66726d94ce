-- Rows: token lists that are read, and others with the number of tokens that are left where reading stops.
use Rattle.std.proofs.Common.{◌≡◌, ℕ, List, [], ◌∷◌, length, Ok, Err, refl, Option, Some, None}
use Rattle.std.specs.Prelude.{map}
use Rattle.read_tokens.specs.declared.terminal.Terminal.{Terminal}
use Rattle.read_tokens.specs.declared.terminal.Terminal.TheVariants as k
use Rattle.read_tokens.specs.Input.{Token}
use Rattle.read_grammar.specs.Meaning.{Meaning, start}
use Rattle.read_grammar.specs.Reading.{Outcome, whole, take, many, many_within, some}
use Rattle.read_grammar.specs.ValueReading as v
use Rattle.read_grammar.specs.OperationReading as o
use Rattle.read_grammar.specs.TypeSystemReading as y
use Rattle.read_grammar.specs.DocumentReading as d
use Rattle.read_grammar.specs.Locations.{location_of}

abbrev plain : Meaning (Unit {0})
plain = record { place = λ begin end. tt; string = λ t. t.text }

abbrev token : Terminal → Token
token kind = record { kind = kind; text = []; offset = 0 }

abbrev left_by : {A : Type 0} → Outcome A → Option ℕ
left_by (Ok z) = None
left_by (Err f) = Some (length f.1.ahead)

-- how many tokens are left where it stops; none where all are read
abbrev document_left : ℕ → List Terminal → Option ℕ
document_left n kinds = left_by (whole (d.document plain) n (start (map token kinds)))

abbrev type_left : ℕ → List Terminal → Option ℕ
type_left n kinds = left_by (whole (v.type plain) n (start (map token kinds)))

-- short query, alias, `on` as a name
row0 : document_left 1 (k.OpenBrace ∷ k.Name ∷ k.Name ∷ k.Colon ∷ k.On ∷ k.CloseBrace ∷ []) ≡ None
unfolding whole take many many_within some location_of v.name v.variable v.int_value v.float_value v.string_value v.boolean_value v.null_value v.enum_value v.list_value v.object_field v.object_value v.any_value v.value v.default_value v.argument v.arguments v.directive v.directives v.any_type v.type o.operation_type o.alias_and_name o.field o.fragment_name o.type_condition o.dotted o.selection o.selection_list o.selection_set o.selections o.variable_definition o.variable_definitions o.operation_definition o.fragment_definition y.directive_location y.directive_locations y.description y.root_operation_type_definition y.roots y.schema_definition y.scalar_type y.implements_interfaces y.input_value_definition y.arguments_definition y.field_definition y.fields_definition y.object_type y.interface_type y.union_member_types y.union_type y.enum_value_definition y.enum_values_definition y.enum_type y.input_fields_definition y.input_object_type y.type_definition y.directive_definition y.schema_extension d.undescribed d.type_system_definition d.extension d.type_system_extension d.definition d.document
row0 = refl

-- all parts of a field
row1 : document_left 4 (k.Query ∷ k.Name ∷ k.OpenParen ∷ k.Dollar ∷ k.Name ∷ k.Colon ∷ k.OpenBracket ∷ k.Name ∷ k.Bang ∷ k.CloseBracket ∷ k.Equals ∷ k.OpenBracket ∷ k.Int ∷ k.Float ∷ k.CloseBracket ∷ k.At ∷ k.Name ∷ k.CloseParen ∷ k.At ∷ k.Name ∷ k.OpenBrace ∷ k.Name ∷ k.Colon ∷ k.Name ∷ k.OpenParen ∷ k.Name ∷ k.Colon ∷ k.Dollar ∷ k.Name ∷ k.Name ∷ k.Colon ∷ k.OpenBrace ∷ k.Name ∷ k.Colon ∷ k.OpenBracket ∷ k.True ∷ k.Null ∷ k.Name ∷ k.CloseBracket ∷ k.CloseBrace ∷ k.CloseParen ∷ k.At ∷ k.Name ∷ k.OpenBrace ∷ k.Name ∷ k.CloseBrace ∷ k.CloseBrace ∷ []) ≡ None
unfolding whole take many many_within some location_of v.name v.variable v.int_value v.float_value v.string_value v.boolean_value v.null_value v.enum_value v.list_value v.object_field v.object_value v.any_value v.value v.default_value v.argument v.arguments v.directive v.directives v.any_type v.type o.operation_type o.alias_and_name o.field o.fragment_name o.type_condition o.dotted o.selection o.selection_list o.selection_set o.selections o.variable_definition o.variable_definitions o.operation_definition o.fragment_definition y.directive_location y.directive_locations y.description y.root_operation_type_definition y.roots y.schema_definition y.scalar_type y.implements_interfaces y.input_value_definition y.arguments_definition y.field_definition y.fields_definition y.object_type y.interface_type y.union_member_types y.union_type y.enum_value_definition y.enum_values_definition y.enum_type y.input_fields_definition y.input_object_type y.type_definition y.directive_definition y.schema_extension d.undescribed d.type_system_definition d.extension d.type_system_extension d.definition d.document
row1 = refl

-- spreads
row2 : document_left 2 (k.OpenBrace ∷ k.Spread ∷ k.Name ∷ k.At ∷ k.Name ∷ k.Spread ∷ k.On ∷ k.Name ∷ k.At ∷ k.Name ∷ k.OpenBrace ∷ k.Name ∷ k.CloseBrace ∷ k.Spread ∷ k.OpenBrace ∷ k.Name ∷ k.CloseBrace ∷ k.Spread ∷ k.At ∷ k.Name ∷ k.OpenBrace ∷ k.Name ∷ k.CloseBrace ∷ k.CloseBrace ∷ []) ≡ None
unfolding whole take many many_within some location_of v.name v.variable v.int_value v.float_value v.string_value v.boolean_value v.null_value v.enum_value v.list_value v.object_field v.object_value v.any_value v.value v.default_value v.argument v.arguments v.directive v.directives v.any_type v.type o.operation_type o.alias_and_name o.field o.fragment_name o.type_condition o.dotted o.selection o.selection_list o.selection_set o.selections o.variable_definition o.variable_definitions o.operation_definition o.fragment_definition y.directive_location y.directive_locations y.description y.root_operation_type_definition y.roots y.schema_definition y.scalar_type y.implements_interfaces y.input_value_definition y.arguments_definition y.field_definition y.fields_definition y.object_type y.interface_type y.union_member_types y.union_type y.enum_value_definition y.enum_values_definition y.enum_type y.input_fields_definition y.input_object_type y.type_definition y.directive_definition y.schema_extension d.undescribed d.type_system_definition d.extension d.type_system_extension d.definition d.document
row2 = refl

-- two operations and a fragment
row3 : document_left 1 (k.Mutation ∷ k.OpenBrace ∷ k.Name ∷ k.CloseBrace ∷ k.Subscription ∷ k.Name ∷ k.OpenBrace ∷ k.Name ∷ k.CloseBrace ∷ k.Fragment ∷ k.Query ∷ k.On ∷ k.Name ∷ k.At ∷ k.Name ∷ k.OpenBrace ∷ k.Name ∷ k.CloseBrace ∷ []) ≡ None
unfolding whole take many many_within some location_of v.name v.variable v.int_value v.float_value v.string_value v.boolean_value v.null_value v.enum_value v.list_value v.object_field v.object_value v.any_value v.value v.default_value v.argument v.arguments v.directive v.directives v.any_type v.type o.operation_type o.alias_and_name o.field o.fragment_name o.type_condition o.dotted o.selection o.selection_list o.selection_set o.selections o.variable_definition o.variable_definitions o.operation_definition o.fragment_definition y.directive_location y.directive_locations y.description y.root_operation_type_definition y.roots y.schema_definition y.scalar_type y.implements_interfaces y.input_value_definition y.arguments_definition y.field_definition y.fields_definition y.object_type y.interface_type y.union_member_types y.union_type y.enum_value_definition y.enum_values_definition y.enum_type y.input_fields_definition y.input_object_type y.type_definition y.directive_definition y.schema_extension d.undescribed d.type_system_definition d.extension d.type_system_extension d.definition d.document
row3 = refl

-- schema
row4 : document_left 1 (k.String ∷ k.Schema ∷ k.At ∷ k.Name ∷ k.OpenBrace ∷ k.Query ∷ k.Colon ∷ k.Name ∷ k.Mutation ∷ k.Colon ∷ k.Name ∷ k.CloseBrace ∷ []) ≡ None
unfolding whole take many many_within some location_of v.name v.variable v.int_value v.float_value v.string_value v.boolean_value v.null_value v.enum_value v.list_value v.object_field v.object_value v.any_value v.value v.default_value v.argument v.arguments v.directive v.directives v.any_type v.type o.operation_type o.alias_and_name o.field o.fragment_name o.type_condition o.dotted o.selection o.selection_list o.selection_set o.selections o.variable_definition o.variable_definitions o.operation_definition o.fragment_definition y.directive_location y.directive_locations y.description y.root_operation_type_definition y.roots y.schema_definition y.scalar_type y.implements_interfaces y.input_value_definition y.arguments_definition y.field_definition y.fields_definition y.object_type y.interface_type y.union_member_types y.union_type y.enum_value_definition y.enum_values_definition y.enum_type y.input_fields_definition y.input_object_type y.type_definition y.directive_definition y.schema_extension d.undescribed d.type_system_definition d.extension d.type_system_extension d.definition d.document
row4 = refl

-- scalar, union, enum
row5 : document_left 1 (k.Scalar ∷ k.Name ∷ k.At ∷ k.Name ∷ k.Union ∷ k.Name ∷ k.At ∷ k.Name ∷ k.Equals ∷ k.Pipe ∷ k.Name ∷ k.Pipe ∷ k.Name ∷ k.Enum ∷ k.Name ∷ k.OpenBrace ∷ k.String ∷ k.Name ∷ k.At ∷ k.Name ∷ k.Query ∷ k.CloseBrace ∷ []) ≡ None
unfolding whole take many many_within some location_of v.name v.variable v.int_value v.float_value v.string_value v.boolean_value v.null_value v.enum_value v.list_value v.object_field v.object_value v.any_value v.value v.default_value v.argument v.arguments v.directive v.directives v.any_type v.type o.operation_type o.alias_and_name o.field o.fragment_name o.type_condition o.dotted o.selection o.selection_list o.selection_set o.selections o.variable_definition o.variable_definitions o.operation_definition o.fragment_definition y.directive_location y.directive_locations y.description y.root_operation_type_definition y.roots y.schema_definition y.scalar_type y.implements_interfaces y.input_value_definition y.arguments_definition y.field_definition y.fields_definition y.object_type y.interface_type y.union_member_types y.union_type y.enum_value_definition y.enum_values_definition y.enum_type y.input_fields_definition y.input_object_type y.type_definition y.directive_definition y.schema_extension d.undescribed d.type_system_definition d.extension d.type_system_extension d.definition d.document
row5 = refl

-- type, interface, input
row6 : document_left 2 (k.BlockString ∷ k.Type ∷ k.Name ∷ k.Implements ∷ k.Ampersand ∷ k.Name ∷ k.Ampersand ∷ k.Name ∷ k.At ∷ k.Name ∷ k.OpenBrace ∷ k.String ∷ k.Name ∷ k.OpenParen ∷ k.Name ∷ k.Colon ∷ k.Name ∷ k.Equals ∷ k.Int ∷ k.Name ∷ k.Colon ∷ k.Name ∷ k.CloseParen ∷ k.Colon ∷ k.OpenBracket ∷ k.Name ∷ k.CloseBracket ∷ k.Bang ∷ k.At ∷ k.Name ∷ k.CloseBrace ∷ k.Interface ∷ k.Name ∷ k.Implements ∷ k.Name ∷ k.Input ∷ k.Name ∷ k.OpenBrace ∷ k.Name ∷ k.Colon ∷ k.Name ∷ k.Equals ∷ k.String ∷ k.At ∷ k.Name ∷ k.CloseBrace ∷ []) ≡ None
unfolding whole take many many_within some location_of v.name v.variable v.int_value v.float_value v.string_value v.boolean_value v.null_value v.enum_value v.list_value v.object_field v.object_value v.any_value v.value v.default_value v.argument v.arguments v.directive v.directives v.any_type v.type o.operation_type o.alias_and_name o.field o.fragment_name o.type_condition o.dotted o.selection o.selection_list o.selection_set o.selections o.variable_definition o.variable_definitions o.operation_definition o.fragment_definition y.directive_location y.directive_locations y.description y.root_operation_type_definition y.roots y.schema_definition y.scalar_type y.implements_interfaces y.input_value_definition y.arguments_definition y.field_definition y.fields_definition y.object_type y.interface_type y.union_member_types y.union_type y.enum_value_definition y.enum_values_definition y.enum_type y.input_fields_definition y.input_object_type y.type_definition y.directive_definition y.schema_extension d.undescribed d.type_system_definition d.extension d.type_system_extension d.definition d.document
row6 = refl

-- directive
row7 : document_left 1 (k.Directive ∷ k.At ∷ k.Name ∷ k.OpenParen ∷ k.Name ∷ k.Colon ∷ k.Name ∷ k.CloseParen ∷ k.At ∷ k.Name ∷ k.Repeatable ∷ k.On ∷ k.Pipe ∷ k.Location ∷ k.Pipe ∷ k.Location ∷ k.Type ∷ k.Name ∷ []) ≡ None
unfolding whole take many many_within some location_of v.name v.variable v.int_value v.float_value v.string_value v.boolean_value v.null_value v.enum_value v.list_value v.object_field v.object_value v.any_value v.value v.default_value v.argument v.arguments v.directive v.directives v.any_type v.type o.operation_type o.alias_and_name o.field o.fragment_name o.type_condition o.dotted o.selection o.selection_list o.selection_set o.selections o.variable_definition o.variable_definitions o.operation_definition o.fragment_definition y.directive_location y.directive_locations y.description y.root_operation_type_definition y.roots y.schema_definition y.scalar_type y.implements_interfaces y.input_value_definition y.arguments_definition y.field_definition y.fields_definition y.object_type y.interface_type y.union_member_types y.union_type y.enum_value_definition y.enum_values_definition y.enum_type y.input_fields_definition y.input_object_type y.type_definition y.directive_definition y.schema_extension d.undescribed d.type_system_definition d.extension d.type_system_extension d.definition d.document
row7 = refl

-- extensions
row8 : document_left 1 (k.Extend ∷ k.Schema ∷ k.At ∷ k.Name ∷ k.Extend ∷ k.Schema ∷ k.OpenBrace ∷ k.Query ∷ k.Colon ∷ k.Name ∷ k.CloseBrace ∷ k.Extend ∷ k.Scalar ∷ k.Name ∷ k.At ∷ k.Name ∷ k.Extend ∷ k.Type ∷ k.Name ∷ k.Implements ∷ k.Name ∷ k.Extend ∷ k.Union ∷ k.Name ∷ k.Equals ∷ k.Name ∷ k.Extend ∷ k.Enum ∷ k.Name ∷ k.OpenBrace ∷ k.Name ∷ k.CloseBrace ∷ k.Extend ∷ k.Input ∷ k.Name ∷ k.OpenBrace ∷ k.Name ∷ k.Colon ∷ k.Name ∷ k.CloseBrace ∷ []) ≡ None
unfolding whole take many many_within some location_of v.name v.variable v.int_value v.float_value v.string_value v.boolean_value v.null_value v.enum_value v.list_value v.object_field v.object_value v.any_value v.value v.default_value v.argument v.arguments v.directive v.directives v.any_type v.type o.operation_type o.alias_and_name o.field o.fragment_name o.type_condition o.dotted o.selection o.selection_list o.selection_set o.selections o.variable_definition o.variable_definitions o.operation_definition o.fragment_definition y.directive_location y.directive_locations y.description y.root_operation_type_definition y.roots y.schema_definition y.scalar_type y.implements_interfaces y.input_value_definition y.arguments_definition y.field_definition y.fields_definition y.object_type y.interface_type y.union_member_types y.union_type y.enum_value_definition y.enum_values_definition y.enum_type y.input_fields_definition y.input_object_type y.type_definition y.directive_definition y.schema_extension d.undescribed d.type_system_definition d.extension d.type_system_extension d.definition d.document
row8 = refl

-- no definition
row9 : document_left 1 ([]) ≡ Some 0
unfolding whole take many many_within some location_of v.name v.variable v.int_value v.float_value v.string_value v.boolean_value v.null_value v.enum_value v.list_value v.object_field v.object_value v.any_value v.value v.default_value v.argument v.arguments v.directive v.directives v.any_type v.type o.operation_type o.alias_and_name o.field o.fragment_name o.type_condition o.dotted o.selection o.selection_list o.selection_set o.selections o.variable_definition o.variable_definitions o.operation_definition o.fragment_definition y.directive_location y.directive_locations y.description y.root_operation_type_definition y.roots y.schema_definition y.scalar_type y.implements_interfaces y.input_value_definition y.arguments_definition y.field_definition y.fields_definition y.object_type y.interface_type y.union_member_types y.union_type y.enum_value_definition y.enum_values_definition y.enum_type y.input_fields_definition y.input_object_type y.type_definition y.directive_definition y.schema_extension d.undescribed d.type_system_definition d.extension d.type_system_extension d.definition d.document
row9 = refl

-- no selection
row10 : document_left 1 (k.OpenBrace ∷ k.CloseBrace ∷ []) ≡ Some 1
unfolding whole take many many_within some location_of v.name v.variable v.int_value v.float_value v.string_value v.boolean_value v.null_value v.enum_value v.list_value v.object_field v.object_value v.any_value v.value v.default_value v.argument v.arguments v.directive v.directives v.any_type v.type o.operation_type o.alias_and_name o.field o.fragment_name o.type_condition o.dotted o.selection o.selection_list o.selection_set o.selections o.variable_definition o.variable_definitions o.operation_definition o.fragment_definition y.directive_location y.directive_locations y.description y.root_operation_type_definition y.roots y.schema_definition y.scalar_type y.implements_interfaces y.input_value_definition y.arguments_definition y.field_definition y.fields_definition y.object_type y.interface_type y.union_member_types y.union_type y.enum_value_definition y.enum_values_definition y.enum_type y.input_fields_definition y.input_object_type y.type_definition y.directive_definition y.schema_extension d.undescribed d.type_system_definition d.extension d.type_system_extension d.definition d.document
row10 = refl

-- a fragment named on
row11 : document_left 1 (k.Fragment ∷ k.On ∷ k.On ∷ k.Name ∷ k.OpenBrace ∷ k.Name ∷ k.CloseBrace ∷ []) ≡ Some 6
unfolding whole take many many_within some location_of v.name v.variable v.int_value v.float_value v.string_value v.boolean_value v.null_value v.enum_value v.list_value v.object_field v.object_value v.any_value v.value v.default_value v.argument v.arguments v.directive v.directives v.any_type v.type o.operation_type o.alias_and_name o.field o.fragment_name o.type_condition o.dotted o.selection o.selection_list o.selection_set o.selections o.variable_definition o.variable_definitions o.operation_definition o.fragment_definition y.directive_location y.directive_locations y.description y.root_operation_type_definition y.roots y.schema_definition y.scalar_type y.implements_interfaces y.input_value_definition y.arguments_definition y.field_definition y.fields_definition y.object_type y.interface_type y.union_member_types y.union_type y.enum_value_definition y.enum_values_definition y.enum_type y.input_fields_definition y.input_object_type y.type_definition y.directive_definition y.schema_extension d.undescribed d.type_system_definition d.extension d.type_system_extension d.definition d.document
row11 = refl

-- a spread of on without a condition
row12 : document_left 1 (k.OpenBrace ∷ k.Spread ∷ k.On ∷ k.CloseBrace ∷ []) ≡ Some 1
unfolding whole take many many_within some location_of v.name v.variable v.int_value v.float_value v.string_value v.boolean_value v.null_value v.enum_value v.list_value v.object_field v.object_value v.any_value v.value v.default_value v.argument v.arguments v.directive v.directives v.any_type v.type o.operation_type o.alias_and_name o.field o.fragment_name o.type_condition o.dotted o.selection o.selection_list o.selection_set o.selections o.variable_definition o.variable_definitions o.operation_definition o.fragment_definition y.directive_location y.directive_locations y.description y.root_operation_type_definition y.roots y.schema_definition y.scalar_type y.implements_interfaces y.input_value_definition y.arguments_definition y.field_definition y.fields_definition y.object_type y.interface_type y.union_member_types y.union_type y.enum_value_definition y.enum_values_definition y.enum_type y.input_fields_definition y.input_object_type y.type_definition y.directive_definition y.schema_extension d.undescribed d.type_system_definition d.extension d.type_system_extension d.definition d.document
row12 = refl

-- a variable in a default
row13 : document_left 1 (k.Query ∷ k.OpenParen ∷ k.Dollar ∷ k.Name ∷ k.Colon ∷ k.Name ∷ k.Equals ∷ k.Dollar ∷ k.Name ∷ k.CloseParen ∷ k.OpenBrace ∷ k.Name ∷ k.CloseBrace ∷ []) ≡ Some 6
unfolding whole take many many_within some location_of v.name v.variable v.int_value v.float_value v.string_value v.boolean_value v.null_value v.enum_value v.list_value v.object_field v.object_value v.any_value v.value v.default_value v.argument v.arguments v.directive v.directives v.any_type v.type o.operation_type o.alias_and_name o.field o.fragment_name o.type_condition o.dotted o.selection o.selection_list o.selection_set o.selections o.variable_definition o.variable_definitions o.operation_definition o.fragment_definition y.directive_location y.directive_locations y.description y.root_operation_type_definition y.roots y.schema_definition y.scalar_type y.implements_interfaces y.input_value_definition y.arguments_definition y.field_definition y.fields_definition y.object_type y.interface_type y.union_member_types y.union_type y.enum_value_definition y.enum_values_definition y.enum_type y.input_fields_definition y.input_object_type y.type_definition y.directive_definition y.schema_extension d.undescribed d.type_system_definition d.extension d.type_system_extension d.definition d.document
row13 = refl

-- true as an enum's value
row14 : document_left 1 (k.Enum ∷ k.Name ∷ k.OpenBrace ∷ k.True ∷ k.CloseBrace ∷ []) ≡ Some 2
unfolding whole take many many_within some location_of v.name v.variable v.int_value v.float_value v.string_value v.boolean_value v.null_value v.enum_value v.list_value v.object_field v.object_value v.any_value v.value v.default_value v.argument v.arguments v.directive v.directives v.any_type v.type o.operation_type o.alias_and_name o.field o.fragment_name o.type_condition o.dotted o.selection o.selection_list o.selection_set o.selections o.variable_definition o.variable_definitions o.operation_definition o.fragment_definition y.directive_location y.directive_locations y.description y.root_operation_type_definition y.roots y.schema_definition y.scalar_type y.implements_interfaces y.input_value_definition y.arguments_definition y.field_definition y.fields_definition y.object_type y.interface_type y.union_member_types y.union_type y.enum_value_definition y.enum_values_definition y.enum_type y.input_fields_definition y.input_object_type y.type_definition y.directive_definition y.schema_extension d.undescribed d.type_system_definition d.extension d.type_system_extension d.definition d.document
row14 = refl

-- an extension without parts
row15 : document_left 1 (k.Extend ∷ k.Type ∷ k.Name ∷ []) ≡ Some 0
unfolding whole take many many_within some location_of v.name v.variable v.int_value v.float_value v.string_value v.boolean_value v.null_value v.enum_value v.list_value v.object_field v.object_value v.any_value v.value v.default_value v.argument v.arguments v.directive v.directives v.any_type v.type o.operation_type o.alias_and_name o.field o.fragment_name o.type_condition o.dotted o.selection o.selection_list o.selection_set o.selections o.variable_definition o.variable_definitions o.operation_definition o.fragment_definition y.directive_location y.directive_locations y.description y.root_operation_type_definition y.roots y.schema_definition y.scalar_type y.implements_interfaces y.input_value_definition y.arguments_definition y.field_definition y.fields_definition y.object_type y.interface_type y.union_member_types y.union_type y.enum_value_definition y.enum_values_definition y.enum_type y.input_fields_definition y.input_object_type y.type_definition y.directive_definition y.schema_extension d.undescribed d.type_system_definition d.extension d.type_system_extension d.definition d.document
row15 = refl

-- an extension without parts, then a definition
row16 : document_left 1 (k.Extend ∷ k.Type ∷ k.Name ∷ k.Type ∷ k.Name ∷ []) ≡ Some 2
unfolding whole take many many_within some location_of v.name v.variable v.int_value v.float_value v.string_value v.boolean_value v.null_value v.enum_value v.list_value v.object_field v.object_value v.any_value v.value v.default_value v.argument v.arguments v.directive v.directives v.any_type v.type o.operation_type o.alias_and_name o.field o.fragment_name o.type_condition o.dotted o.selection o.selection_list o.selection_set o.selections o.variable_definition o.variable_definitions o.operation_definition o.fragment_definition y.directive_location y.directive_locations y.description y.root_operation_type_definition y.roots y.schema_definition y.scalar_type y.implements_interfaces y.input_value_definition y.arguments_definition y.field_definition y.fields_definition y.object_type y.interface_type y.union_member_types y.union_type y.enum_value_definition y.enum_values_definition y.enum_type y.input_fields_definition y.input_object_type y.type_definition y.directive_definition y.schema_extension d.undescribed d.type_system_definition d.extension d.type_system_extension d.definition d.document
row16 = refl

-- a brace after a type without fields
row17 : document_left 1 (k.Type ∷ k.Name ∷ k.OpenBrace ∷ k.CloseBrace ∷ []) ≡ Some 1
unfolding whole take many many_within some location_of v.name v.variable v.int_value v.float_value v.string_value v.boolean_value v.null_value v.enum_value v.list_value v.object_field v.object_value v.any_value v.value v.default_value v.argument v.arguments v.directive v.directives v.any_type v.type o.operation_type o.alias_and_name o.field o.fragment_name o.type_condition o.dotted o.selection o.selection_list o.selection_set o.selections o.variable_definition o.variable_definitions o.operation_definition o.fragment_definition y.directive_location y.directive_locations y.description y.root_operation_type_definition y.roots y.schema_definition y.scalar_type y.implements_interfaces y.input_value_definition y.arguments_definition y.field_definition y.fields_definition y.object_type y.interface_type y.union_member_types y.union_type y.enum_value_definition y.enum_values_definition y.enum_type y.input_fields_definition y.input_object_type y.type_definition y.directive_definition y.schema_extension d.undescribed d.type_system_definition d.extension d.type_system_extension d.definition d.document
row17 = refl

-- a description of an extension
row18 : document_left 1 (k.String ∷ k.Extend ∷ k.Type ∷ k.Name ∷ k.At ∷ k.Name ∷ []) ≡ Some 5
unfolding whole take many many_within some location_of v.name v.variable v.int_value v.float_value v.string_value v.boolean_value v.null_value v.enum_value v.list_value v.object_field v.object_value v.any_value v.value v.default_value v.argument v.arguments v.directive v.directives v.any_type v.type o.operation_type o.alias_and_name o.field o.fragment_name o.type_condition o.dotted o.selection o.selection_list o.selection_set o.selections o.variable_definition o.variable_definitions o.operation_definition o.fragment_definition y.directive_location y.directive_locations y.description y.root_operation_type_definition y.roots y.schema_definition y.scalar_type y.implements_interfaces y.input_value_definition y.arguments_definition y.field_definition y.fields_definition y.object_type y.interface_type y.union_member_types y.union_type y.enum_value_definition y.enum_values_definition y.enum_type y.input_fields_definition y.input_object_type y.type_definition y.directive_definition y.schema_extension d.undescribed d.type_system_definition d.extension d.type_system_extension d.definition d.document
row18 = refl

-- a nested set too many
row19 : document_left 1 (k.OpenBrace ∷ k.Name ∷ k.OpenBrace ∷ k.Name ∷ k.CloseBrace ∷ k.CloseBrace ∷ []) ≡ Some 4
unfolding whole take many many_within some location_of v.name v.variable v.int_value v.float_value v.string_value v.boolean_value v.null_value v.enum_value v.list_value v.object_field v.object_value v.any_value v.value v.default_value v.argument v.arguments v.directive v.directives v.any_type v.type o.operation_type o.alias_and_name o.field o.fragment_name o.type_condition o.dotted o.selection o.selection_list o.selection_set o.selections o.variable_definition o.variable_definitions o.operation_definition o.fragment_definition y.directive_location y.directive_locations y.description y.root_operation_type_definition y.roots y.schema_definition y.scalar_type y.implements_interfaces y.input_value_definition y.arguments_definition y.field_definition y.fields_definition y.object_type y.interface_type y.union_member_types y.union_type y.enum_value_definition y.enum_values_definition y.enum_type y.input_fields_definition y.input_object_type y.type_definition y.directive_definition y.schema_extension d.undescribed d.type_system_definition d.extension d.type_system_extension d.definition d.document
row19 = refl

-- a list too many in an argument
row20 : document_left 2 (k.OpenBrace ∷ k.Name ∷ k.OpenParen ∷ k.Name ∷ k.Colon ∷ k.OpenBracket ∷ k.Int ∷ k.CloseBracket ∷ k.CloseParen ∷ k.CloseBrace ∷ []) ≡ Some 5
unfolding whole take many many_within some location_of v.name v.variable v.int_value v.float_value v.string_value v.boolean_value v.null_value v.enum_value v.list_value v.object_field v.object_value v.any_value v.value v.default_value v.argument v.arguments v.directive v.directives v.any_type v.type o.operation_type o.alias_and_name o.field o.fragment_name o.type_condition o.dotted o.selection o.selection_list o.selection_set o.selections o.variable_definition o.variable_definitions o.operation_definition o.fragment_definition y.directive_location y.directive_locations y.description y.root_operation_type_definition y.roots y.schema_definition y.scalar_type y.implements_interfaces y.input_value_definition y.arguments_definition y.field_definition y.fields_definition y.object_type y.interface_type y.union_member_types y.union_type y.enum_value_definition y.enum_values_definition y.enum_type y.input_fields_definition y.input_object_type y.type_definition y.directive_definition y.schema_extension d.undescribed d.type_system_definition d.extension d.type_system_extension d.definition d.document
row20 = refl

-- an operation after a type
row21 : document_left 1 (k.Type ∷ k.Name ∷ k.OpenBrace ∷ k.Name ∷ k.Colon ∷ k.Name ∷ k.CloseBrace ∷ k.OpenBrace ∷ k.Name ∷ k.CloseBrace ∷ []) ≡ None
unfolding whole take many many_within some location_of v.name v.variable v.int_value v.float_value v.string_value v.boolean_value v.null_value v.enum_value v.list_value v.object_field v.object_value v.any_value v.value v.default_value v.argument v.arguments v.directive v.directives v.any_type v.type o.operation_type o.alias_and_name o.field o.fragment_name o.type_condition o.dotted o.selection o.selection_list o.selection_set o.selections o.variable_definition o.variable_definitions o.operation_definition o.fragment_definition y.directive_location y.directive_locations y.description y.root_operation_type_definition y.roots y.schema_definition y.scalar_type y.implements_interfaces y.input_value_definition y.arguments_definition y.field_definition y.fields_definition y.object_type y.interface_type y.union_member_types y.union_type y.enum_value_definition y.enum_values_definition y.enum_type y.input_fields_definition y.input_object_type y.type_definition y.directive_definition y.schema_extension d.undescribed d.type_system_definition d.extension d.type_system_extension d.definition d.document
row21 = refl

-- a type
type_row0 : type_left 3 (k.OpenBracket ∷ k.OpenBracket ∷ k.OpenBracket ∷ k.Name ∷ k.CloseBracket ∷ k.Bang ∷ k.CloseBracket ∷ k.CloseBracket ∷ k.Bang ∷ []) ≡ None
unfolding whole take v.name v.any_type v.type
type_row0 = refl

-- a type that ends early
type_row1 : type_left 1 (k.OpenBracket ∷ k.Name ∷ []) ≡ Some 0
unfolding whole take v.name v.any_type v.type
type_row1 = refl

-- two marks
type_row2 : type_left 0 (k.Name ∷ k.Bang ∷ k.Bang ∷ []) ≡ Some 1
unfolding whole take v.name v.any_type v.type
type_row2 = refl

-- one list too many
type_row3 : type_left 1 (k.OpenBracket ∷ k.OpenBracket ∷ k.Name ∷ k.CloseBracket ∷ k.CloseBracket ∷ []) ≡ Some 4
unfolding whole take v.name v.any_type v.type
type_row3 = refl
