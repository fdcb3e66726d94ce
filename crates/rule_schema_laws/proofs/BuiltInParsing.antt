-- The text's tokens, read by the reference parser.
use Rattle.std.proofs.Common.{◌≡◌, List, [], ◌++◌, Bool, true, false, Ok, Err, refl}
use Rattle.read_operations.specs.in_definitions.DefinitionTree.{DefinitionTree, unplaced_document}
use Rattle.graphql_names.specs.Placed.{Place}
use Rattle.graphql_names.specs.declared.span.FileId.{FileId}
use Rattle.read_operations.specs.in_tokens.Input.{Token, Input}
use Rattle.read_operations.specs.in_tokens.Terminals.{words}
use Rattle.read_operations.specs.in_tokens.Bytes.{run_len, replaced}
use Rattle.read_operations.specs.in_tokens.Tokens.{ignored_at, string_at, token_at}
use Rattle.read_operations.specs.in_tokens.Lex.{piece_at, tokens_among}
use Rattle.read_operations.specs.in_tokens.Strings.{unicode_at, escape_at, part_len, part_at, quoted_len, string_value}
use Rattle.schema_built_in.specs.in_fold.BuiltIn.{built_in_directives, built_in_scalars, introspection_types}
use Rattle.read_operations.specs.in_grammar.Meaning.{start}
use Rattle.read_operations.specs.in_grammar.Locations.{location_of}
use Rattle.read_operations.specs.in_grammar.Reading.{Outcome, whole, take, many, many_within, some}
use Rattle.read_operations.specs.in_grammar.ValueReading as v
use Rattle.read_operations.specs.in_grammar.OperationReading as o
use Rattle.read_operations.specs.in_grammar.TypeSystemReading as y
use Rattle.read_operations.specs.in_grammar.DocumentReading as d
use Rattle.read_operations.specs.in_grammar.Places.{place_in}
use Rattle.read_operations.specs.Meanings.{in_file}
use Rattle.rule_schema_laws.specs.BuiltInText.{built_in_text}
use Rattle.rule_schema_laws.proofs.BuiltInPieces.{pieces}

abbrev pub Answer : Type 0
Answer = Outcome (List (DefinitionTree Place))

abbrev pub trees : Answer → List (DefinitionTree Place)
trees (Ok p) = p.0
trees (Err e) = []

abbrev pub following : Answer → Input
following (Ok p) = p.1
following (Err e) = e.1

abbrev pub is_read : Answer → Bool
is_read (Ok p) = true
is_read (Err e) = false

abbrev pub tokens : List Token
tokens = tokens_among pieces built_in_text 0

abbrev pub answer : FileId → Answer
answer file = whole (d.document (in_file file)) 2 (start tokens)

pub answer_read : (file : FileId) → is_read (answer file) ≡ true
unfolding piece_at ignored_at token_at run_len string_at quoted_len part_len words place_in whole take many many_within some location_of v.name v.variable v.int_value v.float_value v.string_value v.boolean_value v.null_value v.enum_value v.list_value v.object_field v.object_value v.any_value v.value v.default_value v.argument v.arguments v.directive v.directives v.any_type v.type o.operation_type o.alias_and_name o.field o.fragment_name o.type_condition o.dotted o.selection o.selection_list o.selection_set o.selections o.variable_definition o.variable_definitions o.operation_definition o.fragment_definition y.directive_location y.directive_locations y.description y.root_operation_type_definition y.roots y.schema_definition y.scalar_type y.implements_interfaces y.input_value_definition y.arguments_definition y.field_definition y.fields_definition y.object_type y.interface_type y.union_member_types y.union_type y.enum_value_definition y.enum_values_definition y.enum_type y.input_fields_definition y.input_object_type y.type_definition y.directive_definition y.schema_extension d.undescribed d.type_system_definition d.extension d.type_system_extension d.definition d.document
answer_read file = refl

pub same_trees : (file : FileId) → unplaced_document (trees (answer file)) ≡ unplaced_document (built_in_directives ++ (built_in_scalars ++ introspection_types))
unfolding piece_at ignored_at token_at run_len string_at quoted_len part_len escape_at unicode_at part_at replaced string_value words place_in whole take many many_within some location_of v.name v.variable v.int_value v.float_value v.string_value v.boolean_value v.null_value v.enum_value v.list_value v.object_field v.object_value v.any_value v.value v.default_value v.argument v.arguments v.directive v.directives v.any_type v.type o.operation_type o.alias_and_name o.field o.fragment_name o.type_condition o.dotted o.selection o.selection_list o.selection_set o.selections o.variable_definition o.variable_definitions o.operation_definition o.fragment_definition y.directive_location y.directive_locations y.description y.root_operation_type_definition y.roots y.schema_definition y.scalar_type y.implements_interfaces y.input_value_definition y.arguments_definition y.field_definition y.fields_definition y.object_type y.interface_type y.union_member_types y.union_type y.enum_value_definition y.enum_values_definition y.enum_type y.input_fields_definition y.input_object_type y.type_definition y.directive_definition y.schema_extension d.undescribed d.type_system_definition d.extension d.type_system_extension d.definition d.document
same_trees file = refl
