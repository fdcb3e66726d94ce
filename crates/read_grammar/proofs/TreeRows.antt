-- Rows with whole trees, where a place is where something begins and where it ends.
use Rattle.std.proofs.Common.{◌≡◌, ℕ, List, [], ◌∷◌, Ok, refl, Some, None, true, false}
use Rattle.std.specs.Prelude.{codes}
use Rattle.graphql_names.specs.Placed.{Placed, Text}
use Rattle.graphql_ast.specs.in_literals.ValueTree.{IntTree, ListTree, item_then, no_items, VariableTree}
use Rattle.graphql_ast.specs.in_literals.TypeTree.{NonNullNamedTree}
use Rattle.graphql_ast.specs.in_operations.SelectionTree.{FieldTree, selection_then, no_selections}
use Rattle.graphql_ast.specs.in_directives.declared.operation_type.OperationType.TheVariants.{Query}
use Rattle.graphql_ast.specs.in_directives.declared.directive_location.DirectiveLocation.TheVariants as location
use Rattle.graphql_ast.specs.in_definitions.DefinitionTree.{DefinitionTree, Operation, ScalarType, DirectiveDefinition, ExtendUnion, ObjectType}
use Rattle.read_tokens.specs.declared.terminal.Terminal.{Terminal}
use Rattle.read_tokens.specs.declared.terminal.Terminal.TheVariants as k
use Rattle.read_tokens.specs.Input.{Token}
use Rattle.read_grammar.specs.Meaning.{Meaning, start}
use Rattle.read_grammar.specs.Grammar.{Derives}
use Rattle.read_grammar.specs.Locations.{location_of}
use Rattle.read_grammar.specs.Reading.{whole, take, many, many_within, some}
use Rattle.read_grammar.specs.ValueReading as v
use Rattle.read_grammar.specs.OperationReading as o
use Rattle.read_grammar.specs.TypeSystemReading as y
use Rattle.read_grammar.specs.DocumentReading as d
use Rattle.read_grammar.proofs.Laws.{document_found}

abbrev Span : Type 0
Span = ℕ × ℕ

abbrev spans : Meaning Span
spans = record { place = λ begin end. (begin, end); string = λ t. t.text }

abbrev cut : Terminal → List ℕ → ℕ → Token
cut kind text offset = record { kind = kind; text = text; offset = offset }

abbrev named : List ℕ → ℕ → ℕ → Text Span
named text begin end = record { it = text; place = (begin, end) }

abbrev at : {A : Type 0} → A → ℕ → ℕ → Placed Span A
at x begin end = record { it = x; place = (begin, end) }

abbrev Tree : Type 0
Tree = List (DefinitionTree Span)

abbrev reads : List Token → Tree → ℕ → Type 0
reads tokens tree last = whole (d.document spans) 9 (start tokens) ≡ Ok (tree, record (start []) { last = last })

is_derived : (tokens : List Token) (tree : Tree) (last : ℕ) → reads tokens tree last → Derives spans tokens tree
is_derived tokens tree last h = document_found spans 9 (start tokens) refl tree (record (start []) { last = last }) h

-- `{ a b: on(x: [$v 1]) }`
abbrev query_tokens : List Token
query_tokens = cut k.OpenBrace (codes "{") 0 ∷ cut k.Name (codes "a") 2 ∷ cut k.Name (codes "b") 4 ∷ cut k.Colon (codes ":") 5 ∷ cut k.On (codes "on") 7 ∷ cut k.OpenParen (codes "(") 9 ∷ cut k.Name (codes "x") 10 ∷ cut k.Colon (codes ":") 11 ∷ cut k.OpenBracket (codes "[") 13 ∷ cut k.Dollar (codes "$") 14 ∷ cut k.Name (codes "v") 15 ∷ cut k.Int (codes "1") 17 ∷ cut k.CloseBracket (codes "]") 18 ∷ cut k.CloseParen (codes ")") 19 ∷ cut k.CloseBrace (codes "}") 21 ∷ []

abbrev query_tree : Tree
query_tree = Operation (0, 22) (record {
  operation_type = Query;
  name = None;
  variables = [];
  directives = [];
  selections = selection_then (FieldTree (2, 3) (record { alias = None; name = named (codes "a") 2 3; arguments = []; directives = [] }) no_selections)
      (selection_then (FieldTree (4, 20) (record {
        alias = Some (named (codes "b") 4 5);
        name = named (codes "on") 7 9;
        arguments = at (record { name = named (codes "x") 10 11; value = at (ListTree (item_then (14, 16) (VariableTree (named (codes "v") 15 16)) (item_then (17, 18) (IntTree (codes "1")) no_items))) 13 19 }) 10 19 ∷ [];
        directives = [];
      }) no_selections) no_selections);
}) ∷ []

query_read : reads query_tokens query_tree 22
unfolding whole take many many_within some location_of v.name v.variable v.int_value v.float_value v.string_value v.boolean_value v.null_value v.enum_value v.list_value v.object_field v.object_value v.any_value v.value v.default_value v.argument v.arguments v.directive v.directives v.any_type v.type o.operation_type o.alias_and_name o.field o.fragment_name o.type_condition o.dotted o.selection o.selection_list o.selection_set o.selections o.variable_definition o.variable_definitions o.operation_definition o.fragment_definition y.directive_location y.directive_locations y.description y.root_operation_type_definition y.roots y.schema_definition y.scalar_type y.implements_interfaces y.input_value_definition y.arguments_definition y.field_definition y.fields_definition y.object_type y.interface_type y.union_member_types y.union_type y.enum_value_definition y.enum_values_definition y.enum_type y.input_fields_definition y.input_object_type y.type_definition y.directive_definition y.schema_extension d.undescribed d.type_system_definition d.extension d.type_system_extension d.definition d.document
query_read = refl

query_derived : Derives spans query_tokens query_tree
query_derived = is_derived query_tokens query_tree 22 query_read

-- `"d" scalar S @e directive @e repeatable on | QUERY | FIELD extend union U = | A`
abbrev types_tokens : List Token
types_tokens = cut k.String (codes "\"d\"") 0 ∷ cut k.Scalar (codes "scalar") 4 ∷ cut k.Name (codes "S") 11 ∷ cut k.At (codes "@") 13 ∷ cut k.Name (codes "e") 14 ∷ cut k.Directive (codes "directive") 16 ∷ cut k.At (codes "@") 26 ∷ cut k.Name (codes "e") 27 ∷ cut k.Repeatable (codes "repeatable") 29 ∷ cut k.On (codes "on") 40 ∷ cut k.Pipe (codes "|") 43 ∷ cut k.Location (codes "QUERY") 45 ∷ cut k.Pipe (codes "|") 51 ∷ cut k.Location (codes "FIELD") 53 ∷ cut k.Extend (codes "extend") 59 ∷ cut k.Union (codes "union") 66 ∷ cut k.Name (codes "U") 72 ∷ cut k.Equals (codes "=") 74 ∷ cut k.Pipe (codes "|") 76 ∷ cut k.Name (codes "A") 78 ∷ []

abbrev types_tree : Tree
types_tree =
    ScalarType (0, 15) (Some (named (codes "\"d\"") 0 3)) (record { name = named (codes "S") 11 12; directives = at (record { name = named (codes "e") 14 15; arguments = [] }) 13 15 ∷ [] })
    ∷ DirectiveDefinition (16, 58) (record { description = None; name = named (codes "e") 27 28; arguments = []; directives = []; repeatable = true; locations = location.Query ∷ location.Field ∷ [] })
    ∷ ExtendUnion (59, 79) (record { name = named (codes "U") 72 73; directives = []; members = named (codes "A") 78 79 ∷ [] })
    ∷ []

types_read : reads types_tokens types_tree 79
unfolding whole take many many_within some location_of v.name v.variable v.int_value v.float_value v.string_value v.boolean_value v.null_value v.enum_value v.list_value v.object_field v.object_value v.any_value v.value v.default_value v.argument v.arguments v.directive v.directives v.any_type v.type o.operation_type o.alias_and_name o.field o.fragment_name o.type_condition o.dotted o.selection o.selection_list o.selection_set o.selections o.variable_definition o.variable_definitions o.operation_definition o.fragment_definition y.directive_location y.directive_locations y.description y.root_operation_type_definition y.roots y.schema_definition y.scalar_type y.implements_interfaces y.input_value_definition y.arguments_definition y.field_definition y.fields_definition y.object_type y.interface_type y.union_member_types y.union_type y.enum_value_definition y.enum_values_definition y.enum_type y.input_fields_definition y.input_object_type y.type_definition y.directive_definition y.schema_extension d.undescribed d.type_system_definition d.extension d.type_system_extension d.definition d.document
types_read = refl

types_derived : Derives spans types_tokens types_tree
types_derived = is_derived types_tokens types_tree 79 types_read

-- `directive @f @e on FIELD`: its own directive, and not repeatable
abbrev directed_tokens : List Token
directed_tokens = cut k.Directive (codes "directive") 0 ∷ cut k.At (codes "@") 10 ∷ cut k.Name (codes "f") 11 ∷ cut k.At (codes "@") 13 ∷ cut k.Name (codes "e") 14 ∷ cut k.On (codes "on") 16 ∷ cut k.Location (codes "FIELD") 19 ∷ []

abbrev directed_tree : Tree
directed_tree =
    DirectiveDefinition (0, 24) (record {
      description = None;
      name = named (codes "f") 11 12;
      arguments = [];
      directives = at (record { name = named (codes "e") 14 15; arguments = [] }) 13 15 ∷ [];
      repeatable = false;
      locations = location.Field ∷ [];
    })
    ∷ []

directed_read : reads directed_tokens directed_tree 24
unfolding whole take many many_within some location_of v.name v.variable v.int_value v.float_value v.string_value v.boolean_value v.null_value v.enum_value v.list_value v.object_field v.object_value v.any_value v.value v.default_value v.argument v.arguments v.directive v.directives v.any_type v.type o.operation_type o.alias_and_name o.field o.fragment_name o.type_condition o.dotted o.selection o.selection_list o.selection_set o.selections o.variable_definition o.variable_definitions o.operation_definition o.fragment_definition y.directive_location y.directive_locations y.description y.root_operation_type_definition y.roots y.schema_definition y.scalar_type y.implements_interfaces y.input_value_definition y.arguments_definition y.field_definition y.fields_definition y.object_type y.interface_type y.union_member_types y.union_type y.enum_value_definition y.enum_values_definition y.enum_type y.input_fields_definition y.input_object_type y.type_definition y.directive_definition y.schema_extension d.undescribed d.type_system_definition d.extension d.type_system_extension d.definition d.document
directed_read = refl

directed_derived : Derives spans directed_tokens directed_tree
directed_derived = is_derived directed_tokens directed_tree 24 directed_read

-- `type T { f(x: Int! = 1): T! }`
abbrev field_tokens : List Token
field_tokens = cut k.Type (codes "type") 0 ∷ cut k.Name (codes "T") 5 ∷ cut k.OpenBrace (codes "{") 7 ∷ cut k.Name (codes "f") 9 ∷ cut k.OpenParen (codes "(") 10 ∷ cut k.Name (codes "x") 11 ∷ cut k.Colon (codes ":") 12 ∷ cut k.Name (codes "Int") 14 ∷ cut k.Bang (codes "!") 17 ∷ cut k.Equals (codes "=") 19 ∷ cut k.Int (codes "1") 21 ∷ cut k.CloseParen (codes ")") 22 ∷ cut k.Colon (codes ":") 23 ∷ cut k.Name (codes "T") 25 ∷ cut k.Bang (codes "!") 26 ∷ cut k.CloseBrace (codes "}") 28 ∷ []

abbrev field_tree : Tree
field_tree = ObjectType (0, 29) None (record {
  name = named (codes "T") 5 6;
  interfaces = [];
  directives = [];
  fields = at (record {
    description = None;
    name = named (codes "f") 9 10;
    arguments = at (record { description = None; name = named (codes "x") 11 12; ty = at (NonNullNamedTree (named (codes "Int") 14 17)) 14 18; default_value = Some (at (IntTree (codes "1")) 21 22); directives = [] }) 11 22 ∷ [];
    ty = NonNullNamedTree (named (codes "T") 25 26);
    directives = [];
  }) 9 27 ∷ [];
}) ∷ []

field_read : reads field_tokens field_tree 29
unfolding whole take many many_within some location_of v.name v.variable v.int_value v.float_value v.string_value v.boolean_value v.null_value v.enum_value v.list_value v.object_field v.object_value v.any_value v.value v.default_value v.argument v.arguments v.directive v.directives v.any_type v.type o.operation_type o.alias_and_name o.field o.fragment_name o.type_condition o.dotted o.selection o.selection_list o.selection_set o.selections o.variable_definition o.variable_definitions o.operation_definition o.fragment_definition y.directive_location y.directive_locations y.description y.root_operation_type_definition y.roots y.schema_definition y.scalar_type y.implements_interfaces y.input_value_definition y.arguments_definition y.field_definition y.fields_definition y.object_type y.interface_type y.union_member_types y.union_type y.enum_value_definition y.enum_values_definition y.enum_type y.input_fields_definition y.input_object_type y.type_definition y.directive_definition y.schema_extension d.undescribed d.type_system_definition d.extension d.type_system_extension d.definition d.document
field_read = refl

field_derived : Derives spans field_tokens field_tree
field_derived = is_derived field_tokens field_tree 29 field_read
