-- Private: leads to `Says`. Which terminals begin a symbol.
use Rattle.std.specs.Prelude.{Bool}
use Rattle.read_tokens.specs.declared.terminal.Terminal.{Terminal}
use Rattle.read_grammar.specs.Kinds.{or, is_name, is_string, is_operation_type, is_int, is_float, is_dollar, is_spread, is_open_bracket, is_open_brace, is_fragment, is_extend, is_schema, is_scalar, is_type, is_interface, is_union, is_enum, is_input, is_directive}

abbrev pub begins_value : Terminal → Bool
begins_value = or is_dollar (or is_int (or is_float (or is_string (or is_name (or is_open_bracket is_open_brace)))))

abbrev pub begins_type : Terminal → Bool
begins_type = or is_name is_open_bracket

abbrev pub begins_selection : Terminal → Bool
begins_selection = or is_name is_spread

abbrev pub begins_described_name : Terminal → Bool
begins_described_name = or is_string is_name

abbrev pub begins_operation : Terminal → Bool
begins_operation = or is_open_brace is_operation_type

abbrev pub begins_type_definition : Terminal → Bool
begins_type_definition = or is_scalar (or is_type (or is_interface (or is_union (or is_enum is_input))))

abbrev pub begins_kind : Terminal → Bool
begins_kind = or is_schema begins_type_definition

abbrev pub begins_type_system : Terminal → Bool
begins_type_system = or is_string (or begins_kind is_directive)

abbrev pub begins_definition : Terminal → Bool
begins_definition = or begins_operation (or is_fragment (or begins_type_system is_extend))
