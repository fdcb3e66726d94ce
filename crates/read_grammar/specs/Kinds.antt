-- Which terminals belong to which symbols of the grammar (GraphQL, October 2021, appendix B).
use Rattle.std.specs.Prelude.{Bool, true, false, if◌then◌else◌, Option, Some, None}
use denote.Enum.Bare.{sameb}
use Rattle.read_tokens.specs.contracts.terminal.Terminal.{the_type}
use Rattle.read_tokens.specs.declared.terminal.Terminal.{Terminal}
use Rattle.read_tokens.specs.declared.terminal.Terminal.TheVariants as k

-- the same terminal
abbrev pub is : Terminal → Terminal → Bool
is = sameb the_type

-- a terminal of one class or the other, and one of the first class but not of the second
abbrev pub or : (Terminal → Bool) → (Terminal → Bool) → Terminal → Bool
or f g kind = if f kind then true else g kind

abbrev pub but_not : (Terminal → Bool) → (Terminal → Bool) → Terminal → Bool
but_not f g kind = if g kind then false else f kind

-- whether there is a next token, and its terminal passes
abbrev pub next_is : (Terminal → Bool) → Option Terminal → Bool
next_is is None = false
next_is is (Some kind) = is kind

-- ---- single terminals

abbrev pub is_bang : Terminal → Bool
is_bang = is k.Bang

abbrev pub is_dollar : Terminal → Bool
is_dollar = is k.Dollar

abbrev pub is_ampersand : Terminal → Bool
is_ampersand = is k.Ampersand

abbrev pub is_open_paren : Terminal → Bool
is_open_paren = is k.OpenParen

abbrev pub is_close_paren : Terminal → Bool
is_close_paren = is k.CloseParen

abbrev pub is_spread : Terminal → Bool
is_spread = is k.Spread

abbrev pub is_colon : Terminal → Bool
is_colon = is k.Colon

abbrev pub is_equals : Terminal → Bool
is_equals = is k.Equals

abbrev pub is_at : Terminal → Bool
is_at = is k.At

abbrev pub is_open_bracket : Terminal → Bool
is_open_bracket = is k.OpenBracket

abbrev pub is_close_bracket : Terminal → Bool
is_close_bracket = is k.CloseBracket

abbrev pub is_open_brace : Terminal → Bool
is_open_brace = is k.OpenBrace

abbrev pub is_pipe : Terminal → Bool
is_pipe = is k.Pipe

abbrev pub is_close_brace : Terminal → Bool
is_close_brace = is k.CloseBrace

abbrev pub is_int : Terminal → Bool
is_int = is k.Int

abbrev pub is_float : Terminal → Bool
is_float = is k.Float

abbrev pub is_query : Terminal → Bool
is_query = is k.Query

abbrev pub is_mutation : Terminal → Bool
is_mutation = is k.Mutation

abbrev pub is_subscription : Terminal → Bool
is_subscription = is k.Subscription

abbrev pub is_fragment : Terminal → Bool
is_fragment = is k.Fragment

abbrev pub is_on : Terminal → Bool
is_on = is k.On

abbrev pub is_true : Terminal → Bool
is_true = is k.True

abbrev pub is_false : Terminal → Bool
is_false = is k.False

abbrev pub is_null : Terminal → Bool
is_null = is k.Null

abbrev pub is_extend : Terminal → Bool
is_extend = is k.Extend

abbrev pub is_schema : Terminal → Bool
is_schema = is k.Schema

abbrev pub is_scalar : Terminal → Bool
is_scalar = is k.Scalar

abbrev pub is_type : Terminal → Bool
is_type = is k.Type

abbrev pub is_interface : Terminal → Bool
is_interface = is k.Interface

abbrev pub is_union : Terminal → Bool
is_union = is k.Union

abbrev pub is_enum : Terminal → Bool
is_enum = is k.Enum

abbrev pub is_input : Terminal → Bool
is_input = is k.Input

abbrev pub is_directive : Terminal → Bool
is_directive = is k.Directive

abbrev pub is_implements : Terminal → Bool
is_implements = is k.Implements

abbrev pub is_repeatable : Terminal → Bool
is_repeatable = is k.Repeatable

abbrev pub is_location : Terminal → Bool
is_location = is k.Location

-- ---- classes

-- Name: any name, also the keywords
abbrev pub is_name : Terminal → Bool
is_name k.Name = true
is_name k.Query = true
is_name k.Mutation = true
is_name k.Subscription = true
is_name k.Fragment = true
is_name k.On = true
is_name k.True = true
is_name k.False = true
is_name k.Null = true
is_name k.Extend = true
is_name k.Schema = true
is_name k.Scalar = true
is_name k.Type = true
is_name k.Interface = true
is_name k.Union = true
is_name k.Enum = true
is_name k.Input = true
is_name k.Directive = true
is_name k.Implements = true
is_name k.Repeatable = true
is_name k.Location = true
is_name _ = false

-- FragmentName: Name but not `on`
abbrev pub is_fragment_name : Terminal → Bool
is_fragment_name = but_not is_name is_on

-- BooleanValue: `true`, `false`
abbrev pub is_boolean : Terminal → Bool
is_boolean = or is_true is_false

-- EnumValue: Name but not `true`, `false` or `null`
abbrev pub is_enum_value : Terminal → Bool
is_enum_value = but_not is_name (or is_boolean is_null)

-- StringValue: quoted, or a block
abbrev pub is_string : Terminal → Bool
is_string = or (is k.String) (is k.BlockString)

-- OperationType: `query`, `mutation`, `subscription`
abbrev pub is_operation_type : Terminal → Bool
is_operation_type = or is_query (or is_mutation is_subscription)
