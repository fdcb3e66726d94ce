use Rattle.std.proofs.Common.{◌≡◌, true, false}
use Rattle.read_tokens.specs.Input.{next}
use Rattle.read_grammar.specs.Kinds.{next_is, is_dollar, is_int, is_float, is_string, is_boolean, is_null, is_enum_value}
use Rattle.read_grammar.specs.Reading.{refuse}
use Rattle.read_grammar.proofs.Arms.{any_int, any_float, any_string, any_boolean, any_null, any_enum}
use Rattle.read_operations.specs.Meanings.{in_file}
use Rattle.read_operations.proofs.Arms.{any_dollar, any_refused}
use Rattle.read_operations.proofs.value_token.plain_value.Goals as goal

pub returns-then-next_is : goal.returns-then-next_is
returns-then-next_is c =
    let goes : next_is is_dollar (next c.args.tokens.now) ≡ true = cc in
    rw (any_dollar (in_file c.args.file) c.args.constant refuse refuse c.args.tokens.now goes) c.variable_value.ensures

pub returns-then-next_is-2 : goal.returns-then-next_is-2
returns-then-next_is-2 c =
    let goes : next_is is_int (next c.args.tokens.now) ≡ true = cc in
    rw (any_int (in_file c.args.file) c.args.constant refuse refuse c.args.tokens.now goes) c.int_value.ensures

pub returns-then-next_is-3 : goal.returns-then-next_is-3
returns-then-next_is-3 c =
    let goes : next_is is_float (next c.args.tokens.now) ≡ true = cc in
    rw (any_float (in_file c.args.file) c.args.constant refuse refuse c.args.tokens.now goes) c.float_value.ensures

pub returns-then-next_is_string : goal.returns-then-next_is_string
returns-then-next_is_string c =
    let goes : next_is is_string (next c.args.tokens.now) ≡ true = cc in
    rw (any_string (in_file c.args.file) c.args.constant refuse refuse c.args.tokens.now goes) c.string_value.ensures

pub returns-then-next_is_boolean : goal.returns-then-next_is_boolean
returns-then-next_is_boolean c =
    let goes : next_is is_boolean (next c.args.tokens.now) ≡ true = cc in
    rw (any_boolean (in_file c.args.file) c.args.constant refuse refuse c.args.tokens.now goes) c.boolean_value.ensures

pub returns-then-next_is-4 : goal.returns-then-next_is-4
returns-then-next_is-4 c =
    let goes : next_is is_null (next c.args.tokens.now) ≡ true = cc in
    rw (any_null (in_file c.args.file) c.args.constant refuse refuse c.args.tokens.now goes) c.null_value.ensures

pub returns-then-next_is_enum_value : goal.returns-then-next_is_enum_value
returns-then-next_is_enum_value c =
    let goes : next_is is_enum_value (next c.args.tokens.now) ≡ true = cc in
    rw (any_enum (in_file c.args.file) c.args.constant refuse refuse c.args.tokens.now goes) c.named_value.ensures

pub returns : goal.returns
returns c =
    let not_dollar : next_is is_dollar (next c.args.tokens.now) ≡ false = cc in
    let not_int : next_is is_int (next c.args.tokens.now) ≡ false = cc in
    let not_float : next_is is_float (next c.args.tokens.now) ≡ false = cc in
    let not_string : next_is is_string (next c.args.tokens.now) ≡ false = cc in
    let not_boolean : next_is is_boolean (next c.args.tokens.now) ≡ false = cc in
    let not_null : next_is is_null (next c.args.tokens.now) ≡ false = cc in
    let not_enum_value : next_is is_enum_value (next c.args.tokens.now) ≡ false = cc in
    λ other. any_refused (in_file c.args.file) c.args.constant c.args.tokens.now not_dollar not_int not_float not_string not_boolean not_null not_enum_value
