use Rattle.std.proofs.Common.{◌≡◌, rules}
use Rattle.read_operations.proofs.Leaves.{value_tree_string}
use Rattle.read_operations.proofs.Tokens.{string_value_is}
use Rattle.read_operations.proofs.string_token.string_value.Goals as goal

pub returns-in_err-string_text : goal.returns-in_err-string_text
returns-in_err-string_text c = rw (string_value_is c.args.file c.args.tokens.now) (search rules)

pub returns : goal.returns
returns c = rw (string_value_is c.args.file c.args.tokens.now, value_tree_string c.in_ok-string_text.field-0) (search rules)
