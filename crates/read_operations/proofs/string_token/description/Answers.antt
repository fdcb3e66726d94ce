use Rattle.std.proofs.Common.{◌≡◌, rules}
use Rattle.read_operations.proofs.Tokens.{description_is}
use Rattle.read_operations.proofs.string_token.description.Goals as goal

pub returns-in_err-text : goal.returns-in_err-text
returns-in_err-text c = rw (description_is c.args.file c.args.tokens.now) (search rules)

pub returns-in-Part : goal.returns-in-Part
returns-in-Part c = rw (description_is c.args.file c.args.tokens.now) (search rules)

pub returns-in_ok-from_string_parsed-in-Own : goal.returns-in_ok-from_string_parsed-in-Own
returns-in_ok-from_string_parsed-in-Own c = rw (description_is c.args.file c.args.tokens.now) (search rules)
