use Rattle.std.proofs.Common.{rules}
use Rattle.read_operations.specs.Meanings.{in_file}
use Rattle.read_types.proofs.Heads.{input_value_is}
use Rattle.read_types.proofs.input_value_list.input_value_definition.Goals as goal

pub returns-in_err-description : goal.returns-in_err-description
returns-in_err-description c = rw (input_value_is (in_file c.args.file) c.args.depth c.args.tokens.now) (search rules)

pub returns-in_err-ty : goal.returns-in_err-ty
returns-in_err-ty c = rw (input_value_is (in_file c.args.file) c.args.depth c.args.tokens.now) (search rules)

pub returns : goal.returns
returns c = rw (input_value_is (in_file c.args.file) c.args.depth c.args.tokens.now) (search rules)
