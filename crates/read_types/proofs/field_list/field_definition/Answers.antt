use Rattle.std.proofs.Common.{rules}
use Rattle.read_operations.specs.Meanings.{in_file}
use Rattle.read_types.proofs.Heads.{field_is}
use Rattle.read_types.proofs.field_list.field_definition.Goals as goal

pub returns-in_err-description : goal.returns-in_err-description
returns-in_err-description c = rw (field_is (in_file c.args.file) c.args.depth c.args.tokens.now) (search rules)

pub returns-in_err-arguments : goal.returns-in_err-arguments
returns-in_err-arguments c = rw (field_is (in_file c.args.file) c.args.depth c.args.tokens.now) (search rules)

pub returns : goal.returns
returns c = rw (field_is (in_file c.args.file) c.args.depth c.args.tokens.now) (search rules)
