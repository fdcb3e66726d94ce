use Rattle.std.proofs.Common.{rules}
use Rattle.read_operations.specs.Meanings.{in_file}
use Rattle.read_types.proofs.Heads.{directive_is}
use Rattle.read_types.proofs.directive.directive_definition.Goals as goal

pub returns-in_err-directive_marks : goal.returns-in_err-directive_marks
returns-in_err-directive_marks c = rw (directive_is (in_file c.args.file) c.args.depth c.args.tokens.now) (search rules)

pub returns-in_err-name : goal.returns-in_err-name
returns-in_err-name c = rw (directive_is (in_file c.args.file) c.args.depth c.args.tokens.now) (search rules)

pub returns-in_err-arguments : goal.returns-in_err-arguments
returns-in_err-arguments c = rw (directive_is (in_file c.args.file) c.args.depth c.args.tokens.now) (search rules)

pub returns : goal.returns
returns c = rw (directive_is (in_file c.args.file) c.args.depth c.args.tokens.now) (search rules)
