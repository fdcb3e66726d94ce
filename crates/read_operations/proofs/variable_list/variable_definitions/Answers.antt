use Rattle.std.proofs.Common.{rules}
use Rattle.read_grammar.proofs.Opened.{variable_definitions_is}
use Rattle.read_operations.specs.Meanings.{in_file}
use Rattle.read_operations.proofs.variable_list.variable_definitions.Goals as goal

pub returns-in_err-open : goal.returns-in_err-open
returns-in_err-open c = rw (variable_definitions_is (in_file c.args.file) c.args.depth c.args.tokens.now) (search rules)

pub returns-in_err-found : goal.returns-in_err-found
returns-in_err-found c = rw (variable_definitions_is (in_file c.args.file) c.args.depth c.args.tokens.now) (search rules)

pub returns-in_err-expect : goal.returns-in_err-expect
returns-in_err-expect c = rw (variable_definitions_is (in_file c.args.file) c.args.depth c.args.tokens.now) (search rules)

pub returns : goal.returns
returns c = rw (variable_definitions_is (in_file c.args.file) c.args.depth c.args.tokens.now) (search rules)
