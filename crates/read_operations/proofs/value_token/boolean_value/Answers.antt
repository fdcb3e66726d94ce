use Rattle.std.proofs.Common.{◌≡◌, true, false, rules}
use Rattle.read_tokens.specs.Input.{next}
use Rattle.read_grammar.specs.Kinds.{next_is, is_true}
use Rattle.read_operations.specs.Meanings.{in_file}
use Rattle.read_operations.proofs.Arms.{boolean_true, boolean_false}
use Rattle.read_operations.proofs.Leaves.{value_tree_boolean}
use Rattle.read_operations.proofs.value_token.boolean_value.Goals as goal

pub returns-then-next_is : goal.returns-then-next_is
returns-then-next_is c =
    let goes : next_is is_true (next c.args.tokens.now) ≡ true = cc in
    rw (boolean_true (in_file c.args.file) c.args.tokens.now goes, value_tree_boolean true) (search rules)

pub returns-in_err-expect : goal.returns-in_err-expect
returns-in_err-expect c =
    let other : next_is is_true (next c.args.tokens.now) ≡ false = cc in
    rw (boolean_false (in_file c.args.file) c.args.tokens.now other) (search rules)

pub returns : goal.returns
returns c =
    let other : next_is is_true (next c.args.tokens.now) ≡ false = cc in
    rw (boolean_false (in_file c.args.file) c.args.tokens.now other, value_tree_boolean false) (search rules)
