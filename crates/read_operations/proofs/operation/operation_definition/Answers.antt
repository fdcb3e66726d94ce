use Rattle.std.proofs.Common.{◌≡◌, true, false}
use Rattle.read_tokens.specs.Input.{next}
use Rattle.read_grammar.specs.Kinds.{next_is, is_open_brace}
use Rattle.read_operations.specs.Meanings.{in_file}
use Rattle.read_operations.proofs.Operations.{operation_short, operation_full}
use Rattle.read_operations.proofs.operation.operation_definition.Goals as goal

pub returns-then-next_is : goal.returns-then-next_is
returns-then-next_is c =
    let goes : next_is is_open_brace (next c.args.tokens.now) ≡ true = cc in
    rw (operation_short (in_file c.args.file) c.args.depth c.args.tokens.now goes) c.short_operation.ensures

pub returns : goal.returns
returns c =
    let other : next_is is_open_brace (next c.args.tokens.now) ≡ false = cc in
    rw (operation_full (in_file c.args.file) c.args.depth c.args.tokens.now other) c.full_operation.ensures
