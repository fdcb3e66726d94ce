use Rattle.std.proofs.Common.{◌≡◌, true, false, rules}
use Rattle.read_tokens.specs.Input.{next}
use Rattle.read_grammar.specs.Kinds.{next_is, is_fragment_name}
use Rattle.read_grammar.specs.Meaning.{name_of}
use Rattle.read_grammar.specs.OperationReading as reading
use Rattle.read_grammar.proofs.Moves.{taken_no}
use Rattle.read_grammar.proofs.Words.{fragment_name_is}
use Rattle.read_operations.specs.Meanings.{in_file}
use Rattle.read_operations.proofs.condition.fragment_name.Goals as goal

pub returns-then-not-next_is_fragment_name : goal.returns-then-not-next_is_fragment_name
unfolding reading.fragment_name
returns-then-not-next_is_fragment_name c =
    let other : next_is is_fragment_name (next c.args.tokens.now) ≡ false = cc in
    λ e. taken_no (name_of (in_file c.args.file)) is_fragment_name c.args.tokens.now other

pub returns : goal.returns
returns c =
    let goes : next_is is_fragment_name (next c.args.tokens.now) ≡ true = cc in
    rw (fragment_name_is (in_file c.args.file) c.args.tokens.now goes) (search rules)
