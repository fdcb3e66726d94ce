use Rattle.std.proofs.Common.{◌≡◌, true, false, rules}
use Rattle.read_tokens.specs.Input.{next}
use Rattle.read_grammar.specs.Kinds.{next_is, is_enum_value}
use Rattle.read_grammar.specs.Meaning.{name_of}
use Rattle.read_grammar.specs.ValueReading as reading
use Rattle.read_grammar.proofs.Moves.{taken_no}
use Rattle.read_grammar.proofs.Words.{enum_value_is}
use Rattle.read_operations.specs.Meanings.{in_file}
use Rattle.read_operations.proofs.value_token.enum_value.Goals as goal

pub returns-then-not-next_is_enum_value : goal.returns-then-not-next_is_enum_value
unfolding reading.enum_value
returns-then-not-next_is_enum_value c =
    let other : next_is is_enum_value (next c.args.tokens.now) ≡ false = cc in
    λ e. taken_no (name_of (in_file c.args.file)) is_enum_value c.args.tokens.now other

pub returns : goal.returns
returns c =
    let goes : next_is is_enum_value (next c.args.tokens.now) ≡ true = cc in
    rw (enum_value_is (in_file c.args.file) c.args.tokens.now goes) (search rules)
