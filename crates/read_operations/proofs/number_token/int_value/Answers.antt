use Rattle.std.proofs.Common.{◌≡◌, true, ◌∙◌}
use Rattle.read_tokens.specs.Input.{next}
use Rattle.read_grammar.specs.Kinds.{next_is, is_int}
use Rattle.read_operations.specs.Meanings.{in_file}
use Rattle.read_operations.proofs.Leaves.{value_tree_int}
use Rattle.read_operations.proofs.Tokens.{int_taken}
use Rattle.read_operations.proofs.number_token.int_value.Goals as goal

pub returns : goal.returns
returns c =
    let goes : next_is is_int (next c.args.tokens.now) ≡ true = cc in
    rw (value_tree_int c.in_ok-new_parsed.field-0)
    (int_taken (in_file c.args.file) c.args.tokens.now c.skip-text.new.self c.in_ok-new_parsed.field-0.text goes c.skip-text.ensures.following (c.in_ok-new_parsed.ensures ∙ c.skip-text.ensures.text))
