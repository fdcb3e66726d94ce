use Rattle.std.proofs.Common.{◌≡◌, true, false, ap, ◌∙◌}
use Rattle.std.specs.String.{string_bytes}
use Rattle.read_tokens.specs.Blocks.{block_value}
use Rattle.read_tokens.specs.Input.{next}
use Rattle.read_tokens.specs.Strings.{string_value}
use Rattle.read_tokens.specs.declared.terminal.Terminal.TheVariants.{String}
use Rattle.read_grammar.specs.Kinds.{is, next_is}
use Rattle.read_operations.proofs.Tokens.{is_block_string, quoted_taken, block_taken, string_refused}
use Rattle.read_operations.proofs.string_token.string_text.Goals as goal

pub returns-then-next_is : goal.returns-then-next_is
returns-then-next_is c =
    let goes : next_is (is String) (next c.args.tokens.now) ≡ true = cc in
    quoted_taken c.args.tokens.now c.skip-text.new.self (string_bytes c.in_ok-string_value.field-0) goes c.skip-text.ensures.following (c.in_ok-string_value.ensures ∙ ap string_value c.skip-text.ensures.text)

pub returns-then-next_is-2 : goal.returns-then-next_is-2
returns-then-next_is-2 c =
    let goes : next_is is_block_string (next c.args.tokens.now) ≡ true = cc in
    block_taken c.args.tokens.now c.skip-text-then-next_is-2.new.self (string_bytes c.in_ok-block_value.field-0) goes c.skip-text-then-next_is-2.ensures.following (c.in_ok-block_value.ensures ∙ ap block_value c.skip-text-then-next_is-2.ensures.text)

pub returns : goal.returns
returns c =
    let quoted : next_is (is String) (next c.args.tokens.now) ≡ false = cc in
    let block : next_is is_block_string (next c.args.tokens.now) ≡ false = cc in
    λ other. string_refused c.args.tokens.now quoted block
