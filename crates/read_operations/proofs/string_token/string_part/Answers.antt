use Rattle.std.proofs.Common.{◌≡◌, ℕ, List, true, false, ap, sym, ◌∙◌}
use Rattle.std.specs.Prelude.{slice_range}
use Rattle.std.specs.String.{string_bytes}
use Rattle.graphql_names.specs.TextPart.{part_bytes}
use Rattle.read_tokens.specs.Blocks.{block_value}
use Rattle.read_tokens.specs.Input.{next}
use Rattle.read_tokens.specs.Strings.{string_value}
use Rattle.read_tokens.specs.declared.terminal.Terminal.TheVariants.{String}
use Rattle.read_grammar.specs.Kinds.{is, next_is}
use Rattle.read_operations.proofs.Tokens.{is_block_string, quoted_taken, block_taken, string_refused}
use Rattle.read_operations.proofs.string_token.string_part.Goals as goal

pub returns-in-Some : goal.returns-in-Some
returns-in-Some c =
    let goes : next_is (is String) (next c.args.tokens.now) ≡ true = cc in
    let whole = c.in_ok-part.ensures ∙ sym c.skip-text.ensures.text in
    let bytes = c.narrowed.ensures ∙ ap (λ (text : List ℕ). slice_range text c.in-Some.start c.in-Some.end) whole ∙ c.in-Some.ensures.same ∙ ap string_value c.skip-text.ensures.text in
    quoted_taken c.args.tokens.now c.skip-text.new.self (part_bytes c.narrowed.result) goes c.skip-text.ensures.following bytes

pub returns-in_ok-string_value-in-None : goal.returns-in_ok-string_value-in-None
returns-in_ok-string_value-in-None c =
    let goes : next_is (is String) (next c.args.tokens.now) ≡ true = cc in
    quoted_taken c.args.tokens.now c.skip-text.new.self (string_bytes c.in_ok-string_value-in-None.field-0) goes c.skip-text.ensures.following (c.in_ok-string_value-in-None.ensures ∙ ap string_value c.skip-text.ensures.text)

pub returns-in-Some-plain_block : goal.returns-in-Some-plain_block
returns-in-Some-plain_block c =
    let goes : next_is is_block_string (next c.args.tokens.now) ≡ true = cc in
    let whole = c.in_ok-part-2.ensures ∙ sym c.skip-text-then-next_is-2.ensures.text in
    let bytes = c.narrowed-in-Some-plain_block.ensures ∙ ap (λ (text : List ℕ). slice_range text c.in-Some-plain_block.start c.in-Some-plain_block.end) whole ∙ c.in-Some-plain_block.ensures.same ∙ ap block_value c.skip-text-then-next_is-2.ensures.text in
    block_taken c.args.tokens.now c.skip-text-then-next_is-2.new.self (part_bytes c.narrowed-in-Some-plain_block.result) goes c.skip-text-then-next_is-2.ensures.following bytes

pub returns-in_ok-block_value-in-None-plain_block : goal.returns-in_ok-block_value-in-None-plain_block
returns-in_ok-block_value-in-None-plain_block c =
    let goes : next_is is_block_string (next c.args.tokens.now) ≡ true = cc in
    block_taken c.args.tokens.now c.skip-text-then-next_is-2.new.self (string_bytes c.in_ok-block_value-in-None-plain_block.field-0) goes c.skip-text-then-next_is-2.ensures.following (c.in_ok-block_value-in-None-plain_block.ensures ∙ ap block_value c.skip-text-then-next_is-2.ensures.text)

pub returns : goal.returns
returns c =
    let quoted : next_is (is String) (next c.args.tokens.now) ≡ false = cc in
    let block : next_is is_block_string (next c.args.tokens.now) ≡ false = cc in
    λ other. string_refused c.args.tokens.now quoted block
