use Rattle.std.proofs.Common.{◌≡◌, ℕ, true, ap, ◌∙◌}
use Rattle.read_tokens.specs.Input.{next}
use Rattle.read_grammar.specs.Kinds.{next_is, is_name}
use Rattle.read_grammar.specs.Places.{place_in}
use Rattle.read_operations.proofs.Names.{name_taken}
use Rattle.read_operations.proofs.name_token.name.Goals as goal

pub returns : goal.returns
returns c =
    let yes : next_is is_name (next c.args.tokens.now) ≡ true = cc in
    name_taken c.args.file c.args.tokens.now c.skip.new.self c.with_location.result.text c.with_location.result.location yes c.skip.ensures.following
    (c.with_location.ensures.text ∙ c.from_part_unchecked.ensures.text ∙ c.in_ok-text.ensures)
    (c.with_location.ensures.location ∙ c.since-place.ensures.place ∙ ap (λ (b : ℕ). place_in c.args.file.0 b c.skip.new.self.last) c.begin-begin.ensures)
