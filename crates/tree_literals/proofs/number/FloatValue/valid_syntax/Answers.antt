use Rattle.std.proofs.Common.{ap, ◌∙◌, ◌&&◌}
use Rattle.tree_literals.specs.NumberSyntax.{without_minus, is_float_tail}
use Rattle.tree_literals.proofs.NumberLemmas.{float-text}
use Rattle.tree_literals.proofs.number.FloatValue.valid_syntax.Goals as goal

pub returns-then-is_natural : goal.returns-then-is_natural
returns-then-is_natural c =
    float-text c.args.text.now _ _ _ _ _ (c.without_minus-unsigned.ensures ∙ ap without_minus c.as_bytes.ensures.value) c.digits_len.ensures.count c.split_at.ensures.front c.split_at.ensures.back (c.is_float_tail.ensures ∙ ap (λ b. b && is_float_tail c.split_at.result.1.now) c.if-is_natural.ensures)

pub returns-else-is_natural : goal.returns-else-is_natural
returns-else-is_natural c =
    float-text c.args.text.now _ _ _ _ _ (c.without_minus-unsigned.ensures ∙ ap without_minus c.as_bytes.ensures.value) c.digits_len.ensures.count c.split_at.ensures.front c.split_at.ensures.back (c.if-is_natural.false ∙ ap (λ b. b && is_float_tail c.split_at.result.1.now) c.if-is_natural.ensures)
