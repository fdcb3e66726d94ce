use Rattle.std.proofs.Common.{ap, ◌∙◌, ◌&&◌, ◌||◌}
use Rattle.tree_literals.specs.NumberSyntax.{is_nothing, is_exponent}
use Rattle.tree_literals.proofs.NumberLemmas.{fraction-end, nothing-length}
use Rattle.tree_literals.proofs.number_parts.is_fraction_end.Goals as goal

pub returns-else-is_empty : goal.returns-else-is_empty
returns-else-is_empty c =
    fraction-end _ _ _ _ _ c.digits_len.ensures.count c.split_at.ensures.front c.split_at.ensures.back (c.is_exponent.ensures ∙ ap (λ b. b || is_exponent c.split_at.result.1.now) (nothing-length _ c.if-is_empty.ensures) ∙ ap (λ b. b && (is_nothing c.split_at.result.1.now || is_exponent c.split_at.result.1.now)) c.if-is_digits.ensures)

pub returns-else-is_digits : goal.returns-else-is_digits
returns-else-is_digits c =
    fraction-end _ _ _ _ _ c.digits_len.ensures.count c.split_at.ensures.front c.split_at.ensures.back (c.if-is_digits.false ∙ ap (λ b. b && (is_nothing c.split_at.result.1.now || is_exponent c.split_at.result.1.now)) c.if-is_digits.ensures)
