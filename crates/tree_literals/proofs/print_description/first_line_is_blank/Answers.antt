use Rattle.std.proofs.Common.{lit<, ◌∙◌}
use Rattle.tree_literals.proofs.Lines.{first_line-only, first_line-split}
use Rattle.tree_literals.proofs.print_description.first_line_is_blank.Goals as goal

pub returns-in-None : goal.returns-in-None
returns-in-None c = c.is_blank.ensures ∙ first_line-only _ _ c.as_bytes.ensures.value (c.in-None.ensures.byte (lit< tt) (λ w o h. h))

pub returns-in-Some : goal.returns-in-Some
returns-in-Some c =
    let split = c.in-Some.ensures.byte (lit< tt) (λ w o h. h) in
    c.is_blank-in-Some.ensures ∙ first_line-split c.args.text.now c.as_bytes-in-Some.result.now (c.as_bytes-in-Some.ensures.value ∙ split.0)
