use Rattle.std.proofs.Common.{◌++◌, codes, ap, ◌∙◌, if◌then◌else◌}
use Rattle.std.specs.Fmt.{decimal}
use Rattle.checker_calls.proofs.AnswerBytes.{three_texts, made_as}
use Rattle.checker_calls.proofs.answer.span_line.Goals as goal

pub returns : goal.returns
returns c =
    let number = decimal c.args.span.file_id.0 in
    let offset = decimal c.args.span.offset in
    made_as c.format.result _ _ (three_texts number (codes ":") offset
    ∙ ap (λ b. if b then codes "-" else number ++ codes ":" ++ offset) c.if-eq.ensures) c.format.ensures.ok
