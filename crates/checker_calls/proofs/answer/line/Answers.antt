use Rattle.std.proofs.Common.{◌++◌, codes, string_bytes, ap, ◌∙◌}
use Rattle.verdict_definitions.specs.in_faults.DetailsMessages.{details_message}
use Rattle.verdict_definitions.specs.in_faults.DetailsView.{details_of}
use Rattle.checker_calls.proofs.AnswerBytes.{four_texts, made_as}
use Rattle.checker_calls.proofs.answer.line.Goals as goal

pub returns : goal.returns
returns c =
    let told = details_message (details_of c.args.details.now) in
    made_as c.format.result _ _ (four_texts (string_bytes c.in_ok-place.place) (codes ": ") told (codes "\n")
    ∙ ap (λ place. place ++ codes ": " ++ told ++ codes "\n") c.in_ok-place.ensures) c.format.ensures.ok
