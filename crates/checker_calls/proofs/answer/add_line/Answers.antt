use Rattle.std.proofs.Common.{◌++◌, codes, string_bytes, ap, subst, ◌∙◌}
use Rattle.verdict_definitions.specs.in_faults.DetailsMessages.{details_message}
use Rattle.verdict_definitions.specs.in_faults.DetailsView.{details_of}
use Rattle.checker_calls.specs.Parts.{AddsBytes}
use Rattle.checker_calls.proofs.AnswerBytes.{four_texts}
use Rattle.checker_calls.proofs.InParts.{adds_written}
use Rattle.checker_calls.proofs.answer.add_line.Goals as goal

pub returns-in-Ok : goal.returns-in-Ok
returns-in-Ok c =
    let told = details_message (details_of c.args.details.now) in
    subst (λ line. AddsBytes c.args.parts.now line c.write.new.self)
    (four_texts (string_bytes c.in_ok-place.place) (codes ": ") told (codes "\n") ∙ ap (λ place. place ++ codes ": " ++ told ++ codes "\n") c.in_ok-place.ensures)
    (adds_written _ _ _ c.in-Ok.ensures.writes)
