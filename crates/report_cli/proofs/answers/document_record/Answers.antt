use Rattle.std.proofs.Common.{◌++◌, codes, decimal, string_bytes, ap, ◌∙◌}
use Rattle.std.specs.Prelude.{◌==◌, if◌then◌else◌}
use Rattle.json.specs.Print.{quoted}
use Rattle.report_cli.specs.Answers.{judged_text, document_text}
use Rattle.report_cli.proofs.Texts.{document_made, made_as}
use Rattle.report_cli.proofs.answers.document_record.Goals as goal

pub returns : goal.returns
returns c =
    let accepted = if c.args.faults == 0 then codes "true" else codes "false" in
    let path = string_bytes c.in_ok-path.path in
    let warnings = string_bytes c.in_ok-warnings.warnings in
    made_as c.format.result
    (codes "{\"document\":" ++ (path ++ (codes ",\"accepted\":" ++ (accepted ++ (codes ",\"faults\":" ++ (decimal c.args.faults ++ (warnings ++ codes "}\n")))))))
    (document_text c.args.path.now c.args.faults c.args.warnings)
    (document_made path accepted c.args.faults warnings
    ∙ ap (λ p. codes "{\"document\":" ++ p ++ judged_text c.args.faults ++ warnings ++ codes "}\n") c.in_ok-path.ensures
    ∙ ap (λ w. codes "{\"document\":" ++ quoted c.args.path.now ++ judged_text c.args.faults ++ w ++ codes "}\n") c.in_ok-warnings.ensures)
    c.format.ensures.ok
