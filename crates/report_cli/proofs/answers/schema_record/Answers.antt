use Rattle.std.proofs.Common.{◌++◌, codes, decimal, map, string_bytes, ap, ◌∙◌}
use Rattle.std.specs.Prelude.{◌==◌, if◌then◌else◌}
use Rattle.report_cli.specs.Answers.{judged_text, paths_text, schema_text}
use Rattle.report_cli.proofs.Texts.{schema_made, made_as}
use Rattle.report_cli.proofs.answers.schema_record.Goals as goal

pub returns : goal.returns
returns c =
    let accepted = if c.args.faults == 0 then codes "true" else codes "false" in
    let paths = string_bytes c.in_ok-paths.paths in
    let warnings = string_bytes c.in_ok-warnings.warnings in
    made_as c.format.result
    (codes "{\"schema\":[" ++ (paths ++ (codes "],\"accepted\":" ++ (accepted ++ (codes ",\"faults\":" ++ (decimal c.args.faults ++ (warnings ++ codes "}\n")))))))
    (schema_text (map string_bytes c.args.paths.now) c.args.faults c.args.warnings)
    (schema_made paths accepted c.args.faults warnings
    ∙ ap (λ p. codes "{\"schema\":[" ++ p ++ codes "]" ++ judged_text c.args.faults ++ warnings ++ codes "}\n") c.in_ok-paths.ensures
    ∙ ap (λ w. codes "{\"schema\":[" ++ paths_text (map string_bytes c.args.paths.now) ++ codes "]" ++ judged_text c.args.faults ++ w ++ codes "}\n") c.in_ok-warnings.ensures)
    c.format.ensures.ok
