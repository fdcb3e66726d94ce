use Rattle.std.proofs.Common.{◌++◌, codes, decimal}
use Rattle.report_cli.specs.Answers.{warnings_members}
use Rattle.report_cli.proofs.Texts.{four, made_as}
use Rattle.report_cli.proofs.answers.warnings_members.Goals as goal

pub returns : goal.returns
returns c =
    let warnings = c.args.warnings.now in
    made_as c.format.result (codes ",\"warnings\":[" ++ (warnings ++ (codes "],\"left_out\":" ++ decimal c.args.left_out))) (warnings_members warnings c.args.left_out)
    (four (codes ",\"warnings\":[") warnings (codes "],\"left_out\":") (decimal c.args.left_out)) c.format.ensures.ok
