use Rattle.std.proofs.Common.{◌++◌, codes}
use Rattle.report_cli.specs.Answers.{schema_accepted_text}
use Rattle.report_cli.proofs.Texts.{schema_accepted_made, made_as}
use Rattle.report_cli.proofs.answers.schema_accepted_line.Goals as goal

pub returns : goal.returns
returns c =
    let id = c.args.id.now in
    let members = c.args.members.now in
    made_as c.format.result (codes "{\"id\":" ++ (id ++ (codes ",\"schema\":\"accepted\"" ++ (members ++ codes "}\n")))) (schema_accepted_text id members) (schema_accepted_made id members)
    c.format.ensures.ok
