use Rattle.std.proofs.Common.{◌++◌, codes, decimal}
use Rattle.report_cli.specs.Answers.{schema_refused_text}
use Rattle.report_cli.proofs.Texts.{schema_refused_made, made_as}
use Rattle.report_cli.proofs.answers.schema_refused_line.Goals as goal

pub returns : goal.returns
returns c =
    made_as c.format.result
    (codes "{\"id\":" ++ (c.args.id.now ++ (codes ",\"schema\":\"refused\",\"faults\":[" ++ (c.args.faults.now ++ (codes "],\"left_out\":" ++ (decimal c.args.left_out ++ codes "}\n"))))))
    (schema_refused_text c.args.id.now c.args.faults.now c.args.left_out) (schema_refused_made c.args.id.now c.args.faults.now c.args.left_out) c.format.ensures.ok
