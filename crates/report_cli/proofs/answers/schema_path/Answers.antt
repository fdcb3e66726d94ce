use Rattle.std.proofs.Common.{◌++◌, codes, decimal}
use Rattle.report_cli.specs.Answers.{schema_path}
use Rattle.report_cli.proofs.Texts.{three, made_as}
use Rattle.report_cli.proofs.answers.schema_path.Goals as goal

pub returns : goal.returns
returns c =
    made_as c.format.result (codes "schema[" ++ (decimal c.args.index ++ codes "]")) (schema_path c.args.index) (three (codes "schema[") (decimal c.args.index) (codes "]"))
    c.format.ensures.ok
