use Rattle.std.proofs.Common.{◌≡◌, map, string_bytes}
use Rattle.report_cli.specs.Answers.{schema_paths_before}
use Rattle.report_cli.proofs.answers.schema_paths.Given as goal

abbrev pub invariant-loop-index : goal.invariant-loop-index
invariant-loop-index l = map string_bytes l.paths.items ≡ schema_paths_before l.index
