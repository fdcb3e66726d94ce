use Rattle.std.proofs.Common.{◌≡◌, ◌++◌, codes, flat_map, map, take, string_bytes}
use Rattle.json.specs.Print.{quoted}
use Rattle.report_cli.proofs.answers.quoted_paths.Given as goal

abbrev pub invariant-loop-path : goal.invariant-loop-path
invariant-loop-path l = string_bytes l.list ≡ string_bytes l.initial.list ++ flat_map (λ path. codes "," ++ quoted path) (map string_bytes (take l.path-index l.others))
