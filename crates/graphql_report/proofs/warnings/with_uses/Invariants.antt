use Rattle.std.proofs.Common.{◌≡◌, ◌++◌, map, take}
use Rattle.rule_warnings.specs.Views.{use_tree}
use Rattle.graphql_report.specs.Warnings.{about_use}
use Rattle.graphql_report.specs.WarningViews.{told_of}
use Rattle.graphql_report.proofs.warnings.with_uses.Given as goal

abbrev pub invariant-loop-one : goal.invariant-loop-one
invariant-loop-one l = told_of l.told ≡ told_of l.fn.told ++ map about_use (map use_tree (take l.one-index l.uses))
