use Rattle.std.proofs.Common.{◌≡◌, ℕ, List, map, take}
use Rattle.report_cli.specs.Folding.{cause_text, count_of, noted}
use Rattle.report_cli.proofs.folding.totals.Given as goal

abbrev pub invariant-loop-cause : goal.invariant-loop-cause
invariant-loop-cause l = (q : List ℕ) → noted l.totals q ≡ count_of q (map cause_text (take l.cause-index l.causes))
