use Rattle.std.proofs.Common.{◌≡◌, ◌++◌, map, take, codes, string_bytes}
use Rattle.std.specs.List.{flat_map}
use Rattle.verdict_definitions.specs.in_faults.DetailsView.{details_at}
use Rattle.verdict_definitions.specs.Answer.{fault_line}
use Rattle.checker_calls.proofs.answer.refused.Given as goal

abbrev pub invariant-loop-place : goal.invariant-loop-place
invariant-loop-place l = string_bytes l.text ≡ codes "refused\n" ++ flat_map fault_line (map details_at (take l.place-index l.place-items))
