use Rattle.std.proofs.Common.{◌≡◌, ◌++◌, map, take, codes}
use Rattle.std.specs.List.{flat_map}
use Rattle.verdict_definitions.specs.in_faults.DetailsView.{details_at}
use Rattle.verdict_definitions.specs.Answer.{fault_line}
use Rattle.checker_calls.specs.Parts.{parts_bytes, AreSound}
use Rattle.checker_calls.proofs.answer.refused_parts.Given as goal

-- the lines so far
abbrev pub invariant-loop-place : goal.invariant-loop-place
invariant-loop-place l = record {
  sound : AreSound l.parts;
  bytes : parts_bytes l.parts ≡ codes "refused\n" ++ flat_map fault_line (map details_at (take l.place-index l.place-items));
}
