use Rattle.std.proofs.Common.{◌≡◌, ℕ, List, map, take}
use Rattle.report_cli.specs.Folding.{cause_text, count_of, noted, printed_up_to}
use Rattle.report_cli.proofs.folding.folded_causes.Given as goal

abbrev pub invariant-loop-index : goal.invariant-loop-index
invariant-loop-index l =
    ((q : List ℕ) → noted l.seen q ≡ count_of q (map cause_text (take l.index l.causes)))
    × (l.printed.items ≡ printed_up_to (map cause_text l.causes) l.index)
