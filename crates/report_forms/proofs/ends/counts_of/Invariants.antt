use Rattle.std.proofs.Common.{◌≡◌, ◌*◌}
use Rattle.report_forms.specs.Ends.{ends_character, how_many}
use Rattle.report_forms.specs.Starts.{counts_up_to}
use Rattle.report_forms.proofs.ends.counts_of.Given as goal

abbrev pub invariant-loop-piece : goal.invariant-loop-piece
invariant-loop-piece l = record { counts : l.counts.items ≡ counts_up_to l.text l.piece; count : l.count ≡ how_many (ends_character l.text) 0 (l.piece * 64) }
