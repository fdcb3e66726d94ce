use Rattle.std.proofs.Common.{◌≡◌, ◌≤◌}
use Rattle.report_forms.specs.Ends.{ends_character, how_many}
use Rattle.report_forms.proofs.ends.characters_between.Given as goal

abbrev pub invariant-loop-last : goal.invariant-loop-last
invariant-loop-last l = record { value : l.count ≡ how_many (ends_character l.text) l.from l.last; bound : l.count ≤ l.last }
