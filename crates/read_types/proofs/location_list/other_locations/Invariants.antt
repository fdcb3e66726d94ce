use Rattle.std.proofs.Common.{◌≡◌, length}
use Rattle.read_grammar.specs.Kinds as kinds
use Rattle.read_grammar.specs.Reading as read
use Rattle.read_grammar.specs.TypeSystemReading as reading
use Rattle.read_grammar.proofs.Steps.{with_front}
use Rattle.read_types.specs.MemberSteps as steps
use Rattle.read_types.proofs.location_list.other_locations.Given as goal

abbrev pub invariant-turns : goal.invariant-turns
invariant-turns l = with_front l.found.items (read.many kinds.is_pipe (read.following kinds.is_pipe reading.directive_location) l.tokens) ≡ steps.others kinds.is_pipe reading.directive_location l.initial.found.items l.initial.tokens

abbrev pub decreases-turns : goal.decreases-turns
decreases-turns l = length l.tokens.ahead
