use Rattle.std.proofs.Common.{rules}
use Rattle.read_grammar.specs.OperationReading as reading
use Rattle.read_grammar.proofs.Views.{selections_viewed}
use Rattle.read_operations.proofs.selection_list.selections.Goals as goal

pub returns : goal.returns
unfolding reading.selections reading.selection_list
returns c = rw (← selections_viewed c.in_ok-found.found.items) (search rules)
