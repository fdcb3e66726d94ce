use Rattle.read_grammar.proofs.Laws.{selections_says}
use Rattle.read_grammar.proofs.due_faults.selections_fault_is_due.Goals as goal

pub returns : goal.returns
returns c = λ m nesting i begins stop z at. selections_says m nesting i begins stop z at
