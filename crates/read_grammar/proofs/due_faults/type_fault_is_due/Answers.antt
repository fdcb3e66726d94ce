use Rattle.read_grammar.proofs.Laws.{type_says}
use Rattle.read_grammar.proofs.due_faults.type_fault_is_due.Goals as goal

pub returns : goal.returns
returns c = λ m nesting i begins stop z at. type_says m nesting i begins stop z at
