use Rattle.read_grammar.proofs.Laws.{document_says}
use Rattle.read_grammar.proofs.due_faults.document_fault_is_due.Goals as goal

pub returns : goal.returns
returns c = λ m nesting i begins stop z at. document_says m nesting i begins stop z at
