use Rattle.read_grammar.specs.Grammar.{DerivesSelections}
use Rattle.read_grammar.proofs.OneFault.{one_fault}
use Rattle.read_grammar.proofs.due_faults.one_selections_fault.Goals as goal

pub returns : goal.returns
returns c = λ m tokens ending nesting fault other f o says also. one_fault (DerivesSelections m) tokens ending nesting fault other f o says also
