use Rattle.read_grammar.proofs.Laws.{one_type}
use Rattle.read_grammar.proofs.one_tree.one_type_tree.Goals as goal

pub returns : goal.returns
returns c = λ m tokens tree other. one_type m tokens tree other
