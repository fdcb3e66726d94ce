use Rattle.read_grammar.proofs.Laws.{one_selections}
use Rattle.read_grammar.proofs.one_tree.one_selections_tree.Goals as goal

pub returns : goal.returns
returns c = λ m tokens tree other. one_selections m tokens tree other
