use Rattle.read_grammar.proofs.Laws.{one_document}
use Rattle.read_grammar.proofs.one_tree.one_document_tree.Goals as goal

pub returns : goal.returns
returns c = λ m tokens tree other. one_document m tokens tree other
