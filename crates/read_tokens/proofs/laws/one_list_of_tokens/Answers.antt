use Rattle.read_tokens.proofs.Lexed.{lex_unique}
use Rattle.read_tokens.proofs.laws.one_list_of_tokens.Goals as goal

pub returns : goal.returns
returns c = lex_unique
