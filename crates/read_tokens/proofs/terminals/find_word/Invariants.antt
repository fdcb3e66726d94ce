use Rattle.std.proofs.Common.{◌≡◌, drop}
use Rattle.read_tokens.proofs.Words.{spelled_in}
use Rattle.read_tokens.proofs.terminals.find_word.Given as goal

abbrev pub invariant-loop-word : goal.invariant-loop-word
invariant-loop-word l = spelled_in l.table l.text ≡ spelled_in (drop l.word-index l.table) l.text
