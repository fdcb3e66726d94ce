use Rattle.std.proofs.Common.{List, ap, ◌∙◌}
use Rattle.read_tokens.specs.Terminals.{Word, spelled}
use Rattle.read_tokens.proofs.Words.{nothing_spelled, first_spells}
use Rattle.read_tokens.proofs.terminals.spelled.Goals as goal

pub returns-in-empty : goal.returns-in-empty
returns-in-empty c = nothing_spelled c.args.text.now c.in-empty.len_below

pub returns-in-len1-up : goal.returns-in-len1-up
returns-in-len1-up c =
    c.find_word.ensures
    ∙ ap (λ (table : List Word). spelled table c.args.text.now) c.words_with.ensures
    ∙ first_spells c.args.text.now c.in-len1-up.len_at_least
