-- Private: leads to `terminal_of`. Words by their first byte.
use Rattle.std.specs.Prelude.{ℕ, ◌==◌, List}
use Rattle.std.specs.List.{filter}
use Rattle.read_tokens.specs.Bytes.{begins_by}
use Rattle.read_tokens.specs.Terminals.{Word}

-- those of the words that begin with the byte
abbrev pub starting : ℕ → List Word → List Word
starting b words = filter (λ word. begins_by (λ x. b == x) word.0) words
