-- How deep brackets nest.
use Rattle.std.specs.Prelude.{ℕ, ◌+◌, ◌-◌, Bool, if◌then◌else◌, List, [], ◌∷◌}
use Rattle.read_tokens.specs.declared.terminal.Terminal.{Terminal}
use Rattle.read_tokens.specs.Input.{Token}
use Rattle.read_grammar.specs.Kinds.{or, is_open_paren, is_open_bracket, is_open_brace, is_close_paren, is_close_bracket, is_close_brace}

abbrev pub is_opening : Terminal → Bool
is_opening = or is_open_paren (or is_open_bracket is_open_brace)

abbrev pub is_closing : Terminal → Bool
is_closing = or is_close_paren (or is_close_bracket is_close_brace)

-- the greatest value, over all prefixes of the list, of the number of opening brackets minus that of closing ones
unfoldable pub depth : List Token → ℕ
depth [] = 0
depth (t ∷ ts) = if is_opening t.kind then depth ts + 1 else (if is_closing t.kind then depth ts - 1 else depth ts)
