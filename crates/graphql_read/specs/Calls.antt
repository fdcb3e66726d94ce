-- Private: leads to `HasTree` and `IsDue`. How a text is read up to its end.
use Rattle.std.specs.Prelude.{Option, Some, None, Ok, Err, if◌then◌else◌}
use Rattle.read_tokens.specs.declared.terminal.Terminal.{Terminal}
use Rattle.read_tokens.specs.Input.{next}
use Rattle.read_tokens.specs.Cursor.{is_stuck}
use Rattle.read_grammar.specs.declared.parse_error.ParseError.TheVariants.{Unexpected}
use Rattle.read_grammar.specs.Reading.{Parser, and_then}

-- the end of the text: no token is left, nor text in which none starts
abbrev pub end_of_text_at : Option Terminal → Parser (Unit {0})
end_of_text_at None o = if is_stuck o then Err (Unexpected, o) else Ok (tt, o)
end_of_text_at (Some kind) o = Err (Unexpected, o)

abbrev pub end_of_text : Parser (Unit {0})
end_of_text o = end_of_text_at (next o) o

-- a symbol, and nothing after it
abbrev pub all_of : {A : Type 0} → Parser A → Parser A
all_of p i = and_then (p i) (λ x o. and_then (end_of_text o) (λ u z. Ok (x, z)))
