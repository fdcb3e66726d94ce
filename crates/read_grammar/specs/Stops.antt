-- Private: leads to `Says`. The fault at the point where reading stops.
use Rattle.std.specs.Prelude.{List, [], ◌∷◌}
use Rattle.read_tokens.specs.Input.{Token, Input, Ending, Ended, NoTokenAt}
use Rattle.read_grammar.specs.declared.parse_error.ParseError.{ParseError}
use Rattle.read_grammar.specs.declared.parse_error.ParseError.TheVariants as stops
use Rattle.read_grammar.specs.Meaning.{begin_of}
use Rattle.read_grammar.specs.Faults.{Fault, Memory, NoToken, Unexpected, End, Nesting}

abbrev pub ending_fault : Ending → Fault
ending_fault (Ended offset) = End offset
ending_fault (NoTokenAt offset) = NoToken offset

abbrev pub unexpected_at : List Token → Ending → Fault
unexpected_at [] ending = ending_fault ending
unexpected_at (t ∷ ts) ending = Unexpected t.offset

abbrev pub fault_of : ParseError → Input → Fault
fault_of stops.Memory o = Memory
fault_of stops.Unexpected o = unexpected_at o.ahead o.ending
fault_of stops.Nesting o = Nesting (begin_of o.ahead)
