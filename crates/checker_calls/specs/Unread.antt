-- Private: leads to `UnreadFault` of `verdict_definitions`. What reading answers of a text without a tree within the limit.
use Rattle.std.specs.Prelude.{◌≡◌, ℕ, List, Some}
use Rattle.verdict_definitions.specs.in_grammar.Faults as read
use Rattle.verdict_definitions.specs.in_faults.DetailsView.{details_at}
use Rattle.verdict_definitions.specs.Says.{TellsReadFault, IsFaultOfText}
use Rattle.checker_calls.specs.declared.reading.Unread.{Unread}
use Rattle.checker_calls.specs.declared.reading.Unread.TheVariants as unread

-- the answer is a fault that is due for the text, or out of memory
abbrev pub IsUnread : ℕ → ℕ → List ℕ → Unread → Type 0
IsUnread nesting number text unread.Memory = Unit {0}
IsUnread nesting number text (unread.Fault place details) = IsFaultOfText nesting number text (details_at (Some place, details))

-- the answer tells this fault of the reader
abbrev pub TellsUnread : ℕ → read.Fault → Unread → Type 0
TellsUnread number fault unread.Memory = fault ≡ read.Memory
TellsUnread number fault (unread.Fault place details) = TellsReadFault number fault (details_at (Some place, details))
