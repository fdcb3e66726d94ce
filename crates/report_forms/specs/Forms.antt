-- The forms of a fault, or of a warning.
use Rattle.std.specs.Prelude.{◌≡◌, ℕ, Bool, true, nat_le, List, [], ◌∷◌, ◌++◌, false, codes, decimal, length, max, replicate, Option, Some, None, option_map, string_bytes, chars}
use Rattle.std.specs.List.{flat_map, list_all}
use Rattle.report_forms.specs.Escapes.{escaped_text}
use Rattle.report_forms.specs.declared.position.Position.{Position}
use Rattle.report_forms.specs.Shown.{shown_text, HasOnlyLineFeeds}
use Rattle.unicode_width.specs.Width.{str_width}
use Rattle.report_forms.specs.declared.entry.Place.{Place}
use Rattle.report_forms.specs.declared.entry.Excerpt.{Excerpt}
use Rattle.report_forms.specs.declared.entry.Related.{Related}
use Rattle.report_forms.specs.declared.entry.Entry.{Entry}
use Rattle.report_forms.specs.declared.severity.Severity.{Severity}
use Rattle.report_forms.specs.declared.severity.Severity.TheVariants.{Error, Warning}

-- where a fault begins
abbrev pub start_of : Entry → Option Position
start_of e = option_map (λ (p : Place). p.start) e.place

-- a line and a column, each after a colon
abbrev pub position_text : Option Position → List ℕ
position_text None = []
position_text (Some p) = codes ":" ++ decimal p.line ++ codes ":" ++ decimal p.column

-- the word for a fault, and for a warning
abbrev pub severity_word : Severity → List ℕ
severity_word Error = codes "error"
severity_word Warning = codes "warning"

-- a fault in one line, from its parts
abbrev pub heading : Entry → List ℕ
heading e = string_bytes e.path ++ position_text (start_of e) ++ codes ": " ++ severity_word e.severity ++ codes "[" ++ e.rule.now ++ codes "]: " ++ string_bytes e.message

-- lines, the first of which is that one; none has control characters
pub record IsHeaded (e : Entry) (text : List ℕ) : Type 0 where
  pub below : List ℕ
  pub clean : HasOnlyLineFeeds below
  pub lines_are : text ≡ shown_text (heading e) ++ 10 ∷ [] ++ below

-- the columns that a text takes as it is shown
abbrev pub width_of : List ℕ → ℕ
width_of text = str_width false (chars (shown_text text))

-- a line after its number; and under it, after a margin of the same width, a mark for each column of the place, at least one
abbrev pub numbered_line : ℕ → Excerpt → List ℕ
numbered_line number e = decimal number ++ codes " | " ++ string_bytes e.before ++ string_bytes e.marked ++ string_bytes e.after

abbrev pub marks : ℕ → Excerpt → List ℕ
marks margin e = replicate margin 32 ++ codes " | " ++ replicate (width_of (string_bytes e.before)) 32 ++ replicate (max (width_of (string_bytes e.marked)) 1) 94

abbrev pub excerpt_text : ℕ → Excerpt → List ℕ
excerpt_text number e = shown_text (numbered_line number e) ++ 10 ∷ [] ++ shown_text (marks (length (decimal number)) e) ++ 10 ∷ []

-- the properties of a place in a workflow command
abbrev pub properties : Option Place → List ℕ
properties None = []
properties (Some p) =
    codes ",line=" ++ decimal p.start.line ++ codes ",endLine=" ++ decimal p.end.line
    ++ codes ",col=" ++ decimal p.start.column ++ codes ",endColumn=" ++ decimal p.end.column

-- what a line of the message tells after its first: another place that belongs to the fault; and the hint, if there is one
abbrev pub related_line : Related → List ℕ
related_line r = codes "%0A= " ++ escaped_text false (string_bytes r.path ++ position_text r.start) ++ codes ": " ++ escaped_text false (string_bytes r.words)

abbrev pub hint_line : Option (List ℕ) → List ℕ
hint_line None = []
hint_line (Some hint) = codes "%0A= help: " ++ escaped_text false hint

-- how a workflow command begins; and a fault as one
abbrev pub command_head : Severity → List ℕ
command_head s = codes "::" ++ severity_word s ++ codes " file="

abbrev pub command : Entry → List ℕ
command e =
    command_head e.severity ++ escaped_text true (string_bytes e.path) ++ properties e.place ++ codes ",title=" ++ escaped_text true e.rule.now
    ++ codes "::" ++ escaped_text false (string_bytes e.message) ++ flat_map related_line e.related.items ++ hint_line (option_map string_bytes e.hint)

-- bytes in one line: none is a control character of ASCII, apart from DELETE
abbrev pub one_line : List ℕ → Bool
one_line bytes = list_all (λ byte. nat_le 32 byte) bytes

-- a line, and a line feed after it
pub record IsOneLine (text : List ℕ) : Type 0 where
  pub line : List ℕ
  pub feed : text ≡ line ++ 10 ∷ []
  pub plain : one_line line ≡ true
