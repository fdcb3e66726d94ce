-- The form of a fault for a terminal that shows colours.
use Rattle.std.specs.Prelude.{◌≡◌, ℕ, ◌==◌, List, [], ◌∷◌, ◌++◌, codes, if◌then◌else◌}
use Rattle.std.specs.List.{flat_map, starts_with, ends_with}
use Rattle.std.specs.Str.Lines.{lines}
use Rattle.report_forms.specs.Forms.{heading}
use Rattle.report_forms.specs.Shown.{shown_text, HasOnlyLineFeeds}
use Rattle.report_forms.specs.declared.entry.Entry.{Entry}
use Rattle.report_forms.specs.declared.severity.Severity.{Severity}
use Rattle.report_forms.specs.declared.severity.Severity.TheVariants.{Error, Warning}

-- a code that a terminal reads as a colour and does not show: ESC, `[`, a number, `m`
abbrev pub code : List ℕ → List ℕ
code number = 27 ∷ 91 ∷ number ++ codes "m"

-- the colour of marks: red under a fault, yellow under a warning
abbrev pub mark_colour : Severity → List ℕ
mark_colour Error = code (codes "31")
mark_colour Warning = code (codes "33")

-- the colour of a hint, of another line that belongs to the fault, and of marks
abbrev pub line_colour : Severity → List ℕ → List ℕ
line_colour s line =
    if starts_with ◌==◌ line (codes "  = help: ") then code (codes "32")
    else if starts_with ◌==◌ line (codes "  = ") then code (codes "36")
    else if ends_with ◌==◌ line (codes "^") then mark_colour s
    else []

abbrev pub coloured_line : Severity → List ℕ → List ℕ
coloured_line s line = line_colour s line ++ line ++ code (codes "0") ++ 10 ∷ []

-- the heading of the text form in bold, and below it lines without control characters, each in its colour
pub record IsColoured (e : Entry) (text : List ℕ) : Type 0 where
  pub below : List ℕ
  pub clean : HasOnlyLineFeeds below
  pub lines_are : text ≡ code (codes "1") ++ shown_text (heading e) ++ code (codes "0") ++ 10 ∷ [] ++ flat_map (coloured_line e.severity) (lines below)
