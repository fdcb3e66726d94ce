-- What was found, in numbers and in words.
use Rattle.std.specs.Prelude.{ℕ, ◌+◌, ◌-◌, ◌^◌, ◌==◌, ◌&&◌, ◌++◌, [], List, min, codes, decimal, Option, None, Some, nat_lt, if◌then◌else◌}
use Rattle.report_forms.specs.declared.severity.Severity.{Severity}
use Rattle.report_forms.specs.declared.severity.Severity.TheVariants.{Error, Warning}
use Rattle.report_cli.specs.declared.settings.LintLevel.{LintLevel}
use Rattle.report_cli.specs.declared.settings.LintLevel.TheVariants.{Allow, Warn, Deny}
use Rattle.report_cli.specs.declared.tally.Tally.{Tally}

-- a count with more added, at most the greatest number of 64 bits
abbrev pub added : ℕ → ℕ → ℕ
added count more = min (count + more) (2 ^ 64 - 1)

-- what was found, with so many more faults or warnings
abbrev pub with_told : Severity → Tally → ℕ → Tally
with_told Error t told = record t { faults = added t.faults told }
with_told Warning t told = record t { warnings = added t.warnings told }

-- so many warnings, if they are told; and so many, if they are denied
abbrev pub counted_at : LintLevel → ℕ → Option ℕ
counted_at Allow warnings = None
counted_at Warn warnings = Some warnings
counted_at Deny warnings = Some warnings

abbrev pub denied_at : LintLevel → ℕ → ℕ
denied_at Allow warnings = 0
denied_at Warn warnings = 0
denied_at Deny warnings = warnings

-- the ending of a word after a number: `s`, but nothing after 1
abbrev pub ending : ℕ → List ℕ
ending number = if number == 1 then [] else codes "s"

-- how many documents are accepted: all that were read, if neither one nor a schema is refused
abbrev pub accepted_words : ℕ → List ℕ
accepted_words accepted = decimal accepted ++ codes " document" ++ ending accepted ++ codes " accepted"

-- how many faults there are, and what they are in; or what is accepted
abbrev pub counts_words : Tally → List ℕ
counts_words t =
    if t.is_of_schema && t.faults == 0 then codes "schema accepted"
    else if t.is_of_schema then decimal t.faults ++ codes " fault" ++ ending t.faults ++ codes " in the schema"
    else if t.refused == 0 && t.refused_schemas == 0 then accepted_words (t.documents - t.unread)
    else decimal t.faults ++ codes " fault" ++ ending t.faults ++ codes " in " ++ decimal t.refused ++ codes " of " ++ decimal t.documents ++ codes " document" ++ ending t.documents

-- how many schemas of a batch have faults, if one has
abbrev pub schemas_words : ℕ → List ℕ
schemas_words schemas = if schemas == 0 then [] else codes " and " ++ decimal schemas ++ codes " schema" ++ ending schemas

-- how many warnings there are, if there is one
abbrev pub warnings_words : ℕ → List ℕ
warnings_words warnings = if warnings == 0 then [] else codes ", " ++ decimal warnings ++ codes " warning" ++ ending warnings

-- how many were not read, if any were not
abbrev pub unread_words : ℕ → List ℕ
unread_words unread = if nat_lt 0 unread then codes ", " ++ decimal unread ++ codes " not read" else []

-- `3 faults in 2 of 40 documents` or `40 documents accepted`, how many schemas have faults and how many warnings there are, and how many
-- documents were not read
abbrev pub words_of : Tally → List ℕ
words_of t = counts_words t ++ schemas_words t.refused_schemas ++ warnings_words t.warnings ++ unread_words t.unread
