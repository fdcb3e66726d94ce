-- Reports as lines of JSON, one for each fault.
use Rattle.std.specs.Prelude.{◌≡◌, ℕ, zero, suc, Bool, true, false, List, [], ◌++◌, length, map}
use Rattle.report_forms.specs.Forms.{IsOneLine}
use Rattle.report_forms.specs.declared.entry.Entry.{Entry}
use Rattle.report_forms.specs.declared.source.Source.{Source}
use Rattle.graphql_report.specs.Reports.{IsReport, IsDocumentReport}
use Rattle.verdict_definitions.specs.Texts.{SourceText}
use Rattle.verdict_definitions.specs.Says.{AnyFault}
use Rattle.graphql_checked_c.specs.declared.held.HeldText.{HeldText}
use Rattle.graphql_checked_c.specs.HeldTexts.{path_of, text_of}

-- the bytes are this number of lines
abbrev pub AreLines : ℕ → List ℕ → Type 0
AreLines zero bytes = bytes ≡ []
AreLines (suc count) bytes = (before : List ℕ) × ((line : List ℕ) × ((bytes ≡ before ++ line) × (AreLines count before × IsOneLine line)))

-- the entries for faults of the schema's texts, or else of a document at that path; those without a place have `path` as their name
abbrev pub AreEntries : Bool → List Source → List ℕ → SourceText → List AnyFault → List Entry → Type 0
AreEntries false sources path document faults entries = IsReport sources path faults entries
AreEntries true sources path document faults entries = IsDocumentReport sources path document faults entries

-- The report of faults of the schema's texts, or else of a document at that path, where the schema's texts have these names: an entry for each fault,
-- with its place, rule, message and other places, and a line for each entry.
pub record IsJson (is_document : Bool) (held : List HeldText) (path : List ℕ) (document : SourceText) (faults : List AnyFault) (bytes : List ℕ) : Type 0 where
  pub sources : List Source
  pub paths : map (λ s. s.path.now) sources ≡ map path_of held
  pub texts : map (λ s. s.lines.now) sources ≡ map text_of held
  pub entries : List Entry
  pub told : AreEntries is_document sources path document faults entries
  pub lines : AreLines (length entries) bytes
