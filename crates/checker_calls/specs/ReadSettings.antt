-- Settings, by what clap reads of the words.
use Rattle.std.specs.Prelude.{◌≡◌, ◌⊎◌, ℕ, List, [], map, codes, string_bytes, Option, Some, None, MatchOption, Result, IfOk, if◌then◌else◌, option_map, unwrap_or}
use Rattle.std.specs.Str.{bytes_eq}
use Rattle.std.specs.Str.Parse.{digits_value, without_leading_plus}
use Rattle.clap.specs.Words.{FailsBy, IsUnsignedIn, Row, all_of, fault_of, first_of, first_value, matched_of, matches_of, one_of, one_text, raw_values}
use Rattle.clap.specs.declared.parser.matches.Found.{Found}
use Rattle.clap.specs.declared.error.Error.{Error}
use Rattle.clap.specs.declared.builder.value_parser.ValueParser.{ValueParser}
use Rattle.checker_calls.specs.Layouts.{prefix_of}
use Rattle.checker_calls.specs.declared.layout.Layout.{Layout}
use Rattle.checker_calls.specs.Program.{AreLayoutNames, program}
use Rattle.checker_calls.specs.declared.settings.Settings.{Settings}

-- the prefix of lines under the layout of this name; `None` (all on one line) without a name, or for any other name
abbrev pub prefix_named : Option (List ℕ) → Option (List ℕ)
prefix_named None = None
prefix_named (Some name) =
    if bytes_eq name (codes "two") then Some (codes "  ")
    else if bytes_eq name (codes "four") then Some (codes "    ")
    else if bytes_eq name (codes "tab") then Some (codes "\t")
    else None

-- the layouts that have a name
abbrev pub IsProgramLayout : Layout → Type 0
IsProgramLayout layout = (prefix_of layout ≡ None) ⊎ ((prefix_of layout ≡ Some (codes "  "))
    ⊎ ((prefix_of layout ≡ Some (codes "    ")) ⊎ (prefix_of layout ≡ Some (codes "\t"))))

-- the settings are what was read under the arguments' names
pub record IsReadOf (rows : List Row) (s : Settings) : Type 0 where
  pub document : first_of (codes "DOCUMENT") rows ≡ Some (string_bytes s.document)
  pub schemas : all_of (codes "SCHEMA") rows ≡ Some (map string_bytes s.schemas.items)
  pub layout : prefix_of s.layout ≡ prefix_named (first_of (codes "indent") rows)
  pub nesting : MatchOption (one_of (codes "nesting") rows)
      (s.nesting ≡ 500) (λ text. s.nesting ≡ digits_value 10 (without_leading_plus text))

-- the same for the values found, whether or not the required ones are among them: a missing one is empty
pub record IsTakenFrom (found : Found) (s : Settings) : Type 0 where
  pub document : string_bytes s.document ≡ unwrap_or (first_value found (codes "DOCUMENT")) []
  pub schemas : map string_bytes s.schemas.items ≡ unwrap_or (option_map raw_values (matched_of found (codes "SCHEMA"))) []
  pub layout : prefix_of s.layout ≡ prefix_named (first_value found (codes "indent"))
  pub no_nesting : one_text found (codes "nesting") ≡ None → s.nesting ≡ 500
  pub nesting : (text : List ℕ) → one_text found (codes "nesting") ≡ Some text → IsUnsignedIn 1 1000 text
      → s.nesting ≡ digits_value 10 (without_leading_plus text)

-- the words are read as clap reads them for the program's arguments, and refused if clap refuses them or memory runs out
abbrev pub ReadsAs : List (List ℕ) → Result Settings Error → Type 0
ReadsAs words result = (names : ValueParser) × AreLayoutNames names
    × FailsBy (fault_of (program names) words) result
    × IfOk result (IsReadOf (matches_of (program names) words))
