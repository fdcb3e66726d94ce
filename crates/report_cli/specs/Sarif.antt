-- Faults and warnings as results of a log of SARIF 2.1.0, whose sections are cited.
use Rattle.std.specs.Prelude.{ℕ, suc, ◌/◌, ◌%◌, Bool, true, ◌||◌, ◌==◌, List, [], ◌∷◌, ◌++◌, codes, decimal, Option, None, Some, option_map, string_bytes, if◌then◌else◌}
use Rattle.std.specs.Char.{is_ascii_alphanumeric}
use Rattle.std.specs.Fmt.{digit_glyph}
use Rattle.std.specs.List.{flat_map}
use Rattle.json.specs.Print.{quoted}
use Rattle.report_forms.specs.declared.position.Position.{Position}
use Rattle.report_forms.specs.declared.entry.Place.{Place}
use Rattle.report_forms.specs.declared.entry.Related.{Related}
use Rattle.report_forms.specs.declared.entry.Entry.{Entry}
use Rattle.report_forms.specs.declared.severity.Severity.{Severity}
use Rattle.report_forms.specs.declared.severity.Severity.TheVariants.{Error, Warning}

-- a byte that a URI has as it is: `/`, and those of unreserved characters, which are letters, digits, `-`, `.`, `_` and `~`
-- (RFC 3986, section 2.3)
abbrev pub is_kept : ℕ → Bool
is_kept byte = is_ascii_alphanumeric byte || byte == 45 || byte == 46 || byte == 95 || byte == 126 || byte == 47

-- any other byte: `%` and its two hexadecimal digits, in upper case (section 2.1)
abbrev pub uri_byte : ℕ → List ℕ
uri_byte byte = if is_kept byte then byte ∷ [] else 37 ∷ digit_glyph true (byte / 16) ∷ digit_glyph true (byte % 16) ∷ []

-- a path as a URI
abbrev pub uri_text : List ℕ → List ℕ
uri_text path = flat_map uri_byte path

-- the member for a place in the text under this path (sections 3.29 and 3.30): the whole text; a region that begins there; or one that
-- ends before the character at its end
abbrev pub location_member : List ℕ → Option Position → Option Position → List ℕ
location_member path None end = codes "\"physicalLocation\":{\"artifactLocation\":{\"uri\":\"" ++ (uri_text path ++ codes "\"}}")
location_member path (Some start) None =
    codes "\"physicalLocation\":{\"artifactLocation\":{\"uri\":\"" ++ (uri_text path ++ (codes "\"},\"region\":{\"startLine\":" ++ (decimal start.line
    ++ (codes ",\"startColumn\":" ++ (decimal start.column ++ codes "}}")))))
location_member path (Some start) (Some end) =
    codes "\"physicalLocation\":{\"artifactLocation\":{\"uri\":\"" ++ (uri_text path ++ (codes "\"},\"region\":{\"startLine\":" ++ (decimal start.line
    ++ (codes ",\"startColumn\":" ++ (decimal start.column ++ (codes ",\"endLine\":" ++ (decimal end.line ++ (codes ",\"endColumn\":"
    ++ (decimal end.column ++ codes "}}")))))))))

-- another place that belongs to a fault, with its number (section 3.28); and such places from a number on, the first after this text,
-- each other after a comma
abbrev pub related_text : ℕ → Related → List ℕ
related_text id r =
    codes "{\"id\":" ++ (decimal id ++ (codes ",\"message\":{\"text\":" ++ (quoted (string_bytes r.words) ++ (codes "},"
    ++ (location_member (string_bytes r.path) r.start None ++ codes "}")))))

abbrev pub related_from : List ℕ → ℕ → List Related → List ℕ
related_from before id [] = []
related_from before id (r ∷ rs) = before ++ related_text id r ++ related_from (codes ",") (suc id) rs

abbrev pub related_list : List Related → List ℕ
related_list related = related_from [] 0 related

-- what is wrong, and in brackets what may be meant or what to do
abbrev pub hint_words : Option (List ℕ) → List ℕ
hint_words None = []
hint_words (Some hint) = codes " (" ++ (hint ++ codes ")")

abbrev pub message_words : Entry → List ℕ
message_words e = string_bytes e.message ++ hint_words (option_map string_bytes e.hint)

-- the level of a fault, and of a warning
abbrev pub level_word : Severity → List ℕ
level_word Error = codes "error"
level_word Warning = codes "warning"

-- the place of a fault: it has a region if the fault has a place
abbrev pub location_of : List ℕ → Option Place → List ℕ
location_of path None = location_member path None None
location_of path (Some p) = location_member path (Some p.start) (Some p.end)

-- a result (section 3.27)
abbrev pub result_text : Entry → List ℕ
result_text e =
    codes "{\"ruleId\":" ++ (quoted e.rule.now ++ (codes ",\"level\":\"" ++ (level_word e.severity ++ (codes "\",\"message\":{\"text\":" ++ (quoted (message_words e)
    ++ (codes "},\"locations\":[{" ++ (location_of (string_bytes e.path) e.place ++ (codes "}],\"relatedLocations\":["
    ++ (related_list e.related.items ++ codes "]}")))))))))

-- results: the first after this text, each other in a line of its own, after a comma
abbrev pub results_text : List ℕ → List Entry → List ℕ
results_text before [] = []
results_text before (e ∷ es) = before ++ result_text e ++ results_text (codes ",\n") es
