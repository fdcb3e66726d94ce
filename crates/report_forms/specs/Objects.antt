-- A fault, or a warning, as a JSON object.
use Rattle.std.specs.Prelude.{ℕ, List, ◌++◌, codes, decimal, Option, Some, None, option_map, string_bytes}
use Rattle.std.specs.List.{join_by}
use Rattle.json.specs.Print.{quoted}
use Rattle.report_forms.specs.declared.position.Position.{Position}
use Rattle.report_forms.specs.declared.entry.Place.{Place}
use Rattle.report_forms.specs.declared.entry.Related.{Related}
use Rattle.report_forms.specs.declared.entry.Field.{Field}
use Rattle.report_forms.specs.declared.entry.Entry.{Entry}
use Rattle.report_forms.specs.Forms.{severity_word}

-- the members of a place; and where another place begins
abbrev pub place_members : Option Place → List ℕ
place_members None = codes ",\"line\":null,\"column\":null,\"end\":null,\"offset\":null,\"length\":null"
place_members (Some p) =
    codes ",\"line\":" ++ (decimal p.start.line ++ (codes ",\"column\":" ++ (decimal p.start.column ++ (codes ",\"end\":{\"line\":" ++ (decimal p.end.line
    ++ (codes ",\"column\":" ++ (decimal p.end.column ++ (codes "},\"offset\":" ++ (decimal p.offset ++ (codes ",\"length\":" ++ decimal p.length))))))))))

abbrev pub start_members : Option Position → List ℕ
start_members None = codes ",\"line\":null,\"column\":null"
start_members (Some p) = codes ",\"line\":" ++ (decimal p.line ++ (codes ",\"column\":" ++ decimal p.column))

-- a text under a key
abbrev pub text_member : List ℕ → List ℕ → List ℕ
text_member head text = head ++ quoted text

-- the other places that belong to it, with a comma between each two
abbrev pub related_object : Related → List ℕ
related_object r = text_member (codes "{\"path\":") (string_bytes r.path) ++ start_members r.start ++ text_member (codes ",\"words\":") (string_bytes r.words) ++ codes "}"

abbrev pub related_member : List Related → List ℕ
related_member related = codes ",\"related\":[" ++ join_by related_object (codes ",") related ++ codes "]"

-- what may be meant, or what to do
abbrev pub hint_member : Option (List ℕ) → List ℕ
hint_member None = codes ",\"hint\":null"
hint_member (Some hint) = text_member (codes ",\"hint\":") hint

-- its data, and the end of the object
abbrev pub field_member : Field → List ℕ
field_member f = quoted f.name.now ++ text_member (codes ":") (string_bytes f.value)

abbrev pub fields_member : List Field → List ℕ
fields_member fields = codes ",\"fields\":{" ++ join_by field_member (codes ",") fields ++ codes "}}"

-- the object
abbrev pub object : Entry → List ℕ
object e =
    text_member (codes "{\"path\":") (string_bytes e.path) ++ place_members e.place ++ text_member (codes ",\"severity\":") (severity_word e.severity)
    ++ text_member (codes ",\"rule\":") e.rule.now ++ text_member (codes ",\"message\":") (string_bytes e.message) ++ related_member e.related.items
    ++ hint_member (option_map string_bytes e.hint) ++ fields_member e.fields.items
