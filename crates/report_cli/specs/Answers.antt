-- The lines that answer a batch, and the records among lines of JSON.
use Rattle.std.specs.Prelude.{ℕ, zero, suc, ◌==◌, List, [], ◌∷◌, ◌++◌, codes, decimal, Option, Some, None, if◌then◌else◌}
use Rattle.std.specs.List.{join_by}
use Rattle.json.specs.Print.{quoted}
use Rattle.report_cli.specs.declared.asked.Why.{Why}
use Rattle.report_cli.specs.declared.asked.Why.TheVariants.{NotJson, NotUtf8, NoId, WrongId, NoDocument, WrongDocument, Both, WrongSchema, EmptySchema, NoSchema}
use Rattle.report_cli.specs.declared.tally.Tally.{Tally}
use Rattle.report_cli.specs.Counts.{counted_at}

-- the beginning of an answer under this id, as JSON
abbrev pub begun_text : List ℕ → List ℕ
begun_text id = codes "{\"id\":" ++ id ++ codes ",\"accepted\":"

-- the answer to a document that is accepted: the text that is written of it, and these members
abbrev pub accepted_text : List ℕ → List ℕ → List ℕ → List ℕ
accepted_text id written members = begun_text id ++ codes "true,\"written\":" ++ quoted written ++ members ++ codes "}\n"

-- the members for warnings of such an answer, as JSON, and how many more are left out
abbrev pub warnings_members : List ℕ → ℕ → List ℕ
warnings_members warnings left_out = codes ",\"warnings\":[" ++ warnings ++ codes "],\"left_out\":" ++ decimal left_out

-- the answer to a document that is refused: its faults, as JSON, and how many more are left out
abbrev pub refused_text : List ℕ → List ℕ → ℕ → List ℕ
refused_text id faults left_out = begun_text id ++ codes "false,\"faults\":[" ++ faults ++ codes "],\"left_out\":" ++ decimal left_out ++ codes "}\n"

-- the beginning of an answer to a line that opens a schema
abbrev pub opened_text : List ℕ → List ℕ
opened_text id = codes "{\"id\":" ++ id ++ codes ",\"schema\":"

-- the answer to a schema that is accepted, with these members
abbrev pub schema_accepted_text : List ℕ → List ℕ → List ℕ
schema_accepted_text id members = opened_text id ++ codes "\"accepted\"" ++ members ++ codes "}\n"

-- the answer to a schema that is refused: its faults, as JSON, and how many more are left out
abbrev pub schema_refused_text : List ℕ → List ℕ → ℕ → List ℕ
schema_refused_text id faults left_out = opened_text id ++ codes "\"refused\",\"faults\":[" ++ faults ++ codes "],\"left_out\":" ++ decimal left_out ++ codes "}\n"

-- the path of the text of such a schema with this index, and those of the texts before it; one text has no index
abbrev pub schema_path : ℕ → List ℕ
schema_path index = codes "schema[" ++ decimal index ++ codes "]"

abbrev pub schema_paths_before : ℕ → List (List ℕ)
schema_paths_before zero = []
schema_paths_before (suc n) = schema_paths_before n ++ schema_path n ∷ []

abbrev pub schema_paths : ℕ → List (List ℕ)
schema_paths count = if count == 1 then codes "schema" ∷ [] else schema_paths_before count

-- why a line asks for nothing that can be done
abbrev pub why_words : Why → List ℕ
why_words NotJson = codes "the line is not JSON"
why_words NotUtf8 = codes "the line is not UTF-8"
why_words NoId = codes "there is no `id`"
why_words WrongId = codes "the `id` is neither a string nor a whole number"
why_words NoDocument = codes "there is no `document`"
why_words WrongDocument = codes "the `document` is not a string"
why_words Both = codes "there is both a `document` and a `schema`"
why_words WrongSchema = codes "the `schema` is not an array of strings"
why_words EmptySchema = codes "the `schema` is an empty array"
why_words NoSchema = codes "no schema is open: the last one was refused"

abbrev pub id_or_null : Option (List ℕ) → List ℕ
id_or_null None = codes "null"
id_or_null (Some id) = id

-- the answer to such a line: its number, and why
abbrev pub wrong_text : Option (List ℕ) → ℕ → Why → List ℕ
wrong_text id number why = begun_text (id_or_null id) ++ codes "false,\"line\":" ++ decimal number ++ codes ",\"error\":\"" ++ why_words why ++ codes "\"}\n"

-- the beginning of a record of the text of a kind with this path
abbrev pub named_text : List ℕ → List ℕ → List ℕ
named_text kind path = codes "{\"" ++ kind ++ codes "\":" ++ quoted path

-- the members of a record of what is read: it is accepted if it has no faults
abbrev pub judged_text : ℕ → List ℕ
judged_text faults = codes ",\"accepted\":" ++ (if faults == 0 then codes "true" else codes "false") ++ codes ",\"faults\":" ++ decimal faults

-- the member for the number of warnings, if they are told
abbrev pub count_member : Option ℕ → List ℕ
count_member None = []
count_member (Some warnings) = codes ",\"warnings\":" ++ decimal warnings

-- the record of a document that is read
abbrev pub document_text : List ℕ → ℕ → Option ℕ → List ℕ
document_text path faults warnings = codes "{\"document\":" ++ quoted path ++ judged_text faults ++ count_member warnings ++ codes "}\n"

-- the record of the schema of the texts under these paths
abbrev pub paths_text : List (List ℕ) → List ℕ
paths_text paths = join_by quoted (codes ",") paths

abbrev pub schema_text : List (List ℕ) → ℕ → Option ℕ → List ℕ
schema_text paths faults warnings = codes "{\"schema\":[" ++ paths_text paths ++ codes "]" ++ judged_text faults ++ count_member warnings ++ codes "}\n"

-- the record of a text of a kind that cannot be read
abbrev pub unread_text : List ℕ → List ℕ → List ℕ → List ℕ
unread_text kind path reason = named_text kind path ++ codes ",\"read\":false,\"error\":" ++ quoted reason ++ codes "}\n"

-- the last record
abbrev pub summary_text : Tally → List ℕ
summary_text t =
    codes "{\"summary\":{\"documents\":" ++ decimal t.documents ++ codes ",\"refused\":" ++ decimal t.refused ++ codes ",\"unread\":" ++ decimal t.unread
    ++ codes ",\"faults\":" ++ decimal t.faults ++ count_member (counted_at t.lints t.warnings) ++ codes "}}\n"
