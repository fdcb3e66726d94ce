-- What a line of a batch asks for.
use Rattle.std.specs.Prelude.{ℕ, ◌==◌, List, [], ◌∷◌, length, map, decimal, Option, Some, None, option_map, option_and_then, codes, string_bytes, if◌then◌else◌}
use Rattle.std.specs.Fmt.{signed_decimal}
use Rattle.std.specs.Str.{trim}
use Rattle.json.specs.Print.{quoted}
use Rattle.serde_json.specs.Data.{Num, unsigned, negative, float, Data, null, boolean, number, string, array, object, Items, no_items, item}
use Rattle.serde_json.specs.Find.{get, as_str, as_array}
use Rattle.serde_json.specs.Read.{read}
use Rattle.report_cli.specs.declared.asked.Asked.{Asked}
use Rattle.report_cli.specs.declared.asked.Asked.TheVariants.{Document, Schema, Blank, Wrong}
use Rattle.report_cli.specs.declared.asked.Why.{Why}
use Rattle.report_cli.specs.declared.asked.Why.TheVariants.{NotJson, NoId, WrongId, NoDocument, WrongDocument, Both, WrongSchema, EmptySchema}

-- a whole number as JSON
abbrev pub whole_number : Num → Option (List ℕ)
whole_number (unsigned n) = Some (decimal n)
whole_number (negative z) = Some (signed_decimal z)
whole_number (float x) = None

-- a text or a whole number as JSON
abbrev pub id_text : Data → Option (List ℕ)
id_text null = None
id_text (boolean b) = None
id_text (number n) = whole_number n
id_text (string s) = Some (quoted s)
id_text (array ds) = None
id_text (object ms) = None

-- a document's text under an id, as JSON; a schema's texts under one; nothing; or what cannot be done, and why, under the id if
-- there is one
pub data AskedFor : Type 0 where
  ForText : (id text : List ℕ) → AskedFor
  ForSchema : (id : List ℕ) (texts : List (List ℕ)) → AskedFor
  ForNothing : AskedFor
  InVain : (id : Option (List ℕ)) (why : Why) → AskedFor

-- under this id, what is asked for by what is under `document`
abbrev pub asked_text : List ℕ → Option (List ℕ) → AskedFor
asked_text id None = InVain (Some id) WrongDocument
asked_text id (Some text) = ForText id text

abbrev pub asked_document : List ℕ → Option Data → AskedFor
asked_document id None = InVain (Some id) NoDocument
asked_document id (Some document) = asked_text id (as_str document)

-- the texts of an array; None where an item is no text
abbrev pub text_before : Option (List ℕ) → Option (List (List ℕ)) → Option (List (List ℕ))
text_before None texts = None
text_before (Some text) texts = option_map (λ ts. text ∷ ts) texts

abbrev pub texts_in : Items → Option (List (List ℕ))
texts_in no_items = Some []
texts_in (item d ds) = text_before (as_str d) (texts_in ds)

abbrev pub texts_of : Data → Option (List (List ℕ))
texts_of d = option_and_then texts_in (as_array d)

-- under this id, what is asked for by what is under `schema`: an array of one text or more
abbrev pub asked_texts : List ℕ → Option (List (List ℕ)) → AskedFor
asked_texts id None = InVain (Some id) WrongSchema
asked_texts id (Some texts) = if length texts == 0 then InVain (Some id) EmptySchema else ForSchema id texts

abbrev pub asked_schema : List ℕ → Data → AskedFor
asked_schema id schema = asked_texts id (texts_of schema)

-- under this id, what is asked for by what is under `document` and `schema`
abbrev pub asked_either : List ℕ → Option Data → Option Data → AskedFor
asked_either id document None = asked_document id document
asked_either id None (Some schema) = asked_schema id schema
asked_either id (Some document) (Some schema) = InVain (Some id) Both

abbrev pub asked_under : Option (List ℕ) → Option Data → Option Data → AskedFor
asked_under None document schema = InVain None WrongId
asked_under (Some id) document schema = asked_either id document schema

-- what is under `id` is judged first, then what is under `document` and `schema`
abbrev pub asked_with : Option Data → Option Data → Option Data → AskedFor
asked_with None document schema = InVain None NoId
asked_with (Some id) document schema = asked_under (id_text id) document schema

abbrev pub asked_of : Data → AskedFor
asked_of d = asked_with (get (codes "id") d) (get (codes "document") d) (get (codes "schema") d)

abbrev pub asked_read : Option Data → AskedFor
asked_read None = InVain None NotJson
asked_read (Some d) = asked_of d

-- what a line asks for: nothing if it is white space alone
abbrev pub asked_by : List ℕ → AskedFor
asked_by line = if length (trim line) == 0 then ForNothing else asked_read (read line)

-- a value, in these terms
abbrev pub asked_as : Asked → AskedFor
asked_as (Document request) = ForText (string_bytes request.id) (string_bytes request.document)
asked_as (Schema request) = ForSchema (string_bytes request.id) (map string_bytes request.texts.items)
asked_as Blank = ForNothing
asked_as (Wrong id why) = InVain (option_map string_bytes id) why
