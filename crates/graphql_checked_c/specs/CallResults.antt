-- What a call from C is told: a status, and bytes in its room.
--     0 accepted, or done     1 refused     3 not UTF-8     4 out of memory     5 too little stack     7 ends out of order     8 no prefix
use Rattle.std.specs.Prelude.{◌≡◌, ◌≢◌, ℕ, ◌≤◌, Bool, List, [], ◌++◌, length, map, flat_map, codes, Option, None, Some, ◌⊎◌, IsUtf8, true, false, if◌then◌else◌, Result, Ok, Err, String, string_bytes}
use Rattle.std.specs.List.{All}
use Rattle.graphql_faults.specs.DetailsView.{diagnostics_of}
use Rattle.tree_literals.specs.StringLayout.{is_blank}
use Rattle.verdict_definitions.specs.Texts.{SourceText, Terms}
use Rattle.verdict_definitions.specs.Judge.{IsCertain, AreSchemasCertain}
use Rattle.verdict_definitions.specs.Out.{Layout, layout_text}
use Rattle.verdict_definitions.specs.Says.{AnyFault}
use Rattle.verdict_definitions.specs.Answer.{RefusesSchemas, Refuses, WritesDocument, fault_line}
use Rattle.graphql_checked.specs.in_book_validity.Yes.{IsYes}
use Rattle.checker_calls.specs.declared.refusal.Refusal.{Refusal}
use Rattle.checker_calls.specs.declared.refusal.Refusal.TheVariants.{Faults, Memory, Failed}
use Rattle.graphql_checked.specs.in_checker_schemas.CheckedSchemaValue.{IsCheckedSchemaOf}
use Rattle.graphql_checked.specs.CheckedView.{CheckedSchemaParts, schema_value}
use Rattle.graphql_checked.specs.Verdicts.{first_terms}
use Rattle.std.specs.declared.alloc.AllocError.{AllocError}
use Rattle.graphql_checked_c.specs.declared.handle.Kept.{Kept}
use Rattle.graphql_checked_c.specs.declared.held.HeldText.{HeldText}
use Rattle.graphql_checked_c.specs.HeldTexts.{text_of, AreHeld, AreNotNamed, OneHasNotUtf8}
use Rattle.graphql_checked_c.specs.Json.{IsJson}
use Rattle.ffi_memory.specs.Cut.{IsCut}
use Rattle.ffi_memory.specs.Room.{IsPut}
use Rattle.ffi_memory.specs.Stack.{stack_of_nesting, stack_given}

-- ---- statuses and room

abbrev pub IsStatus : ℕ → Type 0
IsStatus status = (status ≡ 0) ⊎ (status ≡ 1) ⊎ (status ≡ 3) ⊎ (status ≡ 4) ⊎ (status ≡ 5) ⊎ (status ≡ 7) ⊎ (status ≡ 8)

-- it is done, or memory ran out
abbrev pub IsDoneOrMemory : ℕ → Type 0
IsDoneOrMemory status = (status ≡ 0) ⊎ (status ≡ 4)

-- the same for a call that takes a prefix, which may be refused
abbrev pub IsDoneOrMemoryOrPrefix : ℕ → Type 0
IsDoneOrMemoryOrPrefix status = IsDoneOrMemory status ⊎ (status ≡ 8)

-- the stack that the caller gives suffices for the nesting, by measurement
abbrev pub HasStack : ℕ → ℕ → Type 0
HasStack stack nesting = stack_of_nesting nesting ≤ stack_given stack

-- bytes for which `says` holds are put into the room
abbrev pub IsToldIn : List ℕ → List ℕ → ℕ → (List ℕ → Type 0) → Type 0
IsToldIn old new needed says = (bytes : List ℕ) × (says bytes × IsPut bytes old new needed)

-- nothing is told
abbrev pub IsUntold : List ℕ → List ℕ → ℕ → Type 0
IsUntold old new needed = (needed ≡ 0) × (new ≡ old)

-- the report of these faults, as the program writes it
abbrev pub report_of : List AnyFault → List ℕ
report_of faults = codes "refused\n" ++ flat_map fault_line faults

-- The report of faults of the schema's texts, or else of a document at that path: as lines of JSON, or as the program writes it.
abbrev pub IsTold : Bool → Bool → List HeldText → List ℕ → SourceText → List AnyFault → List ℕ → Type 0
IsTold true is_document held path document faults bytes = IsJson is_document held path document faults bytes
IsTold false is_document held path document faults bytes = bytes ≡ report_of faults

-- ---- schema texts that are opened

-- the kept texts have these ends, and names with these ends, and the schema is that of the texts
abbrev pub IsKeptOfTexts : ℕ → List ℕ → List ℕ → List ℕ → List ℕ → Kept → Type 0
IsKeptOfTexts nesting names name_ends texts ends kept =
    AreHeld names name_ends texts ends kept.texts.items × IsCheckedSchemaOf (first_terms nesting) (map text_of kept.texts.items) (schema_value kept.schema)

-- the schema of these texts is held
abbrev pub HoldsSchemaOf : ℕ → List ℕ → List ℕ → List ℕ → List ℕ → Option Kept → Type 0
HoldsSchemaOf nesting names name_ends texts ends value = (kept : Kept) × ((value ≡ Some kept) × IsKeptOfTexts nesting names name_ends texts ends kept)

-- the report on the texts, which are refused, each under its name
abbrev pub IsToldOfTexts : Bool → ℕ → List ℕ → List ℕ → List ℕ → List ℕ → List ℕ → Type 0
IsToldOfTexts json nesting names name_ends texts ends bytes =
    (held : List HeldText) × (AreHeld names name_ends texts ends held
    × ((faults : List AnyFault) × (RefusesSchemas (first_terms nesting) (map text_of held) faults × IsTold json false held (codes "schema") (codes "") faults bytes)))

-- as many names as texts, all of which are UTF-8, and the texts are certain
abbrev pub AreCertainTexts : ℕ → List ℕ → List ℕ → List ℕ → List ℕ → Type 0
AreCertainTexts nesting names name_ends texts ends =
    (length name_ends ≡ length ends) × (((paths : List (List ℕ)) × (IsCut names name_ends paths × All IsUtf8 paths))
    × ((schemas : List SourceText) × (IsCut texts ends schemas × All IsUtf8 schemas × AreSchemasCertain (first_terms nesting) schemas)))

-- ---- a document over a schema that is held

-- `says` holds of all texts of which this is the schema
abbrev pub OfItsTexts : CheckedSchemaParts → (Terms → List SourceText → Type 0) → Type 0
OfItsTexts schema says = (terms : Terms) (schemas : List SourceText) → IsCheckedSchemaOf terms schemas (schema_value schema) → says terms schemas

abbrev pub IsYesOver : CheckedSchemaParts → SourceText → Type 0
IsYesOver schema document = OfItsTexts schema (λ terms schemas. IsYes terms schemas document)

-- the report on a document at that path, over a schema whose texts have their names
abbrev pub IsToldOver : Bool → Kept → List ℕ → SourceText → List ℕ → Type 0
IsToldOver json kept path document bytes =
    OfItsTexts kept.schema (λ terms schemas. (faults : List AnyFault) × (Refuses terms schemas document faults × IsTold json true kept.texts.items path document faults bytes))

abbrev pub OneIsNotUtf8 : List ℕ → List ℕ → Type 0
OneIsNotUtf8 path document = (IsUtf8 path → ⊥) ⊎ (IsUtf8 document → ⊥)

abbrev pub IsCertainOver : CheckedSchemaParts → List ℕ → SourceText → Type 0
IsCertainOver schema path document =
    IsUtf8 path × IsUtf8 document × ((terms : Terms) × ((schemas : List SourceText) × (IsCheckedSchemaOf terms schemas (schema_value schema) × IsCertain terms schemas document)))

-- ---- texts that are written

-- lines that begin with the prefix once for each level, or one line
abbrev pub layout_of : Bool → List ℕ → Layout
layout_of lines prefix = if lines then Some prefix else None

abbrev pub IsSchemaText : Layout → CheckedSchemaParts → List ℕ → Type 0
IsSchemaText layout schema bytes = bytes ≡ layout_text layout (schema_value schema).written

abbrev pub IsDocumentText : Layout → CheckedSchemaParts → SourceText → List ℕ → Type 0
IsDocumentText layout schema document bytes = IsYesOver schema document × WritesDocument layout schema.number document bytes

-- lines are asked for, and the prefix is not UTF-8 of spaces and tabs only
abbrev pub IsNoPrefix : Bool → List ℕ → Type 0
IsNoPrefix lines prefix = (lines ≡ true) × (IsUtf8 prefix → is_blank prefix ≡ true → ⊥)

-- ---- private: what the parts answer

-- status and bytes of a refusal, of the schema's texts, or else of a document at that path
abbrev pub TellsRefusal : Bool → Bool → List HeldText → List ℕ → SourceText → Refusal → ℕ → List ℕ → Type 0
TellsRefusal json is_document held path document (Faults list) status bytes =
    ((status ≡ 1) × IsTold json is_document held path document (diagnostics_of list) bytes) ⊎ ((status ≡ 4) × (bytes ≡ []))
TellsRefusal json is_document held path document Memory status bytes = (status ≡ 4) × (bytes ≡ [])
TellsRefusal json is_document held path document Failed status bytes = ⊥

-- status and bytes of a text that is written
abbrev pub TellsText : {Z : Type 0} → Result (String Z) AllocError → ℕ → List ℕ → Type 0
TellsText (Ok text) status bytes = (status ≡ 0) × (bytes ≡ string_bytes text)
TellsText (Err fault) status bytes = (status ≡ 4) × (bytes ≡ [])

-- the text of a schema, or memory ran out
abbrev pub TellsSchemaText : Layout → CheckedSchemaParts → ℕ → List ℕ → Type 0
TellsSchemaText layout schema status bytes = ((status ≡ 0) × IsSchemaText layout schema bytes) ⊎ ((status ≡ 4) × (bytes ≡ []))

-- the status, and what is held: the schema with its texts, or nothing if memory ran out
abbrev pub KeepsOrNot : Kept → Option Kept → ℕ → Type 0
KeepsOrNot kept value status = ((status ≡ 0) × (value ≡ Some kept)) ⊎ ((status ≡ 4) × (value ≡ None))

pub record AnswersTexts (json : Bool) (nesting : ℕ) (names name_ends texts ends : List ℕ) (status : ℕ) (bytes : List ℕ) : Type 0 where
  pub report : status ≡ 1 → IsToldOfTexts json nesting names name_ends texts ends bytes
  pub encoding : status ≡ 3 → OneHasNotUtf8 names name_ends texts ends
  pub order : status ≡ 7 → AreNotNamed names name_ends texts ends
  pub known : IsStatus status
  pub undone : status ≢ 0
  pub measured : status ≢ 5
  pub certain : AreCertainTexts nesting names name_ends texts ends → status ≡ 4
  pub untold : status ≢ 1 → bytes ≡ []

-- the answer for a document: if the status is 0, `told` holds of the bytes; else the status, with a report for 1, says why
pub record AnswersOver (json : Bool) (told : List ℕ → Type 0) (kept : Kept) (path : List ℕ) (document : SourceText) (status : ℕ) (bytes : List ℕ) : Type 0 where
  pub done : status ≡ 0 → told bytes
  pub report : status ≡ 1 → IsToldOver json kept path document bytes
  pub encoding : status ≡ 3 → OneIsNotUtf8 path document
  pub known : IsStatus status
  pub prefixed : status ≢ 8
  pub certain : IsCertainOver kept.schema path document → IsDoneOrMemory status
  pub untold : status ≢ 0 → status ≢ 1 → bytes ≡ []

-- the document is accepted, and no bytes go with that
abbrev pub IsYesAlone : SourceText → Kept → List ℕ → Type 0
IsYesAlone document kept bytes = IsYesOver kept.schema document × (bytes ≡ [])

-- something is kept, and `says` holds of it
abbrev pub IsOfKept : Option Kept → (Kept → Type 0) → Type 0
IsOfKept value says = (kept : Kept) × ((value ≡ Some kept) × says kept)

-- the answer for a document over what is kept
pub record AnswersKept (json : Bool) (told : Kept → List ℕ → Type 0) (value : Option Kept) (path : List ℕ) (document : SourceText) (status : ℕ) (bytes : List ℕ) : Type 0 where
  pub kept : Kept
  pub is : value ≡ Some kept
  pub answers : AnswersOver json (told kept) kept path document status bytes
