-- What may be answered for texts: lists of faults, and bytes.
use Rattle.std.specs.Prelude.{◌≡◌, ◌≢◌, ℕ, ◌+◌, ◌≤◌, List, [], ◌∷◌, ◌++◌, length, flat_map, Contains, codes, None, Some, if◌then◌else◌, ◌⊎◌}
use Rattle.std.specs.Fmt.{decimal}
use Rattle.graphql_names.specs.Places.{is_built_in}
use Rattle.graphql_names.specs.Placed.{Place}
use Rattle.schema_fold.specs.BuildErrors as folding
use Rattle.schema_types.specs.SchemaTree.{SchemaTree}
use Rattle.document_typing.specs.in_schema_building.Numbers.{HaveNumbers}
use Rattle.rule_definitions.specs.PlacedFaults.{PlacedFault}
use Rattle.rule_definitions.specs.Room.{most_told}
use Rattle.graphql_faults.specs.in_document_rule_definitions.PlacedDocumentFaults.{PlacedDocumentFault}
use Rattle.document_typing.specs.TypingFaults as typing
use Rattle.graphql_faults.specs.DetailsMessages.{details_message}
use Rattle.graphql_faults.specs.DetailsTree.{of_rule, of_folding, of_typing, of_document}
use Rattle.verdict_definitions.specs.Texts.{SourceText, Tree, Terms, ReadsText, ReadsAll, document_number, IsWithin, AreWithin, IsRead, AreRead}
use Rattle.verdict_definitions.specs.Meaning.{all_definitions, document_schema}
use Rattle.verdict_definitions.specs.Judge.{AreSchemasAccepted, IsAccepted}
use Rattle.verdict_definitions.specs.Says.{AnyFault, spent, UnreadFault, FoldingFails, SchemaRuleFailsBesideCycles, TypingFailsOver, DocumentRuleFailsBeside, SaysSchema, SaysDocument}
use Rattle.verdict_definitions.specs.Out.{Out, OutDoc, Layout, layout_text, as_lines}

-- ---- lists of faults

-- each text is read or has one fault in the list, in the order of the texts; the first text has the number `first`
abbrev pub UnreadFaults : ℕ → ℕ → List SourceText → List AnyFault → Type 0
UnreadFaults nesting first [] faults = faults ≡ []
UnreadFaults nesting first (text ∷ texts) faults =
    (IsRead nesting first text × UnreadFaults nesting (first + 1) texts faults)
    ⊎ ((fault : AnyFault) × ((others : List AnyFault) × (
    (faults ≡ fault ∷ others) × UnreadFault nesting first text fault × UnreadFaults nesting (first + 1) texts others)))

-- `says` holds of each of these faults
abbrev pub AllSay : (AnyFault → Type 0) → List AnyFault → Type 0
AllSay says faults = (fault : AnyFault) → Contains faults fault → says fault

-- the fault is in the list, or the list has as many faults as one call tells
abbrev pub IsToldUnlessFull : List AnyFault → AnyFault → Type 0
IsToldUnlessFull faults fault = Contains faults fault ⊎ (most_told ≤ length faults)

-- The schema texts are refused with these faults: there is at least one, and each is true of the texts. If a text is not read, the list has one
-- fault for each unread text and no other. If all are read and no number is left for an extension, that is the only fault (`spent`). Otherwise each
-- breach of a folding rule is in the list; if there is none, each breach of a rule on schemas is (`rules`), except that some on cycles may be
-- missing, unless as many are told as one call tells.
pub record RefusesSchemas (terms : Terms) (schemas : List SourceText) (faults : List AnyFault) : Type 0 where
  pub some : faults ≢ []
  pub says : AllSay (SaysSchema terms schemas) faults
  pub alone : UnreadFaults terms.nesting terms.first_text schemas faults ⊎ AreRead terms.nesting terms.first_text schemas
  pub full : AreWithin terms.nesting terms.first_text schemas → (trees : List Tree) → ReadsAll terms.first_text schemas trees
      → (faults ≡ spent ∷ []) ⊎ ((fault : folding.BuildFault) → FoldingFails terms trees fault → Contains faults (of_folding fault))
  pub rules : AreWithin terms.nesting terms.first_text schemas → (trees : List Tree) → ReadsAll terms.first_text schemas trees
      → HaveNumbers terms.first_extension (all_definitions trees) → ((fault : folding.BuildFault) → FoldingFails terms trees fault → ⊥)
      → (fault : PlacedFault) → SchemaRuleFailsBesideCycles terms trees fault → IsToldUnlessFull faults (of_rule fault)
  pub spent : AreWithin terms.nesting terms.first_text schemas → (trees : List Tree) → ReadsAll terms.first_text schemas trees
      → (HaveNumbers terms.first_extension (all_definitions trees) → ⊥) → faults ≡ spent ∷ []

-- the only fault is that the document is not read
abbrev pub UnreadAlone : ℕ → ℕ → SourceText → List AnyFault → Type 0
UnreadAlone nesting number document faults = (fault : AnyFault) × ((faults ≡ fault ∷ []) × UnreadFault nesting number document fault)

-- The document, which has this number, is refused over the schema with these faults: there is at least one, and each is true of it. If it is not
-- read, that is the only fault. Otherwise each breach of a rule of typing is in the list; if there is none, each breach of a rule on documents is
-- (`rules`), except that some on fragments that reach themselves and on merging may be missing, unless as many are told as one call tells.
pub record RefusesDocument (schema : SchemaTree Place) (nesting number : ℕ) (document : SourceText) (faults : List AnyFault) : Type 0 where
  pub some : faults ≢ []
  pub says : AllSay (SaysDocument schema nesting number document) faults
  pub alone : UnreadAlone nesting number document faults ⊎ IsRead nesting number document
  pub full : IsWithin nesting number document → (tree : Tree) → ReadsText number document tree
      → (fault : typing.TypingFault Place) → TypingFailsOver schema tree fault → Contains faults (of_typing fault)
  pub rules : IsWithin nesting number document → (tree : Tree) → ReadsText number document tree
      → ((fault : typing.TypingFault Place) → TypingFailsOver schema tree fault → ⊥)
      → (fault : PlacedDocumentFault) → DocumentRuleFailsBeside schema tree fault → IsToldUnlessFull faults (of_document fault)

-- The pair is refused with these faults: the schema texts are, or they are accepted and the document is.
abbrev pub Refuses : Terms → List SourceText → SourceText → List AnyFault → Type 0
Refuses terms schemas document faults =
    RefusesSchemas terms schemas faults
    ⊎ ((accepted : AreSchemasAccepted terms schemas) × RefusesDocument (document_schema terms accepted.judged.trees) terms.nesting (document_number terms schemas) document faults)

-- ---- lines

-- the number and offset of a place; `-` if there is no place, and for what is built in
abbrev pub place_text : Place → List ℕ
place_text None = codes "-"
place_text (Some span) = if is_built_in (Some span) then codes "-" else decimal span.file_id.0 ++ codes ":" ++ decimal span.offset

-- the line of a fault
abbrev pub fault_line : AnyFault → List ℕ
fault_line fault = place_text fault.place ++ codes ": " ++ details_message fault.details ++ codes "\n"

-- ---- written texts

-- the written schema of texts
abbrev pub WritesSchema : Terms → Layout → List SourceText → List ℕ → Type 0
WritesSchema terms layout schemas bytes = (trees : List Tree) × (ReadsAll terms.first_text schemas trees × (bytes ≡ layout_text layout (Out terms trees)))

-- the written document of a text with this number
abbrev pub WritesDocument : Layout → ℕ → SourceText → List ℕ → Type 0
WritesDocument layout number document bytes = (tree : Tree) × (ReadsText number document tree × (bytes ≡ layout_text layout (OutDoc tree)))

-- ---- the bytes of an answer

-- `accepted` and the written texts, each ending with a line feed
pub record AcceptedBytes (terms : Terms) (layout : Layout) (schemas : List SourceText) (document : SourceText) (bytes : List ℕ) : Type 0 where
  pub accepted : IsAccepted terms schemas document
  pub written_schema : List ℕ
  pub written_document : List ℕ
  pub writes_schema : WritesSchema terms layout schemas written_schema
  pub writes_document : WritesDocument layout (document_number terms schemas) document written_document
  pub is : bytes ≡ codes "accepted\n" ++ as_lines layout written_schema ++ as_lines layout written_document

-- `refused` and a line for each fault
pub record RefusedBytes (terms : Terms) (schemas : List SourceText) (document : SourceText) (bytes : List ℕ) : Type 0 where
  pub faults : List AnyFault
  pub refused : Refuses terms schemas document faults
  pub is : bytes ≡ codes "refused\n" ++ flat_map fault_line faults

-- The bytes that may be output for these texts.
abbrev pub Answer : Terms → Layout → List SourceText → SourceText → List ℕ → Type 0
Answer terms layout schemas document bytes = AcceptedBytes terms layout schemas document bytes ⊎ RefusedBytes terms schemas document bytes
