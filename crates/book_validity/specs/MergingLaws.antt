-- The rules on merging hold exactly when the specification's algorithm answers true.
use Rattle.std.specs.Prelude.{◌↔◌, ℕ, zero, suc, List, ◌⊎◌}
use Rattle.graphql_names.specs.Placed.{Place}
use Rattle.schema_types.specs.SchemaTree.{SchemaTree}
use Rattle.schema_types.specs.Plain.{plain}
use Rattle.schema_built_in.specs.Table.{built_in_definitions}
use Rattle.schema_fold.specs.NumberedDefinition.{Definitions}
use Rattle.schema_fold.specs.Fold.{fold}
use Rattle.spec_document.specs.Unplaced.{unplaced_document}
use Rattle.verdict_definitions.specs.in_typing.Meanings.{meanings}
use Rattle.verdict_definitions.specs.in_typing.KeptDocument.{kept_document}
use Rattle.rule_definitions.specs.Words.{IfPresent}
use Rattle.rule_definitions.specs.Judged.{Judged, judged}
use Rattle.rule_definitions.specs.Names.{named_in}
use Rattle.rule_definitions.specs.Kept.{validated}
use Rattle.rule_definitions.specs.Rules.{SchemaRules}
use Rattle.rule_document_definitions.specs.Selected.{HasNone, as_field, own}
use Rattle.rule_document_definitions.specs.Reached.{Reached}
use Rattle.rule_document_definitions.specs.PossibleTypes.{IsComposite}
use Rattle.rule_document_definitions.specs.Merging.{FieldsMerge}
use Rattle.rule_document_definitions.specs.Verdict.{Merging}
use Rattle.rule_document_definitions.specs.Named.{FragmentsFoundByName}
use Rattle.book_validity.specs.Words.{Document, Operation, Selection, Field, Never}
use Rattle.book_validity.specs.FieldSelectionMerging.{IsScalarOrEnum, selection_set, IsIn, FieldsInSetCanMerge, CanMerge, DoItsFieldsMerge}
use Rattle.book_validity.specs.Document.{DoFieldsMerge}
use Rattle.book_validity.specs.OfDifferent.{AnySetCanMerge}

-- ---- what the verdict is about: a schema that keeps the rules, and what is kept of a document over it

-- what is kept of a document over a schema keeps the rule on merging exactly when its fields merge by the algorithm
abbrev pub KeptMergesAsSpecified : SchemaTree Place → Definitions → Type 0
KeptMergesAsSpecified s document = Merging (judged s) (unplaced_document (kept_document (meanings (plain s)) document))
    ↔ DoFieldsMerge (judged s) (unplaced_document (kept_document (meanings (plain s)) document))

-- the same over the schema that definitions fold to after what is built in, as validation leaves it
abbrev pub AcceptedMergesAsSpecified : Type 0
AcceptedMergesAsSpecified = (first : ℕ) (texts document : Definitions) → SchemaRules (judged (fold built_in_definitions first texts))
    → KeptMergesAsSpecified (validated (fold built_in_definitions first texts)) document

-- ---- any schema, document and operation whose fields are as the algorithm takes for granted

module _ (s : Judged) where
  -- the field is selected on an object, interface or union (sections 5.3.1 and 5.5.1.3), returns a scalar, an enum, an object, interface or union
  -- (section 3.6), and selects nothing if it returns a scalar or enum (section 5.3.3)
  pub record IsTypedField (field : Field) : Type 0 where
    pub parent : IsComposite s field.parent
    pub returns : IsScalarOrEnum s (named_in field.definition.ty) ⊎ IsComposite s (named_in field.definition.ty)
    pub leaf : IsScalarOrEnum s (named_in field.definition.ty) → HasNone field.set

  -- each field that the operation reaches is typed
  abbrev pub FieldsAreTyped : Document → Operation → Type 0
  FieldsAreTyped d o = (x : Selection) → Reached d o x → IfPresent (as_field x) IsTypedField

abbrev pub TypedMergesAsSpecified : Type 0
TypedMergesAsSpecified = (s : Judged) (d : Document) (o : Operation) → FieldsAreTyped s d o → FieldsMerge s d o ↔ DoItsFieldsMerge s d o

-- ---- the operation's own selection set can merge exactly when each set that it reaches can

abbrev pub EverySetCanMerge : Type 0
EverySetCanMerge = (s : Judged) (d : Document) (o : Operation) → CanMerge s d (own o) ↔ DoItsFieldsMerge s d o

-- pairs of two different fields suffice
abbrev pub EitherReading : Type 0
EitherReading = (s : Judged) (d : Document) (o : Operation) → FieldsAreTyped s d o → FragmentsFoundByName d → DoItsFieldsMerge s d o ↔ AnySetCanMerge s d o

-- ---- depths: where the algorithm ends, a depth decides

-- fields are nested in the set to this depth at most
abbrev pub EndsWithin : Document → ℕ → List Selection → Type 0
EndsWithin d zero set = (field : Field) → Never (IsIn d set field)
EndsWithin d (suc depth) set = (field : Field) → IsIn d set field → EndsWithin d depth (selection_set field)

abbrev pub OneDepthDecides : Type 0
OneDepthDecides = (s : Judged) (d : Document) (set : List Selection) (depth : ℕ) → EndsWithin d depth set → CanMerge s d set ↔ FieldsInSetCanMerge s d (suc depth) set
