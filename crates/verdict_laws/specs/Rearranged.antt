-- The law of rearranging and the law of cutting: schema texts with the same definitions, in the same order within each sort, get the same verdict,
-- and so does each document over them (GraphQL, October 2021, sections 2.2, 3 and 5).
use Rattle.std.specs.Prelude.{◌≡◌, ◌≢◌, ℕ, ◌<◌, ◌^◌, List, ◌↔◌}
use Rattle.tree_definitions.specs.DefinitionTree.{unplaced_document}
use Rattle.rule_definitions.specs.Laws.{AreEqual}
use Rattle.verdict_laws.specs.RearrangedLists.{IsRearranged}
use Rattle.verdict_laws.specs.Permuting.{IsPermuted}
use Rattle.verdict_definitions.specs.Texts.{SourceText, Tree, Terms, ReadsAll, document_number}
use Rattle.verdict_definitions.specs.Meaning.{all_definitions, document_schema}
use Rattle.verdict_definitions.specs.Judge.{JudgeSchemas, Judge, AreSchemasAccepted, AreSchemasCertain, IsAccepted, IsCertain}
use Rattle.verdict_definitions.specs.Out.{Out, Layout, layout_text}
use Rattle.verdict_definitions.specs.Answer.{WritesSchema, AcceptedBytes}
use Rattle.verdict_laws.specs.AnyNumber.{IsNumber}

-- ---- the premises

-- Both lists of schema texts are read, counted from a number other than that of what is built in, and their definitions are related by `Same`.
pub record AreBothRead (Same : Tree → Tree → Type 0) (terms : Terms) (texts others : List SourceText) : Type 0 where
  pub elsewhere : terms.first_text ≢ 0
  pub trees : List Tree
  pub other_trees : List Tree
  pub read : ReadsAll terms.first_text texts trees
  pub other_read : ReadsAll terms.first_text others other_trees
  pub same : Same (all_definitions trees) (all_definitions other_trees)

-- the same definitions, in the same order within each sort
abbrev pub AreRearranged : Terms → List SourceText → List SourceText → Type 0
AreRearranged = AreBothRead IsRearranged

-- one list of definitions, cut into texts in two ways: each text that is read has at least one definition
abbrev pub AreCut : Terms → List SourceText → List SourceText → Type 0
AreCut = AreBothRead (λ ds es. unplaced_document ds ≡ unplaced_document es)

-- each text of the list has a number: the greatest of 64 bits is given to none
abbrev pub TextsHaveNumbers : Terms → List SourceText → Type 0
TextsHaveNumbers terms texts = document_number terms texts < 2 ^ 64

-- and a number is left for a document after them
abbrev pub LeaveNumber : Terms → List SourceText → Type 0
LeaveNumber terms texts = IsNumber (document_number terms texts)

-- ---- what is the same

module _ (terms : Terms) (texts others : List SourceText) where
  -- The verdict is the same on the schema texts and, over them, on every document; and documents are judged over equal schemas.
  pub record AreJudgedAlike : Type 0 where
    pub schemas : JudgeSchemas terms texts ↔ JudgeSchemas terms others
    pub for_documents : (a : JudgeSchemas terms texts) (b : JudgeSchemas terms others) → AreEqual (document_schema terms a.trees) (document_schema terms b.trees)
    pub pairs : (document : SourceText) → Judge terms texts document ↔ Judge terms others document

  -- One list of schema texts is accepted, or certain, exactly when the other is, and so is each pair, if both have numbers.
  pub record AreAcceptedAlike : Type 0 where
    pub schemas : TextsHaveNumbers terms texts → TextsHaveNumbers terms others → AreSchemasAccepted terms texts ↔ AreSchemasAccepted terms others
    pub schemas_for_sure : TextsHaveNumbers terms texts → TextsHaveNumbers terms others → AreSchemasCertain terms texts ↔ AreSchemasCertain terms others
    pub pairs : LeaveNumber terms texts → LeaveNumber terms others → (document : SourceText) → IsAccepted terms texts document ↔ IsAccepted terms others document
    pub pairs_for_sure : LeaveNumber terms texts → LeaveNumber terms others → (document : SourceText) → IsCertain terms texts document ↔ IsCertain terms others document

-- ---- the laws

-- the verdicts are the same, and the same definitions are written of both schemas, in some order
pub record RearrangingIsFree (terms : Terms) (texts others : List SourceText) (same : AreRearranged terms texts others) : Type 0 where
  pub judged : AreJudgedAlike terms texts others
  pub accepted : AreAcceptedAlike terms texts others
  pub writes : IsPermuted (Out terms same.trees) (Out terms same.other_trees)

abbrev pub LawOfRearranging : Type 0
LawOfRearranging = (terms : Terms) (texts others : List SourceText) (same : AreRearranged terms texts others) → RearrangingIsFree terms texts others same

-- the verdicts are the same; the same definitions are written of both schemas, in the same order: the same text in every layout; and the same bytes
-- are output for every accepted pair
pub record CuttingIsFree (terms : Terms) (texts others : List SourceText) (same : AreCut terms texts others) : Type 0 where
  pub judged : AreJudgedAlike terms texts others
  pub accepted : AreAcceptedAlike terms texts others
  pub writes : unplaced_document (Out terms same.trees) ≡ unplaced_document (Out terms same.other_trees)
  pub texts_written : (layout : Layout) → layout_text layout (Out terms same.trees) ≡ layout_text layout (Out terms same.other_trees)
  pub written : (layout : Layout) (bytes : List ℕ) → WritesSchema terms layout texts bytes ↔ WritesSchema terms layout others bytes
  pub answered : LeaveNumber terms texts → LeaveNumber terms others → (layout : Layout) (document : SourceText) (bytes : List ℕ)
      → AcceptedBytes terms layout texts document bytes ↔ AcceptedBytes terms layout others document bytes

abbrev pub LawOfCutting : Type 0
LawOfCutting = (terms : Terms) (texts others : List SourceText) (same : AreCut terms texts others) → CuttingIsFree terms texts others same
