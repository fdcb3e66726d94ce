-- The laws for texts that are read: if two lists of texts have the same definitions, in the same order within each sort, a builder makes the same of
-- both (GraphQL, October 2021, sections 2.2 and 3).
use Rattle.std.specs.Prelude.{◌≡◌, ℕ, ◌↔◌}
use Rattle.std.specs.List.{flat_map}
use Rattle.graphql_names.specs.Placed.{Place}
use Rattle.schema_fold.specs.in_definitions.DefinitionTree.{unplaced_document}
use Rattle.schema_fold.specs.in_schema_types.SchemaTree.{SchemaTree}
use Rattle.schema_fold.specs.NumberedDefinition.{Definitions}
use Rattle.schema_fold.specs.BuildErrors.{FoldingRules}
use Rattle.schema_fold.specs.Adoption.{Settings, settled}
use Rattle.schema_fold.specs.Fold.{fold}
use Rattle.schema_fold.specs.BuiltIn.{built_in_definitions}
use Rattle.rule_definitions.specs.Judged.{judged}
use Rattle.rule_definitions.specs.Rules.{SchemaRules}
use Rattle.rule_definitions.specs.Laws.{AreEqual}
use Rattle.rule_definitions.specs.Kept.{validated}
use Rattle.rule_schema_laws.specs.ReadTexts.{Texts, AreReadElsewhere}
use Rattle.verdict_laws.specs.Table.{AreOwn}
use Rattle.verdict_laws.specs.Twice.{WrittenOf}
use Rattle.verdict_laws.specs.RearrangedLists.{IsRearranged}
use Rattle.verdict_laws.specs.Permuting.{IsPermuted}
use Rattle.verdict_laws.specs.Elsewhere.{AreAllElsewhere}

-- the definitions of texts, in order
abbrev pub all_of : Texts → Definitions
all_of texts = flat_map (λ t. t.1) texts

-- ---- the premises

-- texts that are read under other numbers than that of what is built in are not in its file
abbrev pub ReadTextsStandElsewhere : Type 0
ReadTextsStandElsewhere = (texts : Texts) → AreReadElsewhere texts → AreAllElsewhere (all_of texts)

-- then no type or directive that is defined there is built in
abbrev pub ElsewhereIsOwn : Type 0
ElsewhereIsOwn = (ds : Definitions) → AreAllElsewhere ds → AreOwn ds

-- ---- the laws

module _ (settings : Settings) where
  -- the list that counts, with these settings, and the schema that it folds to, after what is built in
  abbrev pub list_of : Texts → Definitions
  list_of texts = settled built_in_definitions settings (all_of texts)

  abbrev pub schema_of_texts : ℕ → Texts → SchemaTree Place
  schema_of_texts first texts = fold built_in_definitions first (list_of texts)

  -- whichever numbers extensions are counted from: the same rules hold, the schemas are equal, and so are those that validation leaves, over which
  -- documents are judged; and the same definitions are written, in some order
  pub record MakesTheSame (i j : ℕ) (texts others : Texts) : Type 0 where
    pub folds : FoldingRules built_in_definitions i (list_of texts) ↔ FoldingRules built_in_definitions j (list_of others)
    pub rules : SchemaRules (judged (schema_of_texts i texts)) ↔ SchemaRules (judged (schema_of_texts j others))
    pub schema : AreEqual (schema_of_texts i texts) (schema_of_texts j others)
    pub for_documents : AreEqual (validated (schema_of_texts i texts)) (validated (schema_of_texts j others))
    pub writes : IsPermuted (WrittenOf built_in_definitions i (list_of texts)) (WrittenOf built_in_definitions j (list_of others))

abbrev pub LawOfRearrangingReadTexts : Type 0
LawOfRearrangingReadTexts = (settings : Settings) (i j : ℕ) (texts others : Texts) → AreReadElsewhere texts → AreReadElsewhere others
    → IsRearranged (all_of texts) (all_of others) → MakesTheSame settings i j texts others

-- texts that are cut in two ways: also, the same definitions are written in the same order
abbrev pub LawOfCuttingReadTexts : Type 0
LawOfCuttingReadTexts = (settings : Settings) (i j : ℕ) (texts others : Texts) → AreReadElsewhere texts → AreReadElsewhere others
    → unplaced_document (all_of texts) ≡ unplaced_document (all_of others)
    → MakesTheSame settings i j texts others
    × (unplaced_document (WrittenOf built_in_definitions i (list_of settings texts)) ≡ unplaced_document (WrittenOf built_in_definitions j (list_of settings others)))
