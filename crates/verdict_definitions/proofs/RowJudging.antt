-- What refuses a pair of one schema text and a document: a fault that is due of a text, a number that is not left, or a rule that is broken.
use Rattle.std.proofs.Common.{◌≡◌, ◌≢◌, List, [], ◌∷◌, subst, inl, inr}
use Rattle.graphql_names.specs.Placed.{Place}
use Rattle.graphql_faults.specs.in_grammar.Faults as read
use Rattle.graphql_faults.specs.in_read.Reads.{IsDue}
use Rattle.graphql_faults.proofs.in_read.Bounds.{memory_alone}
use Rattle.schema_fold.specs.BuildErrors as folding
use Rattle.document_typing.specs.in_schema_building.Numbers.{HaveNumbers}
use Rattle.rule_definitions.specs.Faults.{SchemaFault}
use Rattle.rule_definitions.specs.Judged.{judged}
use Rattle.rule_definitions.specs.Rules.{Breaks, SchemaRules}
use Rattle.document_typing.specs.TypingFaults as typing
use Rattle.document_typing.specs.TypingFaults.{TypingRules}
use Rattle.graphql_faults.specs.in_document_rule_definitions.PlacedDocumentFaults.{PlacedDocumentFault, DocumentFails, DocumentMergingFails, IsValidDocument}
use Rattle.graphql_faults.specs.in_document_rule_definitions.Named.{FragmentsFoundByName}
use Rattle.graphql_faults.proofs.in_document_rule_definitions.Verdicts.{valid_where_nothing_is_told}
use Rattle.verdict_definitions.specs.Texts.{SourceText, Tree, Terms, DerivesIn, ReadsText, ReadsAll, PassesNumbers, document_number}
use Rattle.verdict_definitions.specs.Meaning.{all_definitions, schema_of, document_schema, meanings_over, document_over}
use Rattle.verdict_definitions.specs.Judge.{Folds, IsAccepted}
use Rattle.verdict_definitions.specs.Says.{FoldingFails, TypingFailsOver}
use Rattle.verdict_definitions.proofs.RowReading.{one_tree, one_list}

-- ---- bounds, and texts that are not read

-- a fault is due of the document
pub unread_refused : (terms : Terms) (schemas : List SourceText) (document : SourceText) (fault : read.Fault) → fault ≢ read.Memory
    → IsDue (DerivesIn (document_number terms schemas)) terms.nesting document fault → IsAccepted terms schemas document → ⊥
unread_refused terms schemas document fault some due accepted =
    some (memory_alone (DerivesIn (document_number terms schemas)) terms.nesting document fault due accepted.over.judged.tree accepted.over.judged.read accepted.over.within.nests)

-- a fault is due of the first schema text
pub unread_schema_refused : (terms : Terms) (schema : SourceText) (schemas : List SourceText) (document : SourceText) (fault : read.Fault) → fault ≢ read.Memory
    → IsDue (DerivesIn terms.first_text) terms.nesting schema fault → IsAccepted terms (schema ∷ schemas) document → ⊥
unread_schema_refused terms schema schemas document fault some due accepted = by accepted.schema.judged.trees accepted.schema.judged.read
  where
    by : (trees : List Tree) → ReadsAll terms.first_text (schema ∷ schemas) trees → ⊥
    by [] reads = reads
    by (tree ∷ trees) reads = some (memory_alone (DerivesIn terms.first_text) terms.nesting schema fault due tree reads.0 accepted.schema.within.0.nests)

-- no number is left for the document
pub number_refused : (terms : Terms) (schemas : List SourceText) (document : SourceText) → PassesNumbers (document_number terms schemas) → IsAccepted terms schemas document → ⊥
number_refused terms schemas document passed accepted = accepted.over.within.numbered passed

-- ---- rules

module _ (terms : Terms) (schema document : SourceText) (tree : Tree) (read_schema : ReadsText terms.first_text schema tree) where
  trees_are : (accepted : IsAccepted terms (schema ∷ []) document) → accepted.schema.judged.trees ≡ tree ∷ []
  trees_are accepted = one_list terms.first_text schema tree accepted.schema.judged.trees read_schema accepted.schema.judged.read

  -- no number is left for an extension
  pub extension_refused : (HaveNumbers terms.first_extension (all_definitions (tree ∷ [])) → ⊥) → IsAccepted terms (schema ∷ []) document → ⊥
  extension_refused none accepted = none (subst (λ (ts : List Tree). HaveNumbers terms.first_extension (all_definitions ts)) (trees_are accepted) accepted.schema.numbered)

  -- a folding rule is broken
  pub folding_refused : (fault : folding.BuildFault) → FoldingFails terms (tree ∷ []) fault → IsAccepted terms (schema ∷ []) document → ⊥
  folding_refused fault fails accepted = subst (λ (ts : List Tree). Folds terms ts) (trees_are accepted) accepted.schema.judged.folds fault fails

  -- a rule on schemas is broken
  pub schema_refused : (broken : SchemaFault) → Breaks (judged (schema_of terms (tree ∷ []))) broken → IsAccepted terms (schema ∷ []) document → ⊥
  schema_refused broken breaks accepted = subst (λ (ts : List Tree). SchemaRules (judged (schema_of terms ts))) (trees_are accepted) accepted.schema.judged.holds broken breaks

  module _ (document_tree : Tree) (read_document : ReadsText (document_number terms (schema ∷ [])) document document_tree) where
    tree_is : (accepted : IsAccepted terms (schema ∷ []) document) → accepted.over.judged.tree ≡ document_tree
    tree_is accepted = one_tree (document_number terms (schema ∷ [])) document document_tree accepted.over.judged.tree read_document accepted.over.judged.read

    -- a rule of typing is broken
    pub typing_refused : (fault : typing.TypingFault Place) → TypingFailsOver (document_schema terms (tree ∷ [])) document_tree fault → IsAccepted terms (schema ∷ []) document → ⊥
    typing_refused fault fails accepted =
        subst (λ (t : Tree). TypingRules (meanings_over (document_schema terms (tree ∷ []))) t) (tree_is accepted)
        (subst (λ (ts : List Tree). TypingRules (meanings_over (document_schema terms ts)) accepted.over.judged.tree) (trees_are accepted) accepted.over.judged.typed)
        fault fails

    valid : (accepted : IsAccepted terms (schema ∷ []) document) → IsValidDocument (document_schema terms (tree ∷ [])) (document_over (document_schema terms (tree ∷ [])) document_tree)
    valid accepted =
        subst (λ (t : Tree). IsValidDocument (document_schema terms (tree ∷ [])) (document_over (document_schema terms (tree ∷ [])) t)) (tree_is accepted)
        (subst (λ (ts : List Tree). IsValidDocument (document_schema terms ts) (document_over (document_schema terms ts) accepted.over.judged.tree)) (trees_are accepted) accepted.over.judged.holds)

    module _ (are_named : FragmentsFoundByName (document_over (document_schema terms (tree ∷ [])) document_tree)) (fault : PlacedDocumentFault) where
      -- a rule on documents is broken
      pub document_refused : DocumentFails (document_schema terms (tree ∷ [])) (document_over (document_schema terms (tree ∷ [])) document_tree) fault → IsAccepted terms (schema ∷ []) document → ⊥
      document_refused fails accepted =
          (valid_where_nothing_is_told (document_schema terms (tree ∷ [])) (document_over (document_schema terms (tree ∷ [])) document_tree) are_named).0 (valid accepted) fault (inl fails)

      -- the fields do not merge
      pub merging_refused : DocumentMergingFails (document_schema terms (tree ∷ [])) (document_over (document_schema terms (tree ∷ [])) document_tree) fault → IsAccepted terms (schema ∷ []) document → ⊥
      merging_refused fails accepted =
          (valid_where_nothing_is_told (document_schema terms (tree ∷ [])) (document_over (document_schema terms (tree ∷ [])) document_tree) are_named).0 (valid accepted) fault (inr fails)
