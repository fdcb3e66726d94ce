-- Texts are accepted exactly when the book says yes.
use Rattle.std.proofs.Common.{◌≡◌, ℕ, List, sym, subst}
use Rattle.schema_built_in.specs.Table.{built_in_definitions}
use Rattle.rule_definitions.specs.Judged.{judged}
use Rattle.rule_definitions.specs.Rules.{SchemaRules}
use Rattle.verdict_definitions.specs.Texts.{SourceText, Tree, Terms}
use Rattle.verdict_definitions.specs.Meaning.{all_definitions, schema_of, document_schema, meanings_over}
use Rattle.verdict_definitions.specs.Judge.{AreSchemasAccepted, IsDocumentAccepted}
use Rattle.rule_selections.proofs.in_typing.WholeDocuments.{document-whole}
use Rattle.book_validity.specs.Yes.{meaning_over, schema_for_documents, AreValidSchemas, IsValidOver, TypedIsKeptWhole}
use Rattle.book_validity.proofs.Folded.{has_scalars, filtered, accepted}
use Rattle.book_validity.specs.Laws.{SchemasAcceptedByTheBook, DocumentsAcceptedByTheBook, AcceptedByTheBook}
use Rattle.book_validity.proofs.SchemaFacts.{schema_rules_hold}
use Rattle.book_validity.proofs.DocumentFacts.{rules_hold}
use Rattle.book_validity.proofs.DocumentTyped.{typed_by_the_book}
use Rattle.book_validity.proofs.FoldingFacts.{folded_by_the_book}
use Rattle.book_validity.proofs.ByName.{meaning_by_name}

-- ---- schema texts

module _ (terms : Terms) (schemas : List SourceText) where
  abbrev valid_schemas : AreSchemasAccepted terms schemas → AreValidSchemas terms schemas
  valid_schemas a =
      let s = a.judged in
      record {
        trees = s.trees;
        read = s.read;
        within = a.within;
        folds = (folded_by_the_book built_in_definitions terms.first_extension (all_definitions s.trees)).1 s.folds;
        numbered = a.numbered;
        valid = (schema_rules_hold (judged (schema_of terms s.trees)) (has_scalars terms.first_extension (all_definitions s.trees))).1 s.holds;
      }

  abbrev accepted_schemas : AreValidSchemas terms schemas → AreSchemasAccepted terms schemas
  accepted_schemas s = record {
    judged = record {
      trees = s.trees;
      read = s.read;
      folds = (folded_by_the_book built_in_definitions terms.first_extension (all_definitions s.trees)).0 s.folds;
      holds = (schema_rules_hold (judged (schema_of terms s.trees)) (has_scalars terms.first_extension (all_definitions s.trees))).0 s.valid;
    };
    within = s.within;
    numbered = s.numbered;
  }

pub schemas_by_the_book : SchemasAcceptedByTheBook
schemas_by_the_book terms schemas = (valid_schemas terms schemas, accepted_schemas terms schemas)

-- ---- a document over the schema of such texts

module _ (terms : Terms) (trees : List Tree) (rules : SchemaRules (judged (schema_of terms trees))) (nesting number : ℕ) (document : SourceText) where
  abbrev valid_over : IsDocumentAccepted (document_schema terms trees) nesting number document → IsValidOver (document_schema terms trees) nesting number document
  valid_over a =
      let j = a.judged in
      record {
        tree = j.tree;
        read = j.read;
        within = a.within;
        typed = (typed_by_the_book (meanings_over (document_schema terms trees)) j.tree).1 j.typed;
        valid = (rules_hold (judged (document_schema terms trees)) (meaning_over (document_schema terms trees) j.tree) (meaning_by_name (meanings_over (document_schema terms trees)) j.tree)).1 j.holds.0;
        merges = (accepted terms.first_extension (all_definitions trees) j.tree rules).0 j.holds.1;
      }

  abbrev accepted_over : IsValidOver (document_schema terms trees) nesting number document → IsDocumentAccepted (document_schema terms trees) nesting number document
  accepted_over o = record {
    judged = record {
      tree = o.tree;
      read = o.read;
      typed = (typed_by_the_book (meanings_over (document_schema terms trees)) o.tree).0 o.typed;
      holds = (
        (rules_hold (judged (document_schema terms trees)) (meaning_over (document_schema terms trees) o.tree) (meaning_by_name (meanings_over (document_schema terms trees)) o.tree)).0 o.valid,
        (accepted terms.first_extension (all_definitions trees) o.tree rules).1 o.merges,
      );
    };
    within = o.within;
  }

  -- the schema that documents are checked against is the filtered one
  the_filtered : document_schema terms trees ≡ schema_for_documents terms trees
  the_filtered = filtered terms.first_extension (all_definitions trees)

  pub over_filtered : IsDocumentAccepted (document_schema terms trees) nesting number document → IsValidOver (schema_for_documents terms trees) nesting number document
  over_filtered a = subst (λ s. IsValidOver s nesting number document) the_filtered (valid_over a)

  pub accepted_filtered : IsValidOver (schema_for_documents terms trees) nesting number document → IsDocumentAccepted (document_schema terms trees) nesting number document
  accepted_filtered o = accepted_over (subst (λ s. IsValidOver s nesting number document) (sym the_filtered) o)

pub documents_by_the_book : DocumentsAcceptedByTheBook
documents_by_the_book terms trees rules nesting number document = (over_filtered terms trees rules nesting number document, accepted_filtered terms trees rules nesting number document)

-- ---- and the document that is judged is the one that was read

pub kept_whole : TypedIsKeptWhole
kept_whole schema tree typed = document-whole (meanings_over schema) tree ((typed_by_the_book (meanings_over schema) tree).0 typed)

-- ---- both

pub accepted_by_the_book : AcceptedByTheBook
accepted_by_the_book terms schemas document = (
  λ a. record {
    schema = valid_schemas terms schemas a.schema;
    over = over_filtered terms a.schema.judged.trees a.schema.judged.holds _ _ document a.over;
  },
  λ y. record {
    schema = accepted_schemas terms schemas y.schema;
    over = accepted_filtered terms y.schema.trees (accepted_schemas terms schemas y.schema).judged.holds _ _ document y.over;
  },
)
