-- Two accepted lists of schema texts, or two documents, have one written text exactly when the same definitions are written.
use Rattle.std.specs.Prelude.{◌↔◌}
use Rattle.std.proofs.Common.{◌≡◌, ◌≢◌, true, List, [], ◌∷◌, sym, ap, ◌∙◌}
use Rattle.std.specs.List.{list_all}
use Rattle.std.proofs.lemmas.Bool.{and_parts}
use Rattle.graphql_names.specs.Placed.{Place}
use Rattle.tree_definitions.specs.DefinitionTree.{DefinitionTree}
use Rattle.tree_definitions.specs.Writable.{has_some, definition_writable, document_writable}
use Rattle.round_trip.specs.Definitions.{definition_well_formed}
use Rattle.round_trip.proofs.EqualTexts.{equal_documents}
use Rattle.schema_types.specs.SchemaTree.{SchemaTree}
use Rattle.schema_built_in.specs.Table.{built_in_definitions}
use Rattle.schema_fold.specs.Fold.{fold}
use Rattle.rule_schema_laws.proofs.Distinct.{folds_distinct}
use Rattle.rule_definitions.specs.Laws.{AreEqual}
use Rattle.spec_document.specs.Unplaced as meant
use Rattle.document_typing.specs.Meanings.{meanings}
use Rattle.document_typing.specs.KeptDocument.{kept_document}
use Rattle.verdict_laws.proofs.RealTable.{real_table}
use Rattle.verdict_laws.proofs.RearrangedLists.{cut}
use Rattle.verdict_laws.proofs.Marks.{are_equal}
use Rattle.verdict_laws.proofs.EqualAfter.{equal_after}
use Rattle.verdict_definitions.specs.Texts.{SourceText, Tree, Terms}
use Rattle.verdict_definitions.specs.Meaning.{all_definitions, schema_of, document_schema, meanings_over, document_over}
use Rattle.verdict_definitions.specs.Judge.{AreSchemasAccepted}
use Rattle.verdict_definitions.specs.Out.{Out, OutDoc, Layout, layout_text}
use Rattle.verdict_laws.proofs.Schemas.{schemas}
use Rattle.verdict_laws.proofs.Documents.{documents}
use Rattle.verdict_laws.proofs.TypedAlike.{kept_document_same}
use Rattle.verdict_laws.specs.RoadBack.{IsPlainLayout, IsSameTree, IsSameDocument}
use Rattle.verdict_laws.specs.EqualTexts.{TextsTellTrees, EqualSchemaTexts, EqualDocumentTexts}
use Rattle.verdict_laws.proofs.FormedDocuments.{read_formed}
use Rattle.verdict_laws.proofs.OutDocuments.{kept_of_out}
use Rattle.verdict_laws.proofs.SameMarks.{out_equal}
use Rattle.verdict_laws.proofs.SchemaBack.{joined, elsewhere, own, away, formed}
use Rattle.verdict_laws.proofs.DocumentBack.{out_formed}

-- ---- definitions that are well-formed and can be written

each_writable : (d : DefinitionTree Place) (ds : Tree) → document_writable (d ∷ ds) ≡ true → list_all definition_writable (d ∷ ds) ≡ true
each_writable d ds h = (and_parts (has_some (d ∷ ds)) (list_all definition_writable (d ∷ ds)) h).1

texts_tell : (a b : Tree) → list_all definition_well_formed a ≡ true → list_all definition_well_formed b ≡ true → document_writable a ≡ true → document_writable b ≡ true → TextsTellTrees a b
texts_tell [] b f g v w layout plain = absurd cc
texts_tell (d ∷ ds) [] f g v w layout plain = absurd cc
texts_tell (d ∷ ds) (e ∷ es) f g v w layout plain = equal_documents layout 0 d e ds es plain f g (each_writable d ds v) (each_writable e es w)

-- ---- schemas

turned : (a b : SchemaTree Place) → AreEqual a b → AreEqual b a
turned a b h = record { same = sym h.same; marks = λ at. sym (h.marks at) }

module _ (terms next : Terms) (texts others : List SourceText) (first : terms.first_text ≢ 0) (second : next.first_text ≢ 0) (a : AreSchemasAccepted terms texts) (b : AreSchemasAccepted next others)
    (same : IsSameTree (Out terms a.judged.trees) (Out next b.judged.trees)) where
  abbrev out : Tree
  out = Out terms a.judged.trees

  abbrev other_out : Tree
  other_out = Out next b.judged.trees

  -- what is written of each folds to an equal schema
  folded : AreEqual (schema_of terms a.judged.trees) (fold built_in_definitions terms.first_extension out)
  folded =
      out_equal built_in_definitions terms.first_extension terms.first_extension (all_definitions a.judged.trees) a.judged.folds real_table
      (own terms texts first a) (elsewhere terms texts first a) (away terms texts first a)

  other_folded : AreEqual (schema_of next b.judged.trees) (fold built_in_definitions next.first_extension other_out)
  other_folded =
      out_equal built_in_definitions next.first_extension next.first_extension (all_definitions b.judged.trees) b.judged.folds real_table
      (own next others second b) (elsewhere next others second b) (away next others second b)

  equal : AreEqual (schema_of terms a.judged.trees) (schema_of next b.judged.trees)
  equal =
      joined (schema_of terms a.judged.trees) (fold built_in_definitions terms.first_extension out) (schema_of next b.judged.trees) folded
      (joined (fold built_in_definitions terms.first_extension out) (fold built_in_definitions next.first_extension other_out) (schema_of next b.judged.trees)
      (are_equal built_in_definitions terms.first_extension next.first_extension out other_out (cut out other_out same) (away terms texts first a) (away next others second b))
      (turned (schema_of next b.judged.trees) (fold built_in_definitions next.first_extension other_out) other_folded))

  for_documents : AreEqual (document_schema terms a.judged.trees) (document_schema next b.judged.trees)
  for_documents =
      equal_after (schema_of terms a.judged.trees) (schema_of next b.judged.trees)
      (folds_distinct built_in_definitions terms.first_extension (all_definitions a.judged.trees)) (folds_distinct built_in_definitions next.first_extension (all_definitions b.judged.trees)) equal

pub equal_schema_texts : EqualSchemaTexts
equal_schema_texts terms next texts others first second a b = record {
  texts = texts_tell (Out terms a.judged.trees) (Out next b.judged.trees) (formed terms texts first a) (formed next others second b) (schemas terms texts first a) (schemas next others second b);
  equal = equal terms next texts others first second a b;
  for_documents = for_documents terms next texts others first second a b;
}

-- ---- documents

kept : (schema other : SchemaTree Place) (tree next : Tree) → AreEqual schema other → IsSameTree (OutDoc tree) (OutDoc next) → IsSameDocument (document_over schema tree) (document_over other next)
kept schema other tree next equal same =
    ap (λ d. meant.unplaced_document d) (sym (kept_of_out (meanings_over schema) tree))
    ∙ kept_document_same (meanings_over schema) (OutDoc tree)
    ∙ (λ i. kept_document (meanings (equal.same i)) (same i))
    ∙ sym (kept_document_same (meanings_over other) (OutDoc next))
    ∙ ap (λ d. meant.unplaced_document d) (kept_of_out (meanings_over other) next)

pub equal_document_texts : EqualDocumentTexts
equal_document_texts schema other nesting limit number next document text a b =
    let one = a.judged in
    let two = b.judged in
    record {
      texts = texts_tell (OutDoc one.tree) (OutDoc two.tree) (out_formed one.tree (read_formed number document one.tree one.read)) (out_formed two.tree (read_formed next text two.tree two.read))
          (documents schema number document one.tree one.read one.typed) (documents other next text two.tree two.read two.typed);
      equal = kept schema other one.tree two.tree;
    }
