-- The written pair leads back.
use Rattle.std.proofs.Common.{◌≡◌, ◌≢◌, ℕ, ◌+◌, ◌≤◌, List, [], ◌∷◌, ◌++◌, length, codes, inr, sym, ap, subst, ◌∙◌, arith}
use Rattle.graphql_names.specs.Placed.{Place}
use Rattle.schema_types.specs.SchemaTree.{SchemaTree}
use Rattle.rule_definitions.specs.Judged.{Judged}
use Rattle.rule_definitions.specs.Faults.{SchemaFault}
use Rattle.rule_definitions.specs.Cycles.{PassesReferenceBound}
use Rattle.rule_definitions.specs.Laws.{AreEqual}
use Rattle.rule_definitions.proofs.Same.{read_the_same}
use Rattle.verdict_definitions.specs.Texts.{SourceText, Tree, Terms, ReadsText, ReadsAll, document_number, PassesNumbers}
use Rattle.verdict_definitions.specs.Meaning.{schema_of, document_schema}
use Rattle.verdict_definitions.specs.Judge.{IsAccepted, PassesNoReferenceBound, PassesNoDocumentBound, IsCertain}
use Rattle.verdict_definitions.specs.Out.{Out, OutDoc, Layout, layout_text, as_lines}
use Rattle.verdict_definitions.specs.Answer.{WritesSchema, WritesDocument, AcceptedBytes}
use Rattle.verdict_laws.specs.AnyNumber.{IsNumber}
use Rattle.verdict_laws.proofs.AnyNumber.{one_tree}
use Rattle.verdict_laws.proofs.Rearranged.{all_one}
use Rattle.verdict_laws.specs.RoadBack.{IsPlainLayout, IsLaidOutText, SchemaLeadsBack, DocumentLeadsBack, PairLeadsBack, PairRoadBack, AnswerRoadBack}
use Rattle.verdict_laws.proofs.SomeBracket.{some_text}
use Rattle.verdict_laws.proofs.SchemaBack.{schema_road_back}
use Rattle.verdict_laws.proofs.DocumentBack.{document_road_back}

-- ---- texts have one tree

-- what is written of texts is written of the trees in which they are read
schema_bytes : (terms : Terms) (layout : Layout) (schemas : List SourceText) (trees : List Tree) (bytes : List ℕ) → ReadsAll terms.first_text schemas trees → WritesSchema terms layout schemas bytes → bytes ≡ layout_text layout (Out terms trees)
schema_bytes terms layout schemas trees bytes read (others, (other_read, is)) = is ∙ ap (λ ts. layout_text layout (Out terms ts)) (all_one terms.first_text schemas others trees other_read read)

document_bytes : (layout : Layout) (number : ℕ) (document : SourceText) (tree : Tree) (bytes : List ℕ) → ReadsText number document tree → WritesDocument layout number document bytes → bytes ≡ layout_text layout (OutDoc tree)
document_bytes layout number document tree bytes read (other, (other_read, is)) = is ∙ ap (λ t. layout_text layout (OutDoc t)) (one_tree number document other tree other_read read)

-- a pair that passes no bound passes none in whichever trees it is accepted
module _ (terms : Terms) (schemas : List SourceText) (document : SourceText) (certain : IsCertain terms schemas document) (accepted : IsAccepted terms schemas document) where
  same_trees : certain.accepted.schema.judged.trees ≡ accepted.schema.judged.trees
  same_trees = all_one terms.first_text schemas certain.accepted.schema.judged.trees accepted.schema.judged.trees certain.accepted.schema.judged.read accepted.schema.judged.read

  same_tree : certain.accepted.over.judged.tree ≡ accepted.over.judged.tree
  same_tree = one_tree (document_number terms schemas) document certain.accepted.over.judged.tree accepted.over.judged.tree certain.accepted.over.judged.read accepted.over.judged.read

  references : PassesNoReferenceBound (schema_of terms accepted.schema.judged.trees)
  references = subst (λ ts. PassesNoReferenceBound (schema_of terms ts)) same_trees certain.references

  nests : PassesNoDocumentBound (document_schema terms accepted.schema.judged.trees) accepted.over.judged.tree
  nests =
      subst (λ ts. PassesNoDocumentBound (document_schema terms ts) accepted.over.judged.tree) same_trees
      (subst (λ t. PassesNoDocumentBound (document_schema terms certain.accepted.schema.judged.trees) t) same_tree certain.nests)

references_too : (a b : SchemaTree Place) → AreEqual a b → PassesNoReferenceBound a → PassesNoReferenceBound b
references_too a b equal h = subst (λ (s : Judged). (fault : SchemaFault) → PassesReferenceBound s fault → ⊥) (read_the_same a b equal) h

references_back : (a b : SchemaTree Place) → AreEqual a b → PassesNoReferenceBound b → PassesNoReferenceBound a
references_back a b equal h = subst (λ (s : Judged). (fault : SchemaFault) → PassesReferenceBound s fault → ⊥) (sym (read_the_same a b equal)) h

-- after fewer texts a number is left
after_fewer : (count first : ℕ) → 1 ≤ count → IsNumber (count + first) → IsNumber (1 + first)
after_fewer count first some left = λ passed. left (by passed)
  where
    by : PassesNumbers (1 + first) → PassesNumbers (count + first)
    by passed = omega (arith, some, passed)

-- ---- the written texts, read back

module _ (terms : Terms) (schemas : List SourceText) (document : SourceText) (other : terms.first_text ≢ 0) (first : IsAccepted terms schemas document) (layout next : Layout) (plain : IsPlainLayout layout) (plain_next : IsPlainLayout next) (schema_written document_written : SourceText) (schema_is : IsLaidOutText layout (Out terms first.schema.judged.trees) schema_written) (document_is : IsLaidOutText next (OutDoc first.over.judged.tree) document_written) where
  abbrev number : ℕ
  number = document_number terms schemas

  abbrev for_documents : SchemaTree Place
  for_documents = document_schema terms first.schema.judged.trees

  abbrev again : ℕ
  again = document_number terms (schema_written ∷ [])

  schema : SchemaLeadsBack terms schemas first.schema schema_written
  schema = schema_road_back terms schemas other first.schema layout plain schema_written schema_is

  left : IsNumber again
  left = after_fewer (length schemas) terms.first_text (some_text terms schemas first.schema) first.over.within.numbered

  over : DocumentLeadsBack terms.nesting for_documents (document_schema terms schema.accepted.judged.trees) number again document first.over document_written
  over = document_road_back for_documents (document_schema terms schema.accepted.judged.trees) schema.for_documents terms.nesting number again left document first.over next plain_next document_written document_is

  abbrev accepted : IsAccepted terms (schema_written ∷ []) document_written
  accepted = record { schema = schema.accepted; over = over.accepted }

  certain_too : IsCertain terms schemas document → IsCertain terms (schema_written ∷ []) document_written
  certain_too c = record {
    accepted = accepted;
    references = references_too (schema_of terms first.schema.judged.trees) (schema_of terms schema.accepted.judged.trees) schema.equal (references terms schemas document c first);
    nests = over.bounds.0 (nests terms schemas document c first);
  }

  certain_before : IsCertain terms (schema_written ∷ []) document_written → IsCertain terms schemas document
  certain_before c = record {
    accepted = first;
    references = references_back (schema_of terms first.schema.judged.trees) (schema_of terms schema.accepted.judged.trees) schema.equal (references terms (schema_written ∷ []) document_written c accepted);
    nests = over.bounds.1 (nests terms (schema_written ∷ []) document_written c accepted);
  }

  answered_too : (l : Layout) (bytes : List ℕ) → AcceptedBytes terms l schemas document bytes → AcceptedBytes terms l (schema_written ∷ []) document_written bytes
  answered_too l bytes a = record {
    accepted = accepted;
    written_schema = a.written_schema;
    written_document = a.written_document;
    writes_schema = (
      schema.accepted.judged.trees,
      (
        schema.accepted.judged.read,
        schema_bytes terms l schemas first.schema.judged.trees a.written_schema first.schema.judged.read a.writes_schema ∙ sym (schema.written l),
      ),
    );
    writes_document = (
      over.accepted.judged.tree,
      (
        over.accepted.judged.read,
        document_bytes l number document first.over.judged.tree a.written_document first.over.judged.read a.writes_document ∙ sym (over.written l),
      ),
    );
    is = a.is;
  }

  answered_before : (l : Layout) (bytes : List ℕ) → AcceptedBytes terms l (schema_written ∷ []) document_written bytes → AcceptedBytes terms l schemas document bytes
  answered_before l bytes a = record {
    accepted = first;
    written_schema = a.written_schema;
    written_document = a.written_document;
    writes_schema = (
      first.schema.judged.trees,
      (
        first.schema.judged.read,
        schema_bytes terms l (schema_written ∷ []) schema.accepted.judged.trees a.written_schema schema.accepted.judged.read a.writes_schema ∙ schema.written l,
      ),
    );
    writes_document = (
      first.over.judged.tree,
      (
        first.over.judged.read,
        document_bytes l again document_written over.accepted.judged.tree a.written_document over.accepted.judged.read a.writes_document ∙ over.written l,
      ),
    );
    is = a.is;
  }

  pub leads_back : PairLeadsBack terms schemas document first schema_written document_written
  leads_back = record {
    accepted = accepted;
    schema = schema;
    over = over;
    certain = (certain_too, certain_before);
    answered = λ l bytes. (answered_too l bytes, answered_before l bytes);
  }

pub pair_road_back : PairRoadBack
pair_road_back terms schemas document other first layout next plain plain_next schema_written document_written schema_is document_is =
    leads_back terms schemas document other first layout next plain plain_next schema_written document_written schema_is document_is

-- ---- what is put out

-- the two texts that are put out lead back
pub put_out_leads_back : (terms : Terms) (schemas : List SourceText) (document : SourceText) → terms.first_text ≢ 0 → (layout : Layout) → IsPlainLayout layout → (bytes : List ℕ) (first : AcceptedBytes terms layout schemas document bytes)
    → PairLeadsBack terms schemas document first.accepted (as_lines layout first.written_schema) (as_lines layout first.written_document)
put_out_leads_back terms schemas document other layout plain bytes first =
    let pair = first.accepted in
    let schema_is : first.written_schema ≡ layout_text layout (Out terms pair.schema.judged.trees) = schema_bytes terms layout schemas pair.schema.judged.trees first.written_schema pair.schema.judged.read first.writes_schema in
    let document_is : first.written_document ≡ layout_text layout (OutDoc pair.over.judged.tree) =
    document_bytes layout (document_number terms schemas) document pair.over.judged.tree first.written_document pair.over.judged.read first.writes_document in
    leads_back terms schemas document other pair layout layout plain plain (as_lines layout first.written_schema) (as_lines layout first.written_document)
    (inr (ap (as_lines layout) schema_is)) (inr (ap (as_lines layout) document_is))

pub answer_road_back : AnswerRoadBack
answer_road_back terms schemas document other layout plain bytes first = ((put_out_leads_back terms schemas document other layout plain bytes first).answered layout bytes).0 first

-- the same bytes go with each answer that the texts are accepted
pub one_answer : (terms : Terms) (layout : Layout) (schemas : List SourceText) (document : SourceText) (bytes others : List ℕ) → AcceptedBytes terms layout schemas document bytes → AcceptedBytes terms layout schemas document others → bytes ≡ others
one_answer terms layout schemas document bytes others a b =
    let schema : a.written_schema ≡ b.written_schema = schema_bytes terms layout schemas b.writes_schema.0 a.written_schema b.writes_schema.1.0 a.writes_schema ∙ sym b.writes_schema.1.1 in
    let text : a.written_document ≡ b.written_document =
    document_bytes layout (document_number terms schemas) document b.writes_document.0 a.written_document b.writes_document.1.0 a.writes_document ∙ sym b.writes_document.1.1 in
    a.is ∙ (λ i. codes "accepted\n" ++ as_lines layout (schema i) ++ as_lines layout (text i)) ∙ sym b.is
