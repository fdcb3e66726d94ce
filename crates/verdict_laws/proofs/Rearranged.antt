-- The laws of rearranging and of cutting, for verdicts.
use Rattle.std.proofs.Common.{◌≡◌, ◌≢◌, ℕ, suc, ◌+◌, ◌≤◌, ◌<◌, ◌^◌, max, Bool, true, false, ◌||◌, List, [], ◌∷◌, ◌++◌, filter, length, refl, sym, ap, subst, ◌∙◌, if◌then◌else◌, arith, true≢false}
use Rattle.std.specs.List.{list_any}
use Rattle.std.proofs.lemmas.List.{length-append}
use Rattle.std.proofs.lemmas.List.Elements.{filter-append}
use Rattle.graphql_names.specs.Placed.{Place}
use Rattle.tree_definitions.specs.DefinitionTree as tree
use Rattle.tree_definitions.specs.DefinitionTree.{DefinitionTree, unplaced_definition, unplaced_document}
use Rattle.tree_definitions.specs.Queries.{is_executable, is_extension}
use Rattle.schema_built_in.specs.Table.{built_in_definitions}
use Rattle.schema_components.specs.Lists.{StandsAfter}
use Rattle.schema_fold.specs.NumberedDefinition.{Definitions}
use Rattle.schema_fold.specs.BuildErrors as folding
use Rattle.schema_fold.specs.BuildErrors.{FoldingRules}
use Rattle.schema_building.specs.Numbers.{extension_count, HaveNumbers}
use Rattle.rule_definitions.specs.Judged.{Judged, judged}
use Rattle.rule_definitions.specs.Faults.{SchemaFault}
use Rattle.rule_definitions.specs.Cycles.{PassesReferenceBound}
use Rattle.rule_definitions.specs.Rules.{SchemaRules}
use Rattle.rule_definitions.specs.Laws.{AreEqual}
use Rattle.rule_definitions.proofs.Same.{read_the_same}
use Rattle.read_grammar.specs.Depth.{depth}
use Rattle.graphql_read.specs.in_read_operations.Meanings.{in_file}
use Rattle.graphql_read.specs.Reads.{NestingBound}
use Rattle.graphql_read.proofs.Soundness.{document_sound}
use Rattle.graphql_read.proofs.Bounds.{within_all}
use Rattle.round_trip.specs.TreeDepth.{deepest, definition_depth, document_depth}
use Rattle.round_trip.proofs.DocumentsNest.{derived_depth}
use Rattle.round_trip.proofs.UnplacedNests.{document_unplaced}
use Rattle.rule_schema_laws.specs.ReadTexts.{Texts, AreReadElsewhere}
use Rattle.verdict_laws.specs.RearrangedLists.{IsRearranged}
use Rattle.verdict_laws.specs.Permuting.{IsPermuted, nothing, next}
use Rattle.verdict_laws.specs.Elsewhere.{AreAllElsewhere}
use Rattle.verdict_laws.specs.ReadTexts.{all_of}
use Rattle.verdict_laws.proofs.RearrangedLists.{cut, turned}
use Rattle.verdict_laws.proofs.Faults.{keep_the_rules}
use Rattle.verdict_laws.proofs.Marks.{are_equal, rearranged_same_verdict}
use Rattle.verdict_laws.proofs.Distinct.{left_equal}
use Rattle.verdict_laws.proofs.Cut.{writes_alike}
use Rattle.verdict_laws.proofs.WrittenSorts.{writes_permuted}
use Rattle.verdict_laws.proofs.Permuting.{rearranged_permuted}
use Rattle.verdict_laws.proofs.ReadTexts.{texts_elsewhere, is_own_list}
use Rattle.verdict_definitions.specs.Texts.{SourceText, Tree, Terms, ReadsText, ReadsAll, document_number, AreWithin}
use Rattle.verdict_definitions.specs.Meaning.{all_definitions, schema_of, document_schema}
use Rattle.verdict_definitions.specs.Judge.{Folds, JudgeSchemas, Judge, AreSchemasAccepted, IsAccepted, PassesNoReferenceBound, AreSchemasCertain, IsCertain}
use Rattle.verdict_definitions.specs.Out.{Out, Layout}
use Rattle.verdict_definitions.specs.Answer.{WritesSchema, AcceptedBytes}
use Rattle.verdict_laws.specs.Rearranged.{AreBothRead, AreRearranged, AreCut, TextsHaveNumbers, LeaveNumber, AreJudgedAlike, AreAcceptedAlike, LawOfRearranging, LawOfCutting}
use Rattle.verdict_laws.proofs.AnyNumber.{one_tree, text_same, written_too, judged_too, accepted_too, certain_too}

-- ---- the texts

pub all_one : (first : ℕ) (texts : List SourceText) (ts us : List Tree) → ReadsAll first texts ts → ReadsAll first texts us → ts ≡ us
all_one first [] [] [] a b = refl
all_one first [] [] (u ∷ us) a b = absurd b
all_one first [] (t ∷ ts) us a b = absurd a
all_one first (text ∷ texts) [] us a b = absurd a
all_one first (text ∷ texts) (t ∷ ts) [] a b = absurd b
all_one first (text ∷ texts) (t ∷ ts) (u ∷ us) a b = λ i. one_tree first text t u a.0 b.0 i ∷ all_one (first + 1) texts ts us a.1 b.1 i

-- each tree with the number of its text
numbered : ℕ → List Tree → Texts
numbered first [] = []
numbered first (t ∷ ts) = (first, t) ∷ numbered (first + 1) ts

all_numbered : (first : ℕ) (ts : List Tree) → all_of (numbered first ts) ≡ all_definitions ts
unfolding numbered
all_numbered first [] = refl
all_numbered first (t ∷ ts) = ap (λ ds. t ++ ds) (all_numbered (first + 1) ts)

are_numbered : (first : ℕ) (texts : List SourceText) (ts : List Tree) → first ≢ 0 → ReadsAll first texts ts → AreReadElsewhere (numbered first ts)
unfolding numbered
are_numbered first [] [] some read = tt
are_numbered first [] (t ∷ ts) some read = absurd read
are_numbered first (text ∷ texts) [] some read = absurd read
are_numbered first (text ∷ texts) (t ∷ ts) some read =
    ((some, document_sound (record { 0 = first }) text t read.0), are_numbered (first + 1) texts ts (λ e. let bad : suc first ≡ 0 = omega (arith, e) in cc) read.1)

stand_elsewhere : (first : ℕ) (texts : List SourceText) (ts : List Tree) → first ≢ 0 → ReadsAll first texts ts → AreAllElsewhere (all_definitions ts)
stand_elsewhere first texts ts some read = subst AreAllElsewhere (all_numbered first ts) (texts_elsewhere (numbered first ts) (are_numbered first texts ts some read))

-- ---- how many extensions there are

count_first : (d : DefinitionTree Place) (ds : Definitions) → extension_count (d ∷ ds) ≡ (if is_extension d then 1 else 0) + extension_count ds
count_first d ds = by (is_extension d)
  where
    by : (b : Bool) → length (if b then d ∷ filter is_extension ds else filter is_extension ds) ≡ (if b then 1 else 0) + length (filter is_extension ds)
    by true = omega arith
    by false = omega arith

count_append : (ds es : Definitions) → extension_count (ds ++ es) ≡ extension_count ds + extension_count es
count_append ds es = ap length (filter-append is_extension ds es) ∙ length-append (filter is_extension ds) (filter is_extension es)

extension_unplaced : (d : DefinitionTree Place) → is_extension (unplaced_definition d) ≡ is_extension d
extension_unplaced (tree.ExtendSchema p s) = refl
extension_unplaced (tree.ExtendScalar p t) = refl
extension_unplaced (tree.ExtendObject p t) = refl
extension_unplaced (tree.ExtendInterface p t) = refl
extension_unplaced (tree.ExtendUnion p t) = refl
extension_unplaced (tree.ExtendEnum p t) = refl
extension_unplaced (tree.ExtendInputObject p t) = refl
extension_unplaced _ = refl

count_permuted : (ds es : Definitions) → IsPermuted ds es → extension_count ds ≡ extension_count es
count_permuted ds es nothing = refl
count_permuted ds es (next front d back e rest pass same more) =
    let one : (if is_extension d then 1 else 0) ≡ (if is_extension e then 1 else 0) = ap (λ b. if b then 1 else 0) (sym (extension_unplaced d) ∙ ap is_extension same ∙ extension_unplaced e) in
    let less = count_permuted (front ++ back) rest more in
    let sum = count_append front back in
    let whole = count_append front (d ∷ back) in
    let first = count_first d back in
    let other = count_first e rest in
    whole ∙ ap (λ n. extension_count front + n) first ∙ by (if is_extension d then 1 else 0) (if is_extension e then 1 else 0) (extension_count front) (extension_count back) (extension_count rest) one (sym sum ∙ less) ∙ sym other
  where
    by : (m n f b r : ℕ) → m ≡ n → f + b ≡ r → f + (m + b) ≡ n + r
    by m n f b r h k = omega (arith, h, k)

-- an operation or a fragment breaks a folding rule
some_stands : (ds : Definitions) → list_any is_executable ds ≡ true → (before : Definitions) × ((d : DefinitionTree Place) × (StandsAfter ds before d × (is_executable d ≡ true)))
some_stands [] h = absurd (true≢false (sym h))
some_stands (d ∷ ds) h = by (is_executable d) refl h (some_stands ds)
  where
    by : (b : Bool) → is_executable d ≡ b → (b || list_any is_executable ds) ≡ true
        → (list_any is_executable ds ≡ true → (before : Definitions) × ((e : DefinitionTree Place) × (StandsAfter ds before e × (is_executable e ≡ true))))
        → (before : Definitions) × ((e : DefinitionTree Place) × (StandsAfter (d ∷ ds) before e × (is_executable e ≡ true)))
    by true t k rest = ([], (d, ((ds, refl), t)))
    by false t k rest = let (before, (e, ((after, is), t'))) = rest k in (d ∷ before, (e, ((after, ap (λ l. d ∷ l) is), t')))

none_executable : (first : ℕ) (ds : Definitions) → FoldingRules built_in_definitions first ds → list_any is_executable ds ≡ false
none_executable first ds rules = by (list_any is_executable ds) refl
  where
    by : (b : Bool) → list_any is_executable ds ≡ b → b ≡ false
    by false h = refl
    by true h =
        let s = some_stands ds h in
        absurd (rules (folding.At s.1.0 folding.ExecutableDefinition) (folding.executable_definition (s.0, (s.1.0, (s.1.1.0, (s.1.1.1, refl))))))

have_numbers : (first : ℕ) (ds es : Definitions) → FoldingRules built_in_definitions first ds → IsRearranged ds es → HaveNumbers first ds → HaveNumbers first es
have_numbers first ds es rules same numbers =
    subst (λ n. 0 < n → first + n < 2 ^ 64) (count_permuted ds es (rearranged_permuted ds es (none_executable first ds rules) same)) numbers

-- ---- how deep brackets nest

no_more : (m n : ℕ) → (m < n → ⊥) → n ≤ m
no_more m n h = omega arith

no_less : (m n : ℕ) → (n ≤ m → ⊥) → m < n
no_less m n h = omega arith

deepest_append : (f : DefinitionTree Place → ℕ) (ds es : Definitions) → deepest f (ds ++ es) ≡ max (deepest f ds) (deepest f es)
deepest_append f [] es = omega arith
deepest_append f (d ∷ ds) es = omega (arith, deepest_append f ds es)

depth_same : (d e : DefinitionTree Place) → unplaced_definition d ≡ unplaced_definition e → definition_depth d ≡ definition_depth e
depth_same d e same =
    let both : document_depth (unplaced_document (d ∷ [])) ≡ document_depth (unplaced_document (e ∷ [])) = ap (λ x. document_depth (x ∷ [])) same in
    let one : max (definition_depth d) 0 ≡ max (definition_depth e) 0 = sym (document_unplaced (d ∷ [])) ∙ both ∙ document_unplaced (e ∷ []) in
    omega (arith, one)

deep_permuted : (ds es : Definitions) → IsPermuted ds es → document_depth ds ≡ document_depth es
deep_permuted ds es nothing = refl
deep_permuted ds es (next front d back e rest pass same more) =
    let one = depth_same d e same in
    let less = deep_permuted (front ++ back) rest more in
    let sum = deepest_append definition_depth front back in
    let whole = deepest_append definition_depth front (d ∷ back) in
    whole ∙ by (definition_depth d) (definition_depth e) (document_depth front) (document_depth back) (document_depth rest) one (sym sum ∙ less)
  where
    by : (m n f b r : ℕ) → m ≡ n → max f b ≡ r → max f (max m b) ≡ max n r
    by m n f b r h k = omega (arith, h, k)

-- the brackets of a text nest as deep as its tree
deep_text : (nesting number : ℕ) (text : SourceText) (t : Tree) → ReadsText number text t → (NestingBound nesting text → ⊥) → document_depth t ≤ nesting
deep_text nesting number text t r within =
    let deep = derived_depth (in_file (record { 0 = number })) r.tokens t r.derived in
    subst (λ n. n ≤ nesting) deep (no_more nesting (depth r.tokens) (λ above. within (record { tokens = r.tokens; following = []; lexed = r.lexed; above = above })))

text_within : (nesting number : ℕ) (text : SourceText) (t : Tree) → ReadsText number text t → document_depth t ≤ nesting → NestingBound nesting text → ⊥
text_within nesting number text t r le = within_all nesting text r.tokens r.lexed (subst (λ n. n ≤ nesting) (sym (derived_depth (in_file (record { 0 = number })) r.tokens t r.derived)) le)

deep_texts : (nesting first : ℕ) (texts : List SourceText) (ts : List Tree) → ReadsAll first texts ts → AreWithin nesting first texts → document_depth (all_definitions ts) ≤ nesting
deep_texts nesting first [] [] read within = omega arith
deep_texts nesting first [] (t ∷ ts) read within = absurd read
deep_texts nesting first (text ∷ texts) [] read within = absurd read
deep_texts nesting first (text ∷ texts) (t ∷ ts) read within =
    omega (arith, deepest_append definition_depth t (all_definitions ts), deep_text nesting first text t read.0 within.0.nests, deep_texts nesting (first + 1) texts ts read.1 within.1)

texts_within : (nesting first : ℕ) (texts : List SourceText) (ts : List Tree) → ReadsAll first texts ts → length texts + first < 2 ^ 64 → document_depth (all_definitions ts) ≤ nesting → AreWithin nesting first texts
texts_within nesting first [] [] read room deep = tt
texts_within nesting first [] (t ∷ ts) read room deep = absurd read
texts_within nesting first (text ∷ texts) [] read room deep = absurd read
texts_within nesting first (text ∷ texts) (t ∷ ts) read room deep =
    let parts = deepest_append definition_depth t (all_definitions ts) in (
      record { nests = text_within nesting first text t read.0 (omega (arith, parts, deep)); numbered = λ passed. omega (arith, room, passed) },
      texts_within nesting (first + 1) texts ts read.1 (omega (arith, room)) (omega (arith, parts, deep)),
    )

-- where a number is left after all texts, each has one
room_for_all : (terms : Terms) (texts : List SourceText) → LeaveNumber terms texts → TextsHaveNumbers terms texts
room_for_all terms texts left = let k = no_less (document_number terms texts + 1) (2 ^ 64) left in omega (arith, k)

-- ---- two lists of texts

module _ (terms : Terms) (ts us : List Tree) (own : AreAllElsewhere (all_definitions ts)) (other_own : AreAllElsewhere (all_definitions us)) (same : IsRearranged (all_definitions ts) (all_definitions us)) where
  folds_too : Folds terms ts → Folds terms us
  folds_too = (keep_the_rules built_in_definitions terms.first_extension terms.first_extension (all_definitions ts) (all_definitions us) same).0

  rules_too : SchemaRules (judged (schema_of terms ts)) → SchemaRules (judged (schema_of terms us))
  rules_too = (rearranged_same_verdict built_in_definitions terms.first_extension terms.first_extension (all_definitions ts) (all_definitions us) same own other_own).0

  equal_schemas : AreEqual (schema_of terms ts) (schema_of terms us)
  equal_schemas = are_equal built_in_definitions terms.first_extension terms.first_extension (all_definitions ts) (all_definitions us) same own other_own

  equal_for_documents : AreEqual (document_schema terms ts) (document_schema terms us)
  equal_for_documents = left_equal built_in_definitions terms.first_extension terms.first_extension (all_definitions ts) (all_definitions us) same own other_own

  references_too : PassesNoReferenceBound (schema_of terms ts) → PassesNoReferenceBound (schema_of terms us)
  references_too = subst (λ (s : Judged). (fault : SchemaFault) → PassesReferenceBound s fault → ⊥) (read_the_same (schema_of terms ts) (schema_of terms us) equal_schemas)

module _ {Same : Tree → Tree → Type 0} (terms : Terms) (texts others : List SourceText) where
  -- in whichever trees they are read
  same_of : (r : AreBothRead Same terms texts others) (ts us : List Tree) → ReadsAll terms.first_text texts ts → ReadsAll terms.first_text others us → Same (all_definitions ts) (all_definitions us)
  same_of r ts us read read' =
      subst (λ xs. Same (all_definitions xs) (all_definitions us)) (all_one terms.first_text texts r.trees ts r.read read)
      (subst (λ xs. Same (all_definitions r.trees) (all_definitions xs)) (all_one terms.first_text others r.other_trees us r.other_read read') r.same)

  own_of : (r : AreBothRead Same terms texts others) (ts : List Tree) → ReadsAll terms.first_text texts ts → AreAllElsewhere (all_definitions ts)
  own_of r ts read = stand_elsewhere terms.first_text texts ts r.elsewhere read

  other_own_of : (r : AreBothRead Same terms texts others) (us : List Tree) → ReadsAll terms.first_text others us → AreAllElsewhere (all_definitions us)
  other_own_of r us read = stand_elsewhere terms.first_text others us r.elsewhere read

other_way : (terms : Terms) (texts others : List SourceText) → AreRearranged terms texts others → AreRearranged terms others texts
other_way terms texts others r = record {
  elsewhere = r.elsewhere;
  trees = r.other_trees;
  other_trees = r.trees;
  read = r.other_read;
  other_read = r.read;
  same = turned (all_definitions r.trees) (all_definitions r.other_trees) r.same;
}

-- ---- what holds of the one holds of the other

module _ (terms : Terms) (texts others : List SourceText) (r : AreRearranged terms texts others) where
  for_documents : (ts us : List Tree) → ReadsAll terms.first_text texts ts → ReadsAll terms.first_text others us → AreEqual (document_schema terms ts) (document_schema terms us)
  for_documents ts us read read' = equal_for_documents terms ts us (own_of terms texts others r ts read) (other_own_of terms texts others r us read') (same_of terms texts others r ts us read read')

  abbrev schemas_too : JudgeSchemas terms texts → JudgeSchemas terms others
  schemas_too j = record {
    trees = r.other_trees;
    read = r.other_read;
    folds = folds_too terms j.trees r.other_trees (own_of terms texts others r j.trees j.read) (other_own_of terms texts others r r.other_trees r.other_read) (same_of terms texts others r j.trees r.other_trees j.read r.other_read) j.folds;
    holds = rules_too terms j.trees r.other_trees (own_of terms texts others r j.trees j.read) (other_own_of terms texts others r r.other_trees r.other_read) (same_of terms texts others r j.trees r.other_trees j.read r.other_read) j.holds;
  }

  pair_too : (document : SourceText) → Judge terms texts document → Judge terms others document
  pair_too document j = record {
    schema = schemas_too j.schema;
    over = (judged_too (document_schema terms j.schema.trees) (document_schema terms r.other_trees) (for_documents j.schema.trees r.other_trees j.schema.read r.other_read) (document_number terms texts) (document_number terms others) document j.over).judged;
  }

  module _ (room : TextsHaveNumbers terms others) where
    -- the brackets of the others nest no deeper
    within_too : (a : AreSchemasAccepted terms texts) → AreWithin terms.nesting terms.first_text others
    within_too a =
        texts_within terms.nesting terms.first_text others r.other_trees r.other_read room
        (subst (λ n. n ≤ terms.nesting) (deep_permuted (all_definitions a.judged.trees) (all_definitions r.other_trees)
        (rearranged_permuted (all_definitions a.judged.trees) (all_definitions r.other_trees) (none_executable terms.first_extension (all_definitions a.judged.trees) a.judged.folds) (same_of terms texts others r a.judged.trees r.other_trees a.judged.read r.other_read)))
        (deep_texts terms.nesting terms.first_text texts a.judged.trees a.judged.read a.within))

    abbrev accepted_schemas_too : AreSchemasAccepted terms texts → AreSchemasAccepted terms others
    accepted_schemas_too a = record {
      judged = schemas_too a.judged;
      within = within_too a;
      numbered = have_numbers terms.first_extension (all_definitions a.judged.trees) (all_definitions r.other_trees) a.judged.folds (same_of terms texts others r a.judged.trees r.other_trees a.judged.read r.other_read) a.numbered;
    }

    references : (a : AreSchemasAccepted terms texts) → PassesNoReferenceBound (schema_of terms a.judged.trees) → PassesNoReferenceBound (schema_of terms r.other_trees)
    references a = references_too terms a.judged.trees r.other_trees (own_of terms texts others r a.judged.trees a.judged.read) (other_own_of terms texts others r r.other_trees r.other_read) (same_of terms texts others r a.judged.trees r.other_trees a.judged.read r.other_read)

    certain_schemas_too : AreSchemasCertain terms texts → AreSchemasCertain terms others
    certain_schemas_too c = (accepted_schemas_too c.0, references c.0 c.1)

  module _ (left : LeaveNumber terms others) where
    room_after : TextsHaveNumbers terms others
    room_after = room_for_all terms others left

    abbrev accepted_pair_too : (document : SourceText) → IsAccepted terms texts document → IsAccepted terms others document
    accepted_pair_too document a = record {
      schema = accepted_schemas_too room_after a.schema;
      over = accepted_too (document_schema terms a.schema.judged.trees) (document_schema terms r.other_trees) (for_documents a.schema.judged.trees r.other_trees a.schema.judged.read r.other_read)
          terms.nesting (document_number terms texts) (document_number terms others) left document a.over;
    }

    certain_pair_too : (document : SourceText) → IsCertain terms texts document → IsCertain terms others document
    certain_pair_too document c =
        let k = certain_too (document_schema terms c.accepted.schema.judged.trees) (document_schema terms r.other_trees) (for_documents c.accepted.schema.judged.trees r.other_trees c.accepted.schema.judged.read r.other_read)
        terms.nesting (document_number terms texts) (document_number terms others) left document (c.accepted.over, c.nests) in
        record {
          accepted = record { schema = accepted_schemas_too room_after c.accepted.schema; over = k.0 };
          references = references room_after c.accepted.schema c.references;
          nests = k.1;
        }

-- ---- rearranging

pub judged_alike : (terms : Terms) (texts others : List SourceText) → AreRearranged terms texts others → AreJudgedAlike terms texts others
judged_alike terms texts others r = record {
  schemas = (schemas_too terms texts others r, schemas_too terms others texts (other_way terms texts others r));
  for_documents = λ a b. for_documents terms texts others r a.trees b.trees a.read b.read;
  pairs = λ document. (pair_too terms texts others r document, pair_too terms others texts (other_way terms texts others r) document);
}

pub accepted_alike : (terms : Terms) (texts others : List SourceText) → AreRearranged terms texts others → AreAcceptedAlike terms texts others
accepted_alike terms texts others r =
    let r' = other_way terms texts others r in
    record {
      schemas = λ room room'. (accepted_schemas_too terms texts others r room', accepted_schemas_too terms others texts r' room);
      schemas_for_sure = λ room room'. (certain_schemas_too terms texts others r room', certain_schemas_too terms others texts r' room);
      pairs = λ left left' document. (accepted_pair_too terms texts others r left' document, accepted_pair_too terms others texts r' left document);
      pairs_for_sure = λ left left' document. (certain_pair_too terms texts others r left' document, certain_pair_too terms others texts r' left document);
    }

pub rearranging : LawOfRearranging
rearranging terms texts others r = record {
  judged = judged_alike terms texts others r;
  accepted = accepted_alike terms texts others r;
  writes = writes_permuted built_in_definitions terms.first_extension terms.first_extension (all_definitions r.trees) (all_definitions r.other_trees) r.same
      (is_own_list (all_definitions r.trees) (own_of terms texts others r r.trees r.read)) (is_own_list (all_definitions r.other_trees) (other_own_of terms texts others r r.other_trees r.other_read));
}

-- ---- cutting

as_rearranged : (terms : Terms) (texts others : List SourceText) → AreCut terms texts others → AreRearranged terms texts others
as_rearranged terms texts others r = record {
  elsewhere = r.elsewhere;
  trees = r.trees;
  other_trees = r.other_trees;
  read = r.read;
  other_read = r.other_read;
  same = cut (all_definitions r.trees) (all_definitions r.other_trees) r.same;
}

cut_other_way : (terms : Terms) (texts others : List SourceText) → AreCut terms texts others → AreCut terms others texts
cut_other_way terms texts others r = record { elsewhere = r.elsewhere; trees = r.other_trees; other_trees = r.trees; read = r.other_read; other_read = r.read; same = sym r.same }

module _ (terms : Terms) (texts others : List SourceText) (r : AreCut terms texts others) where
  writes : (ts us : List Tree) → ReadsAll terms.first_text texts ts → ReadsAll terms.first_text others us → unplaced_document (Out terms ts) ≡ unplaced_document (Out terms us)
  writes ts us read read' =
      writes_alike built_in_definitions terms.first_extension terms.first_extension (all_definitions ts) (all_definitions us) (same_of terms texts others r ts us read read')
      (is_own_list (all_definitions ts) (own_of terms texts others r ts read)) (is_own_list (all_definitions us) (other_own_of terms texts others r us read'))

  schema_written_too : (layout : Layout) (bytes : List ℕ) → WritesSchema terms layout texts bytes → WritesSchema terms layout others bytes
  schema_written_too layout bytes h = (r.other_trees, (r.other_read, h.1.1 ∙ text_same layout (Out terms h.0) (Out terms r.other_trees) (writes h.0 r.other_trees h.1.0 r.other_read)))

  answered_too : LeaveNumber terms others → (layout : Layout) (document : SourceText) (bytes : List ℕ) → AcceptedBytes terms layout texts document bytes → AcceptedBytes terms layout others document bytes
  answered_too left layout document bytes a = record {
    accepted = accepted_pair_too terms texts others (as_rearranged terms texts others r) left document a.accepted;
    written_schema = a.written_schema;
    written_document = a.written_document;
    writes_schema = schema_written_too layout a.written_schema a.writes_schema;
    writes_document = written_too layout (document_number terms texts) (document_number terms others) document a.written_document a.writes_document;
    is = a.is;
  }

pub cutting : LawOfCutting
cutting terms texts others r =
    let r' = cut_other_way terms texts others r in
    record {
      judged = judged_alike terms texts others (as_rearranged terms texts others r);
      accepted = accepted_alike terms texts others (as_rearranged terms texts others r);
      writes = writes terms texts others r r.trees r.other_trees r.read r.other_read;
      texts_written = λ layout. text_same layout (Out terms r.trees) (Out terms r.other_trees) (writes terms texts others r r.trees r.other_trees r.read r.other_read);
      written = λ layout bytes. (schema_written_too terms texts others r layout bytes, schema_written_too terms others texts r' layout bytes);
      answered = λ left left' layout document bytes. (answered_too terms texts others r left' layout document bytes, answered_too terms others texts r' left layout document bytes);
    }
