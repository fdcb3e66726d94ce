-- The number of a text plays no part in what it means, in the verdict on it, and in what is written of it.
use Rattle.std.proofs.Common.{◌≡◌, ℕ, Bool, true, false, not, List, [], ◌∷◌, ◌++◌, map, Option, None, Some, filter, refl, sym, ap, subst, ◌∙◌, if◌then◌else◌}
use Rattle.std.specs.Option.{option_map}
use Rattle.std.proofs.lemmas.List.{map-append}
use Rattle.graphql_names.specs.Placed.{Place, Text as NameText, unplaced_text}
use Rattle.read_tokens.specs.Input.{Token}
use Rattle.read_tokens.proofs.Lexed.{lex_unique}
use Rattle.read_grammar.specs.Places.{place_in}
use Rattle.read_grammar.proofs.Laws.{one_document}
use Rattle.graphql_read.specs.in_read_operations.Meanings.{in_file, string_of}
use Rattle.tree_operations.specs.OperationLayout.{is_none}
use Rattle.tree_definitions.specs.DefinitionTree as tree
use Rattle.tree_definitions.specs.DefinitionTree.{DefinitionTree, unplaced_definition}
use Rattle.tree_definitions.specs.DocumentLayout.{document_text}
use Rattle.round_trip.proofs.Unplaced.{document_same}
use Rattle.schema_types.specs.SchemaTree.{SchemaTree}
use Rattle.schema_types.specs.Plain.{PlainSchema, plain}
use Rattle.rule_definitions.specs.Laws.{AreEqual}
use Rattle.spec_document.specs.Unplaced.{unplaced_document}
use Rattle.document_typing.specs.Meanings.{meanings}
use Rattle.document_typing.specs.KeptDocument.{kept_document}
use Rattle.document_typing.specs.TypingFaults.{TypingRules}
use Rattle.document_typing.specs.OutDoc.{is_anonymous, is_named_operation, is_fragment_definition, out_doc}
use Rattle.rule_document_definitions.proofs.Same.{same_document_verdict, same_bounds}
use Rattle.verdict_definitions.specs.Texts.{SourceText, Tree, DerivesIn}
use Rattle.verdict_definitions.specs.Meaning.{document_over}
use Rattle.verdict_definitions.specs.Judge.{JudgeDocument, IsDocumentAccepted, IsDocumentCertain}
use Rattle.verdict_definitions.specs.Out.{Layout}
use Rattle.verdict_definitions.specs.Answer.{WritesDocument}
use Rattle.verdict_laws.specs.AnyNumber.{IsNumber, TextsHaveOneTree, TextsAreReadAlike, DocumentsAreWrittenAlike, EqualSchemasJudgeAlike, EqualSchemasAcceptAlike, EqualSchemasAcceptForSureAlike}
use Rattle.verdict_laws.proofs.DocumentsAlike.{derived_alike}
use Rattle.verdict_laws.proofs.TypedAlike.{kept_document_same, rules_same}

pub one_tree : TextsHaveOneTree
one_tree number text tree other a b =
    one_document (in_file (record { 0 = number })) b.tokens tree other (subst (λ (ts : List Token). DerivesIn number ts tree) (lex_unique text a.tokens b.tokens a.lexed b.lexed) a.derived) b.derived

pub read_alike : TextsAreReadAlike
read_alike i j text tree r =
    let d = derived_alike string_of (place_in i) (place_in j) r.tokens tree r.derived in
    (d.0, (record { tokens = r.tokens; lexed = r.lexed; derived = d.1 }, d.2))

-- ---- what is written

-- the same pass a test that needs no places
passes_same : (f : DefinitionTree Place → Bool) (g : DefinitionTree (Unit {0}) → Bool) → ((d : DefinitionTree Place) → f d ≡ g (unplaced_definition d)) → (ds : Tree)
    → map unplaced_definition (filter f ds) ≡ filter g (map unplaced_definition ds)
passes_same f g same [] = refl
passes_same f g same (d ∷ ds) =
    by (f d) (passes_same f g same ds) ∙ ap (λ b. if b then unplaced_definition d ∷ filter g (map unplaced_definition ds) else filter g (map unplaced_definition ds)) (same d)
  where
    by : (b : Bool) → map unplaced_definition (filter f ds) ≡ filter g (map unplaced_definition ds)
        → map unplaced_definition (if b then d ∷ filter f ds else filter f ds) ≡ (if b then unplaced_definition d ∷ filter g (map unplaced_definition ds) else filter g (map unplaced_definition ds))
    by true e = ap (λ l. unplaced_definition d ∷ l) e
    by false e = e

none_same : (n : Option (NameText Place)) → is_none n ≡ is_none (option_map unplaced_text n)
none_same None = refl
none_same (Some n) = refl

anonymous_same : (d : DefinitionTree Place) → is_anonymous d ≡ is_anonymous (unplaced_definition d)
anonymous_same (tree.Operation p o) = none_same o.name
anonymous_same _ = refl

named_same : (d : DefinitionTree Place) → is_named_operation d ≡ is_named_operation (unplaced_definition d)
named_same (tree.Operation p o) = ap not (none_same o.name)
named_same _ = refl

fragment_same : (d : DefinitionTree Place) → is_fragment_definition d ≡ is_fragment_definition (unplaced_definition d)
fragment_same (tree.Fragment p f) = refl
fragment_same _ = refl

pub out_same : (ds : Tree) → map unplaced_definition (out_doc ds) ≡ out_doc (map unplaced_definition ds)
out_same ds =
    map-append unplaced_definition (filter is_anonymous ds ++ filter is_named_operation ds) (filter is_fragment_definition ds)
    ∙ ap (λ l. l ++ map unplaced_definition (filter is_fragment_definition ds)) (map-append unplaced_definition (filter is_anonymous ds) (filter is_named_operation ds))
    ∙ (λ i. (passes_same is_anonymous is_anonymous anonymous_same ds i ++ passes_same is_named_operation is_named_operation named_same ds i) ++ passes_same is_fragment_definition is_fragment_definition fragment_same ds i)

-- definitions that are the same, apart from places, have the same text
pub text_same : (layout : Layout) (ds es : Tree) → map unplaced_definition ds ≡ map unplaced_definition es → document_text layout 0 ds ≡ document_text layout 0 es
text_same layout ds es same = document_same layout 0 ds ∙ ap (document_text layout 0) same ∙ sym (document_same layout 0 es)

pub written_too : (layout : Layout) (i j : ℕ) (document : SourceText) (bytes : List ℕ) → WritesDocument layout i document bytes → WritesDocument layout j document bytes
written_too layout i j document bytes w =
    let r = read_alike i j document w.0 w.1.0 in
    (r.0, (r.1.0, w.1.1 ∙ text_same layout (out_doc w.0) (out_doc r.0) (out_same w.0 ∙ ap out_doc r.1.1 ∙ sym (out_same r.0))))

pub written_alike : DocumentsAreWrittenAlike
written_alike layout i j document bytes = (written_too layout i j document bytes, written_too layout j i document bytes)

-- ---- the verdict

pub turned_equal : (a b : SchemaTree Place) → AreEqual a b → AreEqual b a
turned_equal a b e = record { same = sym e.same; marks = λ at. sym (e.marks at) }

-- the document is judged so over the other schema too, and the same is kept of it
pub record JudgedToo (a b : SchemaTree Place) (i j : ℕ) (document : SourceText) (h : JudgeDocument a i document) : Type 0 where
  pub judged : JudgeDocument b j document
  pub same : unplaced_document (document_over a h.tree) ≡ unplaced_document (document_over b judged.tree)

pub judged_too : (a b : SchemaTree Place) → AreEqual a b → (i j : ℕ) (document : SourceText) (h : JudgeDocument a i document) → JudgedToo a b i j document h
judged_too a b e i j document h =
    let r = read_alike i j document h.tree h.read in
    let same : unplaced_document (document_over a h.tree) ≡ unplaced_document (document_over b r.0)
    = kept_document_same (meanings (plain a)) h.tree ∙ (λ k. kept_document (meanings (e.same k)) (r.1.1 k)) ∙ sym (kept_document_same (meanings (plain b)) r.0) in
    record {
      judged = record {
        tree = r.0;
        read = r.1.0;
        typed = subst (λ (s : PlainSchema). TypingRules (meanings s) r.0) e.same (rules_same (meanings (plain a)) h.tree r.0 r.1.1 h.typed);
        holds = (same_document_verdict a b e (document_over a h.tree) (document_over b r.0) same).0 h.holds;
      };
      same = same;
    }

abbrev pub accepted_too : (a b : SchemaTree Place) → AreEqual a b → (nesting i j : ℕ) → IsNumber j → (document : SourceText) → IsDocumentAccepted a nesting i document → IsDocumentAccepted b nesting j document
accepted_too a b e nesting i j left document h = record { judged = (judged_too a b e i j document h.judged).judged; within = record { nests = h.within.nests; numbered = left } }

pub certain_too : (a b : SchemaTree Place) → AreEqual a b → (nesting i j : ℕ) → IsNumber j → (document : SourceText) → IsDocumentCertain a nesting i document → IsDocumentCertain b nesting j document
certain_too a b e nesting i j left document h =
    let k = judged_too a b e i j document h.0.judged in
    (accepted_too a b e nesting i j left document h.0, (same_bounds (document_over a h.0.judged.tree) (document_over b k.judged.tree) k.same).0 h.1)

pub equal_judge : EqualSchemasJudgeAlike
equal_judge a b e i j document = (λ h. (judged_too a b e i j document h).judged, λ h. (judged_too b a (turned_equal a b e) j i document h).judged)

pub equal_accept : EqualSchemasAcceptAlike
equal_accept a b e nesting i j left left' document = (accepted_too a b e nesting i j left' document, accepted_too b a (turned_equal a b e) nesting j i left document)

pub equal_accept_for_sure : EqualSchemasAcceptForSureAlike
equal_accept_for_sure a b e nesting i j left left' document = (certain_too a b e nesting i j left' document, certain_too b a (turned_equal a b e) nesting j i left document)
