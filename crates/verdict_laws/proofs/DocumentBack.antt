-- The written document text leads back.
use Rattle.std.proofs.Common.{◌≡◌, ℕ, ◌≤◌, Bool, true, false, [], ◌∷◌, ◌++◌, sym, ap, subst, ◌∙◌, if◌then◌else◌, arith}
use Rattle.std.specs.List.{filter, list_all}
use Rattle.graphql_names.specs.Placed.{Place}
use Rattle.tree_definitions.specs.DefinitionTree.{DefinitionTree, unplaced_document}
use Rattle.round_trip.specs.Definitions.{definition_well_formed}
use Rattle.round_trip.specs.TreeDepth.{document_depth}
use Rattle.schema_types.specs.SchemaTree.{SchemaTree}
use Rattle.schema_types.specs.Plain.{PlainSchema}
use Rattle.rule_definitions.specs.Laws.{AreEqual}
use Rattle.spec_document.specs.Unplaced as meant
use Rattle.document_typing.specs.Meanings.{meanings}
use Rattle.document_typing.specs.KeptDocument.{kept_document}
use Rattle.document_typing.specs.TypingFaults.{TypingRules}
use Rattle.document_typing.specs.OutDoc.{is_anonymous, is_named_operation, is_fragment_definition, out_doc}
use Rattle.rule_document_definitions.proofs.Same.{same_document_verdict, same_bounds}
use Rattle.verdict_definitions.specs.Texts.{SourceText, Tree}
use Rattle.verdict_definitions.specs.Meaning.{document_over, meanings_over}
use Rattle.verdict_definitions.specs.Judge.{IsDocumentAccepted}
use Rattle.verdict_definitions.specs.Out.{OutDoc, Layout}
use Rattle.verdict_laws.specs.AnyNumber.{IsNumber}
use Rattle.verdict_laws.proofs.Sound.{all_append}
use Rattle.verdict_laws.proofs.Documents.{documents}
use Rattle.verdict_laws.proofs.TypedAlike.{kept_document_same, rules_same}
use Rattle.verdict_laws.proofs.AnyNumber.{out_same}
use Rattle.verdict_laws.specs.RoadBack.{IsPlainLayout, IsLaidOutText, IsSameTree, IsSameDocument, DocumentLeadsBack, DocumentRoadBack}
use Rattle.verdict_laws.proofs.Passing.{all_passing}
use Rattle.verdict_laws.proofs.OutDocuments.{out_twice, kept_of_out, rules_of_out}
use Rattle.verdict_laws.proofs.FormedDocuments.{read_formed}
use Rattle.verdict_laws.proofs.ReadBack.{ReadsBack, reads_back, written_alike, text_depth, depth_append}

-- ---- what is written is well-formed, and nests no deeper

pub out_formed : (ds : Tree) → list_all definition_well_formed ds ≡ true → list_all definition_well_formed (out_doc ds) ≡ true
out_formed ds h =
    all_append definition_well_formed (filter is_anonymous ds ++ filter is_named_operation ds) (filter is_fragment_definition ds)
    (all_append definition_well_formed (filter is_anonymous ds) (filter is_named_operation ds) (all_passing definition_well_formed is_anonymous ds h) (all_passing definition_well_formed is_named_operation ds h))
    (all_passing definition_well_formed is_fragment_definition ds h)

passing_depth : (f : DefinitionTree Place → Bool) (ds : Tree) → document_depth (filter f ds) ≤ document_depth ds
passing_depth f [] = omega arith
passing_depth f (d ∷ ds) = by (f d) (passing_depth f ds)
  where
    by : (b : Bool) → document_depth (filter f ds) ≤ document_depth ds → document_depth (if b then d ∷ filter f ds else filter f ds) ≤ document_depth (d ∷ ds)
    by true rest = omega (arith, rest)
    by false rest = omega (arith, rest)

out_depth : (ds : Tree) → document_depth (out_doc ds) ≤ document_depth ds
out_depth ds =
    let whole = depth_append (filter is_anonymous ds ++ filter is_named_operation ds) (filter is_fragment_definition ds) in
    let operations = depth_append (filter is_anonymous ds) (filter is_named_operation ds) in
    let a = passing_depth is_anonymous ds in
    let b = passing_depth is_named_operation ds in
    let c = passing_depth is_fragment_definition ds in
    omega (arith, whole, operations, a, b, c)

-- ---- the written document, read back

module _ (schema other : SchemaTree Place) (equal : AreEqual schema other) (nesting number again : ℕ) (left : IsNumber again) (document : SourceText) (first : IsDocumentAccepted schema nesting number document) (layout : Layout) (plain_layout : IsPlainLayout layout) (text : SourceText) (is : IsLaidOutText layout (OutDoc first.judged.tree) text) where
  abbrev read : Tree
  read = first.judged.tree

  back : ReadsBack again text (OutDoc read)
  back = reads_back again layout plain_layout (OutDoc read) (out_formed read (read_formed number document read first.judged.read)) (documents schema number document read first.judged.read first.judged.typed) text is

  kept : IsSameDocument (document_over schema read) (document_over other back.tree)
  kept =
      ap (λ d. meant.unplaced_document d) (sym (kept_of_out (meanings_over schema) read))
      ∙ kept_document_same (meanings_over schema) (OutDoc read)
      ∙ (λ i. kept_document (meanings (equal.same i)) (sym back.same i))
      ∙ sym (kept_document_same (meanings_over other) back.tree)

  typed : TypingRules (meanings_over other) back.tree
  typed =
      subst (λ (s : PlainSchema). TypingRules (meanings s) back.tree) equal.same
      (rules_same (meanings_over schema) (OutDoc read) back.tree (sym back.same) (rules_of_out (meanings_over schema) read first.judged.typed))

  deep : document_depth (OutDoc read) ≤ nesting
  deep = let a = out_depth read in let b = text_depth nesting number document read first.judged.read first.within in omega (arith, a, b)

  abbrev accepted : IsDocumentAccepted other nesting again text
  accepted = record {
    judged = record {
      tree = back.tree;
      read = back.read;
      typed = typed;
      holds = (same_document_verdict schema other equal (document_over schema read) (document_over other back.tree) kept).0 first.judged.holds;
    };
    within = record { nests = back.nests nesting deep; numbered = left };
  }

  written : IsSameTree (OutDoc back.tree) (OutDoc read)
  written = out_same back.tree ∙ ap out_doc back.same ∙ sym (out_same (OutDoc read)) ∙ ap unplaced_document (out_twice read)

  pub leads_back : DocumentLeadsBack nesting schema other number again document first text
  leads_back = record {
    accepted = accepted;
    read_back = back.same;
    equal = kept;
    bounds = same_bounds (document_over schema read) (document_over other back.tree) kept;
    written = written_alike (OutDoc back.tree) (OutDoc read) written;
  }

pub document_road_back : DocumentRoadBack
document_road_back schema other equal nesting number again left document first layout plain_layout text is = leads_back schema other equal nesting number again left document first layout plain_layout text is
