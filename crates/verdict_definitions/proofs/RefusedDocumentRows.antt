-- Documents that are refused with one fault: it is so, and no fault of typing is left out. The bytes of such answers.
use Rattle.std.proofs.Common.{◌≡◌, [], ◌∷◌, codes, None, refl, sym, ap, subst, inl, inr, arith}
use Rattle.std.specs.Fmt.{digits}
use Rattle.graphql_names.specs.Placed.{Place}
use Rattle.schema_built_in.specs.Table.{built_in_definitions}
use Rattle.graphql_faults.specs.in_grammar.Places.{place_in}
use Rattle.schema_types.specs.SchemaTree.{SchemaTree}
use Rattle.rule_definitions.proofs.Lists.{not_in_nil, only, is_only}
use Rattle.document_typing.specs.TypingFaults as typing
use Rattle.document_typing.specs.TypingFaults.{TypingFails}
use Rattle.document_typing.proofs.DocumentFailures.{document-fails}
use Rattle.graphql_faults.specs.in_document_rule_definitions.PlacedDocumentFaults.{PlacedDocumentFault}
use Rattle.graphql_faults.specs.DetailsTree.{of_typing, of_document}
use Rattle.verdict_definitions.specs.Texts.{SourceText, Tree, ReadsText, IsWithin}
use Rattle.verdict_definitions.specs.Says.{AnyFault, SaysDocument, TypingFailsOver, DocumentRuleFailsBeside}
use Rattle.verdict_definitions.specs.Answer.{RefusesDocument, Answer}
use Rattle.verdict_definitions.proofs.RowReading.{reader, is_within, one_tree}
use Rattle.verdict_definitions.proofs.RowTrees.{terms}
use Rattle.verdict_definitions.proofs.RowMeanings.{meanings_found, same_meanings}
use Rattle.verdict_definitions.proofs.TextRows.{query_field, missing, missing_tree, missing_reads}
use Rattle.verdict_definitions.proofs.VerdictRows.{query_field_schema, missing_fault, missing_fails, missing_said}
use Rattle.verdict_definitions.proofs.DocumentRows.{unused, unused_tree, unused_reads, unused_fault, unused_said, a_and_b_schema, conflict, conflict_tree, conflict_reads, conflict_fault, conflict_said}
use Rattle.verdict_definitions.proofs.BytesRows.{of_one, not_empty}
use Rattle.verdict_definitions.proofs.FullRows.{unused_alone, conflict_alone}
use Rattle.verdict_definitions.proofs.PairRows.{schema_accepted}

module _ (schema : SchemaTree Place) (document : SourceText) (tree : Tree) (reads : ReadsText 2 document tree) (within : IsWithin 500 2 document) (fault : AnyFault) (said : SaysDocument schema 500 2 document fault) where
  -- one fault, where it is the only one of typing, or there is none
  one_refuses : ((f : typing.TypingFault Place) → TypingFails (meanings_found schema) tree f → of_typing f ≡ fault)
      → (((f : typing.TypingFault Place) → TypingFailsOver schema tree f → ⊥) → (f : PlacedDocumentFault) → DocumentRuleFailsBeside schema tree f → of_document f ≡ fault)
      → RefusesDocument schema 500 2 document (fault ∷ [])
  one_refuses all alone = record {
    some = not_empty fault [];
    says = of_one (SaysDocument schema 500 2 document) fault said;
    alone = inr (record { tree = tree; reads = reads; within = within });
    full = λ inside other read f fails. is_only fault (of_typing f) (all f (
        subst (λ m. TypingFails m tree f) (sym (same_meanings schema)) (subst (λ t. TypingFailsOver schema t f) (one_tree 2 document tree other reads read) fails)));
    rules = λ inside other read typed f fails.
        let same = one_tree 2 document tree other reads read in
        inl (is_only fault (of_document f) (alone (λ g broken. typed g (subst (λ t. TypingFailsOver schema t g) (sym same) broken)) f (subst (λ t. DocumentRuleFailsBeside schema t f) same fails)));
  }

-- S `type Query { field: Int }`, D `{ missing }`
missing_refuses : RefusesDocument query_field_schema 500 2 missing (of_typing missing_fault ∷ [])
unfolding reader built_in_definitions
missing_refuses = one_refuses query_field_schema missing missing_tree missing_reads (is_within 500 2 missing missing_tree refl (λ passed. omega (arith, passed))) (of_typing missing_fault) missing_said
    (λ f fails. ap of_typing (only missing_fault f ((document-fails (meanings_found query_field_schema) missing_tree f).1 fails)))
    (λ typed f fails. absurd (typed missing_fault missing_fails))

-- S `type Query { field: Int }`, D `query Q($v: Int) { field }`
unused_refuses : RefusesDocument query_field_schema 500 2 unused (of_document unused_fault ∷ [])
unfolding reader built_in_definitions
unused_refuses = one_refuses query_field_schema unused unused_tree unused_reads (is_within 500 2 unused unused_tree refl (λ passed. omega (arith, passed))) (of_document unused_fault) unused_said
    (λ f fails. not_in_nil f ((document-fails (meanings_found query_field_schema) unused_tree f).1 fails))
    (λ typed f fails. ap of_document (unused_alone f fails))

-- S `type Query { a: Int b: Int }`, D `{ x: a x: b }`
conflict_refuses : RefusesDocument a_and_b_schema 500 2 conflict (of_document conflict_fault ∷ [])
unfolding reader built_in_definitions
conflict_refuses = one_refuses a_and_b_schema conflict conflict_tree conflict_reads (is_within 500 2 conflict conflict_tree refl (λ passed. omega (arith, passed))) (of_document conflict_fault) conflict_said
    (λ f fails. not_in_nil f ((document-fails (meanings_found a_and_b_schema) conflict_tree f).1 fails))
    (λ typed f fails. absurd (conflict_alone f fails))

-- ---- the bytes

-- S `type Query { field: Int }`, D `{ missing }`
missing_bytes : Answer terms None (query_field ∷ []) missing (codes "refused\n2:2: `Query` has no field `missing`\n")
unfolding place_in digits
missing_bytes = inr (record { faults = of_typing missing_fault ∷ []; refused = inr (schema_accepted, missing_refuses); is = refl })

-- S `type Query { field: Int }`, D `query Q($v: Int) { field }`
unused_bytes : Answer terms None (query_field ∷ []) unused (codes "refused\n2:8: unused variable: `$v`\n")
unfolding place_in digits
unused_bytes = inr (record { faults = of_document unused_fault ∷ []; refused = inr (schema_accepted, unused_refuses); is = refl })
