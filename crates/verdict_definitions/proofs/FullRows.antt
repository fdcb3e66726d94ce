-- Documents that break one rule on documents, or on merging, and no other, apart from rules of which only some breaches may be told.
use Rattle.std.proofs.Common.{◌≡◌, ◌⊎◌, ◌+◌, ◌^◌, ◌<◌, [], ◌∷◌, codes, bytes_eq, None, Some, Contains, refl, sym, ap, subst, ◌∙◌, inl, inr, true≢false, arith}
use Rattle.std.proofs.Props.{props}
use Rattle.std.specs.Prelude.{is_some}
use mathlib.Core.HLevel.{is_prop→PathP}
use Rattle.graphql_names.specs.Placed.{Place}
use Rattle.graphql_names.specs.Places.{Recomposes}
use Rattle.graphql_names.specs.declared.span.SourceSpan.{SourceSpan}
use Rattle.schema_built_in.specs.Table.{built_in_definitions}
use Rattle.schema_types.specs.BuiltIn.{built_in}
use Rattle.schema_types.specs.SchemaTree.{SchemaType}
use Rattle.schema_types.specs.declared.type_kind.TypeKind.TheVariants as kind
use Rattle.graphql_faults.specs.in_grammar.Places.{place_in}
use Rattle.schema_fold.specs.in_directives.OperationQueries.{default_root_name}
use Rattle.document_typing.specs.KeptDocument.{kept_document}
use Rattle.spec_document.specs.MeantTree.{MeantDocument, MeantOperation}
use Rattle.rule_definitions.specs.Diagnostics.{UnusedVariable}
use Rattle.rule_definitions.specs.Faults.{wrong}
use Rattle.rule_definitions.specs.Judged.{Judged, judged}
use Rattle.rule_definitions.specs.Names.{argument_name, directive_name, defined_name}
use Rattle.rule_definitions.specs.PlacedFaults.{PlacedFault}
use Rattle.rule_definitions.proofs.Lists.{not_in_nil, only}
use Rattle.graphql_faults.specs.in_document_rule_definitions.DocumentFaults.{Broken, OfData, OfDocument, OfLimit}
use Rattle.graphql_faults.specs.in_document_rule_definitions.Defer.{DeferBreaks}
use Rattle.graphql_faults.specs.in_document_rule_definitions.Subscriptions.{SubscriptionBreaks}
use Rattle.graphql_faults.specs.in_document_rule_definitions.Fragments.{UndefinedFragmentAt, InvalidFragmentTargetAt, InvalidFragmentSpreadAt}
use Rattle.graphql_faults.specs.in_document_rule_definitions.Selections.{SelectionsBreak}
use Rattle.graphql_faults.specs.in_document_rule_definitions.Variables.{VariablesBreak}
use Rattle.graphql_faults.specs.in_document_rule_definitions.PlacedDocumentFaults.{PlacedDocumentFault, places_in}
use Rattle.graphql_faults.proofs.in_document_rule_definitions.RowWords.{of_present, not_present, not_at_index, at_only, none_repeats, one_repeats, none_reached, no_fragment}
use Rattle.verdict_definitions.specs.Says.{RuleFailsBeside, DocumentRuleFailsBeside}
use Rattle.verdict_definitions.proofs.RowMeanings.{meanings_found, same_meanings, type_found, judged_found, same_judged}
use Rattle.verdict_definitions.proofs.DocumentRows.{field_schema, unused_tree, unused_document, unused_operation, v_variable, field_there, unused_fault, a_and_b_schema, conflict_tree, conflict_operation, first_x, second_x}

abbrev int_scalar : SchemaType Place
int_scalar = record { kind = kind.Scalar; place = built_in; description = None; name = record { it = codes "Int"; place = None }; directives = []; interfaces = []; fields = []; members = []; values = []; inputs = [] }

-- ---- S `type Query { field: Int }`, D `query Q($v: Int) { field }`

abbrev J : Judged
J = judged_found field_schema

same_span : (a b : SourceSpan) → a.file_id ≡ b.file_id → a.offset ≡ b.offset → a.length ≡ b.length → a ≡ b
same_span a b file offset length = λ i. record {
  file_id = file i;
  offset = offset i;
  length = length i;
  fits = is_prop→PathP (λ j. offset j + length j < 2 ^ 64) (λ j. hlevel props) a.fits b.fits i;
}

-- the place of the variable's head
head_is : (head : Place) → Recomposes (place_in 2 8 15) (place_in 2 9 10) head → head ≡ place_in 2 8 10
unfolding place_in
head_is None h = absurd h
head_is (Some w) h =
    let r = h.reaches refl (omega arith) in
    let begins = r.begins in
    let ends = r.ends in
    let long : w.length ≡ 2 = omega (arith, begins, ends) in
    ap Some (same_span w _ r.file begins long)

unused_variables : (fault : PlacedFault) → VariablesBreak (places_in field_schema) J unused_document unused_operation fault → fault ≡ wrong (place_in 2 8 10) (UnusedVariable (codes "v"))
unfolding built_in_definitions place_in
unused_variables fault (inl h) = absurd (one_repeats defined_name v_variable h)
unused_variables fault (inr (inl h)) = absurd (not_present (at_only v_variable h))
unused_variables fault (inr (inr (inl h))) =
    let p = at_only v_variable h in
    p.1.1.1 ∙ ap (λ head. wrong head (UnusedVariable (codes "v"))) (head_is p.1.0 p.1.1.0)
unused_variables fault (inr (inr (inr (inl h)))) = absurd (true≢false (ap is_some (at_only v_variable h).0))
unused_variables fault (inr (inr (inr (inr (inl h))))) = absurd (true≢false (of_present (type_found int_scalar) (at_only v_variable h)).0)
unused_variables fault (inr (inr (inr (inr (inr (inl h)))))) = absurd (not_present (at_only v_variable h).1)
unused_variables fault (inr (inr (inr (inr (inr (inr h)))))) = absurd (elim (at_only v_variable h) [ inl r ↦ none_repeats directive_name r | inr r ↦ not_at_index r ])

unused_selections : (fault : PlacedFault) → SelectionsBreak (places_in field_schema) J unused_document unused_operation fault → ⊥
unfolding built_in_definitions place_in
unused_selections fault (inl h) = none_reached unused_document unused_operation 1 refl h ((λ q. true≢false (sym (of_present (type_found int_scalar) (of_present field_there q)).0)), tt)
unused_selections fault (inr (inl h)) = none_reached unused_document unused_operation 1 refl h (
  (λ q. elim (of_present field_there q) [
    | inl (inl p) ↦ none_repeats argument_name p
    | inl (inr p) ↦ not_at_index p
    | inr (inl p) ↦ not_at_index p
    | inr (inr (inl p)) ↦ not_at_index p
    | inr (inr (inr (inl p))) ↦ not_at_index p
    | inr (inr (inr (inr p))) ↦ not_at_index p
  ]),
  tt,
)
unused_selections fault (inr (inr (inl (inl h)))) = none_repeats directive_name h
unused_selections fault (inr (inr (inl (inr h)))) = not_at_index h
unused_selections fault (inr (inr (inr (inl h)))) = none_reached unused_document unused_operation 1 refl h ((λ q. elim q [ inl p ↦ none_repeats directive_name p | inr p ↦ not_at_index p ]), tt)
unused_selections fault (inr (inr (inr (inr h)))) = no_fragment unused_document unused_operation 1 refl (refl, tt) h

unused_fragments : (fault : PlacedFault) → UndefinedFragmentAt unused_document fault unused_operation
    ⊎ (InvalidFragmentTargetAt J unused_document unused_operation fault ⊎ InvalidFragmentSpreadAt J unused_document unused_operation fault (places_in field_schema)) → ⊥
unfolding built_in_definitions place_in
unused_fragments fault (inl h) = none_reached unused_document unused_operation 1 refl h ((λ q. not_present q), tt)
unused_fragments fault (inr (inl (inl h))) = no_fragment unused_document unused_operation 1 refl (refl, tt) h
unused_fragments fault (inr (inl (inr h))) = none_reached unused_document unused_operation 1 refl h ((λ q. not_present q), tt)
unused_fragments fault (inr (inr h)) = none_reached unused_document unused_operation 1 refl h ((λ q. elim q [ inl p ↦ not_present p | inr p ↦ not_present p ]), tt)

unused_defers : (fault : Broken Place) → DeferBreaks unused_document unused_operation fault → ⊥
unused_defers fault (inl h) = h.0 refl
unused_defers fault (inr (k, h)) = true≢false (ap (λ e. bytes_eq (default_root_name e) (codes "Query")) k)

unused_subscriptions : (fault : Broken Place) → SubscriptionBreaks unused_document unused_operation fault → ⊥
unused_subscriptions fault (k, h) = true≢false (ap (λ e. bytes_eq (default_root_name e) (codes "Query")) k)

unused_found : (fault : PlacedDocumentFault) → RuleFailsBeside (places_in field_schema) J unused_document fault → fault ≡ unused_fault
unfolding built_in_definitions place_in
unused_found (OfData fault) (inl (o, (c, h))) = ap OfData (elim (at_it (λ w. VariablesBreak (places_in field_schema) J unused_document w fault
    ⊎ (SelectionsBreak (places_in field_schema) J unused_document w fault ⊎ (UndefinedFragmentAt unused_document fault w
    ⊎ (InvalidFragmentTargetAt J unused_document w fault ⊎ InvalidFragmentSpreadAt J unused_document w fault (places_in field_schema))))) o c h) [
      | inl p ↦ unused_variables fault p
      | inr (inl p) ↦ absurd (unused_selections fault p)
      | inr (inr p) ↦ absurd (unused_fragments fault p)
    ])
  where
    at_it : (Q : MeantOperation Place → Type 0) (w : MeantOperation Place) → Contains (unused_operation ∷ []) w → Q w → Q unused_operation
    at_it Q w c q = subst Q (only unused_operation w c) q
unused_found (OfData fault) (inr (f, (c, h))) = absurd (not_in_nil f c)
unused_found (OfDocument fault) (inl (o, (c, h))) = absurd (unused_subscriptions fault (subst (λ w. SubscriptionBreaks unused_document w fault) (only unused_operation o c) h))
unused_found (OfDocument fault) (inr (inl (o, (c, h)))) = absurd (unused_defers fault (subst (λ w. DeferBreaks unused_document w fault) (only unused_operation o c) h))
unused_found (OfDocument fault) (inr (inr (inl h))) = absurd (not_at_index h)
unused_found (OfDocument fault) (inr (inr (inr h))) = absurd (none_repeats (λ t. t.it) h)
unused_found (OfLimit place) h = absurd h

pub unused_alone : (fault : PlacedDocumentFault) → DocumentRuleFailsBeside field_schema unused_tree fault → fault ≡ unused_fault
unused_alone fault h = unused_found fault
    (subst (λ j. RuleFailsBeside (places_in field_schema) j unused_document fault) (sym (same_judged field_schema))
    (subst (λ m. RuleFailsBeside (places_in field_schema) (judged field_schema) (kept_document m unused_tree) fault) (sym (same_meanings field_schema)) h))

-- ---- S `type Query { a: Int b: Int }`, D `{ x: a x: b }`

abbrev K : Judged
K = judged_found a_and_b_schema

abbrev conflict_document : MeantDocument Place
conflict_document = kept_document (meanings_found a_and_b_schema) conflict_tree

conflict_variables : (fault : PlacedFault) → VariablesBreak (places_in a_and_b_schema) K conflict_document conflict_operation fault → ⊥
conflict_variables fault (inl h) = none_repeats defined_name h
conflict_variables fault (inr (inl h)) = not_at_index h
conflict_variables fault (inr (inr (inl h))) = not_at_index h
conflict_variables fault (inr (inr (inr (inl h)))) = not_at_index h
conflict_variables fault (inr (inr (inr (inr (inl h))))) = not_at_index h
conflict_variables fault (inr (inr (inr (inr (inr (inl h)))))) = not_at_index h
conflict_variables fault (inr (inr (inr (inr (inr (inr h)))))) = not_at_index h

conflict_selections : (fault : PlacedFault) → SelectionsBreak (places_in a_and_b_schema) K conflict_document conflict_operation fault → ⊥
unfolding built_in_definitions place_in
conflict_selections fault (inl h) = none_reached conflict_document conflict_operation 1 refl h (
  (λ q. true≢false (sym (of_present (type_found int_scalar) (of_present first_x q)).0)),
  ((λ q. true≢false (sym (of_present (type_found int_scalar) (of_present second_x q)).0)), tt),
)
conflict_selections fault (inr (inl h)) = none_reached conflict_document conflict_operation 1 refl h (
  (λ q. elim (of_present first_x q) [
    | inl (inl p) ↦ none_repeats argument_name p
    | inl (inr p) ↦ not_at_index p
    | inr (inl p) ↦ not_at_index p
    | inr (inr (inl p)) ↦ not_at_index p
    | inr (inr (inr (inl p))) ↦ not_at_index p
    | inr (inr (inr (inr p))) ↦ not_at_index p
  ]),
  (
    (λ q. elim (of_present second_x q) [
      | inl (inl p) ↦ none_repeats argument_name p
      | inl (inr p) ↦ not_at_index p
      | inr (inl p) ↦ not_at_index p
      | inr (inr (inl p)) ↦ not_at_index p
      | inr (inr (inr (inl p))) ↦ not_at_index p
      | inr (inr (inr (inr p))) ↦ not_at_index p
    ]),
    tt,
  ),
)
conflict_selections fault (inr (inr (inl (inl h)))) = none_repeats directive_name h
conflict_selections fault (inr (inr (inl (inr h)))) = not_at_index h
conflict_selections fault (inr (inr (inr (inl h)))) = none_reached conflict_document conflict_operation 1 refl h (
  (λ q. elim q [ inl p ↦ none_repeats directive_name p | inr p ↦ not_at_index p ]),
  ((λ q. elim q [ inl p ↦ none_repeats directive_name p | inr p ↦ not_at_index p ]), tt),
)
conflict_selections fault (inr (inr (inr (inr h)))) = no_fragment conflict_document conflict_operation 1 refl (refl, (refl, tt)) h

conflict_fragments : (fault : PlacedFault) → UndefinedFragmentAt conflict_document fault conflict_operation
    ⊎ (InvalidFragmentTargetAt K conflict_document conflict_operation fault ⊎ InvalidFragmentSpreadAt K conflict_document conflict_operation fault (places_in a_and_b_schema)) → ⊥
unfolding built_in_definitions place_in
conflict_fragments fault (inl h) = none_reached conflict_document conflict_operation 1 refl h ((λ q. not_present q), ((λ q. not_present q), tt))
conflict_fragments fault (inr (inl (inl h))) = no_fragment conflict_document conflict_operation 1 refl (refl, (refl, tt)) h
conflict_fragments fault (inr (inl (inr h))) = none_reached conflict_document conflict_operation 1 refl h ((λ q. not_present q), ((λ q. not_present q), tt))
conflict_fragments fault (inr (inr h)) = none_reached conflict_document conflict_operation 1 refl h (
  (λ q. elim q [ inl p ↦ not_present p | inr p ↦ not_present p ]),
  ((λ q. elim q [ inl p ↦ not_present p | inr p ↦ not_present p ]), tt),
)

conflict_defers : (fault : Broken Place) → DeferBreaks conflict_document conflict_operation fault → ⊥
conflict_defers fault (inl h) = h.0 refl
conflict_defers fault (inr (k, h)) = true≢false (ap (λ e. bytes_eq (default_root_name e) (codes "Query")) k)

conflict_subscriptions : (fault : Broken Place) → SubscriptionBreaks conflict_document conflict_operation fault → ⊥
conflict_subscriptions fault (k, h) = true≢false (ap (λ e. bytes_eq (default_root_name e) (codes "Query")) k)

conflict_found : (fault : PlacedDocumentFault) → RuleFailsBeside (places_in a_and_b_schema) K conflict_document fault → ⊥
unfolding built_in_definitions place_in
conflict_found (OfData fault) (inl (o, (c, h))) = elim (at_it (λ w. VariablesBreak (places_in a_and_b_schema) K conflict_document w fault
    ⊎ (SelectionsBreak (places_in a_and_b_schema) K conflict_document w fault ⊎ (UndefinedFragmentAt conflict_document fault w
    ⊎ (InvalidFragmentTargetAt K conflict_document w fault ⊎ InvalidFragmentSpreadAt K conflict_document w fault (places_in a_and_b_schema))))) o c h) [
      | inl p ↦ conflict_variables fault p
      | inr (inl p) ↦ conflict_selections fault p
      | inr (inr p) ↦ conflict_fragments fault p
    ]
  where
    at_it : (Q : MeantOperation Place → Type 0) (w : MeantOperation Place) → Contains (conflict_operation ∷ []) w → Q w → Q conflict_operation
    at_it Q w c q = subst Q (only conflict_operation w c) q
conflict_found (OfData fault) (inr (f, (c, h))) = not_in_nil f c
conflict_found (OfDocument fault) (inl (o, (c, h))) = conflict_subscriptions fault (subst (λ w. SubscriptionBreaks conflict_document w fault) (only conflict_operation o c) h)
conflict_found (OfDocument fault) (inr (inl (o, (c, h)))) = conflict_defers fault (subst (λ w. DeferBreaks conflict_document w fault) (only conflict_operation o c) h)
conflict_found (OfDocument fault) (inr (inr (inl h))) = not_at_index h
conflict_found (OfDocument fault) (inr (inr (inr h))) = none_repeats (λ t. t.it) h
conflict_found (OfLimit place) h = h

pub conflict_alone : (fault : PlacedDocumentFault) → DocumentRuleFailsBeside a_and_b_schema conflict_tree fault → ⊥
conflict_alone fault h = conflict_found fault
    (subst (λ j. RuleFailsBeside (places_in a_and_b_schema) j conflict_document fault) (sym (same_judged a_and_b_schema))
    (subst (λ m. RuleFailsBeside (places_in a_and_b_schema) (judged a_and_b_schema) (kept_document m conflict_tree) fault) (sym (same_meanings a_and_b_schema)) h))
