-- What is accepted of S `type Query { field: Int }`, D `{ field }`: the document is, over the schema.
use Rattle.std.proofs.Common.{◌≡◌, ◌⊎◌, [], ◌∷◌, codes, bytes_eq, None, Some, Contains, refl, sym, ap, subst, inl, inr, true≢false, arith}
use Rattle.std.proofs.lemmas.Option.{same_Some}
use Rattle.graphql_names.specs.Placed.{Place}
use Rattle.schema_built_in.specs.Table.{built_in_definitions}
use Rattle.schema_fold.specs.in_directives.OperationQueries.{default_root_name}
use Rattle.schema_fold.specs.in_directives.declared.operation_type.OperationType.TheVariants.{Query}
use Rattle.schema_fold.specs.in_literals.TypeTree.{NamedTree}
use Rattle.tree_definitions.specs.in_operations.SelectionTree.{FieldHead}
use Rattle.schema_types.specs.BuiltIn.{built_in}
use Rattle.schema_types.specs.SchemaTree.{SchemaType, SchemaTree}
use Rattle.schema_types.specs.declared.type_kind.TypeKind.TheVariants as kind
use Rattle.spec_document.specs.MeantTree.{Definition, MeantDocument, MeantOperation, MeantField, MeantSet, meant_set, meant_then, no_meant}
use Rattle.spec_document.specs.Unplaced.{unplaced_document}
use Rattle.rule_definitions.specs.Faults.{FaultAt}
use Rattle.rule_definitions.specs.Judged.{Judged}
use Rattle.rule_definitions.specs.Names.{argument_name, directive_name, defined_name}
use Rattle.rule_definitions.proofs.Lists.{not_in_nil, only}
use Rattle.document_typing.specs.KeptDocument.{kept_document}
use Rattle.document_typing.specs.TypingFaults.{TypingRules}
use Rattle.document_typing.proofs.DocumentFailures.{document-fails}
use Rattle.graphql_faults.specs.in_document_rule_definitions.DocumentFaults.{Broken, OfData, OfDocument, OfLimit}
use Rattle.graphql_faults.specs.in_document_rule_definitions.Selected.{Standing, StandingField, as_field, InOperation, SelectionAt}
use Rattle.graphql_faults.specs.in_document_rule_definitions.Reached.{Closed, first, next, LeadsInto}
use Rattle.graphql_faults.specs.in_document_rule_definitions.Variables.{VariablesBreak}
use Rattle.graphql_faults.specs.in_document_rule_definitions.Fragments.{FragmentsBreak}
use Rattle.graphql_faults.specs.in_document_rule_definitions.Selections.{SelectionsBreak, MissingSubselectionAt, FieldArgumentsBreak, DirectivesBreak}
use Rattle.graphql_faults.specs.in_document_rule_definitions.Subscriptions.{SubscriptionBreaks}
use Rattle.graphql_faults.specs.in_document_rule_definitions.Defer.{DeferBreaks}
use Rattle.graphql_faults.specs.in_document_rule_definitions.Merging.{FieldsMerge, Below, Starts, SameKey, SameShape, MayShare, SameNameAndArguments}
use Rattle.graphql_faults.specs.in_document_rule_definitions.SameValues.{neither}
use Rattle.graphql_faults.specs.in_document_rule_definitions.Verdict.{no_places, DocumentRules, Merging, WithinBounds}
use Rattle.graphql_faults.specs.in_document_rule_definitions.PlacedDocumentFaults.{IsValidDocument}
use Rattle.graphql_faults.proofs.in_document_rule_definitions.Levels.{reached_in}
use Rattle.graphql_faults.proofs.in_document_rule_definitions.MergingFacts.{IsReachedField, closed_within, merge_if_all_agree}
use Rattle.graphql_faults.proofs.in_document_rule_definitions.RowWords.{of_present, not_present, not_at_index, none_repeats, none_reached, no_fragment, of_each}
use Rattle.verdict_definitions.specs.Texts.{IsWithin}
use Rattle.verdict_definitions.specs.Meaning.{document_schema, document_over}
use Rattle.verdict_definitions.specs.Judge.{JudgeDocument, IsDocumentAccepted, PassesNoDocumentBound}
use Rattle.verdict_definitions.proofs.RowReading.{reader, is_within}
use Rattle.verdict_definitions.proofs.RowTrees.{terms}
use Rattle.verdict_definitions.proofs.RowMeanings.{meanings_found, same_meanings, type_found, judged_found, same_judged}
use Rattle.verdict_definitions.proofs.TextRows.{query_field_tree, just_field, just_field_tree, just_field_reads}

abbrev pub field_schema : SchemaTree Place
field_schema = document_schema terms (query_field_tree ∷ [])

-- ---- every rule of typing holds

pub typed : TypingRules (meanings_found field_schema) just_field_tree
unfolding built_in_definitions
typed fault fails = not_in_nil fault ((document-fails (meanings_found field_schema) just_field_tree fault).1 fails)

-- ---- the document without places

abbrev U : Type 0
U = Unit {0}

abbrev int_field : Definition
int_field = record { description = None; name = record { it = codes "field"; place = tt }; arguments = []; ty = NamedTree (record { it = codes "Int"; place = tt }); directives = [] }

abbrev head : FieldHead U
head = record { alias = None; name = record { it = codes "field"; place = tt }; arguments = []; directives = [] }

abbrev nothing : MeantSet U
nothing = meant_set (codes "Int") no_meant

abbrev only_field : MeantOperation U
only_field = record { place = tt; operation_type = Query; name = None; variables = []; directives = []; set = meant_set (codes "Query") (meant_then (MeantField tt int_field head nothing) no_meant) }

abbrev alone : MeantDocument U
alone = record { anonymous = Some only_field; named = []; fragments = [] }

-- its one selection
abbrev there : StandingField U
there = record { position = SelectionAt (InOperation None) 0; parent = codes "Query"; place = tt; definition = int_field; head = head; set = nothing }

abbrev standing : Standing U
standing = record { position = SelectionAt (InOperation None) 0; parent = codes "Query"; it = MeantField tt int_field head nothing }

abbrev int_scalar : SchemaType Place
int_scalar = record { kind = kind.Scalar; place = built_in; description = None; name = record { it = codes "Int"; place = None }; directives = []; interfaces = []; fields = []; members = []; values = []; inputs = [] }

abbrev found : Judged
found = judged_found field_schema

-- ---- every rule on documents holds

leaf_selects_nothing : (fault : FaultAt U U) → MissingSubselectionAt found alone only_field fault → ⊥
unfolding built_in_definitions
leaf_selects_nothing fault p = none_reached alone only_field 1 refl p ((λ q. true≢false (sym (of_present (type_found int_scalar) (of_present there q)).0)), tt)

nothing_is_given : (fault : FaultAt U U) → FieldArgumentsBreak found alone only_field fault no_places → ⊥
nothing_is_given fault p = none_reached alone only_field 1 refl p (
  (λ q. elim (of_present there q) [
    | inl (inl h) ↦ none_repeats argument_name h
    | inl (inr h) ↦ not_at_index h
    | inr (inl h) ↦ not_at_index h
    | inr (inr (inl h)) ↦ not_at_index h
    | inr (inr (inr (inl h))) ↦ not_at_index h
    | inr (inr (inr (inr h))) ↦ not_at_index h
  ]),
  tt,
)

no_directive : (fault : FaultAt U U) → DirectivesBreak found alone only_field fault no_places → ⊥
no_directive fault (inl (inl h)) = none_repeats directive_name h
no_directive fault (inl (inr h)) = not_at_index h
no_directive fault (inr (inl p)) = none_reached alone only_field 1 refl p ((λ q. elim q [ inl h ↦ none_repeats directive_name h | inr h ↦ not_at_index h ]), tt)
no_directive fault (inr (inr p)) = no_fragment alone only_field 1 refl (refl, tt) p

no_variable_rule : (fault : FaultAt U U) → VariablesBreak no_places found alone only_field fault → ⊥
no_variable_rule fault (inl h) = none_repeats defined_name h
no_variable_rule fault (inr (inl h)) = not_at_index h
no_variable_rule fault (inr (inr (inl h))) = not_at_index h
no_variable_rule fault (inr (inr (inr (inl h)))) = not_at_index h
no_variable_rule fault (inr (inr (inr (inr (inl h))))) = not_at_index h
no_variable_rule fault (inr (inr (inr (inr (inr (inl h)))))) = not_at_index h
no_variable_rule fault (inr (inr (inr (inr (inr (inr h)))))) = not_at_index h

no_selection_rule : (fault : FaultAt U U) → SelectionsBreak no_places found alone only_field fault → ⊥
no_selection_rule fault (inl h) = leaf_selects_nothing fault h
no_selection_rule fault (inr (inl h)) = nothing_is_given fault h
no_selection_rule fault (inr (inr h)) = no_directive fault h

no_fragment_rule : (fault : FaultAt U U) → FragmentsBreak no_places found alone only_field fault → ⊥
no_fragment_rule fault (inl h) = none_reached alone only_field 1 refl h ((λ q. not_present q), tt)
no_fragment_rule fault (inr (inl h)) = no_fragment alone only_field 1 refl (refl, tt) h
no_fragment_rule fault (inr (inr (inl (inl h)))) = no_fragment alone only_field 1 refl (refl, tt) h
no_fragment_rule fault (inr (inr (inl (inr h)))) = none_reached alone only_field 1 refl h ((λ q. not_present q), tt)
no_fragment_rule fault (inr (inr (inr h))) = none_reached alone only_field 1 refl h ((λ q. elim q [ inl p ↦ not_present p | inr p ↦ not_present p ]), tt)

is_it : (Q : MeantOperation U → Type 0) (o : MeantOperation U) → Contains (only_field ∷ []) o → Q o → Q only_field
is_it Q o c q = subst Q (only only_field o c) q

no_subscription : (fault : Broken U) → SubscriptionBreaks alone only_field fault → ⊥
no_subscription fault (k, h) = true≢false (ap (λ e. bytes_eq (default_root_name e) (codes "Query")) k)

not_deferred : (fault : Broken U) → DeferBreaks alone only_field fault → ⊥
not_deferred fault (inl h) = h.0 refl
not_deferred fault (inr (k, h)) = true≢false (ap (λ e. bytes_eq (default_root_name e) (codes "Query")) k)

rules_hold : DocumentRules found alone
rules_hold (OfData fault) (inl (o, (c, h))) = elim (is_it (λ w. VariablesBreak no_places found alone w fault
    ⊎ (SelectionsBreak no_places found alone w fault ⊎ FragmentsBreak no_places found alone w fault)) o c h) [
      | inl p ↦ no_variable_rule fault p
      | inr (inl p) ↦ no_selection_rule fault p
      | inr (inr p) ↦ no_fragment_rule fault p
    ]
rules_hold (OfData fault) (inr (f, (c, h))) = not_in_nil f c
rules_hold (OfDocument fault) (inl (o, (c, h))) = no_subscription fault (is_it (λ w. SubscriptionBreaks alone w fault) o c h)
rules_hold (OfDocument fault) (inr (inl (o, (c, h)))) = not_deferred fault (is_it (λ w. DeferBreaks alone w fault) o c h)
rules_hold (OfDocument fault) (inr (inr (inl h))) = not_at_index h
rules_hold (OfDocument fault) (inr (inr (inr h))) = none_repeats (λ t. t.it) h
rules_hold (OfLimit place) h = h

-- ---- its fields merge: there is one

one_field : (f : StandingField U) → IsReachedField alone only_field f → there ≡ f
one_field f (x, (r, e)) = of_each (λ z. as_field z ≡ Some f → there ≡ f) (standing ∷ []) ((λ h. same_Some there f h), tt) x (reached_in alone only_field 1 refl x r) e

agree_with_itself : (Together Agree : StandingField U → StandingField U → Type 0) → Agree there there → (f g : StandingField U) → IsReachedField alone only_field f → IsReachedField alone only_field g → Together f g → Agree f g
agree_with_itself Together Agree is f g a b t = subst (λ h. Agree h g) (one_field f a) (subst (λ h. Agree there h) (one_field g b) is)

fields_merge : FieldsMerge found alone only_field
fields_merge = record {
  shapes = merge_if_all_agree alone only_field SameKey (SameShape found) (agree_with_itself SameKey (SameShape found) (refl, inl refl));
  selections = merge_if_all_agree alone only_field (MayShare found) SameNameAndArguments (agree_with_itself (MayShare found) SameNameAndArguments (refl, λ n. neither));
}

merges : Merging found alone
merges o c = subst (λ w. FieldsMerge found alone w) (sym (only only_field o c)) fields_merge

-- ---- and no bound is passed: the field has no selections

never_closed : {X A : Type 0} {Next : X → X → Type 0} (x : X) → Closed (Contains []) Next x → A
never_closed x (first c) = not_in_nil x c
never_closed y (next {x = x} r l) = never_closed x r

leads_nowhere : (x y : Standing U) → Contains (standing ∷ []) x → LeadsInto alone x y → ⊥
leads_nowhere x y c l = by (subst (λ z. LeadsInto alone z y) (only standing x c) l)
  where
    by : LeadsInto alone standing y → ⊥
    by (inl p) = not_in_nil y (of_present there p)
    by (inr (inl k)) = not_in_nil y k
    by (inr (inr p)) = not_present p

nothing_below : (f g : StandingField U) → Starts alone only_field f → Below alone f g → ⊥
nothing_below f g (x, (r, e)) b = by (subst (λ h. Below alone h g) (sym (one_field f (x, (closed_within (λ y c. first c) (λ y z l. inr l) x r, e)))) b)
  where
    by : Below alone there g → ⊥
    by (y, (k, i)) = never_closed y k

within_bounds : WithinBounds alone
within_bounds fault (inl (f, (c, passed))) = not_in_nil f c
within_bounds fault (inr (inl ((x, ([], (c, (way, (apart, long))))), told))) = omega (arith, long)
within_bounds fault (inr (inl ((x, (y ∷ path, (c, (((by, leads), way), passed)))), told))) = leads_nowhere x y c leads
within_bounds fault (inr (inr (o, (c, (([], (links, long)), told))))) = omega (arith, long)
within_bounds fault (inr (inr (o, (c, ((f ∷ [], (links, long)), told))))) = omega (arith, long)
within_bounds fault (inr (inr (o, (c, ((f ∷ g ∷ chain, ((starts, (below, links)), long)), told))))) =
    nothing_below f g (subst (λ w. Starts alone w f) (only only_field o c) starts) below

bounds_found : WithinBounds (unplaced_document (kept_document (meanings_found field_schema) just_field_tree))
unfolding built_in_definitions
bounds_found = within_bounds

pub just_field_nests : PassesNoDocumentBound field_schema just_field_tree
just_field_nests = subst (λ m. WithinBounds (unplaced_document (kept_document m just_field_tree))) (same_meanings field_schema) bounds_found

-- ---- the document is accepted over the schema

valid_found : DocumentRules found (unplaced_document (kept_document (meanings_found field_schema) just_field_tree)) × Merging found (unplaced_document (kept_document (meanings_found field_schema) just_field_tree))
unfolding built_in_definitions
valid_found = (rules_hold, merges)

pub valid : IsValidDocument field_schema (document_over field_schema just_field_tree)
valid =
    subst (λ m. IsValidDocument field_schema (kept_document m just_field_tree)) (same_meanings field_schema)
    (subst (λ j. DocumentRules j (unplaced_document (kept_document (meanings_found field_schema) just_field_tree)) × Merging j (unplaced_document (kept_document (meanings_found field_schema) just_field_tree))) (same_judged field_schema) valid_found)

abbrev pub just_field_judged : JudgeDocument field_schema 2 just_field
just_field_judged = record {
  tree = just_field_tree;
  read = just_field_reads;
  typed = subst (λ m. TypingRules m just_field_tree) (same_meanings field_schema) typed;
  holds = valid;
}

pub just_field_within : IsWithin 500 2 just_field
unfolding reader
just_field_within = is_within 500 2 just_field just_field_tree refl (λ passed. omega (arith, passed))

abbrev pub just_field_accepted : IsDocumentAccepted field_schema 500 2 just_field
just_field_accepted = record { judged = just_field_judged; within = just_field_within }
