-- The variables of an operation are valid exactly when no rule on them is broken.
use Rattle.std.proofs.Common.{◌≡◌, ◌↔◌, ℕ, List, [], refl, sym, ap, ◌∙◌, Option, None, Some, inl, inr, true≢false}
use Rattle.std.proofs.lemmas.Option.{same_Some}
use Rattle.graphql_names.specs.Placed.{Placed}
use Rattle.tree_literals.specs.TypeTree.{unplaced_type}
use Rattle.tree_literals.specs.ValueTree.{ValueTree, ItemTrees, EntryTrees, VariableTree, ListTree, ObjectTree, no_items, item_then, no_entries, entry_then}
use Rattle.tree_directives.specs.DirectiveTree.{Arguments, Directives}
use Rattle.tree_directives.specs.declared.directive_location.DirectiveLocation.TheVariants as location
use Rattle.tree_operations.specs.OperationTree.{VariableDefinitionTree}
use Rattle.schema_types.specs.SchemaTree.{is_input_kind}
use Rattle.schema_types.specs.Looks.{TypeLooks}
use Rattle.rule_definitions.specs.Judged.{Judged}
use Rattle.rule_definitions.specs.Names.{defined_name}
use Rattle.rule_definitions.specs.GivenValues.{wanted_name}
use Rattle.rule_definitions.specs.Values.{ValueBreaks}
use Rattle.rule_definitions.proofs.Accepting.{accepts_where_quiet}
use Rattle.rule_definitions.proofs.Lists.{index_found, index_given}
use Rattle.rule_document_definitions.specs.Selected.{Standing, as_field, selection_directives}
use Rattle.rule_document_definitions.specs.UsedVariables.{IsInValue, IsInItems, IsInEntries, IsInArguments, IsInDirectives, IsInSelection, IsUsedIn, wanted_by}
use Rattle.rule_document_definitions.specs.Variables.{VariablesBreak}
use Rattle.rule_document_definitions.specs.Verdict.{no_places}
use Rattle.book_validity.specs.Words.{Document, Each, Operation}
use Rattle.book_validity.specs.Coercion.{IsOfCorrectType}
use Rattle.book_validity.specs.Variables.{AreVariablesValid, IsInputType}
use Rattle.rule_document_definitions.proofs.Decided.{Decided, stable, either, names, present, at_some_index}
use Rattle.book_validity.proofs.Naming.{Quiet, is_there, there, is_true, unique_from, unique_never}
use Rattle.book_validity.proofs.CoercionFacts.{of_correct_type}
use Rattle.book_validity.proofs.KeyFacts.{keys_quiet, quiet_keys}
use Rattle.book_validity.proofs.DirectiveFacts.{directives_quiet, quiet_directives}
use Rattle.rule_document_definitions.proofs.Spreading.{at_reached, at_reached_fragment}

abbrev U : Type 0
U = Unit {0}

-- ---- whether a variable is there

module _ (n : List ℕ) where
  mutual
    value_or_not : (v : ValueTree U) → Decided (IsInValue n v)
    value_or_not (VariableTree v) = names v.it n
    value_or_not (ListTree ts) = items_or_not ts
    value_or_not (ObjectTree es) = entries_or_not es
    value_or_not _ = inr (λ h. h)

    items_or_not : (ts : ItemTrees U) → Decided (IsInItems n ts)
    items_or_not no_items = inr (λ h. h)
    items_or_not (item_then p v ts) = either (value_or_not v) (items_or_not ts)

    entries_or_not : (es : EntryTrees U) → Decided (IsInEntries n es)
    entries_or_not no_entries = inr (λ h. h)
    entries_or_not (entry_then k p v es) = either (value_or_not v) (entries_or_not es)

  arguments_or_not : (given : Arguments U) → Decided (IsInArguments n given)
  arguments_or_not given = at_some_index (λ a. IsInValue n a.it.value.it) (λ a. value_or_not a.it.value.it) given

  directives_or_not : (ds : Directives U) → Decided (IsInDirectives n ds)
  directives_or_not ds = at_some_index (λ e. IsInArguments n e.it.arguments) (λ e. arguments_or_not e.it.arguments) ds

  selection_or_not : (x : Standing U) → Decided (IsInSelection n x)
  selection_or_not x = either (directives_or_not (selection_directives x.it))
      (present (λ f. IsInArguments n f.head.arguments) (as_field x) (λ f e. arguments_or_not f.head.arguments))

  pub used_or_not : (d : Document) (o : Operation) → Decided (IsUsedIn n d o)
  used_or_not d o = either (directives_or_not o.directives)
      (either (at_reached d o (IsInSelection n) selection_or_not) (at_reached_fragment d o (λ f. IsInDirectives n f.directives) (λ f. directives_or_not f.directives)))

-- ---- the rules

module _ (s : Judged) (d : Document) (o : Operation) where
  abbrev accepted : (x : Placed U (VariableDefinitionTree U)) (v : Placed U (ValueTree U))
      → IsOfCorrectType s [] (unplaced_type x.it.ty.it) v.it ↔ Quiet (ValueBreaks no_places.at s [] (wanted_by x.it) v.place v.it)
  accepted x v =
      let quiet = accepts_where_quiet {P = U} U no_places.at s [] (unplaced_type x.it.ty.it) tt tt v.it in
      let of_type = of_correct_type s [] (unplaced_type x.it.ty.it) v.it in
      (λ h. quiet.0 (of_type.1 h), λ q. of_type.0 (quiet.1 q))

  pub variables_quiet : AreVariablesValid s d o → Quiet (VariablesBreak no_places s d o)
  variables_quiet h fault (inl r) = unique_never defined_name o.variables h.unique r
  variables_quiet h fault (inr (inl (i, (x, (e, (v, (is, b))))))) = keys_quiet v.it (h.keys x (index_given o.variables i x e) v is) fault b
  variables_quiet h fault (inr (inr (inl (i, (x, (e, (unused, told))))))) = unused (h.used x (index_given o.variables i x e))
  variables_quiet h fault (inr (inr (inr (inl (i, (x, (e, (none, told)))))))) =
      let (t, (is, input)) = h.input_types x (index_given o.variables i x e) in absurd (some_none is none)
    where
      some_none : {t : TypeLooks} {l : Option TypeLooks} → l ≡ Some t → l ≡ None → ⊥
      some_none is none = cc
  variables_quiet h fault (inr (inr (inr (inr (inl (i, (x, (e, (u, (has, (output, told))))))))))) =
      let (t, (is, input)) = h.input_types x (index_given o.variables i x e) in
      true≢false (sym input ∙ ap (λ (k : TypeLooks). is_input_kind k.kind) (same_Some t u (sym is ∙ has)) ∙ output)
  variables_quiet h fault (inr (inr (inr (inr (inr (inl (i, (x, (e, (input, (v, (is, b)))))))))))) =
      (accepted x v).0 (h.defaults x (index_given o.variables i x e) v is) fault b
  variables_quiet h fault (inr (inr (inr (inr (inr (inr (i, (x, (e, b))))))))) =
      directives_quiet s [] location.VariableDefinition x.it.directives (h.directives x (index_given o.variables i x e)) fault b

  quiet_inputs : Quiet (VariablesBreak no_places s d o) → Each o.variables (λ x. IsInputType s (wanted_name (wanted_by x.it)))
  quiet_inputs q x c =
      let (i, e) = index_found o.variables x c in
      let (t, is) = there (s.type_named (wanted_name (wanted_by x.it))) (is_there (s.type_named (wanted_name (wanted_by x.it))) (λ none. q _ (inr (inr (inr (inl (i, (x, (e, (none, refl)))))))))) in
      (t, (is, is_true (is_input_kind t.kind) (λ output. q _ (inr (inr (inr (inr (inl (i, (x, (e, (t, (is, (output, refl))))))))))))))

  pub quiet_variables : Quiet (VariablesBreak no_places s d o) → AreVariablesValid s d o
  quiet_variables q = record {
    unique = unique_from defined_name o.variables (λ r. q _ (inl (r.0, (r.1.0, (r.1.1.0, (r.1.1.1.0, (r.1.1.1.1.0, (r.1.1.1.1.1.0, (r.1.1.1.1.1.1.0, (r.1.1.1.1.1.1.1.0, (r.1.1.1.1.1.1.1.1.0, refl)))))))))));
    input_types = quiet_inputs q;
    used = λ x c. let (i, e) = index_found o.variables x c in
        stable (used_or_not (defined_name x) d o) (λ unused. q _ (inr (inr (inl (i, (x, (e, (unused, (tt, (tt, refl))))))))));
    defaults = λ x c v is. let (i, e) = index_found o.variables x c in
        (accepted x v).1 (λ fault b. q fault (inr (inr (inr (inr (inr (inl (i, (x, (e, (quiet_inputs q x c, (v, (is, b)))))))))))));
    keys = λ x c v is. let (i, e) = index_found o.variables x c in quiet_keys v.it (λ fault b. q fault (inr (inl (i, (x, (e, (v, (is, b))))))));
    directives = λ x c. let (i, e) = index_found o.variables x c in
        quiet_directives s [] location.VariableDefinition x.it.directives (λ fault b. q fault (inr (inr (inr (inr (inr (inr (i, (x, (e, b))))))))));
  }
