-- The faults of rules that stay broken pass by their variants.
use Rattle.std.proofs.Common.{◌≡◌, true, ℕ, List, [], ap, inl, inr}
use Rattle.tree_literals.specs.ValueTree.{ValueTree, ItemTrees, EntryTrees, NullTree, EnumTree, VariableTree, StringTree, FloatTree, IntTree, BooleanTree, ListTree, ObjectTree, no_items, item_then, no_entries, entry_then}
use Rattle.tree_directives.specs.DirectiveTree.{Arguments, Directives}
use Rattle.tree_directives.specs.OperationQueries.{location_of_operation}
use Rattle.tree_directives.specs.declared.directive_location.DirectiveLocation.{DirectiveLocation}
use Rattle.tree_directives.specs.declared.directive_location.DirectiveLocation.TheVariants as location
use Rattle.schema_types.specs.Addresses.{Address}
use Rattle.schema_types.specs.Looks.{TypeLooks}
use Rattle.spec_document.specs.MeantTree.{MeantOperation, MeantDocument}
use Rattle.rule_definitions.specs.Faults.{FaultAt}
use Rattle.rule_definitions.specs.GivenValues.{Wanted, Variables}
use Rattle.rule_definitions.specs.Judged.{Judged}
use Rattle.rule_definitions.specs.Values.{UniqueInputValueIn, UniqueInputValueInItems, UniqueInputValueInEntries, UndefinedVariableIn, UndefinedVariableInItems, UndefinedVariableInEntries, FormBreaks, TypeBreaks, TypeBreaksItems, TypeBreaksEntries, wanted_item}
use Rattle.rule_definitions.specs.Uses.{Taker, directive_taker, GivenBreaks, TakerBreaks, UsesBreak}
use Rattle.rule_document_definitions.specs.Places.{Places}
use Rattle.rule_document_definitions.specs.DocumentFaults.{Broken}
use Rattle.rule_document_definitions.specs.Selected.{selection_location, selection_directives}
use Rattle.rule_document_definitions.specs.UsedVariables.{wanted_by}
use Rattle.rule_document_definitions.specs.Selections.{field_taker}
use Rattle.rule_document_definitions.specs.Defer.{DeferBreaks}
use Rattle.graphql_validation.specs.Lasts.{fault_lasts, broken_lasts}
use Rattle.graphql_validation.specs.LastingRules.{LastingVariablesBreak, LastingSelectionsBreak, LastingFragmentsBreak, LastingDataBreaks, LastingSubscriptionBreaks}

module _ {P E : Type 0} (fault : FaultAt P E) where
  abbrev Passes : Type 0
  Passes = fault_lasts fault ≡ true

  -- ---- values

  mutual
    unique_in : (v : ValueTree P) → UniqueInputValueIn v fault → Passes
    unique_in (ListTree ts) h = unique_items ts h
    unique_in (ObjectTree es) (inl (j, (later, (at, (i, (first, (is, (name, (one, (before, told)))))))))) = ap fault_lasts told
    unique_in (ObjectTree es) (inr h) = unique_entries es h
    unique_in NullTree h = absurd h
    unique_in (EnumTree n) h = absurd h
    unique_in (VariableTree n) h = absurd h
    unique_in (StringTree n) h = absurd h
    unique_in (FloatTree n) h = absurd h
    unique_in (IntTree n) h = absurd h
    unique_in (BooleanTree n) h = absurd h

    unique_items : (ts : ItemTrees P) → UniqueInputValueInItems ts fault → Passes
    unique_items no_items h = absurd h
    unique_items (item_then p v ts) (inl h) = unique_in v h
    unique_items (item_then p v ts) (inr h) = unique_items ts h

    unique_entries : (es : EntryTrees P) → UniqueInputValueInEntries es fault → Passes
    unique_entries no_entries h = absurd h
    unique_entries (entry_then n p v es) (inl h) = unique_in v h
    unique_entries (entry_then n p v es) (inr h) = unique_entries es h

  module _ (variables : Variables P) where
    mutual
      undefined_in : (p : P) (v : ValueTree P) → UndefinedVariableIn variables p v fault → Passes
      undefined_in p (VariableTree n) (lacks, told) = ap fault_lasts told
      undefined_in p (ListTree ts) h = undefined_items ts h
      undefined_in p (ObjectTree es) h = undefined_entries es h
      undefined_in p NullTree h = absurd h
      undefined_in p (EnumTree n) h = absurd h
      undefined_in p (StringTree n) h = absurd h
      undefined_in p (FloatTree n) h = absurd h
      undefined_in p (IntTree n) h = absurd h
      undefined_in p (BooleanTree n) h = absurd h

      undefined_items : (ts : ItemTrees P) → UndefinedVariableInItems variables ts fault → Passes
      undefined_items no_items h = absurd h
      undefined_items (item_then p v ts) (inl h) = undefined_in p v h
      undefined_items (item_then p v ts) (inr h) = undefined_items ts h

      undefined_entries : (es : EntryTrees P) → UndefinedVariableInEntries variables es fault → Passes
      undefined_entries no_entries h = absurd h
      undefined_entries (entry_then n p v es) (inl h) = undefined_in p v h
      undefined_entries (entry_then n p v es) (inr h) = undefined_entries es h

  module _ (at : Address → P) (s : Judged) (variables : Variables P) where
    form : (ty : Wanted P) (p : P) (v : ValueTree P) → FormBreaks at s variables ty p v fault → Passes
    form ty p v (inl (t, (is, (unfit, told)))) = ap fault_lasts told
    form ty p v (inr (inl (t, (is, (scalar, (int, (digits, (at, (unfit, told))))))))) = ap fault_lasts told
    form ty p v (inr (inr (inl (t, (is, (kind, (e, (at, (none, told))))))))) = ap fault_lasts told
    form ty p v (inr (inr (inr (inl (t, (is, (kind, (es, (at, (i, (e, (here, (none, (one, told)))))))))))))) = ap fault_lasts told
    form ty p v (inr (inr (inr (inr (t, (is, (kind, (es, (at, (m, (f, (here, (wanted, (absent, told)))))))))))))) = ap fault_lasts told

    mutual
      typed : (ty : Wanted P) (p : P) (v : ValueTree P) → TypeBreaks at s variables ty p v fault → Passes
      typed ty p (ListTree ts) (inl h) = form ty p (ListTree ts) h
      typed ty p (ListTree ts) (inr (fits, h)) = typed_items (wanted_item ty) ts h
      typed ty p (ObjectTree es) (inl h) = form ty p (ObjectTree es) h
      typed ty p (ObjectTree es) (inr (t, (is, (kind, h)))) = typed_entries _ t _ es h
      typed ty p NullTree h = form ty p NullTree h
      typed ty p (EnumTree n) h = form ty p (EnumTree n) h
      typed ty p (VariableTree n) h = form ty p (VariableTree n) h
      typed ty p (StringTree n) h = form ty p (StringTree n) h
      typed ty p (FloatTree n) h = form ty p (FloatTree n) h
      typed ty p (IntTree n) h = form ty p (IntTree n) h
      typed ty p (BooleanTree n) h = form ty p (BooleanTree n) h

      typed_items : (ty : Wanted P) (ts : ItemTrees P) → TypeBreaksItems at s variables ty ts fault → Passes
      typed_items ty no_items h = absurd h
      typed_items ty (item_then p v ts) (inl h) = typed ty p v h
      typed_items ty (item_then p v ts) (inr h) = typed_items ty ts h

      typed_entries : (n : List ℕ) (t : TypeLooks) (before : List (List ℕ)) (es : EntryTrees P) → TypeBreaksEntries at s variables n t before es fault → Passes
      typed_entries n t before no_entries h = absurd h
      typed_entries n t before (entry_then k p v es) (inl (new, (f, (is, h)))) = typed _ p v h
      typed_entries n t before (entry_then k p v es) (inr h) = typed_entries n t _ es h

    -- ---- arguments and directives

    pub given_passes : (given : Arguments P) → GivenBreaks at s variables given fault → Passes
    given_passes given (inl (j, (later, (is, (i, (first, (here, (name, (one, (before, told)))))))))) = ap fault_lasts told
    given_passes given (inr (i, (a, (is, inl h)))) = unique_in a.it.value.it h
    given_passes given (inr (i, (a, (is, inr h)))) = undefined_in variables a.it.value.place a.it.value.it h

    pub taker_passes : (taker : Taker P) → TakerBreaks at s variables taker fault → Passes
    taker_passes taker (inl (j, (a, (is, (lacks, told))))) = ap fault_lasts told
    taker_passes taker (inr (inl (i, (v, (is, (required, (absent, told))))))) = ap fault_lasts told
    taker_passes taker (inr (inr (inl (j, (a, (is, (one, (i, (v, (here, (name, (known, (n, (at, (k, (x, (there, (same, (only, (not, told)))))))))))))))))))) = ap fault_lasts told
    taker_passes taker (inr (inr (inr (j, (a, (is, (one, (i, (v, (here, (name, (known, h)))))))))))) = typed _ a.it.value.place a.it.value.it h

    pub uses_pass : (l : DirectiveLocation) (ds : Directives P) → UsesBreak at s variables l ds fault → Passes
    uses_pass l ds (inl (j, (later, (is, (i, (first, (here, (name, (one, (before, (defined, (at, (repeats, told))))))))))))) = ap fault_lasts told
    uses_pass l ds (inr (i, (u, (is, inl (none, told))))) = ap fault_lasts told
    uses_pass l ds (inr (i, (u, (is, inr (inl (defined, (at, (elsewhere, told)))))))) = ap fault_lasts told
    uses_pass l ds (inr (i, (u, (is, inr (inr (inl h)))))) = given_passes u.it.arguments h
    uses_pass l ds (inr (i, (u, (is, inr (inr (inr (defined, (at, h)))))))) = taker_passes (directive_taker u defined.arguments) h

  -- ---- rules on documents

  module _ (places : Places P) (s : Judged) (d : MeantDocument P) (o : MeantOperation P) where
    variables_pass : LastingVariablesBreak places s d o fault → Passes
    variables_pass (inl (j, (later, (is, (i, (first, (here, (name, (one, (before, told)))))))))) = ap fault_lasts told
    variables_pass (inr (inl (i, (x, (is, (v, (at, h))))))) = unique_in v.it h
    variables_pass (inr (inr (inl (i, (x, (is, (none, told))))))) = ap fault_lasts told
    variables_pass (inr (inr (inr (inl (i, (x, (is, (t, (at, (kind, told)))))))))) = ap fault_lasts told
    variables_pass (inr (inr (inr (inr (inl (i, (x, (is, (known, (v, (at, inl h))))))))))) = typed places.at s [] (wanted_by x.it) v.place v.it h
    variables_pass (inr (inr (inr (inr (inl (i, (x, (is, (known, (v, (at, inr h))))))))))) = undefined_in [] v.place v.it h
    variables_pass (inr (inr (inr (inr (inr (i, (x, (is, h)))))))) = uses_pass places.at s [] location.VariableDefinition x.it.directives h

    selections_pass : LastingSelectionsBreak places s d o fault → Passes
    selections_pass (inl (x, (r, (f, (is, inl h))))) = given_passes places.at s o.variables f.head.arguments h
    selections_pass (inl (x, (r, (f, (is, inr h))))) = taker_passes places.at s o.variables (field_taker places f) h
    selections_pass (inr (inl h)) = uses_pass places.at s o.variables (location_of_operation o.operation_type) o.directives h
    selections_pass (inr (inr (inl (x, (r, h))))) = uses_pass places.at s o.variables (selection_location x.it) (selection_directives x.it) h
    selections_pass (inr (inr (inr (f, (r, h))))) = uses_pass places.at s o.variables location.FragmentDefinition f.directives h

    fragments_pass : LastingFragmentsBreak places s d o fault → Passes
    fragments_pass (inl (inl (f, (r, (not, told))))) = ap fault_lasts told
    fragments_pass (inl (inr (x, (r, (c, (is, (not, told))))))) = ap fault_lasts told
    fragments_pass (inr (x, (r, inl (n, (is, (f, (named, (not, told)))))))) = ap fault_lasts told
    fragments_pass (inr (x, (r, inr (c, (is, (not, told)))))) = ap fault_lasts told

    pub data_passes : LastingDataBreaks places s d o fault → Passes
    data_passes (inl h) = variables_pass h
    data_passes (inr (inl h)) = selections_pass h
    data_passes (inr (inr h)) = fragments_pass h

-- ---- rules on `@defer` and on subscriptions

module _ {P : Type 0} (fault : Broken P) (d : MeantDocument P) (o : MeantOperation P) where
  pub defer_passes : DeferBreaks d o fault → broken_lasts fault ≡ true
  defer_passes (inl (other, (x, (r, (none, (i, (u, (is, told)))))))) = ap broken_lasts told
  defer_passes (inr (subscribes, (x, (r, (i, (u, (is, (not, told)))))))) = ap broken_lasts told

  pub subscription_passes : LastingSubscriptionBreaks d o fault → broken_lasts fault ≡ true
  subscription_passes (subscribes, inl (f, (root, (meta, told)))) = ap broken_lasts told
  subscription_passes (subscribes, inr (x, (r, (i, (u, (is, (among, told))))))) = ap broken_lasts told
