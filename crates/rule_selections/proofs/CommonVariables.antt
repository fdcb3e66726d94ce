-- Where an operation defines variables as others do, what breaks no rule with these breaks none with its own.
use Rattle.std.proofs.Common.{◌≡◌, ◌∙◌, ℕ, Bool, true, false, List, [], ◌∷◌, refl, sym, ap, subst, inl, inr, Option, None, Some, find, slice_get, Contains, bytes_eq, true≢false, is_some}
use Rattle.std.proofs.lemmas.Option.{same_Some}
use Rattle.std.proofs.lemmas.Slice.Eq.{bytes_eq-Decides}
use Rattle.graphql_names.specs.Placed.{Place, Placed, Text}
use Rattle.tree_literals.specs.TypeTree.{TypeTree, NamedTree, NonNullNamedTree, ListTree as ListType, NonNullListTree, unplaced_type}
use Rattle.tree_literals.specs.TypeQueries.{has_mark, inner_name, nullable_type, AreTypesCompatible}
use Rattle.tree_literals.specs.ValueTree.{ValueTree, ItemTrees, EntryTrees, NullTree, EnumTree, VariableTree, StringTree, FloatTree, IntTree, BooleanTree, ListTree, ObjectTree, no_items, item_then, no_entries, entry_then}
use Rattle.tree_literals.specs.ValueQueries.{variable_name}
use Rattle.tree_directives.specs.DirectiveTree.{ArgumentTree, Arguments, Directives, InputValueTree}
use Rattle.tree_directives.specs.declared.directive_location.DirectiveLocation.{DirectiveLocation}
use Rattle.tree_operations.specs.OperationTree.{VariableDefinitionTree}
use Rattle.schema_types.specs.Looks.{TypeLooks}
use Rattle.schema_types.specs.Addresses.{Address, InputAt, TypeReferenceAt}
use Rattle.rule_definitions.specs.Diagnostics.{UndefinedVariable, DisallowedVariableUsage}
use Rattle.rule_definitions.specs.Words.{Present, Lacks}
use Rattle.rule_definitions.specs.Faults.{wrong}
use Rattle.rule_definitions.specs.Judged.{Judged}
use Rattle.rule_definitions.specs.Names.{argument_name, defined_name}
use Rattle.rule_definitions.specs.GivenValues.{Wanted, Variables, wanted_name}
use Rattle.rule_definitions.specs.Values.{wanted_item, FitsForm, UndefinedVariableIn, UndefinedVariableInItems, UndefinedVariableInEntries, FormBreaks, TypeBreaks, TypeBreaksItems, TypeBreaksEntries}
use Rattle.rule_definitions.specs.VariableUsage.{IsVariableUsageAllowed}
use Rattle.rule_definitions.specs.Uses.{Taker, directive_taker, GivenBreaks, TakerBreaks, UsesBreak}
use Rattle.rule_definitions.specs.PlacedFaults.{PlacedFault}
use Rattle.rule_definitions.proofs.Firsts.{lacks_found, lacks_given, first_is_found}
use Rattle.rule_definitions.proofs.Lookups.{find_given}
use Rattle.rule_selections.specs.Settled.{AreAlike, AreDefinedIn}

abbrev Defined : Type 0
Defined = Placed Place (VariableDefinitionTree Place)

-- the first of that name
abbrev first_of : Variables Place → List ℕ → Option Defined
first_of variables n = find (λ x. bytes_eq (defined_name x) n) variables

-- ---- definitions that are alike

same_mark : (t : TypeTree Place) → has_mark (unplaced_type t) ≡ has_mark t
same_mark (NamedTree n) = refl
same_mark (NonNullNamedTree n) = refl
same_mark (ListType t) = refl
same_mark (NonNullListTree t) = refl

same_inner : (t : TypeTree Place) → (inner_name (unplaced_type t)).it ≡ (inner_name t).it
same_inner (NamedTree n) = refl
same_inner (NonNullNamedTree n) = refl
same_inner (ListType t) = same_inner t
same_inner (NonNullListTree t) = same_inner t

module _ (x y : VariableDefinitionTree Place) (alike : AreAlike x y) where
  inner_alike : (inner_name y.ty.it).it ≡ (inner_name x.ty.it).it
  inner_alike = sym (same_inner y.ty.it) ∙ ap (λ (t : TypeTree (Unit {0})). (inner_name t).it) (sym alike.0) ∙ same_inner x.ty.it

  mark_alike : has_mark y.ty.it ≡ has_mark x.ty.it
  mark_alike = sym (same_mark y.ty.it) ∙ ap (λ (t : TypeTree (Unit {0})). has_mark t) (sym alike.0) ∙ same_mark x.ty.it

  allowed_alike : (v : InputValueTree (Unit {0})) → IsVariableUsageAllowed x v → IsVariableUsageAllowed y v
  allowed_alike v (inl h) = inl (subst (λ (t : TypeTree (Unit {0})). AreTypesCompatible t v.ty.it) alike.0 h)
  allowed_alike v (inr ((bare, marked), (default, h))) = inr (
    (mark_alike ∙ bare, marked),
    (
      elim default [ inl e ↦ inl (sym alike.1 ∙ e) | inr e ↦ inr e ],
      subst (λ (t : TypeTree (Unit {0})). AreTypesCompatible t (nullable_type v.ty.it)) alike.0 h,
    ),
  )

-- a value that is a variable
is_variable : (v : ValueTree Place) (n : Text Place) → variable_name v ≡ Some n → v ≡ VariableTree n
is_variable (VariableTree x) n is = ap VariableTree (same_Some x n is)
is_variable NullTree n is = absurd (true≢false (sym (ap is_some is)))
is_variable (EnumTree x) n is = absurd (true≢false (sym (ap is_some is)))
is_variable (StringTree x) n is = absurd (true≢false (sym (ap is_some is)))
is_variable (FloatTree x) n is = absurd (true≢false (sym (ap is_some is)))
is_variable (IntTree x) n is = absurd (true≢false (sym (ap is_some is)))
is_variable (BooleanTree b) n is = absurd (true≢false (sym (ap is_some is)))
is_variable (ListTree ts) n is = absurd (true≢false (sym (ap is_some is)))
is_variable (ObjectTree es) n is = absurd (true≢false (sym (ap is_some is)))

module _ (common variables : Variables Place) (defined : AreDefinedIn common variables) where
  found_again : (n : List ℕ) (x : Defined) → first_of common n ≡ Some x → Present (first_of variables n) (λ y. AreAlike x.it y.it)
  found_again n x is =
      let given = find_given (λ x. bytes_eq (defined_name x) n) common x is in
      subst (λ m. Present (first_of variables m) (λ y. AreAlike x.it y.it)) ((bytes_eq-Decides (defined_name x) n).0 given.1) (defined x given.0)

  lacks_again : (n : List ℕ) → Lacks defined_name variables n → Lacks defined_name common n
  lacks_again n lacks = by (first_of common n) refl
    where
      by : (o : Option Defined) → first_of common n ≡ o → Lacks defined_name common n
      by None is = lacks_found defined_name common n is
      by (Some x) is = let y = found_again n x is in absurd (true≢false (sym (ap is_some (sym (lacks_given defined_name variables n lacks) ∙ y.1.0))))

  -- ---- values

  module _ (f : PlacedFault) where
    mutual
      undefined : (p : Place) (v : ValueTree Place) → UndefinedVariableIn variables p v f → UndefinedVariableIn common p v f
      undefined p NullTree h = h
      undefined p (EnumTree x) h = h
      undefined p (VariableTree x) h = (lacks_again x.it h.0, h.1)
      undefined p (StringTree x) h = h
      undefined p (FloatTree x) h = h
      undefined p (IntTree x) h = h
      undefined p (BooleanTree b) h = h
      undefined p (ListTree ts) h = undefined_items ts h
      undefined p (ObjectTree es) h = undefined_entries es h

      undefined_items : (ts : ItemTrees Place) → UndefinedVariableInItems variables ts f → UndefinedVariableInItems common ts f
      undefined_items no_items h = h
      undefined_items (item_then p v ts) (inl h) = inl (undefined p v h)
      undefined_items (item_then p v ts) (inr h) = inr (undefined_items ts h)

      undefined_entries : (es : EntryTrees Place) → UndefinedVariableInEntries variables es f → UndefinedVariableInEntries common es f
      undefined_entries no_entries h = h
      undefined_entries (entry_then k p v es) (inl h) = inl (undefined p v h)
      undefined_entries (entry_then k p v es) (inr h) = inr (undefined_entries es h)

  -- each variable that the value names is there
  abbrev NamesKnown : Place → ValueTree Place → Type 0
  NamesKnown p v = (f : PlacedFault) → UndefinedVariableIn common p v f → ⊥

  -- so the first of its name is, in both
  known : (p : Place) (x : Text Place) → NamesKnown p (VariableTree x) → Present (first_of common x.it) (λ d. Present (first_of variables x.it) (λ y. AreAlike d.it y.it))
  known p x names = by (first_of common x.it) refl
    where
      by : (o : Option Defined) → first_of common x.it ≡ o → Present (first_of common x.it) (λ d. Present (first_of variables x.it) (λ y. AreAlike d.it y.it))
      by None is = absurd (names (wrong p (UndefinedVariable x.it)) (lacks_found defined_name common x.it is, refl))
      by (Some d) is = (d, (is, found_again x.it d is))

  fits : (s : Judged) (ty : Wanted Place) (t : TypeLooks) (p : Place) (x : Text Place) → NamesKnown p (VariableTree x) → FitsForm s common ty t (VariableTree x) → FitsForm s variables ty t (VariableTree x)
  fits s ty t p x names fit y is =
      let (d, (here, (z, (there, alike)))) = known p x names in
      let same : z ≡ y = same_Some z y (sym there ∙ is) in
      ap (λ (w : Defined). (inner_name w.it.ty.it).it) (sym same) ∙ inner_alike d.it z.it alike ∙ fit d here

  module _ (at : Address → Place) (s : Judged) (f : PlacedFault) where
    mutual
      type_breaks : (ty : Wanted Place) (p : Place) (v : ValueTree Place) → NamesKnown p v → TypeBreaks at s variables ty p v f → TypeBreaks at s common ty p v f
      type_breaks ty p NullTree names h = h
      type_breaks ty p (EnumTree x) names h = h
      type_breaks ty p (VariableTree x) names (inl (t, (is, (unfit, told)))) = inl (t, (is, ((λ fit. unfit (fits s ty t p x names fit)), told)))
      type_breaks ty p (VariableTree x) names (inr h) = inr h
      type_breaks ty p (StringTree x) names h = h
      type_breaks ty p (FloatTree x) names h = h
      type_breaks ty p (IntTree x) names h = h
      type_breaks ty p (BooleanTree b) names h = h
      type_breaks ty p (ListTree ts) names (inl h) = inl h
      type_breaks ty p (ListTree ts) names (inr h) = inr (h.0, type_breaks_items (wanted_item ty) ts names h.1)
      type_breaks ty p (ObjectTree es) names (inl h) = inl h
      type_breaks ty p (ObjectTree es) names (inr h) = inr (h.0, (h.1.0, (h.1.1.0, type_breaks_entries (wanted_name ty) h.0 [] es names h.1.1.1)))

      type_breaks_items : (ty : Wanted Place) (ts : ItemTrees Place) → ((g : PlacedFault) → UndefinedVariableInItems common ts g → ⊥) → TypeBreaksItems at s variables ty ts f → TypeBreaksItems at s common ty ts f
      type_breaks_items ty no_items names h = h
      type_breaks_items ty (item_then p v ts) names (inl h) = inl (type_breaks ty p v (λ g u. names g (inl u)) h)
      type_breaks_items ty (item_then p v ts) names (inr h) = inr (type_breaks_items ty ts (λ g u. names g (inr u)) h)

      type_breaks_entries : (n : List ℕ) (t : TypeLooks) (before : List (List ℕ)) (es : EntryTrees Place) → ((g : PlacedFault) → UndefinedVariableInEntries common es g → ⊥)
          → TypeBreaksEntries at s variables n t before es f → TypeBreaksEntries at s common n t before es f
      type_breaks_entries n t before no_entries names h = h
      type_breaks_entries n t before (entry_then k p v es) names (inl h) =
          inl (h.0, (h.1.0, (h.1.1.0, type_breaks (record { it = h.1.0.ty.it; place = at (TypeReferenceAt (InputAt n k.it)) }) p v (λ g u. names g (inl u)) h.1.1.1)))
      type_breaks_entries n t before (entry_then k p v es) names (inr h) = inr (type_breaks_entries n t (k.it ∷ before) es (λ g u. names g (inr u)) h)

  -- ---- arguments and directives

  -- each variable that is given is there
  abbrev GivesKnown : Arguments Place → Type 0
  GivesKnown given = (i : ℕ) (a : Placed Place (ArgumentTree Place)) → slice_get given i ≡ Some a → NamesKnown a.it.value.place a.it.value.it

  module _ (at : Address → Place) (s : Judged) where
    -- what is given breaks no rule
    abbrev pub AreGivenWell : Arguments Place → Type 0
    AreGivenWell given = (f : PlacedFault) → GivenBreaks at s common given f → ⊥

    pub gives_known : (given : Arguments Place) → AreGivenWell given → GivesKnown given
    gives_known given well i a is f u = well f (inr (i, (a, (is, inr u))))

    pub given_well : (given : Arguments Place) → AreGivenWell given → (f : PlacedFault) → GivenBreaks at s variables given f → ⊥
    given_well given well f (inl h) = well f (inl h)
    given_well given well f (inr (i, (a, (is, inl h)))) = well f (inr (i, (a, (is, inl h))))
    given_well given well f (inr (i, (a, (is, inr h)))) = well f (inr (i, (a, (is, inr (undefined f a.it.value.place a.it.value.it h)))))

    pub taken_well : (taker : Taker Place) → GivesKnown taker.given → ((f : PlacedFault) → TakerBreaks at s common taker f → ⊥) → (f : PlacedFault) → TakerBreaks at s variables taker f → ⊥
    taken_well taker gives well f (inl h) = well f (inl h)
    taken_well taker gives well f (inr (inl h)) = well f (inr (inl h))
    taken_well taker gives well f (inr (inr (inl (j, (a, (is, (first, (i, (v, (at', (same, (once, (n, (variable, (k, (y, (stands, (named, (before, (denied, told)))))))))))))))))))) =
        let names = subst (NamesKnown a.it.value.place) (is_variable a.it.value.it n variable) (gives j a is) in
        let (d, (here, (z, (there, alike)))) = known a.it.value.place n names in
        let found = (first_is_found defined_name variables n.it (λ i w. w ≡ y) (λ w. w ≡ y) (λ i w h. (λ e. e, λ e. e))).0 (k, (y, (stands, (named, (before, refl))))) in
        let one : z ≡ y = same_Some z found.0 (sym there ∙ found.1.0) ∙ found.1.1 in
        let denies : IsVariableUsageAllowed d.it v.it → ⊥ = λ h. denied (subst (λ (w : Defined). IsVariableUsageAllowed w.it v.it) one (allowed_alike d.it z.it alike v.it h)) in
        let tells = λ (w : Defined). wrong {P = Place} {E = List Place} a.place (DisallowedVariableUsage n.it (unplaced_type w.it.ty.it) w.place (argument_name a) v.it.ty.it a.place) in
        let Denied = λ (w : Defined). (IsVariableUsageAllowed w.it v.it → ⊥) × (tells d ≡ tells w) in
        let broken = (first_is_found defined_name common n.it (λ i w. Denied w) Denied (λ i w h. (λ e. e, λ e. e))).1 (d, (here, (denies, refl))) in
        well (tells d) (inr (inr (inl (j, (a, (is, (first, (i, (v, (at', (same, (once, (n, (variable, broken))))))))))))))
    taken_well taker gives well f (inr (inr (inr (j, (a, (is, (first, (i, (v, (at', (same, (once, h)))))))))))) =
        well f (inr (inr (inr (j, (a, (is, (first, (i, (v, (at', (same, (once, type_breaks at s f _ a.it.value.place a.it.value.it (gives j a is) h))))))))))))

    -- the directives at one place break no rule
    abbrev pub AreUsedWell : DirectiveLocation → Directives Place → Type 0
    AreUsedWell l ds = (f : PlacedFault) → UsesBreak at s common l ds f → ⊥

    pub used_well : (l : DirectiveLocation) (ds : Directives Place) → AreUsedWell l ds → (f : PlacedFault) → UsesBreak at s variables l ds f → ⊥
    used_well l ds well f (inl h) = well f (inl h)
    used_well l ds well f (inr (i, (d, (is, inl h)))) = well f (inr (i, (d, (is, inl h))))
    used_well l ds well f (inr (i, (d, (is, inr (inl h))))) = well f (inr (i, (d, (is, inr (inl h)))))
    used_well l ds well f (inr (i, (d, (is, inr (inr (inl h)))))) = given_well d.it.arguments (λ g u. well g (inr (i, (d, (is, inr (inr (inl u))))))) f h
    used_well l ds well f (inr (i, (d, (is, inr (inr (inr (takes, (there, h)))))))) =
        taken_well (directive_taker d takes.arguments) (gives_known d.it.arguments (λ g u. well g (inr (i, (d, (is, inr (inr (inl u))))))))
        (λ g u. well g (inr (i, (d, (is, inr (inr (inr (takes, (there, u))))))))) f h
