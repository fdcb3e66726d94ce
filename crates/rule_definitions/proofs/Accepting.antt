-- A type accepts a value exactly when no rule on values fails.
use Rattle.std.proofs.Common.{◌≡◌, ◌↔◌, ℕ, zero, suc, ℤ, pos, negsuc, ◌<◌, ◌^◌, Bool, true, false, not, ◌&&◌, ◌||◌, List, [], ◌∷◌, codes, find, bytes_eq, slice_get, is_some, Option, None, Some, refl, sym, ap, subst, ◌∙◌, inl, inr, ◌⊎◌, FitsSigned, if◌then◌else◌, true≢false, w32, arith}
use Rattle.std.specs.Bool.{Decides}
use Rattle.std.proofs.lemmas.Bool.Decides.{Decides-ltb}
use Rattle.std.proofs.lemmas.Option.{same_Some}
use Rattle.std.proofs.lemmas.Slice.Eq.{bytes_eq-Decides}
use Rattle.graphql_names.specs.Placed.{Placed, Text}
use Rattle.tree_literals.specs.NumberSyntax.{integer_value}
use Rattle.tree_literals.specs.TypeTree.{TypeTree, NamedTree, NonNullNamedTree, ListTree as ListTypeTree, NonNullListTree}
use Rattle.tree_literals.specs.TypeQueries.{has_mark, is_list_type, item_type_of, inner_name}
use Rattle.tree_literals.specs.ValueTree.{ValueTree, ItemTrees, EntryTrees, NullTree, EnumTree, VariableTree, StringTree, FloatTree, IntTree, BooleanTree, ListTree, ObjectTree, no_items, item_then, no_entries, entry_then, unplaced_value}
use Rattle.tree_literals.specs.ValueQueries.{enum_name, integer_text, object_entries}
use Rattle.tree_directives.specs.DirectiveTree.{InputValueTree}
use Rattle.schema_types.specs.in_operations.OperationTree.{VariableDefinitionTree}
use Rattle.schema_coordinates.specs.Coordinate.{OfAttribute}
use Rattle.schema_types.specs.SchemaTree.{same_kind}
use Rattle.schema_types.specs.Looks.{TypeLooks}
use Rattle.schema_types.specs.Addresses.{Address, TypeAt, InputAt, TypeReferenceAt}
use Rattle.schema_types.specs.declared.type_kind.TypeKind.{TypeKind}
use Rattle.schema_types.specs.declared.type_kind.TypeKind.TheVariants.{Scalar, Object, Interface, Union, Enum, InputObject}
use Rattle.schema_types.proofs.in_operations.Decided.{through, pair_decides}
use Rattle.schema_types.specs.in_components.Lists.{is_among}
use Rattle.rule_cycle_search.proofs.Lists.{Contains-cons, index_found, Contains-first}
use Rattle.rule_definitions.specs.Diagnostics.{UnsupportedValueType, IntCoercionError, UndefinedVariable, UndefinedEnumValue, UndefinedInputValue, RequiredField}
use Rattle.rule_definitions.specs.Words.{Present, IfPresent, Lacks}
use Rattle.rule_definitions.specs.GivenValues.{entry_list, Wanted, Variables, entry_named, is_absent_or_null, IsScalarAmong}
use Rattle.rule_definitions.specs.Faults.{FaultAt, wrong}
use Rattle.rule_definitions.specs.Judged.{Judged, IsBuiltInScalar, IsCustomScalar}
use Rattle.rule_definitions.specs.Names.{named_in, defined_name}
use Rattle.rule_definitions.specs.Values.{FitsForm, FormBreaks, TypeBreaks, TypeBreaksItems, TypeBreaksEntries, UndefinedVariableIn, UndefinedVariableInItems, UndefinedVariableInEntries, ValueBreaks}
use Rattle.rule_definitions.specs.Accepts.{HasRequired, variable_named, IsDefined, AreItemsDefined, AreEntriesDefined, Takes, TakesItems, TakesEntries, Accepts}
use Rattle.rule_definitions.proofs.Lookups.{find_given, text_found, text_given}

-- ---- facts that hold where they cannot fail

abbrev Stable : Type 0 → Type 0
Stable P = ((P → ⊥) → ⊥) → P

of_test : (b : Bool) {P : Type 0} → Decides b P → Stable P
of_test true d h = d.0 refl
of_test false d h = absurd (h (λ p. true≢false (sym (d.1 p))))

is_true : (b : Bool) → (b ≡ false → ⊥) → b ≡ true
is_true true h = refl
is_true false h = absurd (h refl)

is_false : (b : Bool) → (b ≡ true → ⊥) → b ≡ false
is_false true h = absurd (h refl)
is_false false h = refl

is_there : {X : Type 0} (o : Option X) → (o ≡ None → ⊥) → is_some o ≡ true
is_there None h = absurd (h refl)
is_there (Some x) h = refl

not_none : {X : Type 0} (o : Option X) → is_some o ≡ true → o ≡ None → ⊥
not_none o h e = true≢false (sym h ∙ ap is_some e)

either_decides : (a b : Bool) {P Q : Type 0} → Decides a P → Decides b Q → Decides (a || b) (P ⊎ Q)
either_decides true b d e = (λ h. inl (d.0 refl), λ r. refl)
either_decides false b {P} {Q} d e = (λ h. inr (e.0 h), by)
  where
    by : P ⊎ Q → b ≡ true
    by (inl p) = absurd (true≢false (sym (d.1 p)))
    by (inr q) = e.1 q

is_decides : (b : Bool) → Decides b (b ≡ true)
is_decides b = (λ h. h, λ r. r)

is_not_decides : (b : Bool) → Decides (not b) (b ≡ false)
is_not_decides true = (λ h. absurd (true≢false (sym h)), λ r. absurd (true≢false r))
is_not_decides false = (λ h. refl, λ r. refl)

kinds_same : (a b : TypeKind) → same_kind a b ≡ true → a ≡ b
kinds_same Scalar Scalar h = refl
kinds_same Object Object h = refl
kinds_same Interface Interface h = refl
kinds_same Union Union h = refl
kinds_same Enum Enum h = refl
kinds_same InputObject InputObject h = refl
kinds_same _ _ h = cc

same_itself : (a : TypeKind) → same_kind a a ≡ true
same_itself Scalar = refl
same_itself Object = refl
same_itself Interface = refl
same_itself Union = refl
same_itself Enum = refl
same_itself InputObject = refl

kind_decides : (a b : TypeKind) → Decides (same_kind a b) (a ≡ b)
kind_decides a b = (kinds_same a b, λ e. ap (same_kind a) (sym e) ∙ same_itself a)

fits_stable : (z : ℤ) → Stable (FitsSigned w32 z)
fits_stable (pos n) = of_test _ (through (Decides-ltb n (2 ^ 31)) (λ h. record { sfits = h }) (λ r. r.sfits))
fits_stable (negsuc n) = of_test _ (through (Decides-ltb n (2 ^ 31)) (λ h. record { sfits = h }) (λ r. r.sfits))

-- ---- types

inner_item : (ty : TypeTree (Unit {0})) → named_in (item_type_of ty) ≡ named_in ty
inner_item (NamedTree n) = refl
inner_item (NonNullNamedTree n) = refl
inner_item (ListTypeTree t) = refl
inner_item (NonNullListTree t) = refl

module _ (s : Judged) (n : List ℕ) (t : TypeLooks) where
  built_in_decides : Decides (same_kind t.kind Scalar && s.built_in (TypeAt n)) (IsBuiltInScalar s n t)
  built_in_decides = pair_decides _ _ (kind_decides t.kind Scalar) (is_decides (s.built_in (TypeAt n)))

  custom_decides : Decides (same_kind t.kind Scalar && not (s.built_in (TypeAt n))) (IsCustomScalar s n t)
  custom_decides = pair_decides _ _ (kind_decides t.kind Scalar) (is_not_decides (s.built_in (TypeAt n)))

  among_stable : (names : List (List ℕ)) → Stable (IsScalarAmong s names n t)
  among_stable names = of_test _ (either_decides _ _ custom_decides (pair_decides _ _ built_in_decides (text_given names n, text_found names n)))

  or_custom_stable : (b : Bool) {P : Type 0} → Decides b P → Stable (P ⊎ IsCustomScalar s n t)
  or_custom_stable b d = of_test _ (either_decides _ _ d custom_decides)

  not_both : {A : Type 0} → IsBuiltInScalar s n t → IsCustomScalar s n t → A
  not_both b c = absurd (true≢false (sym b.1 ∙ c.1))

-- a name that is none of these
differ : (a b n : List ℕ) → bytes_eq a b ≡ false → n ≡ a → b ≡ n → ⊥
differ a b n other e f = true≢false (sym ((bytes_eq-Decides a b).1 (sym (f ∙ e))) ∙ other)

-- a kind is one
scalar_only : {A : Type 0} (k j : TypeKind) → same_kind Scalar j ≡ false → k ≡ Scalar → k ≡ j → A
scalar_only k j other e f = absurd (true≢false (sym ((kind_decides Scalar j).1 (sym e ∙ f)) ∙ other))

some_of : {X : Type 0} (o : Option X) → is_some o ≡ true → (x : X) × (o ≡ Some x)
some_of None h = absurd (true≢false (sym h))
some_of (Some x) h = (x, refl)

-- ---- variables

module _ {P : Type 0} (variables : Variables P) where
  no_find : (xs : Variables P) (n : List ℕ) → find (λ d. bytes_eq (defined_name d) n) xs ≡ None → (i : ℕ) (x : Placed P (VariableDefinitionTree P)) → slice_get xs i ≡ Some x → defined_name x ≡ n → ⊥
  no_find [] n none i x h is = cc
  no_find (y ∷ ys) n none i x h is = by (bytes_eq (defined_name y) n) refl none (λ e k l. no_find ys n e k x l is) i h
    where
      by : (b : Bool) → bytes_eq (defined_name y) n ≡ b → (if b then Some y else find (λ d. bytes_eq (defined_name d) n) ys) ≡ None
          → (find (λ d. bytes_eq (defined_name d) n) ys ≡ None → (k : ℕ) → slice_get ys k ≡ Some x → ⊥) → (i : ℕ) → slice_get (y ∷ ys) i ≡ Some x → ⊥
      by true t e rest i h = cc
      by false t e rest zero h = true≢false (sym ((bytes_eq-Decides (defined_name y) n).1 (ap defined_name (same_Some y x h) ∙ is)) ∙ t)
      by false t e rest (suc i) h = rest e i h

  lacks_none : (n : List ℕ) → Lacks defined_name variables n → variable_named variables n ≡ None
  lacks_none n lacks = by (variable_named variables n) refl
    where
      by : (o : Option (Placed P (VariableDefinitionTree P))) → variable_named variables n ≡ o → o ≡ None
      by None e = refl
      by (Some x) e =
          let r = find_given (λ d. bytes_eq (defined_name d) n) variables x e in
          let i = index_found variables x r.0 in
          absurd (lacks (i.0, (x, (i.1, (bytes_eq-Decides (defined_name x) n).0 r.1))))

  module _ {E : Type 0} where
    mutual
      defined_quiet : (p : P) (v : ValueTree P) → IsDefined variables v → (fault : FaultAt P E) → UndefinedVariableIn variables p v fault → ⊥
      defined_quiet p (VariableTree n) h fault b = not_none (variable_named variables n.it) h (lacks_none n.it b.0)
      defined_quiet p (ListTree ts) h fault b = items_defined_quiet ts h fault b
      defined_quiet p (ObjectTree es) h fault b = entries_defined_quiet es h fault b
      defined_quiet p NullTree h fault b = b
      defined_quiet p (EnumTree n) h fault b = b
      defined_quiet p (StringTree x) h fault b = b
      defined_quiet p (FloatTree x) h fault b = b
      defined_quiet p (IntTree x) h fault b = b
      defined_quiet p (BooleanTree x) h fault b = b

      items_defined_quiet : (ts : ItemTrees P) → AreItemsDefined variables ts → (fault : FaultAt P E) → UndefinedVariableInItems variables ts fault → ⊥
      items_defined_quiet no_items h fault b = b
      items_defined_quiet (item_then p v ts) h fault (inl b) = defined_quiet p v h.0 fault b
      items_defined_quiet (item_then p v ts) h fault (inr b) = items_defined_quiet ts h.1 fault b

      entries_defined_quiet : (es : EntryTrees P) → AreEntriesDefined variables es → (fault : FaultAt P E) → UndefinedVariableInEntries variables es fault → ⊥
      entries_defined_quiet no_entries h fault b = b
      entries_defined_quiet (entry_then n p v es) h fault (inl b) = defined_quiet p v h.0 fault b
      entries_defined_quiet (entry_then n p v es) h fault (inr b) = entries_defined_quiet es h.1 fault b

    mutual
      quiet_defined : (p : P) (v : ValueTree P) → ((fault : FaultAt P E) → UndefinedVariableIn variables p v fault → ⊥) → IsDefined variables v
      quiet_defined p (VariableTree n) q = is_there (variable_named variables n.it) (λ none. q (wrong p (UndefinedVariable n.it)) ((λ r. no_find variables n.it none r.0 r.1.0 r.1.1.0 r.1.1.1), refl))
      quiet_defined p (ListTree ts) q = quiet_items_defined ts q
      quiet_defined p (ObjectTree es) q = quiet_entries_defined es q
      quiet_defined p NullTree q = tt
      quiet_defined p (EnumTree n) q = tt
      quiet_defined p (StringTree x) q = tt
      quiet_defined p (FloatTree x) q = tt
      quiet_defined p (IntTree x) q = tt
      quiet_defined p (BooleanTree x) q = tt

      quiet_items_defined : (ts : ItemTrees P) → ((fault : FaultAt P E) → UndefinedVariableInItems variables ts fault → ⊥) → AreItemsDefined variables ts
      quiet_items_defined no_items q = tt
      quiet_items_defined (item_then p v ts) q = (quiet_defined p v (λ fault b. q fault (inl b)), quiet_items_defined ts (λ fault b. q fault (inr b)))

      quiet_entries_defined : (es : EntryTrees P) → ((fault : FaultAt P E) → UndefinedVariableInEntries variables es fault → ⊥) → AreEntriesDefined variables es
      quiet_entries_defined no_entries q = tt
      quiet_entries_defined (entry_then n p v es) q = (quiet_defined p v (λ fault b. q fault (inl b)), quiet_entries_defined es (λ fault b. q fault (inr b)))

-- ---- one value

module _ {P : Type 0} (E : Type 0) (at : Address → P) (s : Judged) (variables : Variables P) where
  -- a type as it is asked for, at some place
  abbrev wanted_at : TypeTree (Unit {0}) → P → Wanted P
  wanted_at ty w = record { it = ty; place = w }

  -- none of these faults exists
  abbrev IsQuiet : (FaultAt P E → Type 0) → Type 0
  IsQuiet Breaks = (fault : FaultAt P E) → Breaks fault → ⊥

  module _ (ty : TypeTree (Unit {0})) (w p : P) (t : TypeLooks) (has : s.type_named (named_in ty) ≡ Some t) (v : ValueTree P) where
    -- what the rules on its form say of a value
    record IsFormKept : Type 0 where
      fits : FitsForm s variables (wanted_at ty w) t v
      integer : IsBuiltInScalar s (named_in ty) t → named_in ty ≡ codes "Int" → (digits : List ℕ) → integer_text v ≡ Some digits → FitsSigned w32 (integer_value digits)
      enum : t.kind ≡ Enum → (e : Text P) → enum_name v ≡ Some e → is_some (t.value e.it) ≡ true
      keys : t.kind ≡ InputObject → (es : EntryTrees P) → object_entries v ≡ Some es → (i : ℕ) (e : Text P × Placed P (ValueTree P)) → slice_get (entry_list es) i ≡ Some e → is_some (t.input e.0.it) ≡ true
      required : t.kind ≡ InputObject → (es : EntryTrees P) → object_entries v ≡ Some es → HasRequired t es

    -- the type that is there is t
    at_it : {A : TypeLooks → Type 0} → Present (s.type_named (named_in ty)) A → A t
    at_it {A} (u, (is, a)) = subst A (same_Some u t (sym is ∙ has)) a

    form_quiet : IsFormKept → IsQuiet (FormBreaks at s variables (wanted_at ty w) p v)
    form_quiet k fault (inl b) = (at_it b).0 k.fits
    form_quiet k fault (inr (inl b)) = let r = at_it b in r.1.1.1.1.0 (k.integer r.0 r.1.0 r.1.1.0 r.1.1.1.0)
    form_quiet k fault (inr (inr (inl b))) = let r = at_it b in not_none (t.value r.1.0.it) (k.enum r.0 r.1.0 r.1.1.0) r.1.1.1.0
    form_quiet k fault (inr (inr (inr (inl b)))) =
        let r = at_it b in
        let e = r.1.1.1.1.0 in
        not_none (t.input e.0.it) (k.keys r.0 r.1.0 r.1.1.0 r.1.1.1.0 e r.1.1.1.1.1.0) r.1.1.1.1.1.1.0
    form_quiet k fault (inr (inr (inr (inr b)))) =
        let r = at_it b in
        let m = r.1.1.1.0 in
        let f = r.1.1.1.1.0 in
        true≢false (sym r.1.1.1.1.1.1.1.0 ∙ k.required r.0 r.1.0 r.1.1.0 m f r.1.1.1.1.1.0 r.1.1.1.1.1.1.0)

    fits_form_stable : Stable (FitsForm s variables (wanted_at ty w) t v)
    fits_form_stable = by v
      where
        by : (v : ValueTree P) → Stable (FitsForm s variables (wanted_at ty w) t v)
        by NullTree = of_test _ (is_not_decides (has_mark ty))
        by (VariableTree n) = λ h x e. of_test _ (bytes_eq-Decides (inner_name x.it.ty.it).it (named_in ty)) (λ no. h (λ f. no (f x e)))
        by (IntTree digits) = among_stable s (named_in ty) t (codes "Int" ∷ codes "Float" ∷ codes "ID" ∷ [])
        by (FloatTree digits) = among_stable s (named_in ty) t (codes "Float" ∷ [])
        by (StringTree text) = among_stable s (named_in ty) t (codes "String" ∷ codes "ID" ∷ [])
        by (BooleanTree b) = among_stable s (named_in ty) t (codes "Boolean" ∷ [])
        by (EnumTree n) = or_custom_stable s (named_in ty) t _ (kind_decides t.kind Enum)
        by (ListTree items) = or_custom_stable s (named_in ty) t _ (is_decides (is_list_type ty))
        by (ObjectTree es) = or_custom_stable s (named_in ty) t _ (kind_decides t.kind InputObject)

    module _ (q : IsQuiet (FormBreaks at s variables (wanted_at ty w) p v)) where
      -- no key is the first without a field, so none is without one
      keys_below : t.kind ≡ InputObject → (es : EntryTrees P) → object_entries v ≡ Some es
          → (n i : ℕ) (e : Text P × Placed P (ValueTree P)) → i < n → slice_get (entry_list es) i ≡ Some e → t.input e.0.it ≡ None → ⊥
      keys_below k es is zero i e below here none = absurd (omega (arith, below))
      keys_below k es is (suc n) i e below here none =
          q (wrong e.1.place (UndefinedInputValue e.0.it (named_in ty) (at (TypeAt (named_in ty)))))
          (inr (inr (inr (inl (t, (has, (k, (es, (is, (i, (e, (here, (none, ((λ r. keys_below k es is n r.0 r.1.0 (omega (arith, below, r.1.1.1.0)) r.1.1.0 r.1.1.1.1), refl))))))))))))))

      quiet_form : IsFormKept
      quiet_form = record {
        fits = fits_form_stable (λ no. q (wrong p (UnsupportedValueType (unplaced_value v) ty w)) (inl (t, (has, (no, refl)))));
        integer = λ b is digits e. fits_stable (integer_value digits) (λ no. q (wrong p (IntCoercionError digits)) (inr (inl (t, (has, (b, (is, (digits, (e, (no, refl))))))))));
        enum = λ k e is. is_there (t.value e.it) (λ none. q (wrong p (UndefinedEnumValue e.it (named_in ty) (at (TypeAt (named_in ty))))) (inr (inr (inl (t, (has, (k, (e, (is, (none, refl))))))))));
        keys = λ k es is i e here. is_there (t.input e.0.it) (keys_below k es is (suc i) i e (omega arith) here);
        required = λ k es is m f there needed. is_false (is_absent_or_null (entry_named m es)) (λ missing.
            q (wrong p (RequiredField m (OfAttribute (named_in ty) m) f.ty.it (at (InputAt (named_in ty) m)))) (inr (inr (inr (inr (t, (has, (k, (es, (is, (m, (f, (there, (needed, (missing, refl)))))))))))))));
      }

  -- ---- a whole value

  -- the keys have fields
  keys_taken : (t : TypeLooks) (before : List (List ℕ)) (es : EntryTrees P) → TakesEntries s variables t before es → (i : ℕ) (e : Text P × Placed P (ValueTree P)) → slice_get (entry_list es) i ≡ Some e → is_some (t.input e.0.it) ≡ true
  keys_taken t before no_entries h i e here = cc
  keys_taken t before (entry_then k p v es) h zero e here = subst (λ (x : Text P × Placed P (ValueTree P)). is_some (t.input x.0.it) ≡ true) (same_Some (k, record { it = v; place = p }) e here) (ap is_some h.0.1.0)
  keys_taken t before (entry_then k p v es) h (suc i) e here = keys_taken t (k.it ∷ before) es h.1 i e here

  -- integers
  more_names : (ty : TypeTree (Unit {0})) (t : TypeLooks) (digits : List ℕ) → Takes s variables ty t (IntTree digits) → IsScalarAmong s (codes "Int" ∷ codes "Float" ∷ codes "ID" ∷ []) (named_in ty) t
  more_names ty t digits (inl (inl c)) = inl c
  more_names ty t digits (inl (inr (b, m))) = inr (b, text_given (codes "Int" ∷ codes "Float" ∷ codes "ID" ∷ []) (named_in ty) (or_later (bytes_eq (named_in ty) (codes "Int")) (text_found (codes "Float" ∷ codes "ID" ∷ []) (named_in ty) m)))
    where
      or_later : (a : Bool) {b : Bool} → b ≡ true → (a || b) ≡ true
      or_later true e = refl
      or_later false e = e
  more_names ty t digits (inr (b, (is, fits))) = inr (b, Contains-first (codes "Int") (codes "Float" ∷ codes "ID" ∷ []) (named_in ty) (sym is))

  int_fits : (ty : TypeTree (Unit {0})) (t : TypeLooks) (digits : List ℕ) → Takes s variables ty t (IntTree digits) → IsBuiltInScalar s (named_in ty) t → named_in ty ≡ codes "Int" → FitsSigned w32 (integer_value digits)
  int_fits ty t digits (inl (inl c)) b is = not_both s (named_in ty) t b c
  int_fits ty t digits (inl (inr (_, m))) b is = absurd (true≢false (sym (text_found (codes "Float" ∷ codes "ID" ∷ []) (named_in ty) m) ∙ ap (λ n. is_among n (codes "Float" ∷ codes "ID" ∷ [])) is))
  int_fits ty t digits (inr (_, (_, fits))) b is = fits

  int_taken : (ty : TypeTree (Unit {0})) (t : TypeLooks) (digits : List ℕ) → IsScalarAmong s (codes "Int" ∷ codes "Float" ∷ codes "ID" ∷ []) (named_in ty) t → (IsBuiltInScalar s (named_in ty) t → named_in ty ≡ codes "Int" → FitsSigned w32 (integer_value digits)) → Takes s variables ty t (IntTree digits)
  int_taken ty t digits (inl c) fits = inl (inl c)
  int_taken ty t digits (inr (b, m)) fits = elim (Contains-cons (codes "Int") (codes "Float" ∷ codes "ID" ∷ []) (named_in ty) m) [
    | inl e ↦ inr (b, (sym e, fits b (sym e)))
    | inr r ↦ inl (inr (b, r))
  ]

  -- where a rule on values fails, the type is there
  form_there : (ty : TypeTree (Unit {0})) (w p : P) (v : ValueTree P) (fault : FaultAt P E) → FormBreaks at s variables (wanted_at ty w) p v fault → (u : TypeLooks) × (s.type_named (named_in ty) ≡ Some u)
  form_there ty w p v fault (inl b) = (b.0, b.1.0)
  form_there ty w p v fault (inr (inl b)) = (b.0, b.1.0)
  form_there ty w p v fault (inr (inr (inl b))) = (b.0, b.1.0)
  form_there ty w p v fault (inr (inr (inr (inl b)))) = (b.0, b.1.0)
  form_there ty w p v fault (inr (inr (inr (inr b)))) = (b.0, b.1.0)

  type_there : (ty : TypeTree (Unit {0})) (w p : P) (v : ValueTree P) (fault : FaultAt P E) → TypeBreaks at s variables (wanted_at ty w) p v fault → (u : TypeLooks) × (s.type_named (named_in ty) ≡ Some u)
  type_there ty w p (ListTree ts) fault (inl b) = form_there ty w p (ListTree ts) fault b
  type_there ty w p (ListTree ts) fault (inr (b, _)) = (b.0, b.1.0)
  type_there ty w p (ObjectTree es) fault (inl b) = form_there ty w p (ObjectTree es) fault b
  type_there ty w p (ObjectTree es) fault (inr b) = (b.0, b.1.0)
  type_there ty w p NullTree fault b = form_there ty w p NullTree fault b
  type_there ty w p (VariableTree n) fault b = form_there ty w p (VariableTree n) fault b
  type_there ty w p (EnumTree n) fault b = form_there ty w p (EnumTree n) fault b
  type_there ty w p (StringTree x) fault b = form_there ty w p (StringTree x) fault b
  type_there ty w p (FloatTree x) fault b = form_there ty w p (FloatTree x) fault b
  type_there ty w p (IntTree x) fault b = form_there ty w p (IntTree x) fault b
  type_there ty w p (BooleanTree x) fault b = form_there ty w p (BooleanTree x) fault b

  -- what is taken keeps the rules on its form
  form_taken : (ty : TypeTree (Unit {0})) (w p : P) (t : TypeLooks) (has : s.type_named (named_in ty) ≡ Some t) (v : ValueTree P) → Takes s variables ty t v → IsFormKept ty w p t has v
  form_taken ty w p t has NullTree h = record { fits = h; integer = λ b is digits e. cc; enum = λ k e is. cc; keys = λ k es is i e here. cc; required = λ k es is m f there needed. cc }
  form_taken ty w p t has (VariableTree n) h = record { fits = h; integer = λ b is digits e. cc; enum = λ k e is. cc; keys = λ k es is i e here. cc; required = λ k es is m f there needed. cc }
  form_taken ty w p t has (FloatTree x) h = record { fits = h; integer = λ b is digits e. cc; enum = λ k e is. cc; keys = λ k es is i e here. cc; required = λ k es is m f there needed. cc }
  form_taken ty w p t has (StringTree x) h = record { fits = h; integer = λ b is digits e. cc; enum = λ k e is. cc; keys = λ k es is i e here. cc; required = λ k es is m f there needed. cc }
  form_taken ty w p t has (BooleanTree x) h = record { fits = h; integer = λ b is digits e. cc; enum = λ k e is. cc; keys = λ k es is i e here. cc; required = λ k es is m f there needed. cc }
  form_taken ty w p t has (ListTree ts) h = record { fits = h.0; integer = λ b is digits e. cc; enum = λ k e is. cc; keys = λ k es is i e here. cc; required = λ k es is m f there needed. cc }
  form_taken ty w p t has (IntTree x) h = record {
    fits = more_names ty t x h;
    integer = λ b is digits e. subst (λ (l : List ℕ). FitsSigned w32 (integer_value l)) (same_Some x digits e) (int_fits ty t x h b is);
    enum = λ k e is. cc;
    keys = λ k es is i e here. cc;
    required = λ k es is m f there needed. cc;
  }
  form_taken ty w p t has (EnumTree n) h = record {
    fits = elim h [ inl a ↦ inl a.0 | inr c ↦ inr c ];
    integer = λ b is digits e. cc;
    enum = λ k e is. elim h [
      | inl a ↦ subst (λ (x : Text P). is_some (t.value x.it) ≡ true) (same_Some n e is) a.1
      | inr c ↦ scalar_only t.kind Enum refl c.0 k
    ];
    keys = λ k es is i e here. cc;
    required = λ k es is m f there needed. cc;
  }
  form_taken ty w p t has (ObjectTree own) h = record {
    fits = elim h [ inl a ↦ inl a.0 | inr c ↦ inr c ];
    integer = λ b is digits e. cc;
    enum = λ k e is. cc;
    keys = λ k es is i e here. elim h [
      | inl a ↦ keys_taken t [] own a.1.0 i e (ap (λ (x : EntryTrees P). slice_get (entry_list x) i) (same_Some own es is) ∙ here)
      | inr c ↦ scalar_only t.kind InputObject refl c.0 k
    ];
    required = λ k es is. elim h [
      | inl a ↦ subst (HasRequired t) (same_Some own es is) a.1.1
      | inr c ↦ scalar_only t.kind InputObject refl c.0 k
    ];
  }

  mutual
    takes_quiet : (ty : TypeTree (Unit {0})) (w p : P) (t : TypeLooks) (v : ValueTree P) → s.type_named (named_in ty) ≡ Some t → Takes s variables ty t v → IsQuiet (TypeBreaks at s variables (wanted_at ty w) p v)
    takes_quiet ty w p t (ListTree ts) has h fault (inl b) = form_quiet ty w p t has (ListTree ts) (form_taken ty w p t has (ListTree ts) h) fault b
    takes_quiet ty w p t (ListTree ts) has h fault (inr b) = items_quiet (item_type_of ty) w t ts (ap s.type_named (inner_item ty) ∙ has) h.1 fault b.1
    takes_quiet ty w p t (ObjectTree es) has h fault (inl b) = form_quiet ty w p t has (ObjectTree es) (form_taken ty w p t has (ObjectTree es) h) fault b
    takes_quiet ty w p t (ObjectTree es) has (inl h) fault (inr b) = entries_quiet (named_in ty) t [] es h.1.0 fault (at_it ty w p t has (ObjectTree es) b).1
    takes_quiet ty w p t (ObjectTree es) has (inr c) fault (inr b) = scalar_only t.kind InputObject refl c.0 (at_it ty w p t has (ObjectTree es) b).0
    takes_quiet ty w p t NullTree has h fault b = form_quiet ty w p t has NullTree (form_taken ty w p t has NullTree h) fault b
    takes_quiet ty w p t (VariableTree n) has h fault b = form_quiet ty w p t has (VariableTree n) (form_taken ty w p t has (VariableTree n) h) fault b
    takes_quiet ty w p t (EnumTree n) has h fault b = form_quiet ty w p t has (EnumTree n) (form_taken ty w p t has (EnumTree n) h) fault b
    takes_quiet ty w p t (StringTree x) has h fault b = form_quiet ty w p t has (StringTree x) (form_taken ty w p t has (StringTree x) h) fault b
    takes_quiet ty w p t (FloatTree x) has h fault b = form_quiet ty w p t has (FloatTree x) (form_taken ty w p t has (FloatTree x) h) fault b
    takes_quiet ty w p t (IntTree x) has h fault b = form_quiet ty w p t has (IntTree x) (form_taken ty w p t has (IntTree x) h) fault b
    takes_quiet ty w p t (BooleanTree x) has h fault b = form_quiet ty w p t has (BooleanTree x) (form_taken ty w p t has (BooleanTree x) h) fault b

    items_quiet : (ty : TypeTree (Unit {0})) (w : P) (t : TypeLooks) (ts : ItemTrees P) → s.type_named (named_in ty) ≡ Some t → TakesItems s variables ty t ts → IsQuiet (TypeBreaksItems at s variables (wanted_at ty w) ts)
    items_quiet ty w t no_items has h fault b = b
    items_quiet ty w t (item_then p v ts) has h fault (inl b) = takes_quiet ty w p t v has h.0 fault b
    items_quiet ty w t (item_then p v ts) has h fault (inr b) = items_quiet ty w t ts has h.1 fault b

    entries_quiet : (n : List ℕ) (t : TypeLooks) (before : List (List ℕ)) (es : EntryTrees P) → TakesEntries s variables t before es → IsQuiet (TypeBreaksEntries at s variables n t before es)
    entries_quiet n t before no_entries h fault b = b
    entries_quiet n t before (entry_then k p v es) ((f, (is, taken)), rest) fault (inl (new, (g, (here, b)))) =
        let same : f ≡ g = same_Some f g (sym is ∙ here) in
        let u = type_there g.ty.it (at (TypeReferenceAt (InputAt n k.it))) p v fault b in
        let takes : Takes s variables g.ty.it u.0 v = subst (λ (z : InputValueTree (Unit {0})). IfPresent (s.type_named (named_in z.ty.it)) (λ x. Takes s variables z.ty.it x v)) same (taken new) u.0 u.1 in
        takes_quiet g.ty.it (at (TypeReferenceAt (InputAt n k.it))) p u.0 v u.1 takes fault b
    entries_quiet n t before (entry_then k p v es) h fault (inr b) = entries_quiet n t (k.it ∷ before) es h.1 fault b

  mutual
    quiet_takes : (ty : TypeTree (Unit {0})) (w p : P) (t : TypeLooks) (v : ValueTree P) → s.type_named (named_in ty) ≡ Some t → IsQuiet (TypeBreaks at s variables (wanted_at ty w) p v) → Takes s variables ty t v
    quiet_takes ty w p t (ListTree ts) has q =
        let fits = (quiet_form ty w p t has (ListTree ts) (λ fault b. q fault (inl b))).fits in
        (fits, quiet_items (item_type_of ty) w t ts (ap s.type_named (inner_item ty) ∙ has) (λ fault b. q fault (inr ((t, (has, fits)), b))))
    quiet_takes ty w p t (ObjectTree es) has q =
        let kept = quiet_form ty w p t has (ObjectTree es) (λ fault b. q fault (inl b)) in
        elim kept.fits [
          | inl k ↦ inl (k, (quiet_entries (named_in ty) t [] es (kept.keys k es refl) (λ fault b. q fault (inr (t, (has, (k, b))))), kept.required k es refl))
          | inr c ↦ inr c
        ]
    quiet_takes ty w p t NullTree has q = (quiet_form ty w p t has NullTree q).fits
    quiet_takes ty w p t (VariableTree n) has q = (quiet_form ty w p t has (VariableTree n) q).fits
    quiet_takes ty w p t (EnumTree n) has q =
        let kept = quiet_form ty w p t has (EnumTree n) q in
        elim kept.fits [ inl k ↦ inl (k, kept.enum k n refl) | inr c ↦ inr c ]
    quiet_takes ty w p t (StringTree x) has q = (quiet_form ty w p t has (StringTree x) q).fits
    quiet_takes ty w p t (FloatTree x) has q = (quiet_form ty w p t has (FloatTree x) q).fits
    quiet_takes ty w p t (IntTree x) has q =
        let kept = quiet_form ty w p t has (IntTree x) q in
        int_taken ty t x kept.fits (λ b is. kept.integer b is x refl)
    quiet_takes ty w p t (BooleanTree x) has q = (quiet_form ty w p t has (BooleanTree x) q).fits

    quiet_items : (ty : TypeTree (Unit {0})) (w : P) (t : TypeLooks) (ts : ItemTrees P) → s.type_named (named_in ty) ≡ Some t → IsQuiet (TypeBreaksItems at s variables (wanted_at ty w) ts) → TakesItems s variables ty t ts
    quiet_items ty w t no_items has q = tt
    quiet_items ty w t (item_then p v ts) has q = (quiet_takes ty w p t v has (λ fault b. q fault (inl b)), quiet_items ty w t ts has (λ fault b. q fault (inr b)))

    quiet_entries : (n : List ℕ) (t : TypeLooks) (before : List (List ℕ)) (es : EntryTrees P)
        → ((i : ℕ) (e : Text P × Placed P (ValueTree P)) → slice_get (entry_list es) i ≡ Some e → is_some (t.input e.0.it) ≡ true)
        → IsQuiet (TypeBreaksEntries at s variables n t before es) → TakesEntries s variables t before es
    quiet_entries n t before no_entries keys q = tt
    quiet_entries n t before (entry_then k p v es) keys q =
        let f = some_of (t.input k.it) (keys 0 (k, record { it = v; place = p }) refl) in (
          (f.0, (f.1, λ new u is. quiet_takes f.0.ty.it (at (TypeReferenceAt (InputAt n k.it))) p u v is (λ fault b. q fault (inl (new, (f.0, (f.1, b))))))),
          quiet_entries n t (k.it ∷ before) es (λ i e here. keys (suc i) e here) (λ fault b. q fault (inr b)),
        )

  -- whatever stands for places
  pub accepts_where_quiet : (ty : TypeTree (Unit {0})) (w p : P) (v : ValueTree P) → Accepts s variables ty v ↔ IsQuiet (ValueBreaks at s variables (wanted_at ty w) p v)
  accepts_where_quiet ty w p v = (to, from)
    where
      to : Accepts s variables ty v → IsQuiet (ValueBreaks at s variables (wanted_at ty w) p v)
      to h fault (inl b) = let u = type_there ty w p v fault b in takes_quiet ty w p u.0 v u.1 (h.0 u.0 u.1) fault b
      to h fault (inr b) = defined_quiet variables p v h.1 fault b

      from : IsQuiet (ValueBreaks at s variables (wanted_at ty w) p v) → Accepts s variables ty v
      from q = ((λ u is. quiet_takes ty w p u v is (λ fault b. q fault (inl b))), quiet_defined variables {E = E} p v (λ fault b. q fault (inr b)))
