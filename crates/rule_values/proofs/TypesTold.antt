-- The list of faults of a value against a type tells the rules on values.
use Rattle.std.proofs.Common.{◌≡◌, ℕ, Bool, true, false, ◌||◌, List, [], ◌∷◌, ◌++◌, bytes_eq, Contains, Option, None, Some, option_map, refl, sym, ap, subst, ◌∙◌, inl, inr, ◌⊎◌, ◌↔◌}
use Rattle.std.specs.Bool.{Decides}
use Rattle.std.specs.Option.{option_map_or}
use Rattle.std.proofs.lemmas.Slice.Eq.{bytes_eq-Decides}
use Rattle.graphql_names.specs.Placed.{Placed, Place}
use Rattle.tree_literals.specs.TypeTree.{TypeTree}
use Rattle.tree_literals.specs.TypeQueries.{inner_name, item_type_of}
use Rattle.tree_literals.specs.ValueTree.{ValueTree, ItemTrees, EntryTrees, NullTree, EnumTree, VariableTree, StringTree, FloatTree, IntTree, BooleanTree, ListTree, ObjectTree, no_items, item_then, no_entries, entry_then}
use Rattle.tree_directives.specs.DirectiveTree.{InputValueTree, unplaced_input_value}
use Rattle.schema_components.specs.Given.{Given, plain_given}
use Rattle.graphql_schema.specs.in_schema_types.SchemaTree.{SchemaType, SchemaTree, same_kind}
use Rattle.graphql_schema.specs.in_schema_types.Plain.{plain_type}
use Rattle.graphql_schema.specs.in_schema_types.Looks.{type_looks}
use Rattle.graphql_schema.specs.in_schema_types.Addresses.{under, type_at, place_at, TypeReferenceAt, InputAt}
use Rattle.graphql_schema.specs.in_schema_types.declared.type_kind.TypeKind.TheVariants as kind
use Rattle.fault_data.specs.in_rule_definitions.Words.{Present}
use Rattle.fault_data.specs.in_rule_definitions.Judged.{judged}
use Rattle.fault_data.specs.in_rule_definitions.GivenValues.{Wanted, Variables, wanted_name}
use Rattle.fault_data.specs.in_rule_definitions.Values.{wanted_item, FitsForm, FormBreaks, TypeBreaks, TypeBreaksItems, TypeBreaksEntries}
use Rattle.fault_data.specs.in_rule_definitions.PlacedFaults.{PlacedFault}
use Rattle.rule_values.specs.Wanting.{wanted}
use Rattle.rule_values.specs.ValueFaults.{is_key, fits_form, form_faults, faults_with, inner_faults, item_faults, entry_faults, type_faults}
use Rattle.rule_values.proofs.Tells.{no_true, not_in_nil, Tells, tells_same, tells_both, tells_nothing, tells_when, tells_unless}
use Rattle.rule_values.proofs.Looking.{kind_decides, inner_unplaced, item_unplaced, input_under, type_present, type_absent, place_of_reference}
use Rattle.rule_values.proofs.FormsTold.{fits_there, form_told, among_more}

abbrev Field : Type 0
Field = Given Place (Placed Place (InputValueTree Place))

-- keys are the same names in both
abbrev SameKeys : List (List ℕ) → List (List ℕ) → Type 0
SameKeys before names = (n : List ℕ) → Decides (is_key n names) (Contains before n)

key_added : (before names : List (List ℕ)) (k : List ℕ) → SameKeys before names → SameKeys (k ∷ before) (names ++ k ∷ [])
key_added before names k same n = let d = among_more n k before (is_key n names) (same n) in (λ h. d.0 (sym (moved names) ∙ h), λ c. moved names ∙ d.1 c)
  where
    swap : (a b c : Bool) → (a || (b || c)) ≡ (b || (a || c))
    swap true true c = refl
    swap true false c = refl
    swap false true c = refl
    swap false false c = refl

    or_nothing : (a b : Bool) → a ≡ b → (a || false) ≡ (b || false)
    or_nothing a b e = ap (λ x. x || false) e

    turned : (a b : List ℕ) → bytes_eq a b ≡ bytes_eq b a
    turned a b = by (bytes_eq a b) (bytes_eq b a) refl refl
      where
        by : (x y : Bool) → bytes_eq a b ≡ x → bytes_eq b a ≡ y → bytes_eq a b ≡ bytes_eq b a
        by true y e f = e ∙ sym ((bytes_eq-Decides b a).1 (sym ((bytes_eq-Decides a b).0 e)))
        by false true e f = (bytes_eq-Decides a b).1 (sym ((bytes_eq-Decides b a).0 f)) ∙ sym f
        by false false e f = e ∙ sym f

    moved : (ns : List (List ℕ)) → is_key n (ns ++ k ∷ []) ≡ (bytes_eq n k || is_key n ns)
    moved [] = or_nothing (bytes_eq k n) (bytes_eq n k) (turned k n)
    moved (m ∷ ns) = ap (λ b. bytes_eq m n || b) (moved ns) ∙ swap (bytes_eq m n) (bytes_eq n k) (is_key n ns)

module _ (s : SchemaTree Place) (variables : Variables Place) where
  abbrev Breaks : Wanted Place → Place → ValueTree Place → PlacedFault → Type 0
  Breaks ty p v f = TypeBreaks (place_at s) (judged s) variables ty p v f

  -- what is inside a list or an object
  abbrev InnerBreaks : TypeTree Place → Place → ValueTree Place → PlacedFault → Type 0
  InnerBreaks ty q (ListTree ts) f = Present ((judged s).type_named (wanted_name (wanted ty q))) (λ t. FitsForm (judged s) variables (wanted ty q) t (ListTree ts))
      × TypeBreaksItems (place_at s) (judged s) variables (wanted_item (wanted ty q)) ts f
  InnerBreaks ty q (ObjectTree es) f = Present ((judged s).type_named (wanted_name (wanted ty q))) (λ t. (t.kind ≡ kind.InputObject)
      × TypeBreaksEntries (place_at s) (judged s) variables (wanted_name (wanted ty q)) t [] es f)
  InnerBreaks ty q v f = ⊥

  -- a value breaks a rule by its form or by what is inside
  both_break : (ty : TypeTree Place) (q p : Place) (v : ValueTree Place) (f : PlacedFault) → (FormBreaks (place_at s) (judged s) variables (wanted ty q) p v f ⊎ InnerBreaks ty q v f) ↔ Breaks (wanted ty q) p v f
  both_break ty q p (ListTree ts) f = (λ h. h, λ h. h)
  both_break ty q p (ObjectTree es) f = (λ h. h, λ h. h)
  both_break ty q p NullTree f = (λ h. elim h [ inl r ↦ r | inr r ↦ absurd r ], λ h. inl h)
  both_break ty q p (EnumTree n) f = (λ h. elim h [ inl r ↦ r | inr r ↦ absurd r ], λ h. inl h)
  both_break ty q p (VariableTree n) f = (λ h. elim h [ inl r ↦ r | inr r ↦ absurd r ], λ h. inl h)
  both_break ty q p (StringTree t) f = (λ h. elim h [ inl r ↦ r | inr r ↦ absurd r ], λ h. inl h)
  both_break ty q p (FloatTree t) f = (λ h. elim h [ inl r ↦ r | inr r ↦ absurd r ], λ h. inl h)
  both_break ty q p (IntTree t) f = (λ h. elim h [ inl r ↦ r | inr r ↦ absurd r ], λ h. inl h)
  both_break ty q p (BooleanTree b) f = (λ h. elim h [ inl r ↦ r | inr r ↦ absurd r ], λ h. inl h)

  -- where the type is not there nothing breaks
  form_absent : (ty : TypeTree Place) (q p : Place) (v : ValueTree Place) (f : PlacedFault) → type_at s (wanted_name (wanted ty q)) ≡ None → FormBreaks (place_at s) (judged s) variables (wanted ty q) p v f → ⊥
  form_absent ty q p v f none (inl r) = type_absent s (wanted_name (wanted ty q)) none r
  form_absent ty q p v f none (inr (inl r)) = type_absent s (wanted_name (wanted ty q)) none r
  form_absent ty q p v f none (inr (inr (inl r))) = type_absent s (wanted_name (wanted ty q)) none r
  form_absent ty q p v f none (inr (inr (inr (inl r)))) = type_absent s (wanted_name (wanted ty q)) none r
  form_absent ty q p v f none (inr (inr (inr (inr r)))) = type_absent s (wanted_name (wanted ty q)) none r

  inner_absent : (ty : TypeTree Place) (q : Place) (v : ValueTree Place) (f : PlacedFault) → type_at s (wanted_name (wanted ty q)) ≡ None → InnerBreaks ty q v f → ⊥
  inner_absent ty q (ListTree ts) f none r = type_absent s (wanted_name (wanted ty q)) none r.0
  inner_absent ty q (ObjectTree es) f none r = type_absent s (wanted_name (wanted ty q)) none r
  inner_absent ty q NullTree f none r = r
  inner_absent ty q (EnumTree n) f none r = r
  inner_absent ty q (VariableTree n) f none r = r
  inner_absent ty q (StringTree t) f none r = r
  inner_absent ty q (FloatTree t) f none r = r
  inner_absent ty q (IntTree t) f none r = r
  inner_absent ty q (BooleanTree b) f none r = r

  -- one value, where what is inside is told
  whole_told : (ty : TypeTree Place) (q p : Place) (v : ValueTree Place) (inner : SchemaType Place → List PlacedFault)
      → ((t : SchemaType Place) → type_at s (wanted_name (wanted ty q)) ≡ Some t → Tells (inner t) (InnerBreaks ty q v)) → Tells (faults_with s variables inner ty q p v) (Breaks (wanted ty q) p v)
  whole_told ty q p v inner told =
      tells_same _ (λ f. FormBreaks (place_at s) (judged s) variables (wanted ty q) p v f ⊎ InnerBreaks ty q v f) (Breaks (wanted ty q) p v) (both_break ty q p v)
      (by (type_at s (inner_name ty).it) (ap (type_at s) (inner_unplaced ty)))
    where
      by : (o : Option (SchemaType Place)) → type_at s (wanted_name (wanted ty q)) ≡ o
          → Tells (option_map_or (λ t. form_faults variables ty q t p v ++ inner t) o []) (λ f. FormBreaks (place_at s) (judged s) variables (wanted ty q) p v f ⊎ InnerBreaks ty q v f)
      by None none = tells_nothing _ (λ f h. elim h [ inl r ↦ form_absent ty q p v f none r | inr r ↦ inner_absent ty q v f none r ])
      by (Some t) there = tells_both _ _ _ (InnerBreaks ty q v) (form_told s variables ty q t there p v) (told t there)

  -- what stands under a key
  module _ (n : List ℕ) (t : SchemaType Place) (there : type_at s n ≡ Some t) (k : List ℕ) (p : Place) (v : ValueTree Place) (tells : Field → List PlacedFault) where
    abbrev KeyBreaks : PlacedFault → Type 0
    KeyBreaks x = Present ((type_looks (plain_type t)).input k) (λ f. Breaks (record { it = f.ty.it; place = place_at s (TypeReferenceAt (InputAt n k)) }) p v x)

    field_told : (o : Option Field) → under k t.inputs ≡ o → ((f : Field) → Tells (tells f) (Breaks (wanted f.it.it.ty.it f.it.it.ty.place) p v)) → Tells (option_map_or tells o []) KeyBreaks
    field_told None e told = tells_nothing _ (λ x q. absent q.0 (sym q.1.0 ∙ input_under t k ∙ ap (option_map (plain_given unplaced_input_value)) e))
      where
        absent : (y : InputValueTree (Unit {0})) → Some y ≡ None → ⊥
        absent y h = cc
    field_told (Some f) e told = tells_same _ (Breaks (wanted f.it.it.ty.it f.it.it.ty.place) p v) KeyBreaks (λ x. (to x, λ q. from x q.0 (sym read_field ∙ q.1.0) q.1.1)) (told f)
      where
        read_field : (type_looks (plain_type t)).input k ≡ Some (unplaced_input_value f.it.it)
        read_field = input_under t k ∙ ap (option_map (plain_given unplaced_input_value)) e

        to : (x : PlacedFault) → Breaks (wanted f.it.it.ty.it f.it.it.ty.place) p v x → KeyBreaks x
        to x r = (unplaced_input_value f.it.it, (read_field, subst (λ q. Breaks (wanted f.it.it.ty.it q) p v x) (sym (place_of_reference s n t there k f e)) r))

        from : (x : PlacedFault) (y : InputValueTree (Unit {0})) → Some (unplaced_input_value f.it.it) ≡ Some y → Breaks (record { it = y.ty.it; place = place_at s (TypeReferenceAt (InputAt n k)) }) p v x → Breaks (wanted f.it.it.ty.it f.it.it.ty.place) p v x
        from x y h r =
            let same : y ≡ unplaced_input_value f.it.it = cc in
            subst (λ q. Breaks (wanted f.it.it.ty.it q) p v x) (place_of_reference s n t there k f e)
            (subst (λ (z : InputValueTree (Unit {0})). Breaks (record { it = z.ty.it; place = place_at s (TypeReferenceAt (InputAt n k)) }) p v x) same r)

  mutual
    inner_told : (ty : TypeTree Place) (q : Place) (v : ValueTree Place) (t : SchemaType Place) → type_at s (wanted_name (wanted ty q)) ≡ Some t → Tells (inner_faults s variables ty q t v) (InnerBreaks ty q v)
    inner_told ty q (ListTree ts) t there =
        tells_when (fits_form variables ty t (ListTree ts)) (fits_there s variables ty q t there (ListTree ts)) _ _
        (subst (λ w. Tells (item_faults s variables (item_type_of ty) q ts) (TypeBreaksItems (place_at s) (judged s) variables w ts)) (λ i. record { it = sym (item_unplaced ty) i; place = q }) (items_told (item_type_of ty) q ts))
    inner_told ty q (ObjectTree es) t there =
        let n = wanted_name (wanted ty q) in
        tells_same _ (λ f. (t.kind ≡ kind.InputObject) × TypeBreaksEntries (place_at s) (judged s) variables n (type_looks (plain_type t)) [] es f) _
        (λ f. type_present s n t there (λ u. (u.kind ≡ kind.InputObject) × TypeBreaksEntries (place_at s) (judged s) variables n u [] es f))
        (tells_when (same_kind t.kind kind.InputObject) (kind_decides t.kind kind.InputObject) _ _ (entries_told n t there [] [] (λ k. (λ h. no_true h, λ c. absurd (not_in_nil k c))) es))
    inner_told ty q NullTree t there = tells_nothing _ (λ f h. h)
    inner_told ty q (EnumTree n) t there = tells_nothing _ (λ f h. h)
    inner_told ty q (VariableTree n) t there = tells_nothing _ (λ f h. h)
    inner_told ty q (StringTree x) t there = tells_nothing _ (λ f h. h)
    inner_told ty q (FloatTree x) t there = tells_nothing _ (λ f h. h)
    inner_told ty q (IntTree x) t there = tells_nothing _ (λ f h. h)
    inner_told ty q (BooleanTree b) t there = tells_nothing _ (λ f h. h)

    items_told : (ty : TypeTree Place) (q : Place) (ts : ItemTrees Place) → Tells (item_faults s variables ty q ts) (TypeBreaksItems (place_at s) (judged s) variables (wanted ty q) ts)
    items_told ty q no_items = tells_nothing _ (λ f h. h)
    items_told ty q (item_then p v ts) =
        tells_both _ _ (Breaks (wanted ty q) p v) _ (whole_told ty q p v (λ t. inner_faults s variables ty q t v) (inner_told ty q v)) (items_told ty q ts)

    -- after entries with these keys
    entries_told : (n : List ℕ) (t : SchemaType Place) (there : type_at s n ≡ Some t) (before names : List (List ℕ)) → SameKeys before names → (es : EntryTrees Place)
        → Tells (entry_faults s variables t names es) (TypeBreaksEntries (place_at s) (judged s) variables n (type_looks (plain_type t)) before es)
    entries_told n t there before names same no_entries = tells_nothing _ (λ f h. h)
    entries_told n t there before names same (entry_then k p v es) =
        tells_both _ _ _ _
        (tells_unless (is_key k.it names) (same k.it) _ _
        (field_told n t there k.it p v (λ f. faults_with s variables (λ u. inner_faults s variables f.it.it.ty.it f.it.it.ty.place u v) f.it.it.ty.it f.it.it.ty.place p v) (under k.it t.inputs) refl
        (λ f. whole_told f.it.it.ty.it f.it.it.ty.place p v (λ u. inner_faults s variables f.it.it.ty.it f.it.it.ty.place u v) (inner_told f.it.it.ty.it f.it.it.ty.place v))))
        (entries_told n t there (k.it ∷ before) (names ++ k.it ∷ []) (key_added before names k.it same) es)

  pub types_told : (ty : TypeTree Place) (q p : Place) (v : ValueTree Place) → Tells (type_faults s variables ty q p v) (Breaks (wanted ty q) p v)
  types_told ty q p v = whole_told ty q p v (λ t. inner_faults s variables ty q t v) (inner_told ty q v)
