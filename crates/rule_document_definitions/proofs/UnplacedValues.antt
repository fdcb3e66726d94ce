-- What rules on values tell of a value without places.
use Rattle.std.proofs.Common.{◌≡◌, ℕ, ◌<◌, ◌↔◌, true, List, [], ◌∷◌, map, find, refl, sym, ap, subst, ◌∙◌, Option, None, Some, bytes_eq}
use Rattle.std.specs.Option.{option_map}
use Rattle.graphql_names.specs.Placed.{Placed, Text, unplaced_text, unplaced_node}
use Rattle.tree_literals.specs.TypeTree.{TypeTree, NamedTree, NonNullNamedTree, unplaced_type}
use Rattle.tree_literals.specs.TypeTree as types
use Rattle.tree_literals.specs.TypeQueries.{inner_name, has_mark}
use Rattle.tree_literals.specs.ValueTree.{ValueTree, ItemTrees, EntryTrees, NullTree, EnumTree, VariableTree, StringTree, FloatTree, IntTree, BooleanTree, ListTree, ObjectTree, no_items, item_then, no_entries, entry_then, unplaced_value, unplaced_items, unplaced_entries}
use Rattle.tree_literals.specs.ValueQueries.{is_null_value, enum_name, variable_name, integer_text, string_text, boolean_value, object_entries}
use Rattle.tree_operations.specs.OperationTree.{VariableDefinitionTree, unplaced_variable_definition}
use Rattle.rule_definitions.specs.in_schema_types.Looks.{TypeLooks}
use Rattle.rule_definitions.specs.in_schema_types.Addresses.{Address, TypeAt, InputAt, TypeReferenceAt}
use Rattle.rule_definitions.specs.Diagnostics.{Diagnostic, map_places, UnsupportedValueType, UndefinedInputValue, UniqueInputValue}
use Rattle.rule_definitions.specs.Words.{AtSomeIndex, Repeats}
use Rattle.rule_definitions.specs.GivenValues.{entry_list, Wanted, Variables, wanted_name, entry_named, is_absent_or_null}
use Rattle.rule_definitions.specs.Faults.{FaultAt, wrong}
use Rattle.rule_definitions.specs.Judged.{Judged}
use Rattle.rule_definitions.specs.Names.{defined_name}
use Rattle.rule_definitions.specs.Values.{wanted_item, FitsForm, UniqueInputValueIn, UniqueInputValueInItems, UniqueInputValueInEntries, UndefinedVariableIn, UndefinedVariableInItems, UndefinedVariableInEntries, UnsupportedValueTypeAt, IntCoercionErrorAt, UndefinedEnumValueAt, UndefinedInputValueAt, RequiredFieldAt, FormBreaks, TypeBreaks, TypeBreaksItems, TypeBreaksEntries, ValueBreaks}
use Rattle.rule_definitions.proofs.Lists.{mapped_some}
use Rattle.rule_document_definitions.specs.FaultsUnplaced.{unplaced_wrong}
use Rattle.rule_document_definitions.proofs.MergingUnplaced.{twice}
use Rattle.rule_document_definitions.proofs.Moves.{same, neither, same_index, same_lacks, find_map, Moves, moves_no, moves_fault, moves_either, moves_where, moves_same, moves_some, moves_present, moves_index, moves_repeats}

-- ---- what rules read of a value, of a type, of a variable is there without places

module _ {P : Type 0} where
  abbrev pub bare_value : Placed P (ValueTree P) → Placed (Unit {0}) (ValueTree (Unit {0}))
  bare_value v = unplaced_node unplaced_value v

  abbrev pub bare_entry : Text P × Placed P (ValueTree P) → Text (Unit {0}) × Placed (Unit {0}) (ValueTree (Unit {0}))
  bare_entry e = (unplaced_text e.0, bare_value e.1)

  abbrev pub bare_variable : Placed P (VariableDefinitionTree P) → Placed (Unit {0}) (VariableDefinitionTree (Unit {0}))
  bare_variable x = unplaced_node unplaced_variable_definition x

  abbrev pub bare_wanted : Wanted P → Wanted (Unit {0})
  bare_wanted ty = record { it = ty.it; place = tt }

  pub integer_same : (v : ValueTree P) → integer_text (unplaced_value v) ≡ integer_text v
  integer_same NullTree = refl
  integer_same (EnumTree n) = refl
  integer_same (VariableTree n) = refl
  integer_same (StringTree s) = refl
  integer_same (FloatTree s) = refl
  integer_same (IntTree s) = refl
  integer_same (BooleanTree b) = refl
  integer_same (ListTree ts) = refl
  integer_same (ObjectTree es) = refl

  pub string_same : (v : ValueTree P) → string_text (unplaced_value v) ≡ string_text v
  string_same NullTree = refl
  string_same (EnumTree n) = refl
  string_same (VariableTree n) = refl
  string_same (StringTree s) = refl
  string_same (FloatTree s) = refl
  string_same (IntTree s) = refl
  string_same (BooleanTree b) = refl
  string_same (ListTree ts) = refl
  string_same (ObjectTree es) = refl

  pub boolean_same : (v : ValueTree P) → boolean_value (unplaced_value v) ≡ boolean_value v
  boolean_same NullTree = refl
  boolean_same (EnumTree n) = refl
  boolean_same (VariableTree n) = refl
  boolean_same (StringTree s) = refl
  boolean_same (FloatTree s) = refl
  boolean_same (IntTree s) = refl
  boolean_same (BooleanTree b) = refl
  boolean_same (ListTree ts) = refl
  boolean_same (ObjectTree es) = refl

  pub null_same : (v : ValueTree P) → is_null_value (unplaced_value v) ≡ is_null_value v
  null_same NullTree = refl
  null_same (EnumTree n) = refl
  null_same (VariableTree n) = refl
  null_same (StringTree s) = refl
  null_same (FloatTree s) = refl
  null_same (IntTree s) = refl
  null_same (BooleanTree b) = refl
  null_same (ListTree ts) = refl
  null_same (ObjectTree es) = refl

  pub enum_same : (v : ValueTree P) → enum_name (unplaced_value v) ≡ option_map unplaced_text (enum_name v)
  enum_same NullTree = refl
  enum_same (EnumTree n) = refl
  enum_same (VariableTree n) = refl
  enum_same (StringTree s) = refl
  enum_same (FloatTree s) = refl
  enum_same (IntTree s) = refl
  enum_same (BooleanTree b) = refl
  enum_same (ListTree ts) = refl
  enum_same (ObjectTree es) = refl

  pub variable_same : (v : ValueTree P) → variable_name (unplaced_value v) ≡ option_map unplaced_text (variable_name v)
  variable_same NullTree = refl
  variable_same (EnumTree n) = refl
  variable_same (VariableTree n) = refl
  variable_same (StringTree s) = refl
  variable_same (FloatTree s) = refl
  variable_same (IntTree s) = refl
  variable_same (BooleanTree b) = refl
  variable_same (ListTree ts) = refl
  variable_same (ObjectTree es) = refl

  pub object_same : (v : ValueTree P) → object_entries (unplaced_value v) ≡ option_map unplaced_entries (object_entries v)
  object_same NullTree = refl
  object_same (EnumTree n) = refl
  object_same (VariableTree n) = refl
  object_same (StringTree s) = refl
  object_same (FloatTree s) = refl
  object_same (IntTree s) = refl
  object_same (BooleanTree b) = refl
  object_same (ListTree ts) = refl
  object_same (ObjectTree es) = refl

  pub entries_same : (es : EntryTrees P) → entry_list (unplaced_entries es) ≡ map bare_entry (entry_list es)
  entries_same no_entries = refl
  entries_same (entry_then n place v es) = ap (λ l. bare_entry (n, record { it = v; place = place }) ∷ l) (entries_same es)

  pub absent_same : (o : Option (Placed P (ValueTree P))) → is_absent_or_null (option_map bare_value o) ≡ is_absent_or_null o
  absent_same None = refl
  absent_same (Some v) = null_same v.it

  value_of_entry : (o : Option (Text P × Placed P (ValueTree P))) → option_map (λ e. e.1) (option_map bare_entry o) ≡ option_map bare_value (option_map (λ e. e.1) o)
  value_of_entry None = refl
  value_of_entry (Some e) = refl

  -- what an object gives a field
  pub entry_same : (m : List ℕ) (es : EntryTrees P) → entry_named m (unplaced_entries es) ≡ option_map bare_value (entry_named m es)
  entry_same m es =
      ap (λ (l : List (Text (Unit {0}) × Placed (Unit {0}) (ValueTree (Unit {0})))). option_map (λ (e : Text (Unit {0}) × Placed (Unit {0}) (ValueTree (Unit {0}))). e.1) (find (λ (e : Text (Unit {0}) × Placed (Unit {0}) (ValueTree (Unit {0}))). bytes_eq e.0.it m) l)) (entries_same es)
      ∙ ap (λ (o : Option (Text (Unit {0}) × Placed (Unit {0}) (ValueTree (Unit {0})))). option_map (λ (e : Text (Unit {0}) × Placed (Unit {0}) (ValueTree (Unit {0}))). e.1) o) (find_map bare_entry (λ (e : Text (Unit {0}) × Placed (Unit {0}) (ValueTree (Unit {0}))). bytes_eq e.0.it m) (entry_list es))
      ∙ value_of_entry (find (λ e. bytes_eq e.0.it m) (entry_list es))

  pub inner_same : (ty : TypeTree P) → (inner_name (unplaced_type ty)).it ≡ (inner_name ty).it
  inner_same (NamedTree n) = refl
  inner_same (NonNullNamedTree n) = refl
  inner_same (types.ListTree t) = inner_same t
  inner_same (types.NonNullListTree t) = inner_same t

  pub type_twice : (ty : TypeTree P) → unplaced_type (unplaced_type ty) ≡ unplaced_type ty
  type_twice (NamedTree n) = refl
  type_twice (NonNullNamedTree n) = refl
  type_twice (types.ListTree t) = ap types.ListTree (type_twice t)
  type_twice (types.NonNullListTree t) = ap types.NonNullListTree (type_twice t)

  pub mark_same : (ty : TypeTree P) → has_mark (unplaced_type ty) ≡ has_mark ty
  mark_same (NamedTree n) = refl
  mark_same (NonNullNamedTree n) = refl
  mark_same (types.ListTree t) = refl
  mark_same (types.NonNullListTree t) = refl

module _ {P : Type 0} (variables : Variables P) where
  -- of the variable that is found, its type bears the same name
  found_same : (n wanted : List ℕ) →
      ((x : Placed P (VariableDefinitionTree P)) → find (λ d. bytes_eq (defined_name d) n) variables ≡ Some x → (inner_name x.it.ty.it).it ≡ wanted)
      ↔ ((x : Placed (Unit {0}) (VariableDefinitionTree (Unit {0}))) → find (λ d. bytes_eq (defined_name d) n) (map bare_variable variables) ≡ Some x → (inner_name x.it.ty.it).it ≡ wanted)
  found_same n wanted = (
    λ h y e.
        let m = mapped_some bare_variable (find (λ d. bytes_eq (defined_name d) n) variables) y (sym (find_map bare_variable (λ d. bytes_eq (defined_name d) n) variables) ∙ e) in
        ap (λ (z : Placed (Unit {0}) (VariableDefinitionTree (Unit {0}))). (inner_name z.it.ty.it).it) m.1.1 ∙ inner_same m.0.it.ty.it ∙ h m.0 m.1.0,
    λ h x e. sym (inner_same x.it.ty.it) ∙ h (bare_variable x) (find_map bare_variable (λ d. bytes_eq (defined_name d) n) variables ∙ ap (option_map bare_variable) e),
  )

  fits_bared : (s : Judged) (ty : Wanted P) (t : TypeLooks) (v : ValueTree P) → FitsForm s variables ty t v ↔ FitsForm s (map bare_variable variables) (bare_wanted ty) t (unplaced_value v)
  fits_bared s ty t NullTree = same
  fits_bared s ty t (EnumTree n) = same
  fits_bared s ty t (VariableTree n) = found_same n.it (wanted_name ty)
  fits_bared s ty t (StringTree x) = same
  fits_bared s ty t (FloatTree x) = same
  fits_bared s ty t (IntTree x) = same
  fits_bared s ty t (BooleanTree b) = same
  fits_bared s ty t (ListTree ts) = same
  fits_bared s ty t (ObjectTree es) = same

-- ---- the rules

module _ {P E : Type 0} where
  -- the fault f is g without places
  abbrev pub Bared : FaultAt P E → FaultAt (Unit {0}) (Unit {0}) → Type 0
  Bared g f = f ≡ unplaced_wrong g

  abbrev pub Moved : (FaultAt P E → Type 0) → (FaultAt (Unit {0}) (Unit {0}) → Type 0) → Type 0
  Moved R S = Moves Bared R S

  pub moves_wrong : (place : P) (b : Diagnostic P E) → Moved (λ g. g ≡ wrong place b) (λ f. f ≡ wrong tt (map_places (λ p. tt) (λ e. tt) b))
  moves_wrong place b = moves_fault unplaced_wrong (wrong place b) (wrong tt (map_places (λ p. tt) (λ e. tt) b)) refl

  -- ---- keys

  keys_bared : (es : EntryTrees P) → Moved
      (λ g. Repeats (λ e. e.0.it) (entry_list es) (λ i first j later. g ≡ wrong later.0.place (UniqueInputValue later.0.it first.0.place later.0.place)))
      (λ f. Repeats (λ e. e.0.it) (entry_list (unplaced_entries es)) (λ i first j later. f ≡ wrong later.0.place (UniqueInputValue later.0.it first.0.place later.0.place)))
  keys_bared es =
      subst (λ l. Moved
      (λ g. Repeats (λ e. e.0.it) (entry_list es) (λ i first j later. g ≡ wrong later.0.place (UniqueInputValue later.0.it first.0.place later.0.place)))
      (λ f. Repeats (λ e. e.0.it) l (λ i first j later. f ≡ wrong later.0.place (UniqueInputValue later.0.it first.0.place later.0.place))))
      (sym (entries_same es))
      (moves_repeats Bared bare_entry (λ e. e.0.it) (entry_list es)
      (λ i first j later g. g ≡ wrong later.0.place (UniqueInputValue later.0.it first.0.place later.0.place))
      (λ i first j later f. f ≡ wrong later.0.place (UniqueInputValue later.0.it first.0.place later.0.place))
      (λ i first j later. moves_wrong later.0.place (UniqueInputValue later.0.it first.0.place later.0.place)))

  mutual
    pub unique_input_value_bared : (v : ValueTree P) → Moved (UniqueInputValueIn v) (UniqueInputValueIn (unplaced_value v))
    unique_input_value_bared NullTree = moves_no Bared
    unique_input_value_bared (EnumTree n) = moves_no Bared
    unique_input_value_bared (VariableTree n) = moves_no Bared
    unique_input_value_bared (StringTree s) = moves_no Bared
    unique_input_value_bared (FloatTree s) = moves_no Bared
    unique_input_value_bared (IntTree s) = moves_no Bared
    unique_input_value_bared (BooleanTree b) = moves_no Bared
    unique_input_value_bared (ListTree ts) = unique_items_bared ts
    unique_input_value_bared (ObjectTree es) = moves_either Bared (keys_bared es) (unique_entries_bared es)

    unique_items_bared : (ts : ItemTrees P) → Moved (UniqueInputValueInItems ts) (UniqueInputValueInItems (unplaced_items ts))
    unique_items_bared no_items = moves_no Bared
    unique_items_bared (item_then place v ts) = moves_either Bared (unique_input_value_bared v) (unique_items_bared ts)

    unique_entries_bared : (es : EntryTrees P) → Moved (UniqueInputValueInEntries es) (UniqueInputValueInEntries (unplaced_entries es))
    unique_entries_bared no_entries = moves_no Bared
    unique_entries_bared (entry_then n place v es) = moves_either Bared (unique_input_value_bared v) (unique_entries_bared es)

  -- ---- variables

  module _ (variables : Variables P) where
    mutual
      pub undefined_variable_bared : (place : P) (v : ValueTree P) → Moved (UndefinedVariableIn variables place v) (UndefinedVariableIn (map bare_variable variables) tt (unplaced_value v))
      undefined_variable_bared place NullTree = moves_no Bared
      undefined_variable_bared place (EnumTree n) = moves_no Bared
      undefined_variable_bared place (VariableTree n) = moves_where Bared (same_lacks bare_variable defined_name variables n.it) (moves_wrong place _)
      undefined_variable_bared place (StringTree s) = moves_no Bared
      undefined_variable_bared place (FloatTree s) = moves_no Bared
      undefined_variable_bared place (IntTree s) = moves_no Bared
      undefined_variable_bared place (BooleanTree b) = moves_no Bared
      undefined_variable_bared place (ListTree ts) = undefined_items_bared ts
      undefined_variable_bared place (ObjectTree es) = undefined_entries_bared es

      undefined_items_bared : (ts : ItemTrees P) → Moved (UndefinedVariableInItems variables ts) (UndefinedVariableInItems (map bare_variable variables) (unplaced_items ts))
      undefined_items_bared no_items = moves_no Bared
      undefined_items_bared (item_then place v ts) = moves_either Bared (undefined_variable_bared place v) (undefined_items_bared ts)

      undefined_entries_bared : (es : EntryTrees P) → Moved (UndefinedVariableInEntries variables es) (UndefinedVariableInEntries (map bare_variable variables) (unplaced_entries es))
      undefined_entries_bared no_entries = moves_no Bared
      undefined_entries_bared (entry_then n place v es) = moves_either Bared (undefined_variable_bared place v) (undefined_entries_bared es)

    -- ---- values against types

    module _ (at : Address → P) (s : Judged) where
      module _ (ty : Wanted P) (place : P) (v : ValueTree P) where
        unsupported_value_type_bared : Moved (UnsupportedValueTypeAt at s variables ty place v) (UnsupportedValueTypeAt (λ a. tt) s (map bare_variable variables) (bare_wanted ty) tt (unplaced_value v))
        unsupported_value_type_bared =
            moves_same Bared (s.type_named (wanted_name ty)) _ _ (λ t.
            moves_where Bared (neither (fits_bared variables s ty t v))
            (moves_fault unplaced_wrong (wrong place (UnsupportedValueType (unplaced_value v) ty.it ty.place)) (wrong tt (UnsupportedValueType (unplaced_value (unplaced_value v)) ty.it tt))
            (ap (λ x. wrong tt (UnsupportedValueType x ty.it tt)) (sym (twice v)))))

        int_coercion_error_bared : Moved (IntCoercionErrorAt at s variables ty place v) (IntCoercionErrorAt (λ a. tt) s (map bare_variable variables) (bare_wanted ty) tt (unplaced_value v))
        int_coercion_error_bared =
            moves_same Bared (s.type_named (wanted_name ty)) _ _ (λ t.
            moves_where Bared same (moves_where Bared same
            (moves_present Bared (λ x. x) (integer_text v) (integer_text (unplaced_value v)) (integer_same v ∙ same_option (integer_text v)) _ _ (λ digits.
            moves_where Bared same (moves_wrong place _)))))
          where
            same_option : {X : Type 0} (o : Option X) → o ≡ option_map (λ x. x) o
            same_option None = refl
            same_option (Some x) = refl

        undefined_enum_value_bared : Moved (UndefinedEnumValueAt at s variables ty place v) (UndefinedEnumValueAt (λ a. tt) s (map bare_variable variables) (bare_wanted ty) tt (unplaced_value v))
        undefined_enum_value_bared =
            moves_same Bared (s.type_named (wanted_name ty)) _ _ (λ t.
            moves_where Bared same
            (moves_present Bared unplaced_text (enum_name v) (enum_name (unplaced_value v)) (enum_same v) _ _ (λ e. moves_where Bared same (moves_wrong place _))))

        first_unknown_bared : (t : TypeLooks) (es : EntryTrees P) → Moved
            (λ g. AtSomeIndex (entry_list es) (λ i e. (t.input e.0.it ≡ None) × ((AtSomeIndex (entry_list es) (λ k d. (k < i) × (t.input d.0.it ≡ None)) → ⊥)
            × (g ≡ wrong e.1.place (UndefinedInputValue e.0.it (wanted_name ty) (at (TypeAt (wanted_name ty))))))))
            (λ f. AtSomeIndex (entry_list (unplaced_entries es)) (λ i e. (t.input e.0.it ≡ None) × ((AtSomeIndex (entry_list (unplaced_entries es)) (λ k d. (k < i) × (t.input d.0.it ≡ None)) → ⊥)
            × (f ≡ wrong e.1.place (UndefinedInputValue e.0.it (wanted_name ty) tt)))))
        first_unknown_bared t es =
            moves_index Bared bare_entry (entry_list es) (entry_list (unplaced_entries es)) (entries_same es) _ _ (λ i e.
            moves_where Bared same
            (moves_where Bared (neither (none_before i))
            (moves_wrong e.1.place _)))
          where
            none_before : (i : ℕ) → AtSomeIndex (entry_list es) (λ k d. (k < i) × (t.input d.0.it ≡ None)) ↔ AtSomeIndex (entry_list (unplaced_entries es)) (λ k d. (k < i) × (t.input d.0.it ≡ None))
            none_before i = subst (λ l. AtSomeIndex (entry_list es) (λ k d. (k < i) × (t.input d.0.it ≡ None)) ↔ AtSomeIndex l (λ k d. (k < i) × (t.input d.0.it ≡ None))) (sym (entries_same es))
                (same_index bare_entry (entry_list es) _ _ (λ k d. same))

        undefined_input_value_bared : Moved (UndefinedInputValueAt at s variables ty place v) (UndefinedInputValueAt (λ a. tt) s (map bare_variable variables) (bare_wanted ty) tt (unplaced_value v))
        undefined_input_value_bared =
            moves_same Bared (s.type_named (wanted_name ty)) _ _ (λ t.
            moves_where Bared same
            (moves_present Bared unplaced_entries (object_entries v) (object_entries (unplaced_value v)) (object_same v) _ _ (λ es. first_unknown_bared t es)))

        required_field_bared : Moved (RequiredFieldAt at s variables ty place v) (RequiredFieldAt (λ a. tt) s (map bare_variable variables) (bare_wanted ty) tt (unplaced_value v))
        required_field_bared =
            moves_same Bared (s.type_named (wanted_name ty)) _ _ (λ t.
            moves_where Bared same
            (moves_present Bared unplaced_entries (object_entries v) (object_entries (unplaced_value v)) (object_same v) _ _ (λ es.
            moves_some Bared _ _ (λ k. moves_same Bared (t.input k) _ _ (λ f.
            moves_where Bared same
            (moves_where Bared (absent k es) (moves_wrong place _)))))))
          where
            absent_is : (k : List ℕ) (es : EntryTrees P) → is_absent_or_null (entry_named k (unplaced_entries es)) ≡ is_absent_or_null (entry_named k es)
            absent_is k es = ap is_absent_or_null (entry_same k es) ∙ absent_same (entry_named k es)

            absent : (k : List ℕ) (es : EntryTrees P) → (is_absent_or_null (entry_named k es) ≡ true) ↔ (is_absent_or_null (entry_named k (unplaced_entries es)) ≡ true)
            absent k es = (λ h. absent_is k es ∙ h, λ h. sym (absent_is k es) ∙ h)

        form_bared : Moved (FormBreaks at s variables ty place v) (FormBreaks (λ a. tt) s (map bare_variable variables) (bare_wanted ty) tt (unplaced_value v))
        form_bared =
            moves_either Bared unsupported_value_type_bared
            (moves_either Bared int_coercion_error_bared
            (moves_either Bared undefined_enum_value_bared
            (moves_either Bared undefined_input_value_bared required_field_bared)))

      mutual
        pub type_breaks_bared : (ty : Wanted P) (place : P) (v : ValueTree P) → Moved (TypeBreaks at s variables ty place v) (TypeBreaks (λ a. tt) s (map bare_variable variables) (bare_wanted ty) tt (unplaced_value v))
        type_breaks_bared ty place NullTree = form_bared ty place NullTree
        type_breaks_bared ty place (EnumTree n) = form_bared ty place (EnumTree n)
        type_breaks_bared ty place (VariableTree n) = form_bared ty place (VariableTree n)
        type_breaks_bared ty place (StringTree x) = form_bared ty place (StringTree x)
        type_breaks_bared ty place (FloatTree x) = form_bared ty place (FloatTree x)
        type_breaks_bared ty place (IntTree x) = form_bared ty place (IntTree x)
        type_breaks_bared ty place (BooleanTree b) = form_bared ty place (BooleanTree b)
        type_breaks_bared ty place (ListTree ts) =
            moves_either Bared (form_bared ty place (ListTree ts))
            (moves_where Bared same (type_items_bared (wanted_item ty) ts))
        type_breaks_bared ty place (ObjectTree es) =
            moves_either Bared (form_bared ty place (ObjectTree es))
            (moves_same Bared (s.type_named (wanted_name ty)) _ _ (λ t. moves_where Bared same (type_entries_bared (wanted_name ty) t [] es)))

        type_items_bared : (ty : Wanted P) (ts : ItemTrees P) → Moved (TypeBreaksItems at s variables ty ts) (TypeBreaksItems (λ a. tt) s (map bare_variable variables) (bare_wanted ty) (unplaced_items ts))
        type_items_bared ty no_items = moves_no Bared
        type_items_bared ty (item_then place v ts) = moves_either Bared (type_breaks_bared ty place v) (type_items_bared ty ts)

        type_entries_bared : (n : List ℕ) (t : TypeLooks) (before : List (List ℕ)) (es : EntryTrees P) → Moved (TypeBreaksEntries at s variables n t before es) (TypeBreaksEntries (λ a. tt) s (map bare_variable variables) n t before (unplaced_entries es))
        type_entries_bared n t before no_entries = moves_no Bared
        type_entries_bared n t before (entry_then k place v es) =
            moves_either Bared
            (moves_where Bared same (moves_same Bared (t.input k.it) _ _ (λ f.
            type_breaks_bared (record { it = f.ty.it; place = at (TypeReferenceAt (InputAt n k.it)) }) place v)))
            (type_entries_bared n t (k.it ∷ before) es)

      pub value_bared : (ty : Wanted P) (place : P) (v : ValueTree P) → Moved (ValueBreaks at s variables ty place v) (ValueBreaks (λ a. tt) s (map bare_variable variables) (bare_wanted ty) tt (unplaced_value v))
      value_bared ty place v = moves_either Bared (type_breaks_bared ty place v) (undefined_variable_bared place v)
