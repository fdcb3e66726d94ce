-- What rules on values tell of a value at other places.
use Rattle.std.proofs.Common.{◌≡◌, ℕ, ◌<◌, ◌↔◌, Bool, true, false, cond, List, [], ◌∷◌, map, refl, sym, ap, subst, ◌∙◌, Option, None, Some, FitsSigned, bytes_eq, find}
use Rattle.std.proofs.Common.{w32}
use Rattle.std.specs.Option.{option_map}
use Rattle.graphql_names.specs.Placed.{Placed, Text, unplaced_text}
use Rattle.tree_literals.specs.NumberSyntax.{integer_value}
use Rattle.tree_literals.specs.ValueTree.{ValueTree, ItemTrees, EntryTrees, NullTree, EnumTree, VariableTree, StringTree, FloatTree, IntTree, BooleanTree, ListTree, ObjectTree, no_items, item_then, no_entries, entry_then, unplaced_value, unplaced_items, unplaced_entries}
use Rattle.tree_literals.specs.ValueQueries.{is_null_value, enum_name, variable_name, integer_text, object_entries}
use Rattle.tree_directives.specs.DirectiveQueries.{is_required_input}
use Rattle.tree_operations.specs.OperationTree.{VariableDefinitionTree}
use Rattle.schema_coordinates.specs.Coordinate.{Coordinate, OfAttribute}
use Rattle.tree_directives.specs.declared.directive_location.DirectiveLocation.{DirectiveLocation}
use Rattle.schema_types.specs.Looks.{TypeLooks}
use Rattle.schema_types.specs.Addresses.{Address, TypeAt, InputAt, TypeReferenceAt}
use Rattle.rule_values.specs.in_rule_definitions.Diagnostics.{Diagnostic, UnplacedType, UnsupportedValueType, IntCoercionError, UndefinedVariable, UndefinedEnumValue, UndefinedInputValue, RequiredField, UniqueInputValue, UniqueArgument, UndefinedArgument, RequiredArgument, UndefinedDirective, UnsupportedLocation, UniqueDirective}
use Rattle.rule_values.specs.in_rule_definitions.Words.{Present, Somewhere, AtSomeIndex, Lacks, Repeats}
use Rattle.rule_values.specs.in_rule_definitions.GivenValues.{entry_list, Wanted, wanted_name, entry_named, is_absent_or_null}
use Rattle.rule_values.specs.in_rule_definitions.Faults.{FaultAt, wrong}
use Rattle.rule_values.specs.in_rule_definitions.Judged.{Judged}
use Rattle.rule_values.specs.in_rule_definitions.Names.{defined_name}
use Rattle.rule_values.specs.in_rule_definitions.Values.{wanted_item, FitsForm, UniqueInputValueIn, UniqueInputValueInItems, UniqueInputValueInEntries, UndefinedVariableIn, UndefinedVariableInItems, UndefinedVariableInEntries, UnsupportedValueTypeAt, IntCoercionErrorAt, UndefinedEnumValueAt, UndefinedInputValueAt, RequiredFieldAt, FormBreaks, TypeBreaks, TypeBreaksItems, TypeBreaksEntries}
use Rattle.rule_arguments.specs.Moved.{untold_text, moved_value, moved_items, moved_entries, moved_placed, moved_entry, moved_wanted}
use Rattle.rule_arguments.proofs.Moves.{Moves, moves_no, moves_fault, moves_either, moves_where, moves_same, moves_present, moves_index, moves_repeats, moves_some, neither, same_index}

-- m takes the data of a fault to other places as p says
pub record Carries {P E Q F : Type 0} (p : P → Q) (m : Diagnostic P E → Diagnostic Q F) : Type 0 where
  pub unique_input_value : (n : List ℕ) (a b : P) → m (UniqueInputValue n a b) ≡ UniqueInputValue n (p a) (p b)
  pub undefined_variable : (n : List ℕ) → m (UndefinedVariable n) ≡ UndefinedVariable n
  pub unsupported_value_type : (v : ValueTree (Unit {0})) (ty : UnplacedType) (a : P) → m (UnsupportedValueType v ty a) ≡ UnsupportedValueType v ty (p a)
  pub int_coercion_error : (digits : List ℕ) → m (IntCoercionError digits) ≡ IntCoercionError digits
  pub undefined_enum_value : (v n : List ℕ) (a : P) → m (UndefinedEnumValue v n a) ≡ UndefinedEnumValue v n (p a)
  pub undefined_input_value : (v n : List ℕ) (a : P) → m (UndefinedInputValue v n a) ≡ UndefinedInputValue v n (p a)
  pub required_field : (n : List ℕ) (c : Coordinate) (ty : UnplacedType) (a : P) → m (RequiredField n c ty a) ≡ RequiredField n c ty (p a)
  pub unique_argument : (n : List ℕ) (a b : P) → m (UniqueArgument n a b) ≡ UniqueArgument n (p a) (p b)
  pub undefined_argument : (n : List ℕ) (c : Coordinate) (a : P) → m (UndefinedArgument n c a) ≡ UndefinedArgument n c (p a)
  pub required_argument : (n : List ℕ) (c : Coordinate) (ty : UnplacedType) (a : P) → m (RequiredArgument n c ty a) ≡ RequiredArgument n c ty (p a)
  pub undefined_directive : (n : List ℕ) → m (UndefinedDirective n) ≡ UndefinedDirective n
  pub unsupported_location : (n : List ℕ) (l : DirectiveLocation) (ls : List DirectiveLocation) (a : P) → m (UnsupportedLocation n l ls a) ≡ UnsupportedLocation n l ls (p a)
  pub unique_directive : (n : List ℕ) (a : P) → m (UniqueDirective n a) ≡ UniqueDirective n (p a)

-- the fault at the other places
abbrev pub moved_fault : {P E Q F : Type 0} (p : P → Q) (m : Diagnostic P E → Diagnostic Q F) → FaultAt P E → FaultAt Q F
moved_fault p m g = wrong (p g.place) (m g.breach)

abbrev pub IsMoved : {P E Q F : Type 0} (p : P → Q) (m : Diagnostic P E → Diagnostic Q F) → FaultAt P E → FaultAt Q F → Type 0
IsMoved p m g f = f ≡ moved_fault p m g

-- ---- what rules read of a value is there at the other places

module _ {P Q : Type 0} (p : P → Q) (none : Q) where
  mutual
    pub unplaced_moved : (v : ValueTree P) → unplaced_value (moved_value p none v) ≡ unplaced_value v
    unplaced_moved NullTree = refl
    unplaced_moved (EnumTree n) = refl
    unplaced_moved (VariableTree n) = refl
    unplaced_moved (StringTree s) = refl
    unplaced_moved (FloatTree s) = refl
    unplaced_moved (IntTree s) = refl
    unplaced_moved (BooleanTree b) = refl
    unplaced_moved (ListTree ts) = ap ListTree (unplaced_moved_items ts)
    unplaced_moved (ObjectTree es) = ap ObjectTree (unplaced_moved_entries es)

    unplaced_moved_items : (ts : ItemTrees P) → unplaced_items (moved_items p none ts) ≡ unplaced_items ts
    unplaced_moved_items no_items = refl
    unplaced_moved_items (item_then place v ts) = λ i. item_then tt (unplaced_moved v i) (unplaced_moved_items ts i)

    unplaced_moved_entries : (es : EntryTrees P) → unplaced_entries (moved_entries p none es) ≡ unplaced_entries es
    unplaced_moved_entries no_entries = refl
    unplaced_moved_entries (entry_then n place v es) = λ i. entry_then (unplaced_text n) tt (unplaced_moved v i) (unplaced_moved_entries es i)

  pub integer_moved : (v : ValueTree P) → integer_text (moved_value p none v) ≡ integer_text v
  integer_moved NullTree = refl
  integer_moved (EnumTree n) = refl
  integer_moved (VariableTree n) = refl
  integer_moved (StringTree s) = refl
  integer_moved (FloatTree s) = refl
  integer_moved (IntTree s) = refl
  integer_moved (BooleanTree b) = refl
  integer_moved (ListTree ts) = refl
  integer_moved (ObjectTree es) = refl

  pub null_moved : (v : ValueTree P) → is_null_value (moved_value p none v) ≡ is_null_value v
  null_moved NullTree = refl
  null_moved (EnumTree n) = refl
  null_moved (VariableTree n) = refl
  null_moved (StringTree s) = refl
  null_moved (FloatTree s) = refl
  null_moved (IntTree s) = refl
  null_moved (BooleanTree b) = refl
  null_moved (ListTree ts) = refl
  null_moved (ObjectTree es) = refl

  pub enum_moved : (v : ValueTree P) → enum_name (moved_value p none v) ≡ option_map (untold_text p none) (enum_name v)
  enum_moved NullTree = refl
  enum_moved (EnumTree n) = refl
  enum_moved (VariableTree n) = refl
  enum_moved (StringTree s) = refl
  enum_moved (FloatTree s) = refl
  enum_moved (IntTree s) = refl
  enum_moved (BooleanTree b) = refl
  enum_moved (ListTree ts) = refl
  enum_moved (ObjectTree es) = refl

  pub variable_moved : (v : ValueTree P) → variable_name (moved_value p none v) ≡ option_map (untold_text p none) (variable_name v)
  variable_moved NullTree = refl
  variable_moved (EnumTree n) = refl
  variable_moved (VariableTree n) = refl
  variable_moved (StringTree s) = refl
  variable_moved (FloatTree s) = refl
  variable_moved (IntTree s) = refl
  variable_moved (BooleanTree b) = refl
  variable_moved (ListTree ts) = refl
  variable_moved (ObjectTree es) = refl

  pub object_moved : (v : ValueTree P) → object_entries (moved_value p none v) ≡ option_map (moved_entries p none) (object_entries v)
  object_moved NullTree = refl
  object_moved (EnumTree n) = refl
  object_moved (VariableTree n) = refl
  object_moved (StringTree s) = refl
  object_moved (FloatTree s) = refl
  object_moved (IntTree s) = refl
  object_moved (BooleanTree b) = refl
  object_moved (ListTree ts) = refl
  object_moved (ObjectTree es) = refl

  pub entries_moved : (es : EntryTrees P) → entry_list (moved_entries p none es) ≡ map (moved_entry p none) (entry_list es)
  entries_moved no_entries = refl
  entries_moved (entry_then n place v es) = ap (λ l. moved_entry p none (n, record { it = v; place = place }) ∷ l) (entries_moved es)

-- the first that passes, among what others stand for
pub find_moved : {X Y : Type 0} (u : X → Y) (test : Y → Bool) (xs : List X) → find test (map u xs) ≡ option_map u (find (λ x. test (u x)) xs)
find_moved u test [] = refl
find_moved u test (x ∷ xs) = by (test (u x)) (find_moved u test xs)
  where
    by : (b : Bool) → find test (map u xs) ≡ option_map u (find (λ z. test (u z)) xs) → cond b (Some (u x)) (find test (map u xs)) ≡ option_map u (cond b (Some x) (find (λ z. test (u z)) xs))
    by true rest = refl
    by false rest = rest

module _ {P Q : Type 0} (p : P → Q) (none : Q) where
  pub absent_moved : (o : Option (Placed P (ValueTree P))) → is_absent_or_null (option_map (moved_placed p none) o) ≡ is_absent_or_null o
  absent_moved None = refl
  absent_moved (Some v) = null_moved p none v.it

  field_moved : (o : Option (Text P × Placed P (ValueTree P))) → option_map (λ e. e.1) (option_map (moved_entry p none) o) ≡ option_map (moved_placed p none) (option_map (λ e. e.1) o)
  field_moved None = refl
  field_moved (Some e) = refl

  -- what an object gives a field
  pub entry_absent_moved : (m : List ℕ) (es : EntryTrees P) → is_absent_or_null (entry_named m (moved_entries p none es)) ≡ is_absent_or_null (entry_named m es)
  entry_absent_moved m es =
      ap is_absent_or_null (
      ap (λ (l : List (Text Q × Placed Q (ValueTree Q))). option_map (λ (e : Text Q × Placed Q (ValueTree Q)). e.1) (find (λ (e : Text Q × Placed Q (ValueTree Q)). bytes_eq e.0.it m) l)) (entries_moved p none es)
      ∙ ap (λ (o : Option (Text Q × Placed Q (ValueTree Q))). option_map (λ (e : Text Q × Placed Q (ValueTree Q)). e.1) o) (find_moved (moved_entry p none) (λ (e : Text Q × Placed Q (ValueTree Q)). bytes_eq e.0.it m) (entry_list es))
      ∙ field_moved (find (λ e. bytes_eq e.0.it m) (entry_list es)))
      ∙ absent_moved (entry_named m es)

-- ---- the rules

module _ {P E Q F : Type 0} (p : P → Q) (none : Q) (m : Diagnostic P E → Diagnostic Q F) (carries : Carries p m) where
  abbrev pub Moved : (FaultAt P E → Type 0) → (FaultAt Q F → Type 0) → Type 0
  Moved R S = Moves (IsMoved p m) R S

  pub moves_wrong : (place : P) (b : Diagnostic P E) (c : Diagnostic Q F) → m b ≡ c → Moved (λ g. g ≡ wrong place b) (λ f. f ≡ wrong (p place) c)
  moves_wrong place b c e = moves_fault (moved_fault p m) (wrong place b) (wrong (p place) c) (ap (λ x. wrong (p place) x) e)

  pub keys_moved : (es : EntryTrees P) → Moved
      (λ g. Repeats (λ e. e.0.it) (entry_list es) (λ i first j later. g ≡ wrong later.0.place (UniqueInputValue later.0.it first.0.place later.0.place)))
      (λ f. Repeats (λ e. e.0.it) (entry_list (moved_entries p none es)) (λ i first j later. f ≡ wrong later.0.place (UniqueInputValue later.0.it first.0.place later.0.place)))
  keys_moved es =
      subst (λ l. Moved
      (λ g. Repeats (λ e. e.0.it) (entry_list es) (λ i first j later. g ≡ wrong later.0.place (UniqueInputValue later.0.it first.0.place later.0.place)))
      (λ f. Repeats (λ e. e.0.it) l (λ i first j later. f ≡ wrong later.0.place (UniqueInputValue later.0.it first.0.place later.0.place))))
      (sym (entries_moved p none es))
      (moves_repeats (IsMoved p m) (moved_entry p none) (λ e. e.0.it) (entry_list es)
      (λ i first j later g. g ≡ wrong later.0.place (UniqueInputValue later.0.it first.0.place later.0.place))
      (λ i first j later f. f ≡ wrong later.0.place (UniqueInputValue later.0.it first.0.place later.0.place))
      (λ i first j later. moves_wrong later.0.place _ _ (carries.unique_input_value later.0.it first.0.place later.0.place)))

  mutual
    pub unique_input_value_moved : (v : ValueTree P) → Moved (UniqueInputValueIn v) (UniqueInputValueIn (moved_value p none v))
    unique_input_value_moved NullTree = moves_no (IsMoved p m)
    unique_input_value_moved (EnumTree n) = moves_no (IsMoved p m)
    unique_input_value_moved (VariableTree n) = moves_no (IsMoved p m)
    unique_input_value_moved (StringTree s) = moves_no (IsMoved p m)
    unique_input_value_moved (FloatTree s) = moves_no (IsMoved p m)
    unique_input_value_moved (IntTree s) = moves_no (IsMoved p m)
    unique_input_value_moved (BooleanTree b) = moves_no (IsMoved p m)
    unique_input_value_moved (ListTree ts) = unique_items_moved ts
    unique_input_value_moved (ObjectTree es) = moves_either (IsMoved p m) (keys_moved es) (unique_entries_moved es)

    unique_items_moved : (ts : ItemTrees P) → Moved (UniqueInputValueInItems ts) (UniqueInputValueInItems (moved_items p none ts))
    unique_items_moved no_items = moves_no (IsMoved p m)
    unique_items_moved (item_then place v ts) = moves_either (IsMoved p m) (unique_input_value_moved v) (unique_items_moved ts)

    unique_entries_moved : (es : EntryTrees P) → Moved (UniqueInputValueInEntries es) (UniqueInputValueInEntries (moved_entries p none es))
    unique_entries_moved no_entries = moves_no (IsMoved p m)
    unique_entries_moved (entry_then n place v es) = moves_either (IsMoved p m) (unique_input_value_moved v) (unique_entries_moved es)

  no_variables : (n : List ℕ) → Lacks {X = Placed P (VariableDefinitionTree P)} defined_name [] n ↔ Lacks {X = Placed Q (VariableDefinitionTree Q)} defined_name [] n
  no_variables n = (λ h q. cc, λ h q. cc)

  mutual
    pub undefined_variable_moved : (place : P) (v : ValueTree P) → Moved (UndefinedVariableIn [] place v) (UndefinedVariableIn [] (p place) (moved_value p none v))
    undefined_variable_moved place NullTree = moves_no (IsMoved p m)
    undefined_variable_moved place (EnumTree n) = moves_no (IsMoved p m)
    undefined_variable_moved place (VariableTree n) = moves_where (IsMoved p m) (no_variables n.it) (moves_wrong place _ _ (carries.undefined_variable n.it))
    undefined_variable_moved place (StringTree s) = moves_no (IsMoved p m)
    undefined_variable_moved place (FloatTree s) = moves_no (IsMoved p m)
    undefined_variable_moved place (IntTree s) = moves_no (IsMoved p m)
    undefined_variable_moved place (BooleanTree b) = moves_no (IsMoved p m)
    undefined_variable_moved place (ListTree ts) = undefined_items_moved ts
    undefined_variable_moved place (ObjectTree es) = undefined_entries_moved es

    undefined_items_moved : (ts : ItemTrees P) → Moved (UndefinedVariableInItems [] ts) (UndefinedVariableInItems [] (moved_items p none ts))
    undefined_items_moved no_items = moves_no (IsMoved p m)
    undefined_items_moved (item_then place v ts) = moves_either (IsMoved p m) (undefined_variable_moved place v) (undefined_items_moved ts)

    undefined_entries_moved : (es : EntryTrees P) → Moved (UndefinedVariableInEntries [] es) (UndefinedVariableInEntries [] (moved_entries p none es))
    undefined_entries_moved no_entries = moves_no (IsMoved p m)
    undefined_entries_moved (entry_then n place v es) = moves_either (IsMoved p m) (undefined_variable_moved place v) (undefined_entries_moved es)

  -- ---- values against types

  module _ (at : Address → P) (s : Judged) where
    abbrev at' : Address → Q
    at' a = p (at a)

    fits_moved : (ty : Wanted P) (t : TypeLooks) (v : ValueTree P) → FitsForm s [] ty t v ↔ FitsForm s [] (moved_wanted p none ty) t (moved_value p none v)
    fits_moved ty t NullTree = (λ h. h, λ h. h)
    fits_moved ty t (EnumTree n) = (λ h. h, λ h. h)
    fits_moved ty t (VariableTree n) = (λ h x e. cc, λ h x e. cc)
    fits_moved ty t (StringTree x) = (λ h. h, λ h. h)
    fits_moved ty t (FloatTree x) = (λ h. h, λ h. h)
    fits_moved ty t (IntTree x) = (λ h. h, λ h. h)
    fits_moved ty t (BooleanTree b) = (λ h. h, λ h. h)
    fits_moved ty t (ListTree ts) = (λ h. h, λ h. h)
    fits_moved ty t (ObjectTree es) = (λ h. h, λ h. h)

    module _ (ty : Wanted P) (place : P) (v : ValueTree P) where
      unsupported_value_type_moved : Moved (UnsupportedValueTypeAt at s [] ty place v) (UnsupportedValueTypeAt at' s [] (moved_wanted p none ty) (p place) (moved_value p none v))
      unsupported_value_type_moved =
          moves_same (IsMoved p m) (s.type_named (wanted_name ty)) _ _ (λ t.
          moves_where (IsMoved p m) (neither (fits_moved ty t v))
          (moves_wrong place _ _ (carries.unsupported_value_type (unplaced_value v) ty.it ty.place ∙ ap (λ x. UnsupportedValueType x ty.it (p ty.place)) (sym (unplaced_moved p none v)))))

      int_coercion_error_moved : Moved (IntCoercionErrorAt at s [] ty place v) (IntCoercionErrorAt at' s [] (moved_wanted p none ty) (p place) (moved_value p none v))
      int_coercion_error_moved =
          moves_same (IsMoved p m) (s.type_named (wanted_name ty)) _ _ (λ t.
          moves_where (IsMoved p m) (λ h. h, λ h. h) (moves_where (IsMoved p m) (λ h. h, λ h. h)
          (subst (λ o. Moved
          (λ g. Present (integer_text v) (λ digits. (FitsSigned w32 (integer_value digits) → ⊥) × (g ≡ wrong place (IntCoercionError digits))))
          (λ f. Present o (λ digits. (FitsSigned w32 (integer_value digits) → ⊥) × (f ≡ wrong (p place) (IntCoercionError digits)))))
          (sym (integer_moved p none v))
          (moves_same (IsMoved p m) (integer_text v) _ _ (λ digits. moves_where (IsMoved p m) (λ h. h, λ h. h) (moves_wrong place _ _ (carries.int_coercion_error digits)))))))

      undefined_enum_value_moved : Moved (UndefinedEnumValueAt at s [] ty place v) (UndefinedEnumValueAt at' s [] (moved_wanted p none ty) (p place) (moved_value p none v))
      undefined_enum_value_moved =
          moves_same (IsMoved p m) (s.type_named (wanted_name ty)) _ _ (λ t.
          moves_where (IsMoved p m) (λ h. h, λ h. h)
          (subst (λ o. Moved
          (λ g. Present (enum_name v) (λ e. (t.value e.it ≡ None) × (g ≡ wrong place (UndefinedEnumValue e.it (wanted_name ty) (at (TypeAt (wanted_name ty)))))))
          (λ f. Present o (λ e. (t.value e.it ≡ None) × (f ≡ wrong (p place) (UndefinedEnumValue e.it (wanted_name ty) (at' (TypeAt (wanted_name ty))))))))
          (sym (enum_moved p none v))
          (moves_present (IsMoved p m) (untold_text p none) (enum_name v) _ _ (λ e. moves_where (IsMoved p m) (λ h. h, λ h. h)
          (moves_wrong place _ _ (carries.undefined_enum_value e.it (wanted_name ty) (at (TypeAt (wanted_name ty)))))))))

      first_unknown_moved : (t : TypeLooks) (es : EntryTrees P) → Moved
          (λ g. AtSomeIndex (entry_list es) (λ i e. (t.input e.0.it ≡ None) × ((AtSomeIndex (entry_list es) (λ k d. (k < i) × (t.input d.0.it ≡ None)) → ⊥)
          × (g ≡ wrong e.1.place (UndefinedInputValue e.0.it (wanted_name ty) (at (TypeAt (wanted_name ty))))))))
          (λ f. AtSomeIndex (entry_list (moved_entries p none es)) (λ i e. (t.input e.0.it ≡ None) × ((AtSomeIndex (entry_list (moved_entries p none es)) (λ k d. (k < i) × (t.input d.0.it ≡ None)) → ⊥)
          × (f ≡ wrong e.1.place (UndefinedInputValue e.0.it (wanted_name ty) (at' (TypeAt (wanted_name ty))))))))
      first_unknown_moved t es =
          subst (λ l. Moved
          (λ g. AtSomeIndex (entry_list es) (λ i e. (t.input e.0.it ≡ None) × ((AtSomeIndex (entry_list es) (λ k d. (k < i) × (t.input d.0.it ≡ None)) → ⊥)
          × (g ≡ wrong e.1.place (UndefinedInputValue e.0.it (wanted_name ty) (at (TypeAt (wanted_name ty))))))))
          (λ f. AtSomeIndex l (λ i e. (t.input e.0.it ≡ None) × ((AtSomeIndex l (λ k d. (k < i) × (t.input d.0.it ≡ None)) → ⊥)
          × (f ≡ wrong e.1.place (UndefinedInputValue e.0.it (wanted_name ty) (at' (TypeAt (wanted_name ty)))))))))
          (sym (entries_moved p none es))
          (moves_index (IsMoved p m) (moved_entry p none) (entry_list es) _ _ (λ i e.
          moves_where (IsMoved p m) (λ h. h, λ h. h)
          (moves_where (IsMoved p m) (neither (same_index (moved_entry p none) (entry_list es) _ _ (λ k d. (λ h. h, λ h. h))))
          (moves_wrong e.1.place _ _ (carries.undefined_input_value e.0.it (wanted_name ty) (at (TypeAt (wanted_name ty))))))))

      undefined_input_value_moved : Moved (UndefinedInputValueAt at s [] ty place v) (UndefinedInputValueAt at' s [] (moved_wanted p none ty) (p place) (moved_value p none v))
      undefined_input_value_moved =
          moves_same (IsMoved p m) (s.type_named (wanted_name ty)) _ _ (λ t.
          moves_where (IsMoved p m) (λ h. h, λ h. h)
          (subst (λ o. Moved
          (λ g. Present (object_entries v) (λ es. AtSomeIndex (entry_list es) (λ i e. (t.input e.0.it ≡ None) × ((AtSomeIndex (entry_list es) (λ k d. (k < i) × (t.input d.0.it ≡ None)) → ⊥)
          × (g ≡ wrong e.1.place (UndefinedInputValue e.0.it (wanted_name ty) (at (TypeAt (wanted_name ty)))))))))
          (λ f. Present o (λ es. AtSomeIndex (entry_list es) (λ i e. (t.input e.0.it ≡ None) × ((AtSomeIndex (entry_list es) (λ k d. (k < i) × (t.input d.0.it ≡ None)) → ⊥)
          × (f ≡ wrong e.1.place (UndefinedInputValue e.0.it (wanted_name ty) (at' (TypeAt (wanted_name ty))))))))))
          (sym (object_moved p none v))
          (moves_present (IsMoved p m) (moved_entries p none) (object_entries v) _ _ (λ es. first_unknown_moved t es))))

      required_field_moved : Moved (RequiredFieldAt at s [] ty place v) (RequiredFieldAt at' s [] (moved_wanted p none ty) (p place) (moved_value p none v))
      required_field_moved =
          moves_same (IsMoved p m) (s.type_named (wanted_name ty)) _ _ (λ t.
          moves_where (IsMoved p m) (λ h. h, λ h. h)
          (subst (λ o. Moved
          (λ g. Present (object_entries v) (λ es. Somewhere t.input (λ k f. (is_required_input f ≡ true) × ((is_absent_or_null (entry_named k es) ≡ true)
          × (g ≡ wrong place (RequiredField k (OfAttribute (wanted_name ty) k) f.ty.it (at (InputAt (wanted_name ty) k))))))))
          (λ y. Present o (λ es. Somewhere t.input (λ k f. (is_required_input f ≡ true) × ((is_absent_or_null (entry_named k es) ≡ true)
          × (y ≡ wrong (p place) (RequiredField k (OfAttribute (wanted_name ty) k) f.ty.it (at' (InputAt (wanted_name ty) k)))))))))
          (sym (object_moved p none v))
          (moves_present (IsMoved p m) (moved_entries p none) (object_entries v) _ _ (λ es.
          moves_some (IsMoved p m) _ _ (λ k. moves_same (IsMoved p m) (t.input k) _ _ (λ f.
          moves_where (IsMoved p m) (λ h. h, λ h. h)
          (moves_where (IsMoved p m) (λ h. entry_absent_moved p none k es ∙ h, λ h. sym (entry_absent_moved p none k es) ∙ h)
          (moves_wrong place _ _ (carries.required_field k (OfAttribute (wanted_name ty) k) f.ty.it (at (InputAt (wanted_name ty) k)))))))))))

      form_moved : Moved (FormBreaks at s [] ty place v) (FormBreaks at' s [] (moved_wanted p none ty) (p place) (moved_value p none v))
      form_moved =
          moves_either (IsMoved p m) unsupported_value_type_moved
          (moves_either (IsMoved p m) int_coercion_error_moved
          (moves_either (IsMoved p m) undefined_enum_value_moved
          (moves_either (IsMoved p m) undefined_input_value_moved required_field_moved)))

    mutual
      pub type_breaks_moved : (ty : Wanted P) (place : P) (v : ValueTree P) → Moved (TypeBreaks at s [] ty place v) (TypeBreaks at' s [] (moved_wanted p none ty) (p place) (moved_value p none v))
      type_breaks_moved ty place NullTree = form_moved ty place NullTree
      type_breaks_moved ty place (EnumTree n) = form_moved ty place (EnumTree n)
      type_breaks_moved ty place (VariableTree n) = form_moved ty place (VariableTree n)
      type_breaks_moved ty place (StringTree x) = form_moved ty place (StringTree x)
      type_breaks_moved ty place (FloatTree x) = form_moved ty place (FloatTree x)
      type_breaks_moved ty place (IntTree x) = form_moved ty place (IntTree x)
      type_breaks_moved ty place (BooleanTree b) = form_moved ty place (BooleanTree b)
      type_breaks_moved ty place (ListTree ts) =
          moves_either (IsMoved p m) (form_moved ty place (ListTree ts))
          (moves_where (IsMoved p m) (λ h. h, λ h. h) (type_items_moved (wanted_item ty) ts))
      type_breaks_moved ty place (ObjectTree es) =
          moves_either (IsMoved p m) (form_moved ty place (ObjectTree es))
          (moves_same (IsMoved p m) (s.type_named (wanted_name ty)) _ _ (λ t. moves_where (IsMoved p m) (λ h. h, λ h. h) (type_entries_moved (wanted_name ty) t [] es)))

      type_items_moved : (ty : Wanted P) (ts : ItemTrees P) → Moved (TypeBreaksItems at s [] ty ts) (TypeBreaksItems at' s [] (moved_wanted p none ty) (moved_items p none ts))
      type_items_moved ty no_items = moves_no (IsMoved p m)
      type_items_moved ty (item_then place v ts) = moves_either (IsMoved p m) (type_breaks_moved ty place v) (type_items_moved ty ts)

      type_entries_moved : (n : List ℕ) (t : TypeLooks) (before : List (List ℕ)) (es : EntryTrees P) → Moved (TypeBreaksEntries at s [] n t before es) (TypeBreaksEntries at' s [] n t before (moved_entries p none es))
      type_entries_moved n t before no_entries = moves_no (IsMoved p m)
      type_entries_moved n t before (entry_then k place v es) =
          moves_either (IsMoved p m)
          (moves_where (IsMoved p m) (λ h. h, λ h. h) (moves_same (IsMoved p m) (t.input k.it) _ _ (λ f.
          type_breaks_moved (record { it = f.ty.it; place = at (TypeReferenceAt (InputAt n k.it)) }) place v)))
          (type_entries_moved n t (k.it ∷ before) es)
