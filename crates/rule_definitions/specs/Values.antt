-- Rules on values (GraphQL, October 2021, sections 3.5 to 3.10, 5.6 and 5.8.3), in a schema or in a document: a value has a P for each
-- place in it, `at` gives one for each address of the schema, and variables are those of an operation, or none.
use Rattle.std.specs.Prelude.{◌≡◌, ℕ, ◌<◌, true, false, List, [], ◌∷◌, codes, Contains, find, bytes_eq, None, Some, FitsSigned, ◌⊎◌}
use Rattle.std.proofs.Common.{w32}
use Rattle.graphql_names.specs.Placed.{Placed}
use Rattle.tree_literals.specs.TypeQueries.{has_mark, is_list_type, item_type_of, inner_name}
use Rattle.tree_literals.specs.NumberSyntax.{integer_value}
use Rattle.tree_literals.specs.ValueTree.{ValueTree, ItemTrees, EntryTrees, NullTree, EnumTree, VariableTree, StringTree, FloatTree, IntTree, BooleanTree, ListTree, ObjectTree, no_items, item_then, no_entries, entry_then, unplaced_value}
use Rattle.tree_literals.specs.ValueQueries.{enum_name, integer_text, object_entries}
use Rattle.tree_directives.specs.DirectiveQueries.{is_required_input}
use Rattle.schema_types.specs.in_operations.OperationTree.{VariableDefinitionTree}
use Rattle.schema_coordinates.specs.Coordinate.{OfAttribute}
use Rattle.schema_types.specs.Looks.{TypeLooks}
use Rattle.schema_types.specs.Addresses.{Address, TypeAt, InputAt, TypeReferenceAt}
use Rattle.schema_types.specs.declared.type_kind.TypeKind.TheVariants as kind
use Rattle.rule_definitions.specs.Diagnostics.{UnsupportedValueType, IntCoercionError, UndefinedVariable, UndefinedEnumValue, UndefinedInputValue, RequiredField, UniqueInputValue}
use Rattle.rule_definitions.specs.Words.{Present, Somewhere, AtSomeIndex, Lacks, Repeats}
use Rattle.rule_definitions.specs.GivenValues.{Wanted, wanted_name, Variables, entry_list, entry_named, is_absent_or_null, IsScalarAmong}
use Rattle.rule_definitions.specs.Faults.{FaultAt, wrong}
use Rattle.rule_definitions.specs.Judged.{Judged, IsBuiltInScalar, IsCustomScalar}
use Rattle.rule_definitions.specs.Names.{defined_name}

-- the expected type of the items of a list
abbrev pub wanted_item : {P : Type 0} → Wanted P → Wanted P
wanted_item ty = record { it = item_type_of ty.it; place = ty.place }

module _ {P E : Type 0} where
  -- UniqueInputValue: an object value is valid only if its keys differ (section 5.6.3); at any depth of a value
  abbrev mutual
    pub UniqueInputValueIn : ValueTree P → FaultAt P E → Type 0
    UniqueInputValueIn (ListTree ts) fault = UniqueInputValueInItems ts fault
    UniqueInputValueIn (ObjectTree es) fault = Repeats (λ e. e.0.it) (entry_list es) (λ i first j later.
        fault ≡ wrong later.0.place (UniqueInputValue later.0.it first.0.place later.0.place)) ⊎ UniqueInputValueInEntries es fault
    UniqueInputValueIn v fault = ⊥

    pub UniqueInputValueInItems : ItemTrees P → FaultAt P E → Type 0
    UniqueInputValueInItems no_items fault = ⊥
    UniqueInputValueInItems (item_then p v ts) fault = UniqueInputValueIn v fault ⊎ UniqueInputValueInItems ts fault

    pub UniqueInputValueInEntries : EntryTrees P → FaultAt P E → Type 0
    UniqueInputValueInEntries no_entries fault = ⊥
    UniqueInputValueInEntries (entry_then n p v es) fault = UniqueInputValueIn v fault ⊎ UniqueInputValueInEntries es fault

module _ {P E : Type 0} (variables : Variables P) where
  -- UndefinedVariable: a use of a variable is valid only if the operation defines the variable (section 5.8.3); at any
  -- depth of a value
  abbrev mutual
    pub UndefinedVariableIn : P → ValueTree P → FaultAt P E → Type 0
    UndefinedVariableIn p (VariableTree n) fault = Lacks defined_name variables n.it × (fault ≡ wrong p (UndefinedVariable n.it))
    UndefinedVariableIn p (ListTree ts) fault = UndefinedVariableInItems ts fault
    UndefinedVariableIn p (ObjectTree es) fault = UndefinedVariableInEntries es fault
    UndefinedVariableIn p v fault = ⊥

    pub UndefinedVariableInItems : ItemTrees P → FaultAt P E → Type 0
    UndefinedVariableInItems no_items fault = ⊥
    UndefinedVariableInItems (item_then p v ts) fault = UndefinedVariableIn p v fault ⊎ UndefinedVariableInItems ts fault

    pub UndefinedVariableInEntries : EntryTrees P → FaultAt P E → Type 0
    UndefinedVariableInEntries no_entries fault = ⊥
    UndefinedVariableInEntries (entry_then n p v es) fault = UndefinedVariableIn p v fault ⊎ UndefinedVariableInEntries es fault

-- ---- one value against the type it is given for, ignoring what is inside a list or an object

module _ {P : Type 0} (s : Judged) (variables : Variables P) (ty : Wanted P) (t : TypeLooks) where
  -- the form of the value fits the type, whose inner type is t
  abbrev pub FitsForm : ValueTree P → Type 0
  FitsForm NullTree = has_mark ty.it ≡ false
  FitsForm (VariableTree v) = (x : Placed P (VariableDefinitionTree P))
      → find (λ d. bytes_eq (defined_name d) v.it) variables ≡ Some x → (inner_name x.it.ty.it).it ≡ wanted_name ty
  FitsForm (IntTree digits) = IsScalarAmong s (codes "Int" ∷ codes "Float" ∷ codes "ID" ∷ []) (wanted_name ty) t
  FitsForm (FloatTree digits) = IsScalarAmong s (codes "Float" ∷ []) (wanted_name ty) t
  FitsForm (StringTree text) = IsScalarAmong s (codes "String" ∷ codes "ID" ∷ []) (wanted_name ty) t
  FitsForm (BooleanTree b) = IsScalarAmong s (codes "Boolean" ∷ []) (wanted_name ty) t
  FitsForm (EnumTree n) = (t.kind ≡ kind.Enum) ⊎ IsCustomScalar s (wanted_name ty) t
  FitsForm (ListTree items) = (is_list_type ty.it ≡ true) ⊎ IsCustomScalar s (wanted_name ty) t
  FitsForm (ObjectTree es) = (t.kind ≡ kind.InputObject) ⊎ IsCustomScalar s (wanted_name ty) t

module _ {P E : Type 0} (at : Address → P) (s : Judged) (variables : Variables P) where
  module _ (ty : Wanted P) (place : P) (v : ValueTree P) (fault : FaultAt P E) where
    -- UnsupportedValueType: a value is valid only if its form fits the type that is expected (section 5.6.1); told only if
    -- that type is there
    abbrev pub UnsupportedValueTypeAt : Type 0
    UnsupportedValueTypeAt = Present (s.type_named (wanted_name ty)) (λ t. (FitsForm s variables ty t v → ⊥)
        × (fault ≡ wrong place (UnsupportedValueType (unplaced_value v) ty.it ty.place)))

    -- IntCoercionError: an integer for Int is valid only if it fits 32 bits (section 3.5.1)
    abbrev pub IntCoercionErrorAt : Type 0
    IntCoercionErrorAt = Present (s.type_named (wanted_name ty)) (λ t. IsBuiltInScalar s (wanted_name ty) t × ((wanted_name ty ≡ codes "Int")
        × Present (integer_text v) (λ digits. (FitsSigned w32 (integer_value digits) → ⊥) × (fault ≡ wrong place (IntCoercionError digits)))))

    -- UndefinedEnumValue: an enum value is valid only if the enum type has it (section 3.9)
    abbrev pub UndefinedEnumValueAt : Type 0
    UndefinedEnumValueAt = Present (s.type_named (wanted_name ty)) (λ t. (t.kind ≡ kind.Enum) × Present (enum_name v) (λ e.
        (t.value e.it ≡ None) × (fault ≡ wrong place (UndefinedEnumValue e.it (wanted_name ty) (at (TypeAt (wanted_name ty)))))))

    -- UndefinedInputValue: an object value is valid only if the input object type has a field for each key (section 5.6.2);
    -- the first key without one is told
    abbrev pub UndefinedInputValueAt : Type 0
    UndefinedInputValueAt = Present (s.type_named (wanted_name ty)) (λ t. (t.kind ≡ kind.InputObject) × Present (object_entries v) (λ es.
        AtSomeIndex (entry_list es) (λ i e. (t.input e.0.it ≡ None) × ((AtSomeIndex (entry_list es) (λ k d. (k < i) × (t.input d.0.it ≡ None)) → ⊥)
        × (fault ≡ wrong e.1.place (UndefinedInputValue e.0.it (wanted_name ty) (at (TypeAt (wanted_name ty)))))))))

    -- RequiredField: an object value is valid only if each required field is given, and not as null (section 5.6.4)
    abbrev pub RequiredFieldAt : Type 0
    RequiredFieldAt = Present (s.type_named (wanted_name ty)) (λ t. (t.kind ≡ kind.InputObject) × Present (object_entries v) (λ es.
        Somewhere t.input (λ m f. (is_required_input f ≡ true) × ((is_absent_or_null (entry_named m es) ≡ true)
        × (fault ≡ wrong place (RequiredField m (OfAttribute (wanted_name ty) m) f.ty.it (at (InputAt (wanted_name ty) m))))))))

    abbrev pub FormBreaks : Type 0
    FormBreaks = UnsupportedValueTypeAt ⊎ (IntCoercionErrorAt ⊎ (UndefinedEnumValueAt ⊎ (UndefinedInputValueAt ⊎ RequiredFieldAt)))

  -- ---- a whole value

  abbrev mutual
    -- a rule is broken by the value, by an item of a list that fits, against the type of items, or by the value of an input object's field,
    -- against the field's type
    pub TypeBreaks : Wanted P → P → ValueTree P → FaultAt P E → Type 0
    TypeBreaks ty p (ListTree ts) fault = FormBreaks ty p (ListTree ts) fault
        ⊎ (Present (s.type_named (wanted_name ty)) (λ t. FitsForm s variables ty t (ListTree ts)) × TypeBreaksItems (wanted_item ty) ts fault)
    TypeBreaks ty p (ObjectTree es) fault = FormBreaks ty p (ObjectTree es) fault
        ⊎ Present (s.type_named (wanted_name ty)) (λ t. (t.kind ≡ kind.InputObject) × TypeBreaksEntries (wanted_name ty) t [] es fault)
    TypeBreaks ty p v fault = FormBreaks ty p v fault

    pub TypeBreaksItems : Wanted P → ItemTrees P → FaultAt P E → Type 0
    TypeBreaksItems ty no_items fault = ⊥
    TypeBreaksItems ty (item_then p v ts) fault = TypeBreaks ty p v fault ⊎ TypeBreaksItems ty ts fault

    -- the entries come after entries with the keys `before`: the first entry of each key counts
    pub TypeBreaksEntries : List ℕ → TypeLooks → List (List ℕ) → EntryTrees P → FaultAt P E → Type 0
    TypeBreaksEntries n t before no_entries fault = ⊥
    TypeBreaksEntries n t before (entry_then k p v es) fault =
        ((Contains before k.it → ⊥) × Present (t.input k.it) (λ f. TypeBreaks (record { it = f.ty.it; place = at (TypeReferenceAt (InputAt n k.it)) }) p v fault))
        ⊎ TypeBreaksEntries n t (k.it ∷ before) es fault

  -- a rule on values is broken, with this fault
  abbrev pub ValueBreaks : Wanted P → P → ValueTree P → FaultAt P E → Type 0
  ValueBreaks ty p v fault = TypeBreaks ty p v fault ⊎ UndefinedVariableIn variables p v fault

-- no rule on values is broken: the type accepts the value, which `Accepts` says by cases on the value
abbrev pub KeepsValueRules : {P : Type 0} → (Address → P) → Judged → Variables P → Wanted P → P → ValueTree P → Type 0
KeepsValueRules {P} at s variables ty p v = (fault : FaultAt P (List P)) → ValueBreaks at s variables ty p v fault → ⊥
