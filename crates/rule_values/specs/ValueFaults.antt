-- Private: leads to `TypeBreaks`. The faults of a value against a type as a list, in the order in which they are told. `ty` is the expected type, `at_type` the place of the reference to it, and `t` its inner type in the schema.
use Rattle.std.specs.Prelude.{ℕ, ℤ, pos, negsuc, ◌^◌, ltb, Bool, true, not, ◌&&◌, ◌||◌, is_none, List, [], ◌∷◌, ◌++◌, codes, find, bytes_eq, Option, None, Some, if◌then◌else◌}
use Rattle.std.specs.List.{list_any}
use Rattle.std.specs.Option.{option_map_or}
use Rattle.graphql_names.specs.Placed.{Placed, Place}
use Rattle.graphql_names.specs.Places.{is_built_in}
use Rattle.tree_literals.specs.NumberSyntax.{integer_value}
use Rattle.tree_literals.specs.TypeTree.{TypeTree, unplaced_type}
use Rattle.tree_literals.specs.TypeQueries.{has_mark, is_list_type, item_type_of, inner_name}
use Rattle.tree_literals.specs.ValueTree.{ValueTree, ItemTrees, EntryTrees, NullTree, EnumTree, VariableTree, StringTree, FloatTree, IntTree, BooleanTree, ListTree, ObjectTree, no_items, item_then, no_entries, entry_then, unplaced_value}
use Rattle.tree_literals.specs.ValueQueries.{is_null_value, enum_name, integer_text, object_entries}
use Rattle.tree_directives.specs.DirectiveTree.{InputValueTree}
use Rattle.tree_directives.specs.DirectiveQueries.{is_required_input}
use Rattle.schema_components.specs.Names.{Entries}
use Rattle.schema_components.specs.Given.{Given}
use Rattle.graphql_schema.specs.in_schema_types.SchemaTree.{SchemaType, SchemaTree, same_kind}
use Rattle.graphql_schema.specs.in_schema_types.Addresses.{under, type_at}
use Rattle.graphql_schema.specs.in_schema_types.declared.type_kind.TypeKind.TheVariants as kind
use Rattle.schema_coordinates.specs.Coordinate.{OfAttribute}
use Rattle.fault_data.specs.in_rule_definitions.Diagnostics.{UnsupportedValueType, IntCoercionError, UndefinedEnumValue, UndefinedInputValue, RequiredField}
use Rattle.fault_data.specs.in_rule_definitions.Faults.{wrong}
use Rattle.fault_data.specs.in_rule_definitions.Judged.{is_built_in_scalar}
use Rattle.fault_data.specs.in_rule_definitions.Names.{defined_name}
use Rattle.fault_data.specs.in_rule_definitions.GivenValues.{Variables}
use Rattle.fault_data.specs.in_rule_definitions.PlacedFaults.{PlacedFault}

-- the name is among these
abbrev pub is_key : List ℕ → List (List ℕ) → Bool
is_key n ns = list_any (λ m. bytes_eq m n) ns

-- the integer fits 32 bits, with its sign
abbrev pub fits_32_bits : ℤ → Bool
fits_32_bits (pos n) = ltb n (2 ^ 31)
fits_32_bits (negsuc n) = ltb n (2 ^ 31)

-- ---- scalars

abbrev pub is_custom_scalar : SchemaType Place → Bool
is_custom_scalar t = same_kind t.kind kind.Scalar && not (is_built_in t.place)

-- a custom scalar, or a built-in scalar if `named` is true
abbrev pub is_scalar_so : Bool → SchemaType Place → Bool
is_scalar_so named t = same_kind t.kind kind.Scalar && (not (is_built_in t.place) || named)

abbrev pub takes_integers : List ℕ → Bool
takes_integers n = bytes_eq n (codes "Int") || (bytes_eq n (codes "Float") || bytes_eq n (codes "ID"))

abbrev pub takes_floats : List ℕ → Bool
takes_floats n = bytes_eq n (codes "Float")

abbrev pub takes_strings : List ℕ → Bool
takes_strings n = bytes_eq n (codes "String") || bytes_eq n (codes "ID")

abbrev pub takes_booleans : List ℕ → Bool
takes_booleans n = bytes_eq n (codes "Boolean")

-- ---- entries of an object

-- the value of the first entry with that key
abbrev pub given_entry : List ℕ → EntryTrees Place → Option (Placed Place (ValueTree Place))
given_entry m no_entries = None
given_entry m (entry_then n p v es) = if bytes_eq n.it m then Some (record { it = v; place = p }) else given_entry m es

-- there is no entry with that key, or its value is null
abbrev pub is_missing_entry : List ℕ → EntryTrees Place → Bool
is_missing_entry m es = option_map_or (λ v. is_null_value v.it) (given_entry m es) true

-- f of each entry, by name: the first entry of each name counts
abbrev pub each_first : {V Y : Type 0} → (List ℕ → V → List Y) → List (List ℕ) → Entries V → List Y
each_first f before [] = []
each_first f before (e ∷ es) = (if is_key e.0 before then [] else f e.0 e.1) ++ each_first f (e.0 ∷ before) es

abbrev pub each_entry : {V Y : Type 0} → (List ℕ → V → List Y) → Entries V → List Y
each_entry f [] = []
each_entry f (e ∷ es) = f e.0 e.1 ++ each_entry f es

module _ (variables : Variables Place) where
  -- ---- one value, ignoring what is inside a list or an object

  -- the variable, if it is defined, has that inner type
  abbrev pub variable_fits : List ℕ → List ℕ → Bool
  variable_fits n type = option_map_or (λ d. bytes_eq (inner_name d.it.ty.it).it type) (find (λ d. bytes_eq (defined_name d) n) variables) true

  module _ (ty : TypeTree Place) (t : SchemaType Place) where
    -- the form of the value fits the type
    abbrev pub fits_form : ValueTree Place → Bool
    fits_form NullTree = not (has_mark ty)
    fits_form (VariableTree v) = variable_fits v.it (inner_name ty).it
    fits_form (IntTree digits) = is_scalar_so (takes_integers (inner_name ty).it) t
    fits_form (FloatTree digits) = is_scalar_so (takes_floats (inner_name ty).it) t
    fits_form (StringTree text) = is_scalar_so (takes_strings (inner_name ty).it) t
    fits_form (BooleanTree b) = is_scalar_so (takes_booleans (inner_name ty).it) t
    fits_form (EnumTree n) = same_kind t.kind kind.Enum || is_custom_scalar t
    fits_form (ListTree items) = is_list_type ty || is_custom_scalar t
    fits_form (ObjectTree es) = same_kind t.kind kind.InputObject || is_custom_scalar t

  abbrev pub unsupported_value_type : TypeTree Place → Place → SchemaType Place → Place → ValueTree Place → List PlacedFault
  unsupported_value_type ty at_type t p v = if fits_form ty t v then [] else wrong p (UnsupportedValueType (unplaced_value v) (unplaced_type ty) at_type) ∷ []

abbrev pub int_coercion_error : List ℕ → SchemaType Place → Place → ValueTree Place → List PlacedFault
int_coercion_error n t p v = if is_built_in_scalar t && bytes_eq n (codes "Int")
    then option_map_or (λ digits. if fits_32_bits (integer_value digits) then [] else wrong p (IntCoercionError digits) ∷ []) (integer_text v) [] else []

abbrev pub undefined_enum_value : List ℕ → SchemaType Place → Place → ValueTree Place → List PlacedFault
undefined_enum_value n t p v = if same_kind t.kind kind.Enum
    then option_map_or (λ e. if is_none (under e.it t.values) then wrong p (UndefinedEnumValue e.it n t.place) ∷ [] else []) (enum_name v) [] else []

-- the fault of the first key without a field
abbrev pub undefined_key : List ℕ → SchemaType Place → EntryTrees Place → List PlacedFault
undefined_key n t no_entries = []
undefined_key n t (entry_then k p v es) = if is_none (under k.it t.inputs) then wrong p (UndefinedInputValue k.it n t.place) ∷ [] else undefined_key n t es

abbrev pub undefined_input_value : List ℕ → SchemaType Place → ValueTree Place → List PlacedFault
undefined_input_value n t v = if same_kind t.kind kind.InputObject then option_map_or (λ es. undefined_key n t es) (object_entries v) [] else []

-- the fault of a field of an input object, given whether it is missing
abbrev pub required_if : Bool → List ℕ → Place → List ℕ → Given Place (Placed Place (InputValueTree Place)) → List PlacedFault
required_if missing n p m f = if is_required_input f.it.it && missing
    then wrong p (RequiredField m (OfAttribute n m) (unplaced_type f.it.it.ty.it) f.it.place) ∷ [] else []

-- the fault of a field of an input object, given the entries
abbrev pub required_field : List ℕ → Place → EntryTrees Place → List ℕ → Given Place (Placed Place (InputValueTree Place)) → List PlacedFault
required_field n p es m f = required_if (is_missing_entry m es) n p m f

abbrev pub required_fields : List ℕ → SchemaType Place → Place → ValueTree Place → List PlacedFault
required_fields n t p v = if same_kind t.kind kind.InputObject then option_map_or (λ es. each_first (required_field n p es) [] t.inputs) (object_entries v) [] else []

-- ---- whole values

module _ (variables : Variables Place) where
  abbrev pub form_faults : TypeTree Place → Place → SchemaType Place → Place → ValueTree Place → List PlacedFault
  form_faults ty at_type t p v =
      unsupported_value_type variables ty at_type t p v
      ++ (int_coercion_error (inner_name ty).it t p v
      ++ (undefined_enum_value (inner_name ty).it t p v
      ++ (undefined_input_value (inner_name ty).it t v
      ++ required_fields (inner_name ty).it t p v)))

module _ (s : SchemaTree Place) (variables : Variables Place) where
  -- if the inner type is defined, the faults of the value's form, and those that `inner` gives of what is inside the value
  abbrev pub faults_with : (SchemaType Place → List PlacedFault) → TypeTree Place → Place → Place → ValueTree Place → List PlacedFault
  faults_with inner ty at_type p v = option_map_or (λ t. form_faults variables ty at_type t p v ++ inner t) (type_at s (inner_name ty).it) []

  abbrev mutual
    -- the faults of what is inside a list or an object
    pub inner_faults : TypeTree Place → Place → SchemaType Place → ValueTree Place → List PlacedFault
    inner_faults ty at_type t (ListTree ts) = if fits_form variables ty t (ListTree ts) then item_faults (item_type_of ty) at_type ts else []
    inner_faults ty at_type t (ObjectTree es) = if same_kind t.kind kind.InputObject then entry_faults t [] es else []
    inner_faults ty at_type t v = []

    pub item_faults : TypeTree Place → Place → ItemTrees Place → List PlacedFault
    item_faults ty at_type no_items = []
    item_faults ty at_type (item_then p v ts) = faults_with (λ t. inner_faults ty at_type t v) ty at_type p v ++ item_faults ty at_type ts

    -- the entries come after entries with the keys `before`: the first entry of each key counts
    pub entry_faults : SchemaType Place → List (List ℕ) → EntryTrees Place → List PlacedFault
    entry_faults t before no_entries = []
    entry_faults t before (entry_then k p v es) =
        (if is_key k.it before then [] else option_map_or (λ f. faults_with (λ u. inner_faults f.it.it.ty.it f.it.it.ty.place u v) f.it.it.ty.it f.it.it.ty.place p v) (under k.it t.inputs) [])
        ++ entry_faults t (before ++ k.it ∷ []) es

  -- the faults of a value against a type
  abbrev pub type_faults : TypeTree Place → Place → Place → ValueTree Place → List PlacedFault
  type_faults ty at_type p v = faults_with (λ t. inner_faults ty at_type t v) ty at_type p v

  -- the faults of the value under a key against the type of the field of that name, if there is one
  abbrev pub field_faults : SchemaType Place → List ℕ → Place → ValueTree Place → List PlacedFault
  field_faults t k p v = option_map_or (λ f. type_faults f.it.it.ty.it f.it.it.ty.place p v) (under k t.inputs) []
