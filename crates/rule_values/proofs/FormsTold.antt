-- The lists of faults of one value tell the rules on its form.
use Rattle.std.proofs.Common.{◌≡◌, ℕ, ℤ, pos, negsuc, ◌<◌, ◌^◌, Bool, true, false, not, ◌&&◌, ◌||◌, List, [], ◌∷◌, ◌++◌, codes, find, bytes_eq, Contains, is_none, Option, None, Some, option_map, refl, sym, ap, subst, ◌∙◌, inl, inr, ◌⊎◌, ◌↔◌, FitsSigned, if◌then◌else◌, w32}
use Rattle.std.specs.Bool.{Decides}
use Rattle.std.specs.Option.{option_map_or}
use Rattle.std.proofs.lemmas.Bool.Decides.{Decides-ltb}
use Rattle.std.proofs.lemmas.Slice.Eq.{bytes_eq-Decides}
use Rattle.graphql_names.specs.Placed.{Placed, Place, Text, unplaced_node}
use Rattle.graphql_names.specs.Places.{is_built_in}
use Rattle.tree_literals.specs.NumberSyntax.{integer_value}
use Rattle.tree_literals.specs.TypeTree.{TypeTree, unplaced_type}
use Rattle.tree_literals.specs.TypeQueries.{has_mark, is_list_type, inner_name}
use Rattle.tree_literals.specs.ValueTree.{ValueTree, EntryTrees, NullTree, EnumTree, VariableTree, StringTree, FloatTree, IntTree, BooleanTree, ListTree, ObjectTree, no_entries, entry_then, unplaced_value}
use Rattle.tree_literals.specs.ValueQueries.{enum_name, integer_text, object_entries}
use Rattle.tree_directives.specs.DirectiveTree.{InputValueTree, unplaced_input_value}
use Rattle.tree_directives.specs.DirectiveQueries.{is_required_input}
use Rattle.tree_operations.specs.OperationTree.{VariableDefinitionTree}
use Rattle.schema_components.specs.Names.{Entries}
use Rattle.schema_components.specs.Given.{Given, plain_given}
use Rattle.schema_types.proofs.in_operations.Decided.{through, pair_decides}
use Rattle.graphql_schema.specs.in_schema_types.SchemaTree.{SchemaType, SchemaTree, same_kind}
use Rattle.graphql_schema.specs.in_schema_types.Plain.{plain_type}
use Rattle.graphql_schema.specs.in_schema_types.Looks.{TypeLooks, type_looks}
use Rattle.graphql_schema.specs.in_schema_types.Addresses.{Address, under, type_at, place_at, TypeAt, InputAt}
use Rattle.graphql_schema.specs.in_schema_types.declared.type_kind.TypeKind.TheVariants as kind
use Rattle.schema_coordinates.specs.Coordinate.{OfAttribute}
use Rattle.fault_data.specs.in_rule_definitions.Diagnostics.{UnsupportedValueType, IntCoercionError, UndefinedEnumValue, UndefinedInputValue, RequiredField}
use Rattle.fault_data.specs.in_rule_definitions.Words.{Present, Somewhere, AtSomeIndex}
use Rattle.fault_data.specs.in_rule_definitions.GivenValues.{entry_list, Wanted, Variables, wanted_name, entry_named, is_absent_or_null, IsScalarAmong}
use Rattle.fault_data.specs.in_rule_definitions.Faults.{wrong}
use Rattle.fault_data.specs.in_rule_definitions.Judged.{Judged, judged, is_built_in_scalar, IsBuiltInScalar, IsCustomScalar}
use Rattle.fault_data.specs.in_rule_definitions.Names.{defined_name}
use Rattle.fault_data.specs.in_rule_definitions.Values.{FitsForm, UnsupportedValueTypeAt, IntCoercionErrorAt, UndefinedEnumValueAt, UndefinedInputValueAt, RequiredFieldAt, FormBreaks}
use Rattle.fault_data.specs.in_rule_definitions.PlacedFaults.{PlacedFault}
use Rattle.rule_values.specs.Wanting.{wanted}
use Rattle.rule_values.specs.ValueFaults.{is_key, fits_32_bits, is_custom_scalar, is_scalar_so, takes_integers, takes_floats, takes_strings, takes_booleans, given_entry, is_missing_entry, each_first, fits_form, unsupported_value_type, int_coercion_error, undefined_enum_value, undefined_key, undefined_input_value, required_field, required_fields, form_faults}
use Rattle.rule_values.proofs.Tells.{no_true, no_some, Tells, tells_same, tells_both, tells_nothing, tells_one, tells_one_as, tells_when, tells_unless, tells_present, first_told, tells_first}
use Rattle.rule_values.proofs.Looking.{kind_decides, inner_unplaced, mark_unplaced, list_unplaced, input_under, no_input_decides, no_value_decides, type_present, place_of_type, mark_of_type, place_of_input}

-- ---- tests

either_decides : (a b : Bool) {P Q : Type 0} → Decides a P → Decides b Q → Decides (a || b) (P ⊎ Q)
either_decides true b d e = (λ h. inl (d.0 refl), λ r. refl)
either_decides false b {P} {Q} d e = (λ h. inr (e.0 h), by)
  where
    by : P ⊎ Q → b ≡ true
    by (inl p) = no_true (d.1 p)
    by (inr q) = e.1 q

is_decides : (b : Bool) → Decides b (b ≡ true)
is_decides b = (λ h. h, λ r. r)

is_not_decides : (b : Bool) → Decides (not b) (b ≡ false)
is_not_decides true = (λ h. no_true h, λ r. absurd (no_true (sym r)))
is_not_decides false = (λ h. refl, λ r. refl)

decides_along : {a b : Bool} {P : Type 0} → a ≡ b → Decides b P → Decides a P
decides_along e d = (λ h. d.0 (sym e ∙ h), λ r. e ∙ d.1 r)

pub fits_decides : (z : ℤ) → Decides (fits_32_bits z) (FitsSigned w32 z)
fits_decides (pos n) = through (Decides-ltb n (2 ^ 31)) (λ h. record { sfits = h }) (λ r. r.sfits)
fits_decides (negsuc n) = through (Decides-ltb n (2 ^ 31)) (λ h. record { sfits = h }) (λ r. r.sfits)

-- one of the names, in order
pub among_one : (n a : List ℕ) → Decides (bytes_eq n a) (Contains (a ∷ []) n)
among_one n a = through (bytes_eq-Decides n a) (λ e. is_among_first e) (λ h. only_among h)
  where
    is_among_first : n ≡ a → Contains (a ∷ []) n
    is_among_first e = (tells_one a n).1 e

    only_among : Contains (a ∷ []) n → n ≡ a
    only_among h = (tells_one a n).0 h

pub among_more : (n a : List ℕ) (ns : List (List ℕ)) (b : Bool) → Decides b (Contains ns n) → Decides (bytes_eq n a || b) (Contains (a ∷ ns) n)
among_more n a ns b d = through (either_decides (bytes_eq n a) b (among_one n a) d) (λ r. (both n).1 r) (λ h. (both n).0 h)
  where
    both : Tells (a ∷ ns) (λ m. Contains (a ∷ []) m ⊎ Contains ns m)
    both = tells_both (a ∷ []) ns (Contains (a ∷ [])) (Contains ns) (λ m. (λ h. h, λ h. h)) (λ m. (λ h. h, λ h. h))

-- what is there passes the test
option_decides : {X : Type 0} (test : X → Bool) (P : X → Type 0) → ((x : X) → Decides (test x) (P x)) → (o : Option X) → Decides (option_map_or test o true) ((x : X) → o ≡ Some x → P x)
option_decides test P d None = (λ h x e. cc, λ r. refl)
option_decides test P d (Some y) = (λ h x e. let same : y ≡ x = cc in subst P same ((d y).0 h), λ r. (d y).1 (r y refl))

-- ---- entries of an object

given_named : (m : List ℕ) (es : EntryTrees Place) → given_entry m es ≡ entry_named m es
given_named m no_entries = refl
given_named m (entry_then n p v es) = by (bytes_eq n.it m) (given_named m es)
  where
    by : (b : Bool) → given_entry m es ≡ entry_named m es
        → (if b then Some (record { it = v; place = p }) else given_entry m es) ≡ option_map (λ e. e.1) (if b then Some (n, record { it = v; place = p }) else find (λ e. bytes_eq e.0.it m) (entry_list es))
    by true rest = refl
    by false rest = rest

-- ---- what each first entry of a name gives

module _ {V Y : Type 0} (tells : List ℕ → V → List Y) (R : List ℕ → V → Y → Type 0) where
  abbrev FirstAfter : List (List ℕ) → Entries V → Y → Type 0
  FirstAfter before es f = (m : List ℕ) × ((is_key m before ≡ false) × Present (under m es) (λ x. R m x f))

  -- each of the entries gives what the rule says
  abbrev EachTells : List (List ℕ) → Entries V → Type 0
  EachTells before es = (m : List ℕ) (x : V) → is_key m before ≡ false → under m es ≡ Some x → Tells (tells m x) (R m x)

  module _ (before : List (List ℕ)) (e : List ℕ × V) (es : Entries V) where
    under_first : (m : List ℕ) → e.0 ≡ m → under m (e ∷ es) ≡ Some e.1
    under_first m same = ap (λ b. option_map (λ (x : List ℕ × V). x.1) (if b then Some e else find (λ (x : List ℕ × V). bytes_eq m x.0) es)) ((bytes_eq-Decides m e.0).1 (sym same))

    under_later : (m : List ℕ) → bytes_eq e.0 m ≡ false → under m (e ∷ es) ≡ under m es
    under_later m other = ap (λ b. option_map (λ (x : List ℕ × V). x.1) (if b then Some e else find (λ (x : List ℕ × V). bytes_eq m x.0) es)) (by (bytes_eq m e.0) refl)
      where
        by : (b : Bool) → bytes_eq m e.0 ≡ b → b ≡ false
        by true t = no_true (sym other ∙ (bytes_eq-Decides e.0 m).1 (sym ((bytes_eq-Decides m e.0).0 t)))
        by false t = refl

    -- a name is that of the first entry, or of one after it
    abbrev Here : Y → Type 0
    Here f = (is_key e.0 before ≡ false) × R e.0 e.1 f

    first_or_after : (f : Y) → (Here f ⊎ FirstAfter (e.0 ∷ before) es f) ↔ FirstAfter before (e ∷ es) f
    first_or_after f = (to, λ q. from q.0 (bytes_eq e.0 q.0) refl q.1.0 q.1.1)
      where
        not_or : (a b : Bool) → (a || b) ≡ false → (a ≡ false) × (b ≡ false)
        not_or true b h = no_true (sym h)
        not_or false b h = (refl, h)

        to : Here f ⊎ FirstAfter (e.0 ∷ before) es f → FirstAfter before (e ∷ es) f
        to (inl (new, r)) = (e.0, (new, (e.1, (under_first e.0 refl, r))))
        to (inr (m, (new, (x, (has, r))))) =
            let two = not_or (bytes_eq e.0 m) (is_key m before) new in
            (m, (two.1, (x, (under_later m two.0 ∙ has, r))))

        from : (m : List ℕ) (b : Bool) → bytes_eq e.0 m ≡ b → is_key m before ≡ false → Present (under m (e ∷ es)) (λ x. R m x f) → Here f ⊎ FirstAfter (e.0 ∷ before) es f
        from m true t new (x, (has, r)) =
            let same : e.0 ≡ m = (bytes_eq-Decides e.0 m).0 t in
            let value : x ≡ e.1 = one x (sym (under_first m same) ∙ has) in
            inl (subst (λ k. (is_key k before ≡ false) × R k e.1 f) (sym same) (new, subst (λ y. R m y f) value r))
          where
            one : (y : V) → Some e.1 ≡ Some y → y ≡ e.1
            one y h = cc
        from m false t new (x, (has, r)) = inr (m, (ap (λ b. b || is_key m before) t ∙ new, (x, (sym (under_later m t) ∙ has, r))))

  tells_firsts : (before : List (List ℕ)) (es : Entries V) → EachTells before es → Tells (each_first tells before es) (FirstAfter before es)
  tells_firsts before [] each = tells_nothing (FirstAfter before []) (λ f q. no_some q.1.1.0 q.1.1.1.0)
  tells_firsts before (e ∷ es) each =
      tells_same _ (λ f. Here before e es f ⊎ FirstAfter (e.0 ∷ before) es f) (FirstAfter before (e ∷ es)) (first_or_after before e es)
      (tells_both (if is_key e.0 before then [] else tells e.0 e.1) (each_first tells (e.0 ∷ before) es) (Here before e es) (FirstAfter (e.0 ∷ before) es)
      (first (is_key e.0 before) refl)
      (tells_firsts (e.0 ∷ before) es (λ m x new has. each m x (following m new).1 (under_later before e es m (following m new).0 ∙ has))))
    where
      not_or : (a b : Bool) → (a || b) ≡ false → (a ≡ false) × (b ≡ false)
      not_or true b h = no_true (sym h)
      not_or false b h = (refl, h)

      following : (m : List ℕ) → is_key m (e.0 ∷ before) ≡ false → (bytes_eq e.0 m ≡ false) × (is_key m before ≡ false)
      following m new = not_or (bytes_eq e.0 m) (is_key m before) new

      first : (b : Bool) → is_key e.0 before ≡ b → Tells (if b then [] else tells e.0 e.1) (λ f. (b ≡ false) × R e.0 e.1 f)
      first true t = tells_nothing _ (λ f q. no_true (sym q.0))
      first false t = tells_same _ (R e.0 e.1) _ (λ f. (λ r. (refl, r), λ q. q.1)) (each e.0 e.1 t (under_first before e es e.0 refl))

  -- of each entry that a name finds
  pub tells_entries : (es : Entries V) → ((m : List ℕ) (x : V) → under m es ≡ Some x → Tells (tells m x) (R m x)) → Tells (each_first tells [] es) (λ f. (m : List ℕ) × Present (under m es) (λ x. R m x f))
  tells_entries es each =
      tells_same _ (FirstAfter [] es) _ (λ f. (λ q. (q.0, q.1.1), λ q. (q.0, (refl, q.1)))) (tells_firsts [] es (λ m x new has. each m x has))

required_unplaced : (v : InputValueTree Place) → is_required_input (unplaced_input_value v) ≡ is_required_input v
required_unplaced v = (λ i. mark_unplaced v.ty.it i && is_none_mapped (unplaced_node unplaced_value) v.default_value i)
  where
    is_none_mapped : {A B : Type 0} (f : A → B) (o : Option A) → is_none (option_map f o) ≡ is_none o
    is_none_mapped f None = refl
    is_none_mapped f (Some x) = refl

-- ---- the rules on one value

module _ (s : SchemaTree Place) (variables : Variables Place) (ty : TypeTree Place) (at_type : Place) (t : SchemaType Place) (there : type_at s (wanted_name (wanted ty at_type)) ≡ Some t) where
  abbrev name : List ℕ
  name = wanted_name (wanted ty at_type)

  abbrev read : TypeLooks
  read = type_looks (plain_type t)

  custom_decides : Decides (is_custom_scalar t) (IsCustomScalar (judged s) name read)
  custom_decides =
      pair_decides (same_kind t.kind kind.Scalar) (not (is_built_in t.place)) (kind_decides t.kind kind.Scalar)
      (through (is_not_decides (is_built_in t.place)) (λ e. mark_of_type s name t there ∙ e) (λ r. sym (mark_of_type s name t there) ∙ r))

  built_in_decides : Decides (is_built_in_scalar t) (IsBuiltInScalar (judged s) name read)
  built_in_decides =
      pair_decides (same_kind t.kind kind.Scalar) (is_built_in t.place) (kind_decides t.kind kind.Scalar)
      (through (is_decides (is_built_in t.place)) (λ e. mark_of_type s name t there ∙ e) (λ r. sym (mark_of_type s name t there) ∙ r))

  module _ (named : Bool) (names : List (List ℕ)) (d : Decides named (Contains names name)) where
    abbrev Part : Type 0
    Part = (t.kind ≡ kind.Scalar) × (((judged s).built_in (TypeAt name) ≡ false) ⊎ Contains names name)

    scalar_to : Part → IsScalarAmong (judged s) names name read
    scalar_to (k, inl custom) = inl (k, custom)
    scalar_to (k, inr among) = by (is_built_in t.place) refl
      where
        by : (b : Bool) → is_built_in t.place ≡ b → IsScalarAmong (judged s) names name read
        by true e = inr ((k, mark_of_type s name t there ∙ e), among)
        by false e = inl (k, mark_of_type s name t there ∙ e)

    scalar_from : IsScalarAmong (judged s) names name read → Part
    scalar_from (inl (k, custom)) = (k, inl custom)
    scalar_from (inr ((k, mark), among)) = (k, inr among)

    scalar_decides : Decides (is_scalar_so named t) (IsScalarAmong (judged s) names name read)
    scalar_decides =
        through (pair_decides (same_kind t.kind kind.Scalar) (not (is_built_in t.place) || named) (kind_decides t.kind kind.Scalar)
        (either_decides (not (is_built_in t.place)) named
        (through (is_not_decides (is_built_in t.place)) (λ e. mark_of_type s name t there ∙ e) (λ r. sym (mark_of_type s name t there) ∙ r)) d))
        scalar_to scalar_from

  same_name : (inner_name ty).it ≡ name
  same_name = sym (inner_unplaced ty)

  fits_decided : (v : ValueTree Place) → Decides (fits_form variables ty t v) (FitsForm (judged s) variables (wanted ty at_type) read v)
  fits_decided NullTree = through (is_not_decides (has_mark ty)) (λ e. mark_unplaced ty ∙ e) (λ r. sym (mark_unplaced ty) ∙ r)
  fits_decided (VariableTree v) =
      option_decides (λ d. bytes_eq (inner_name d.it.ty.it).it (inner_name ty).it) (λ (x : Placed Place (VariableDefinitionTree Place)). (inner_name x.it.ty.it).it ≡ name)
      (λ x. through (bytes_eq-Decides (inner_name x.it.ty.it).it (inner_name ty).it) (λ e. e ∙ same_name) (λ r. r ∙ sym same_name))
      (find (λ d. bytes_eq (defined_name d) v.it) variables)
  fits_decided (IntTree digits) = scalar_decides (takes_integers (inner_name ty).it) (codes "Int" ∷ codes "Float" ∷ codes "ID" ∷ [])
      (decides_along (ap takes_integers same_name) (among_more name (codes "Int") (codes "Float" ∷ codes "ID" ∷ []) (bytes_eq name (codes "Float") || bytes_eq name (codes "ID")) (among_more name (codes "Float") (codes "ID" ∷ []) (bytes_eq name (codes "ID")) (among_one name (codes "ID")))))
  fits_decided (FloatTree digits) = scalar_decides (takes_floats (inner_name ty).it) (codes "Float" ∷ []) (decides_along (ap takes_floats same_name) (among_one name (codes "Float")))
  fits_decided (StringTree text) = scalar_decides (takes_strings (inner_name ty).it) (codes "String" ∷ codes "ID" ∷ [])
      (decides_along (ap takes_strings same_name) (among_more name (codes "String") (codes "ID" ∷ []) (bytes_eq name (codes "ID")) (among_one name (codes "ID"))))
  fits_decided (BooleanTree b) = scalar_decides (takes_booleans (inner_name ty).it) (codes "Boolean" ∷ []) (decides_along (ap takes_booleans same_name) (among_one name (codes "Boolean")))
  fits_decided (EnumTree n) = either_decides (same_kind t.kind kind.Enum) (is_custom_scalar t) (kind_decides t.kind kind.Enum) custom_decides
  fits_decided (ListTree items) = either_decides (is_list_type ty) (is_custom_scalar t) (through (is_decides (is_list_type ty)) (λ e. list_unplaced ty ∙ e) (λ r. sym (list_unplaced ty) ∙ r)) custom_decides
  fits_decided (ObjectTree es) = either_decides (same_kind t.kind kind.InputObject) (is_custom_scalar t) (kind_decides t.kind kind.InputObject) custom_decides

  pub fits_there : (v : ValueTree Place) → Decides (fits_form variables ty t v) (Present ((judged s).type_named name) (λ u. FitsForm (judged s) variables (wanted ty at_type) u v))
  fits_there v =
      let same = type_present s name t there (λ u. FitsForm (judged s) variables (wanted ty at_type) u v) in
      through (fits_decided v) same.0 same.1

  -- of the type that is there
  tells_there : (l : List PlacedFault) (R : TypeLooks → PlacedFault → Type 0) → Tells l (R read) → Tells l (λ f. Present ((judged s).type_named name) (λ u. R u f))
  tells_there l R tells = tells_same l (R read) _ (λ f. type_present s name t there (λ u. R u f)) tells

  module _ (p : Place) (v : ValueTree Place) where
    abbrev Breaks : ((Address → Place) → Judged → Variables Place → Wanted Place → Place → ValueTree Place → PlacedFault → Type 0) → PlacedFault → Type 0
    Breaks rule fault = rule (place_at s) (judged s) variables (wanted ty at_type) p v fault

    unsupported_told : Tells (unsupported_value_type variables ty at_type t p v) (Breaks UnsupportedValueTypeAt)
    unsupported_told =
        let told = wrong p (UnsupportedValueType (unplaced_value v) (unplaced_type ty) at_type) in
        tells_there _ (λ u f. (FitsForm (judged s) variables (wanted ty at_type) u v → ⊥) × (f ≡ told))
        (tells_unless (fits_form variables ty t v) (fits_decided v) (told ∷ []) (λ f. f ≡ told) (tells_one told))

    int_told : Tells (int_coercion_error name t p v) (Breaks IntCoercionErrorAt)
    int_told =
        tells_there _ (λ u f. IsBuiltInScalar (judged s) name u × ((name ≡ codes "Int") × Present (integer_text v) (λ digits. (FitsSigned w32 (integer_value digits) → ⊥) × (f ≡ wrong p (IntCoercionError digits)))))
        (tells_same _ (λ f. (IsBuiltInScalar (judged s) name read × (name ≡ codes "Int")) × Present (integer_text v) (λ digits. (FitsSigned w32 (integer_value digits) → ⊥) × (f ≡ wrong p (IntCoercionError digits)))) _
        (λ f. (λ q. (q.0.0, (q.0.1, q.1)), λ q. ((q.0, q.1.0), q.1.1)))
        (tells_when (is_built_in_scalar t && bytes_eq name (codes "Int")) (pair_decides (is_built_in_scalar t) (bytes_eq name (codes "Int")) built_in_decides (bytes_eq-Decides name (codes "Int"))) _ _
        (tells_present (integer_text v) (λ digits. if fits_32_bits (integer_value digits) then [] else wrong p (IntCoercionError digits) ∷ []) (λ digits f. (FitsSigned w32 (integer_value digits) → ⊥) × (f ≡ wrong p (IntCoercionError digits)))
        (λ digits e. tells_unless (fits_32_bits (integer_value digits)) (fits_decides (integer_value digits)) (wrong p (IntCoercionError digits) ∷ []) _ (tells_one (wrong p (IntCoercionError digits)))))))

    enum_told : Tells (undefined_enum_value name t p v) (Breaks UndefinedEnumValueAt)
    enum_told =
        let at_place = place_at s (TypeAt name) in
        tells_there _ (λ u f. (u.kind ≡ kind.Enum) × Present (enum_name v) (λ e. (u.value e.it ≡ None) × (f ≡ wrong p (UndefinedEnumValue e.it name at_place))))
        (tells_when (same_kind t.kind kind.Enum) (kind_decides t.kind kind.Enum) _ _
        (tells_present (enum_name v) (λ e. if is_none (under e.it t.values) then wrong p (UndefinedEnumValue e.it name t.place) ∷ [] else []) (λ e f. (read.value e.it ≡ None) × (f ≡ wrong p (UndefinedEnumValue e.it name at_place)))
        (λ e is. tells_when (is_none (under e.it t.values)) (no_value_decides t e.it) (wrong p (UndefinedEnumValue e.it name t.place) ∷ []) _
        (tells_one_as (wrong p (UndefinedEnumValue e.it name t.place)) (wrong p (UndefinedEnumValue e.it name at_place)) (ap (λ q. wrong p (UndefinedEnumValue e.it name q)) (sym (place_of_type s name t there)))))))

    -- the first key without a field
    abbrev Entry : Type 0
    Entry = Text Place × Placed Place (ValueTree Place)

    abbrev told_key : Place → Entry → PlacedFault
    told_key q e = wrong e.1.place (UndefinedInputValue e.0.it name q)

    abbrev lacks_field : Entry → Bool
    lacks_field e = is_none (under e.0.it t.inputs)

    key_first : (es : EntryTrees Place) → undefined_key name t es ≡ first_told lacks_field (told_key t.place) (entry_list es)
    key_first no_entries = refl
    key_first (entry_then k q w es) = ap (λ l. if is_none (under k.it t.inputs) then wrong q (UndefinedInputValue k.it name t.place) ∷ [] else l) (key_first es)

    input_told : Tells (undefined_input_value name t v) (Breaks UndefinedInputValueAt)
    input_told =
        let at_place = place_at s (TypeAt name) in
        let R = λ (u : TypeLooks) (es : EntryTrees Place) (f : PlacedFault). AtSomeIndex (entry_list es) (λ i e. (u.input e.0.it ≡ None)
        × ((AtSomeIndex (entry_list es) (λ k d. (k < i) × (u.input d.0.it ≡ None)) → ⊥) × (f ≡ told_key at_place e))) in
        tells_there _ (λ u f. (u.kind ≡ kind.InputObject) × Present (object_entries v) (λ es. R u es f))
        (tells_when (same_kind t.kind kind.InputObject) (kind_decides t.kind kind.InputObject) _ _
        (tells_present (object_entries v) (λ es. undefined_key name t es) (λ es f. R read es f)
        (λ es is. subst (λ l. Tells l (R read es)) (sym (key_first es ∙ ap (λ q. first_told lacks_field (told_key q) (entry_list es)) (sym (place_of_type s name t there))))
        (tells_first lacks_field (λ e. read.input e.0.it ≡ None) (λ e. no_input_decides t e.0.it) (told_key at_place) (entry_list es)))))

    -- a required field
    abbrev Field : Type 0
    Field = Given Place (Placed Place (InputValueTree Place))

    abbrev told_field : List ℕ → InputValueTree (Unit {0}) → Place → PlacedFault
    told_field m f q = wrong p (RequiredField m (OfAttribute name m) f.ty.it q)

    abbrev FieldBreaks : EntryTrees Place → List ℕ → InputValueTree (Unit {0}) → PlacedFault → Type 0
    FieldBreaks es m f fault = (is_required_input f ≡ true) × ((is_absent_or_null (entry_named m es) ≡ true) × (fault ≡ told_field m f (place_at s (InputAt name m))))

    field_told : (es : EntryTrees Place) (m : List ℕ) (f : Field) → under m t.inputs ≡ Some f → Tells (required_field name p es m f) (FieldBreaks es m (plain_given unplaced_input_value f))
    field_told es m f has =
        tells_same _ (λ x. ((is_required_input (unplaced_input_value f.it.it) ≡ true) × (is_absent_or_null (entry_named m es) ≡ true)) × (x ≡ told_field m (unplaced_input_value f.it.it) (place_at s (InputAt name m)))) _
        (λ x. (λ q. (q.0.0, (q.0.1, q.1)), λ q. ((q.0, q.1.0), q.1.1)))
        (tells_when (is_required_input f.it.it && is_missing_entry m es)
        (pair_decides (is_required_input f.it.it) (is_missing_entry m es)
        (decides_along (sym (required_unplaced f.it.it)) (is_decides (is_required_input (unplaced_input_value f.it.it))))
        (decides_along (ap is_absent_or_null (given_named m es)) (is_decides (is_absent_or_null (entry_named m es))))) _ _
        (tells_one_as (told_field m (unplaced_input_value f.it.it) f.it.place) _ (ap (told_field m (unplaced_input_value f.it.it)) (sym (place_of_input s name t there m f has)))))

    fields_told : (es : EntryTrees Place) → Tells (each_first (required_field name p es) [] t.inputs) (λ f. Somewhere read.input (λ m x. FieldBreaks es m x f))
    fields_told es =
        tells_same _ (λ f. (m : List ℕ) × Present (under m t.inputs) (λ x. FieldBreaks es m (plain_given unplaced_input_value x) f)) _
        (λ f. (
          λ q. (q.0, (plain_given unplaced_input_value q.1.0, (input_under t q.0 ∙ ap (option_map (plain_given unplaced_input_value)) q.1.1.0, q.1.1.1))),
          λ q. (q.0, back q.0 f (under q.0 t.inputs) q.1.0 (sym (input_under t q.0) ∙ q.1.1.0) q.1.1.1),
        ))
        (tells_entries (required_field name p es) (λ m x. FieldBreaks es m (plain_given unplaced_input_value x)) t.inputs (field_told es))
      where
        back : (m : List ℕ) (f : PlacedFault) (o : Option Field) (y : InputValueTree (Unit {0})) → option_map (plain_given unplaced_input_value) o ≡ Some y → FieldBreaks es m y f → Present o (λ x. FieldBreaks es m (plain_given unplaced_input_value x) f)
        back m f None y e b = cc
        back m f (Some x) y e b = let same : y ≡ plain_given unplaced_input_value x = cc in (x, (refl, subst (λ z. FieldBreaks es m z f) same b))

    required_told : Tells (required_fields name t p v) (Breaks RequiredFieldAt)
    required_told =
        tells_there _ (λ u f. (u.kind ≡ kind.InputObject) × Present (object_entries v) (λ es. Somewhere u.input (λ m x. FieldBreaks es m x f)))
        (tells_when (same_kind t.kind kind.InputObject) (kind_decides t.kind kind.InputObject) _ _
        (tells_present (object_entries v) (λ es. each_first (required_field name p es) [] t.inputs) (λ es f. Somewhere read.input (λ m x. FieldBreaks es m x f)) (λ es is. fields_told es)))

    -- all of them
    abbrev Fourth : PlacedFault → Type 0
    Fourth f = Breaks UndefinedInputValueAt f ⊎ Breaks RequiredFieldAt f

    abbrev Third : PlacedFault → Type 0
    Third f = Breaks UndefinedEnumValueAt f ⊎ Fourth f

    abbrev Second : PlacedFault → Type 0
    Second f = Breaks IntCoercionErrorAt f ⊎ Third f

    abbrev after_first : List ℕ → List PlacedFault
    after_first n = int_coercion_error n t p v ++ (undefined_enum_value n t p v ++ (undefined_input_value n t v ++ required_fields n t p v))

    after_told : Tells (after_first name) Second
    after_told =
        tells_both (int_coercion_error name t p v) (undefined_enum_value name t p v ++ (undefined_input_value name t v ++ required_fields name t p v)) (Breaks IntCoercionErrorAt) Third int_told
        (tells_both (undefined_enum_value name t p v) (undefined_input_value name t v ++ required_fields name t p v) (Breaks UndefinedEnumValueAt) Fourth enum_told
        (tells_both (undefined_input_value name t v) (required_fields name t p v) (Breaks UndefinedInputValueAt) (Breaks RequiredFieldAt) input_told required_told))

    pub form_told : Tells (form_faults variables ty at_type t p v) (Breaks FormBreaks)
    form_told =
        tells_both (unsupported_value_type variables ty at_type t p v) (after_first (inner_name ty).it) (Breaks UnsupportedValueTypeAt) Second unsupported_told
        (subst (λ n. Tells (after_first n) Second) (sym same_name) after_told)
