-- A value for each input type, by references from input object to input object.
use Rattle.std.proofs.Common.{◌≡◌, ℕ, Bool, true, false, not, ◌&&◌, is_none, is_some, List, [], ◌∷◌, codes, find, bytes_eq, refl, sym, ap, subst, ◌∙◌, ◌⊎◌, inl, inr, Option, None, Some, option_map, Contains, FitsSigned, w32, arith, true≢false, if◌then◌else◌}
use Rattle.std.proofs.lemmas.Option.{same_Some}
use Rattle.std.proofs.lemmas.List.Elements.{Contains-append_right}
use Rattle.std.proofs.lemmas.Slice.Eq.{bytes_eq-Decides}
use Rattle.graphql_names.specs.NameSyntax.{is_name}
use Rattle.graphql_names.specs.Placed.{Placed, Text}
use Rattle.tree_literals.specs.TypeTree.{TypeTree, NamedTree, NonNullNamedTree, ListTree as ListType, NonNullListTree}
use Rattle.tree_literals.specs.TypeQueries.{has_mark, is_list_type}
use Rattle.tree_literals.specs.NumberSyntax.{integer_value}
use Rattle.tree_literals.specs.ValueTree.{ValueTree, EntryTrees, EnumTree, StringTree, IntTree, BooleanTree, ListTree, ObjectTree, no_items, no_entries, entry_then}
use Rattle.tree_literals.specs.ValueQueries.{is_null_value}
use Rattle.tree_literals.specs.ValueWritable.{value_writable, entries_writable, can_be_enum}
use Rattle.round_trip.specs.WellFormed.{value_well_formed, entries_well_formed}
use Rattle.rule_definitions.specs.in_schema_types.in_operations.DirectiveTree.{InputValueTree}
use Rattle.rule_definitions.specs.in_schema_types.in_operations.DirectiveQueries.{is_required_input}
use Rattle.rule_definitions.specs.in_schema_types.SchemaTree.{is_input_kind}
use Rattle.rule_definitions.specs.in_schema_types.Looks.{TypeLooks}
use Rattle.rule_definitions.specs.in_schema_types.Addresses.{TypeAt, InputAt}
use Rattle.rule_definitions.specs.in_schema_types.declared.type_kind.TypeKind.{TypeKind}
use Rattle.rule_definitions.specs.in_schema_types.declared.type_kind.TypeKind.TheVariants as kind
use Rattle.rule_definitions.specs.in_components.Lists.{is_among}
use Rattle.rule_definitions.specs.GivenValues.{entry_list, entry_named, is_absent_or_null}
use Rattle.rule_definitions.specs.Spots.{At}
use Rattle.rule_definitions.specs.Judged.{Judged, IsBuiltInScalar, IsCustomScalar}
use Rattle.rule_definitions.specs.Names.{scalar_names, named_in}
use Rattle.rule_definitions.specs.Accepts.{Takes, TakesEntries, HasRequired}
use Rattle.rule_definitions.specs.Cycles.{Referring, RefersToInput}
use Rattle.rule_definitions.proofs.Lookups.{text_found, text_given}
use Rattle.rule_cycle_search.specs.Paths.{Leads}
use Rattle.rule_cycle_search.proofs.Lists.{not_in_nil, Contains-cons, Contains-first}
use Rattle.rule_schema_laws.specs.Literals.{HasTheFiveAlone}
use Rattle.rule_schema_laws.proofs.Grounded.{by_references}
use Rattle.rule_schema_laws.proofs.Placeless.{none}
use Rattle.rule_schema_laws.proofs.Keys.{keys_of, keys_differ, entries_differ}

-- a value, or the entries of an object, without places
abbrev pub V : Type 0
V = ValueTree (Unit {0})

abbrev Entries : Type 0
Entries = EntryTrees (Unit {0})

zero_fits : FitsSigned w32 (integer_value (codes "0"))
zero_fits = record { sfits = omega arith }

both_so : {a b : Bool} → a ≡ true → b ≡ true → (a && b) ≡ true
both_so h k = λ i. h i && k i

module _ (s : Judged) where
  -- what is inside all brackets is no output type: it is an input type, or missing
  abbrev pub IsInput : TypeTree (Unit {0}) → Type 0
  IsInput ty = (t : TypeLooks) → s.type_named (named_in ty) ≡ Some t → is_input_kind t.kind ≡ true

  -- ---- a value that is taken for a type

  pub record IsGood (ty : TypeTree (Unit {0})) (v : V) : Type 0 where
    pub taken : (t : TypeLooks) → s.type_named (named_in ty) ≡ Some t → Takes s none ty t v
    pub keys : keys_differ v ≡ true
    pub formed : value_well_formed v ≡ true
    pub writable : value_writable true v ≡ true
    pub not_null : is_null_value v ≡ false

  abbrev pub Good : TypeTree (Unit {0}) → Type 0
  Good ty = (v : V) × IsGood ty v

  module _ (ty : TypeTree (Unit {0})) where
    -- a type that is missing takes all
    missing : s.type_named (named_in ty) ≡ None → Good ty
    missing gone = (BooleanTree true, record { taken = λ t there. cc (gone, there); keys = refl; formed = refl; writable = refl; not_null = refl })

    module _ (t : TypeLooks) (there : s.type_named (named_in ty) ≡ Some t) where
      taken_so : (v : V) → Takes s none ty t v → (u : TypeLooks) → s.type_named (named_in ty) ≡ Some u → Takes s none ty u v
      taken_so v h u there' = subst (λ w. Takes s none ty w v) (same_Some t u (sym there ∙ there')) h

      -- ---- scalars

      number : Takes s none ty t (IntTree (codes "0")) → Good ty
      number h = (IntTree (codes "0"), record { taken = taken_so (IntTree (codes "0")) h; keys = refl; formed = refl; writable = refl; not_null = refl })

      string : Takes s none ty t (StringTree []) → Good ty
      string h = (StringTree [], record { taken = taken_so (StringTree []) h; keys = refl; formed = refl; writable = refl; not_null = refl })

      boolean : Takes s none ty t (BooleanTree true) → Good ty
      boolean h = (BooleanTree true, record { taken = taken_so (BooleanTree true) h; keys = refl; formed = refl; writable = refl; not_null = refl })

      -- the five, each by its own
      built_in : IsBuiltInScalar s (named_in ty) t → Contains scalar_names (named_in ty) → Good ty
      built_in is c = elim (Contains-cons (codes "Int") (codes "Float" ∷ codes "String" ∷ codes "Boolean" ∷ codes "ID" ∷ []) (named_in ty) c) [
        | inl int ↦ number (inr (is, (sym int, zero_fits)))
        | inr c1 ↦ elim (Contains-cons (codes "Float") (codes "String" ∷ codes "Boolean" ∷ codes "ID" ∷ []) (named_in ty) c1) [
          | inl float ↦ number (inl (inr (is, Contains-first (codes "Float") (codes "ID" ∷ []) (named_in ty) float)))
          | inr c2 ↦ elim (Contains-cons (codes "String") (codes "Boolean" ∷ codes "ID" ∷ []) (named_in ty) c2) [
            | inl text ↦ string (inr (is, Contains-first (codes "String") (codes "ID" ∷ []) (named_in ty) text))
            | inr c3 ↦ elim (Contains-cons (codes "Boolean") (codes "ID" ∷ []) (named_in ty) c3) [
              | inl truth ↦ boolean (inr (is, Contains-first (codes "Boolean") [] (named_in ty) truth))
              | inr id ↦ string (inr (is, Contains-append_right (codes "String" ∷ []) (codes "ID" ∷ []) (named_in ty) id))
            ]
          ]
        ]
      ]

      custom : IsCustomScalar s (named_in ty) t → Good ty
      custom is = number (inl (inl is))

      -- ---- enums and lists

      enum_value : t.kind ≡ kind.Enum → (m : List ℕ) → is_some (t.value m) ≡ true → can_be_enum m ≡ true → is_name m ≡ true → Good ty
      enum_value is m has can name = (
        EnumTree (record { it = m; place = tt }),
        record {
          taken = taken_so (EnumTree (record { it = m; place = tt })) (inl (is, has));
          keys = refl;
          formed = name;
          writable = can;
          not_null = refl;
        },
      )

      no_list : is_list_type ty ≡ true → Good ty
      no_list list = (ListTree no_items, record { taken = taken_so (ListTree no_items) (inl list, tt); keys = refl; formed = refl; writable = refl; not_null = refl })

  -- ---- input objects

  -- each key is an input field, a name and no later key, and its value is good for the field's type
  abbrev AllGood : TypeLooks → Entries → Type 0
  AllGood t no_entries = Unit {0}
  AllGood t (entry_then k p v es) = ((f : InputValueTree (Unit {0})) × ((t.input k.it ≡ Some f) × IsGood f.ty.it v))
      × ((is_name k.it ≡ true) × ((not (is_among k.it (keys_of es)) ≡ true) × AllGood t es))

  module _ (t : TypeLooks) where
    taken_in : (before : List (List ℕ)) (es : Entries) → AllGood t es → TakesEntries s none t before es
    taken_in before no_entries good = tt
    taken_in before (entry_then k p v es) ((f, (has, good)), (name, (fresh, rest))) = ((f, (has, λ new u is. good.taken u is)), taken_in (k.it ∷ before) es rest)

    differ_in : (es : Entries) → AllGood t es → entries_differ es ≡ true
    differ_in no_entries good = refl
    differ_in (entry_then k p v es) ((f, (has, good)), (name, (fresh, rest))) = both_so fresh (both_so good.keys (differ_in es rest))

    formed_in : (es : Entries) → AllGood t es → entries_well_formed es ≡ true
    formed_in no_entries good = refl
    formed_in (entry_then k p v es) ((f, (has, good)), (name, (fresh, rest))) = both_so (both_so name good.formed) (formed_in es rest)

    writable_in : (es : Entries) → AllGood t es → entries_writable true es ≡ true
    writable_in no_entries good = refl
    writable_in (entry_then k p v es) ((f, (has, good)), (name, (fresh, rest))) = both_so good.writable (writable_in es rest)

  object : (ty : TypeTree (Unit {0})) (t : TypeLooks) → s.type_named (named_in ty) ≡ Some t → t.kind ≡ kind.InputObject → (es : Entries) → AllGood t es → HasRequired t es → Good ty
  object ty t there is es good required = (
    ObjectTree es,
    record {
      taken = taken_so ty t there (ObjectTree es) (inl (is, (taken_in t [] es good, required)));
      keys = differ_in t es good;
      formed = formed_in t es good;
      writable = writable_in t es good;
      not_null = refl;
    },
  )

  -- ---- the entries that are needed

  -- a value for each required field
  abbrev Values : TypeLooks → Type 0
  Values t = (m : List ℕ) (f : InputValueTree (Unit {0})) → t.input m ≡ Some f → is_required_input f ≡ true → Good f.ty.it

  -- input fields have names
  abbrev AreNamed : TypeLooks → Type 0
  AreNamed t = (m : List ℕ) → is_some (t.input m) ≡ true → is_name m ≡ true

  -- the field is given, and not as null
  abbrev IsGivenIn : Entries → List ℕ → Type 0
  IsGivenIn es m = is_absent_or_null (entry_named m es) ≡ false

  -- entries with the keys of the required fields among these
  record Filled (t : TypeLooks) (ks : List (List ℕ)) : Type 0 where
    es : Entries
    good : AllGood t es
    within : (m : List ℕ) → Contains (keys_of es) m → Contains ks m
    given : (m : List ℕ) (f : InputValueTree (Unit {0})) → Contains ks m → t.input m ≡ Some f → is_required_input f ≡ true → IsGivenIn es m

  -- a key more, for which nothing is needed
  passed : (t : TypeLooks) (k : List ℕ) (ks : List (List ℕ)) (rest : Filled t ks)
      → ((f : InputValueTree (Unit {0})) → t.input k ≡ Some f → is_required_input f ≡ true → IsGivenIn rest.es k) → Filled t (k ∷ ks)
  passed t k ks rest here = record {
    es = rest.es;
    good = rest.good;
    within = λ m c. Contains-append_right (k ∷ []) ks m (rest.within m c);
    given = λ m f c has required. elim (Contains-cons k ks m c) [
      | inl same ↦ subst (IsGivenIn rest.es) same (here f (ap t.input same ∙ has) required)
      | inr r ↦ rest.given m f r has required
    ];
  }

  is_fresh : (k : List ℕ) (ks inside : List (List ℕ)) → is_among k ks ≡ false → ((m : List ℕ) → Contains inside m → Contains ks m) → not (is_among k inside) ≡ true
  is_fresh k ks inside fresh within = by (is_among k inside) refl
    where
      by : (b : Bool) → is_among k inside ≡ b → not b ≡ true
      by false e = refl
      by true e = absurd (true≢false (sym (text_found ks k (within k (text_given inside k e))) ∙ fresh))

  added : (t : TypeLooks) → AreNamed t → (k : List ℕ) (ks : List (List ℕ)) → is_among k ks ≡ false → Filled t ks → (f : InputValueTree (Unit {0})) → t.input k ≡ Some f → Good f.ty.it → Filled t (k ∷ ks)
  added t named k ks fresh rest f has (v, good) = record {
    es = entry_then (record { it = k; place = tt }) tt v rest.es;
    good = ((f, (has, good)), (named k (ap is_some has), (is_fresh k ks (keys_of rest.es) fresh rest.within, rest.good)));
    within = λ m c. elim (Contains-cons k (keys_of rest.es) m c) [
      | inl same ↦ Contains-first k ks m same
      | inr r ↦ Contains-append_right (k ∷ []) ks m (rest.within m r)
    ];
    given = λ m g c has' required. by m (bytes_eq k m) refl (elim (Contains-cons k ks m c) [
      | inl same ↦ inl ((bytes_eq-Decides k m).1 same)
      | inr r ↦ inr (rest.given m g r has' required)
    ]);
  }
    where
      by : (m : List ℕ) (b : Bool) → bytes_eq k m ≡ b → (bytes_eq k m ≡ true) ⊎ IsGivenIn rest.es m
          → is_absent_or_null (option_map (λ (e : Text (Unit {0}) × Placed (Unit {0}) V). e.1) (if b then Some (record { it = k; place = tt }, record { it = v; place = tt }) else find (λ (e : Text (Unit {0}) × Placed (Unit {0}) V). bytes_eq e.0.it m) (entry_list rest.es))) ≡ false
      by m true t r = good.not_null
      by m false t (inl same) = absurd (true≢false (sym same ∙ t))
      by m false t (inr r) = r

  filled : (t : TypeLooks) → AreNamed t → Values t → (ks : List (List ℕ)) → Filled t ks
  filled t named values [] = record { es = no_entries; good = tt; within = λ m c. c; given = λ m f c has required. not_in_nil m c }
  filled t named values (k ∷ ks) = by (is_among k ks) refl (filled t named values ks)
    where
      needed : is_among k ks ≡ false → Filled t ks → (f : InputValueTree (Unit {0})) → t.input k ≡ Some f → (b : Bool) → is_required_input f ≡ b → Filled t (k ∷ ks)
      needed fresh rest f has true required = added t named k ks fresh rest f has (values k f has required)
      needed fresh rest f has false not_required = passed t k ks rest (λ g has' required. absurd (true≢false (sym required ∙ ap is_required_input (same_Some g f (sym has' ∙ has)) ∙ not_required)))

      known : is_among k ks ≡ false → Filled t ks → (o : Option (InputValueTree (Unit {0}))) → t.input k ≡ o → Filled t (k ∷ ks)
      known fresh rest None gone = passed t k ks rest (λ g has required. cc (gone, has))
      known fresh rest (Some f) has = needed fresh rest f has (is_required_input f) refl

      by : (b : Bool) → is_among k ks ≡ b → Filled t ks → Filled t (k ∷ ks)
      by true e rest = passed t k ks rest (λ f has required. rest.given k f (text_given ks k e) has required)
      by false e rest = known e rest (t.input k) refl

  -- ---- all types

  -- an enum's value that can be written
  abbrev pub HasValue : TypeLooks → Type 0
  HasValue t = (m : List ℕ) × ((is_some (t.value m) ≡ true) × ((can_be_enum m ≡ true) × (is_name m ≡ true)))

  -- what of a schema is used
  pub record Grounds : Type 0 where
    pub inputs : (n : List ℕ) (t : TypeLooks) → s.type_named n ≡ Some t → (m : List ℕ) (v : InputValueTree (Unit {0})) → t.input m ≡ Some v → IsInput v.ty.it
    pub values : (n : List ℕ) (t : TypeLooks) → s.type_named n ≡ Some t → t.kind ≡ kind.Enum → HasValue t
    pub named : (n : List ℕ) (t : TypeLooks) → s.type_named n ≡ Some t → AreNamed t
    pub five : HasTheFiveAlone s
    pub all : List (List ℕ)
    pub covers : (n : List ℕ) (t : TypeLooks) → s.type_named n ≡ Some t → Contains all n
    pub fields : (n : List ℕ) (t : TypeLooks) → s.type_named n ≡ Some t → (ks : List (List ℕ)) × ((m : List ℕ) (v : InputValueTree (Unit {0})) → t.input m ≡ Some v → Contains ks m)
    pub acyclic : (n : List ℕ) (by : Referring (InputValueTree (Unit {0}))) (rest : List (Referring (InputValueTree (Unit {0})))) → Leads (RefersToInput s) n (by ∷ rest) n → ⊥

  module _ (grounds : Grounds) where
    scalar : (ty : TypeTree (Unit {0})) (t : TypeLooks) → s.type_named (named_in ty) ≡ Some t → t.kind ≡ kind.Scalar → (b : Bool) → s.built_in (TypeAt (named_in ty)) ≡ b → Good ty
    scalar ty t there is true mark = built_in ty t there (is, mark) (grounds.five (named_in ty) (t, (there, (is, mark))))
    scalar ty t there is false mark = custom ty t there (is, mark)

    -- by the kind, where input objects have one
    by_kind : (ty : TypeTree (Unit {0})) (t : TypeLooks) → s.type_named (named_in ty) ≡ Some t → is_input_kind t.kind ≡ true → (t.kind ≡ kind.InputObject → Good ty) → (k : TypeKind) → t.kind ≡ k → Good ty
    by_kind ty t there input of_object kind.Scalar e = scalar ty t there e (s.built_in (TypeAt (named_in ty))) refl
    by_kind ty t there input of_object kind.Enum e = let (m, (has, (can, name))) = grounds.values (named_in ty) t there e in enum_value ty t there e m has can name
    by_kind ty t there input of_object kind.InputObject e = of_object e
    by_kind ty t there input of_object kind.Object e = absurd (true≢false (sym input ∙ ap is_input_kind e))
    by_kind ty t there input of_object kind.Interface e = absurd (true≢false (sym input ∙ ap is_input_kind e))
    by_kind ty t there input of_object kind.Union e = absurd (true≢false (sym input ∙ ap is_input_kind e))

    -- by the form of the type
    by_type : (ty : TypeTree (Unit {0})) → IsInput ty → (is_list_type ty ≡ false → (t : TypeLooks) → s.type_named (named_in ty) ≡ Some t → t.kind ≡ kind.InputObject → Good ty) → Good ty
    by_type ty input of_object = by (s.type_named (named_in ty)) refl (is_list_type ty) refl
      where
        by : (o : Option TypeLooks) → s.type_named (named_in ty) ≡ o → (b : Bool) → is_list_type ty ≡ b → Good ty
        by None gone b list = missing ty gone
        by (Some t) there true list = no_list ty t there list
        by (Some t) there false list = by_kind ty t there (input t there) (of_object list t there) t.kind refl

    -- a required type that is no list is `Name!`
    marked : (ty : TypeTree (Unit {0})) → has_mark ty ≡ true → is_list_type ty ≡ false → (n : Text (Unit {0})) × ((ty ≡ NonNullNamedTree n) × (n.it ≡ named_in ty))
    marked (NamedTree n) mark list = cc
    marked (NonNullNamedTree n) mark list = (n, (refl, refl))
    marked (ListType t) mark list = cc
    marked (NonNullListTree t) mark list = cc

    first_so : (a b : Bool) → (a && b) ≡ true → a ≡ true
    first_so true b h = refl
    first_so false b h = h

    abbrev Given : List ℕ → Type 0
    Given n = (ty : TypeTree (Unit {0})) → named_in ty ≡ n → IsInput ty → Good ty

    step : (n : List ℕ) → ((by : Referring (InputValueTree (Unit {0}))) (m : List ℕ) → RefersToInput s n by m → Given m) → Given n
    step n below ty same input = by_type ty input (λ list t there is.
        let values : Values t = λ m f has required. by_type f.ty.it (grounds.inputs (named_in ty) t there m f has) (λ list' u there' is'.
        let (name, (form, text)) = marked f.ty.it (first_so (has_mark f.ty.it) (is_none f.default_value) required) list' in
        below (record { it = f; place = At (InputAt n m) }) (named_in f.ty.it)
        (t, (ap s.type_named (sym same) ∙ there, (is, ((m, (f, (has, (refl, (name, (form, text)))))), (u, (there', is'))))))
        f.ty.it refl (grounds.inputs (named_in ty) t there m f has)) in
        let ks = grounds.fields (named_in ty) t there in
        let all = filled t (grounds.named (named_in ty) t there) values ks.0 in
        object ty t there is all.es all.good (λ m f has required. all.given m f (ks.1 m f has) has required))

    pub good : (ty : TypeTree (Unit {0})) → IsInput ty → Good ty
    good ty input = by_references (RefersToInput s) bytes_eq bytes_eq-Decides grounds.all (λ x by y r. grounds.covers y r.1.1.1.1.0 r.1.1.1.1.1.0) grounds.acyclic Given step (named_in ty) ty refl input
