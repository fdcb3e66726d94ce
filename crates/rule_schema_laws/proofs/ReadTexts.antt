-- Of texts that are read under other numbers than that of what is built in, the fold has the five scalars alone as built-in
-- ones, and no enum value that is a keyword.
use Rattle.std.proofs.Common.{◌≡◌, ℕ, Bool, true, false, not, ◌&&◌, ◌||◌, List, [], ◌∷◌, ◌++◌, refl, sym, ap, subst, ◌∙◌, inl, inr, Option, None, Some, option_map, option_to_list, is_some, is_none, Contains, true≢false, if◌then◌else◌}
use Rattle.std.specs.List.{list_all, flat_map}
use Rattle.std.specs.Option.{option_map_or}
use Rattle.std.proofs.lemmas.Bool.{and_parts}
use Rattle.std.proofs.lemmas.List.Elements.{Contains-append_cases}
use Rattle.graphql_names.specs.Placed.{Placed, Place}
use Rattle.graphql_names.specs.Places.{is_built_in}
use Rattle.tree_literals.specs.ValueWritable.{can_be_enum}
use Rattle.schema_fold.specs.in_components.Lists.{firsts, is_among}
use Rattle.schema_fold.specs.in_components.Given.{Given, plain_given}
use Rattle.schema_fold.specs.in_type_members.TypeSystemTree.{EnumValueTree, unplaced_enum_value}
use Rattle.schema_fold.specs.in_definitions.DefinitionTree.{DefinitionTree}
use Rattle.schema_fold.specs.in_schema_types.SchemaTree.{SchemaType, SchemaTree, same_kind}
use Rattle.schema_fold.specs.in_schema_types.TypeParts.{TypeParts, TypeDefinition, type_here, type_extension_here}
use Rattle.schema_fold.specs.in_schema_types.Looks.{TypeLooks}
use Rattle.schema_fold.specs.in_schema_types.Addresses.{under, or_nothing, type_at}
use Rattle.schema_fold.specs.in_schema_types.declared.type_kind.TypeKind.TheVariants as kind
use Rattle.schema_fold.specs.BuiltIn.{built_in_definitions}
use Rattle.schema_fold.specs.NumberedDefinition.{Definitions, NumberedDefinition, listed_after, numbered, type_name, types_in}
use Rattle.schema_fold.specs.Components.{all_given, go_together, extension_here, parts_of, components, value_key, keyed_firsts}
use Rattle.schema_fold.specs.Fold.{fold, folded_type}
use Rattle.schema_types.proofs.UnderNames.{get_under}
use Rattle.rule_definitions.specs.Judged.{judged}
use Rattle.rule_definitions.specs.Names.{scalar_names}
use Rattle.rule_definitions.proofs.Lookups.{under_given, text_given}
use Rattle.rule_cycle_search.proofs.Lists.{not_in_nil, Contains-cons, only, found_in, mapped_some}
use Rattle.rule_schema_laws.specs.Literals.{HasTheFiveAlone, HasNoKeywordValue}
use Rattle.rule_schema_laws.specs.ReadTexts.{ReadTextsHaveTheFiveAlone, ReadTextsHaveNoKeywordValue}
use Rattle.rule_schema_laws.proofs.Validated.{comes_from, looks_of, named_type}
use Rattle.rule_schema_laws.proofs.Named.{some_mapped}
use Rattle.rule_schema_laws.proofs.Fine.{all_so, here_is, from_place, from_firsts, AreValues, AreFine, settled_fine, texts_fine}

-- ---- the table

-- a type of the table is no scalar, or one of the five; its enum values are EnumValues
abbrev is_of_five : TypeDefinition Place → Bool
is_of_five t = not (same_kind t.parts.kind kind.Scalar) || is_among (type_name t) scalar_names

abbrev has_values : TypeDefinition Place → Bool
has_values t = list_all (λ v. can_be_enum v.it.value.it) t.parts.values

abbrev is_of_table : DefinitionTree Place → Bool
is_of_table d = option_map_or (λ t. is_of_five t && has_values t) (type_here d) true && is_none (type_extension_here d)

table_so : list_all is_of_table built_in_definitions ≡ true
unfolding built_in_definitions
table_so = refl

or_second : (a b : Bool) → (not a || b) ≡ true → a ≡ true → b ≡ true
or_second true b h e = h
or_second false b h e = absurd (true≢false (sym e))

module _ (d : DefinitionTree Place) (there : Contains built_in_definitions d) where
  of_table : is_of_table d ≡ true
  of_table = all_so is_of_table built_in_definitions d table_so there

  table_type : (t : TypeDefinition Place) → type_here d ≡ Some t → (is_of_five t && has_values t) ≡ true
  table_type t here = ap (λ o. option_map_or (λ t. is_of_five t && has_values t) o true) (sym here) ∙ (and_parts (option_map_or (λ t. is_of_five t && has_values t) (type_here d) true) (is_none (type_extension_here d)) of_table).0

  table_extends_none : (e : TypeParts Place) → type_extension_here d ≡ Some e → ⊥
  table_extends_none e here = true≢false (sym (and_parts (option_map_or (λ t. is_of_five t && has_values t) (type_here d) true) (is_none (type_extension_here d)) of_table).1 ∙ ap is_none here)

-- ---- the fold

module _ (first : ℕ) (texts : Definitions) (fine : AreFine texts) where
  abbrev all : Definitions
  all = built_in_definitions ++ texts

  abbrev schema : SchemaTree Place
  schema = fold built_in_definitions first texts

  -- a type of the fold is what one of the definitions folds to
  record IsFolded (n : List ℕ) (v : SchemaType Place) : Type 0 where
    d : DefinitionTree Place
    stands : Contains all d
    t : TypeDefinition Place
    here : type_here d ≡ Some t
    named : type_name t ≡ n
    is : v ≡ folded_type (numbered first all) t

  is_folded : (n : List ℕ) (v : SchemaType Place) → type_at schema n ≡ Some v → IsFolded n v
  is_folded n v e =
      let (t, (c, is)) = comes_from (λ t. (type_name t, folded_type (numbered first all) t)) (firsts type_name (types_in all)) (n, v) (under_given n schema.types v e) in
      let (d, (stands, here)) = found_in (λ d. option_to_list (type_here d)) t all (from_firsts type_name (types_in all) t c) in
      record { d = d; stands = stands; t = t; here = here_is (type_here d) t here; named = ap (λ (x : List ℕ × SchemaType Place). x.0) is; is = sym (ap (λ (x : List ℕ × SchemaType Place). x.1) is) }

  -- ---- built-in scalars

  folded_five : HasTheFiveAlone (judged schema)
  folded_five n (t, (there, (scalar, mark))) =
      let (v, (at, looks)) = mapped_some looks_of (type_at schema n) t (sym (named_type schema n) ∙ there) in
      let f = is_folded n v at in
      let built : is_built_in f.t.place ≡ true = ap is_built_in (sym (ap (λ (x : SchemaType Place). x.place) f.is)) ∙ sym (ap (λ o. is_built_in (or_nothing (option_map (λ (x : SchemaType Place). x.place) o))) at) ∙ mark in
      let kinds : same_kind f.t.parts.kind kind.Scalar ≡ true = ap (λ k. same_kind k kind.Scalar) (sym (ap (λ (x : SchemaType Place). x.kind) f.is) ∙ sym (ap (λ (x : TypeLooks). x.kind) looks) ∙ scalar) in
      elim (Contains-append_cases built_in_definitions texts f.d f.stands) [
        | inl table ↦ subst (Contains scalar_names) f.named (text_given scalar_names (type_name f.t)
            (or_second (same_kind f.t.parts.kind kind.Scalar) (is_among (type_name f.t) scalar_names) (and_parts (is_of_five f.t) (has_values f.t) (table_type f.d table f.t f.here)).0 kinds))
        | inr own ↦ absurd (true≢false (sym built ∙ (fine f.d own).own f.t f.here))
      ]

  -- ---- enum values

  values_in : (d : DefinitionTree Place) → Contains all d → (t : TypeDefinition Place) → type_here d ≡ Some t → AreValues t.parts
  values_in d stands t here v c = elim (Contains-append_cases built_in_definitions texts d stands) [
    | inl table ↦ all_so (λ (x : Placed Place (EnumValueTree Place)). can_be_enum x.it.value.it) t.parts.values v (and_parts (is_of_five t) (has_values t) (table_type d table t here)).1 c
    | inr own ↦ (fine d own).values t here v c
  ]

  values_extending : (d : DefinitionTree Place) → Contains all d → (e : TypeParts Place) → type_extension_here d ≡ Some e → AreValues e
  values_extending d stands e here v c = elim (Contains-append_cases built_in_definitions texts d stands) [
    | inl table ↦ absurd (table_extends_none d table e here)
    | inr own ↦ (fine d own).extending e here v c
  ]

  -- each of a type's parts has such values
  parts_in : (t : TypeDefinition Place) → AreValues t.parts → (g : Given Place (TypeParts Place)) → Contains (parts_of (numbered first all) t) g → AreValues g.it
  parts_in t own g c = elim (Contains-cons (record { extension = None; it = t.parts }) (flat_map (extension_here t.parts) (numbered first all)) g c) [
    | inl e ↦ subst (λ (x : Given Place (TypeParts Place)). AreValues x.it) e own
    | inr r ↦
        let (l, (stands, given)) = found_in (extension_here t.parts) g (numbered first all) r in
        let (before, (d, (there, is))) = from_place (λ before d. listed_after first before d ∷ []) all l stands in
        let same : l ≡ listed_after first before d = only (listed_after first before d) l is in
        extended l g given (type_extension_here l.definition) refl (λ e here. values_extending d there e (ap (λ (x : NumberedDefinition). type_extension_here x.definition) (sym same) ∙ here))
  ]
    where
      extended : (l : NumberedDefinition) (g : Given Place (TypeParts Place)) → Contains (extension_here t.parts l) g → (o : Option (TypeParts Place)) → type_extension_here l.definition ≡ o
          → ((e : TypeParts Place) → type_extension_here l.definition ≡ Some e → AreValues e) → AreValues g.it
      extended l g given None none values = not_in_nil g (subst (λ o. Contains (option_map_or (λ (parts : TypeParts Place). if go_together t.parts parts then record { extension = l.extension; it = parts } ∷ [] else []) o []) g) none given)
      extended l g given (Some e) here values = by (go_together t.parts e) (subst (λ o. Contains (option_map_or (λ (parts : TypeParts Place). if go_together t.parts parts then record { extension = l.extension; it = parts } ∷ [] else []) o []) g) here given)
        where
          by : (b : Bool) → Contains (if b then record { extension = l.extension; it = e } ∷ [] else []) g → AreValues g.it
          by true c = subst (λ (x : Given Place (TypeParts Place)). AreValues x.it) (sym (only (record { extension = l.extension; it = e }) g c)) (values e here)
          by false c = not_in_nil g c

  abbrev values_given : TypeDefinition Place → List (Given Place (Placed Place (EnumValueTree Place)))
  values_given t = components (λ p. p.values) (numbered first all) t

  -- what stands under a name is an EnumValue
  value_named : (t : TypeDefinition Place) → AreValues t.parts → (m : List ℕ) → is_some (under m (keyed_firsts value_key (values_given t))) ≡ true → can_be_enum m ≡ true
  value_named t own m has = by (under m (keyed_firsts value_key (values_given t))) refl has
    where
      by : (o : Option (Given Place (Placed Place (EnumValueTree Place)))) → under m (keyed_firsts value_key (values_given t)) ≡ o → is_some o ≡ true → can_be_enum m ≡ true
      by None e h = absurd (true≢false (sym h))
      by (Some g) e h =
          let (x, (c, is)) = comes_from (λ x. (value_key x, x)) (firsts value_key (values_given t)) (m, g) (under_given m (keyed_firsts value_key (values_given t)) g e) in
          let (parts, (stands, given)) = found_in (λ (p : Given Place (TypeParts Place)). all_given p.extension p.it.values) x (parts_of (numbered first all) t) (from_firsts value_key (values_given t) x c) in
          let (v, (there, made)) = comes_from (λ v. record { extension = parts.extension; it = v }) parts.it.values x given in
          ap can_be_enum (sym (ap (λ (y : List ℕ × Given Place (Placed Place (EnumValueTree Place))). y.0) is) ∙ sym (ap (λ (y : Given Place (Placed Place (EnumValueTree Place))). value_key y) made))
          ∙ parts_in t own parts stands v there

  folded_values : HasNoKeywordValue (judged schema)
  folded_values n m (t, (there, (enum, (x, (has, keyword))))) =
      let (v, (at, looks)) = mapped_some looks_of (type_at schema n) t (sym (named_type schema n) ∙ there) in
      let f = is_folded n v at in
      let given : is_some (under m v.values) ≡ true =
      sym (some_mapped (plain_given unplaced_enum_value) (under m v.values)) ∙ ap is_some (sym (get_under (plain_given unplaced_enum_value) m v.values))
      ∙ ap (λ (u : TypeLooks). is_some (u.value m)) (sym looks) ∙ ap is_some has in
      true≢false (sym (value_named f.t (values_in f.d f.stands f.t f.here) m (ap (λ (y : SchemaType Place). is_some (under m y.values)) (sym f.is) ∙ given)) ∙ keyword)

pub five_alone : ReadTextsHaveTheFiveAlone
five_alone settings first texts read = folded_five first _ (settled_fine built_in_definitions settings.adopts settings.ignores (flat_map (λ t. t.1) texts) (texts_fine texts read))

pub no_keyword : ReadTextsHaveNoKeywordValue
no_keyword settings first texts read = folded_values first _ (settled_fine built_in_definitions settings.adopts settings.ignores (flat_map (λ t. t.1) texts) (texts_fine texts read))
