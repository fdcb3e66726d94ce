-- The subtypes of an interface are its implementers.
use Rattle.std.proofs.Common.{◌≡◌, ℕ, Bool, true, false, ◌&&◌, ◌||◌, List, [], ◌∷◌, ◌++◌, map, Option, None, Some, refl, sym, ap, subst, ◌∙◌, if◌then◌else◌, true≢false, is_some}
use Rattle.std.specs.Prelude.{unwrap_or, fold, option_and_then}
use Rattle.std.specs.List.{list_any, flat_map, find, IsDistinct, AllByRecursion}
use Rattle.std.specs.Map.{keys_of}
use Rattle.std.specs.Option.{option_map, option_map_or}
use Rattle.std.specs.Str.{bytes_eq}
use Rattle.std.proofs.lemmas.List.Folds.{list_any-append}
use Rattle.std.proofs.lemmas.Map.Keys.{IsDistinct-head, IsDistinct-tail}
use Rattle.std.proofs.lemmas.Slice.Eq.{bytes_eq-Decides}
use Rattle.graphql_names.specs.NameValue.{NameValue}
use Rattle.graphql_names.specs.Placed.{Place, Text}
use Rattle.schema_components.specs.Lists.{is_among}
use Rattle.schema_components.specs.Names.{Entries, same_text}
use Rattle.schema_components.specs.Given.{Given, given_name}
use Rattle.schema_building.specs.in_schema_types.SchemaTree.{SchemaType, SchemaTree, same_kind}
use Rattle.schema_building.specs.in_schema_types.TypeView.{name_text, extended_type}
use Rattle.schema_building.specs.in_schema_types.Addresses.{under, type_at}
use Rattle.schema_building.specs.in_schema_types.declared.extended_type.ExtendedType.{ExtendedType}
use Rattle.schema_building.specs.in_schema_types.declared.type_kind.TypeKind.{TypeKind}
use Rattle.schema_building.specs.in_schema_types.declared.type_kind.TypeKind.TheVariants as kind
use Rattle.graphql_schema.specs.Implementers.{ImplementersTree, implementers_in}
use Rattle.graphql_schema.specs.Noting.{Naming, nobody, with_name, and_type, and_naming, naming, namings_of, namings, noted_in}
use Rattle.graphql_schema.specs.LookUps.{implements}
use Rattle.graphql_schema.specs.Subtypes.{is_implementer, SubtypesAreImplementers}
use Rattle.graphql_schema.specs.SchemaOf.{schema_tree}
use Rattle.graphql_schema.proofs.Implemented.{noted_is}
use Rattle.graphql_schema.specs.declared.schema.Schema.{Schema}

or_false : (b : Bool) → (b || false) ≡ b
or_false true = refl
or_false false = refl

and_false : (b : Bool) → (b && false) ≡ false
and_false true = refl
and_false false = refl

or_assoc : (a b c : Bool) → ((a || b) || c) ≡ (a || (b || c))
or_assoc true b c = refl
or_assoc false b c = refl

or_swap : (a b c : Bool) → ((a || c) || b) ≡ ((a || b) || c)
or_swap true b c = refl
or_swap false true true = refl
or_swap false true false = refl
or_swap false false true = refl
or_swap false false false = refl

spread : (a b c : Bool) → ((a && b) || (b && c)) ≡ (b && (a || c))
spread true true c = refl
spread true false c = refl
spread false b c = refl

flip : (x y : List ℕ) → bytes_eq x y ≡ bytes_eq y x
flip x y = by (bytes_eq x y) refl (bytes_eq y x) refl
  where
    by : (a : Bool) → bytes_eq x y ≡ a → (b : Bool) → bytes_eq y x ≡ b → a ≡ b
    by true e true f = refl
    by true e false f = sym ((bytes_eq-Decides y x).1 (sym ((bytes_eq-Decides x y).0 e))) ∙ f
    by false e true f = sym e ∙ (bytes_eq-Decides x y).1 (sym ((bytes_eq-Decides y x).0 f))
    by false e false f = refl

-- ---- what is under an interface

found_too : (t n : List ℕ) (ns : List (List ℕ)) → is_among n ns ≡ true → (b : Bool) → bytes_eq t n ≡ b → is_among t ns ≡ (is_among t ns || b)
found_too t n ns h true e = let same : is_among t ns ≡ true = ap (λ x. is_among x ns) ((bytes_eq-Decides t n).0 e) ∙ h in same ∙ sym (ap (λ c. c || true) same)
found_too t n ns h false e = sym (or_false (is_among t ns))

name_added : (t n : List ℕ) (ns : List (List ℕ)) → is_among t (with_name n ns) ≡ (is_among t ns || bytes_eq t n)
name_added t n ns = by (is_among n ns) refl
  where
    by : (b : Bool) → is_among n ns ≡ b → is_among t (if b then ns else ns ++ n ∷ []) ≡ (is_among t ns || bytes_eq t n)
    by true h = found_too t n ns h (bytes_eq t n) refl
    by false h = list_any-append (bytes_eq t) ns (n ∷ []) ∙ ap (λ b. is_among t ns || b) (or_false (bytes_eq t n))

abbrev has : List ℕ → ImplementersTree → Bool
has t x = is_among t x.objects || is_among t x.interfaces

type_added : (is_object : Bool) (n t : List ℕ) (x : ImplementersTree) → has t (and_type is_object n x) ≡ (has t x || bytes_eq t n)
type_added true n t x = ap (λ b. b || is_among t x.interfaces) (name_added t n x.objects) ∙ or_swap (is_among t x.objects) (is_among t x.interfaces) (bytes_eq t n)
type_added false n t x = ap (λ b. is_among t x.objects || b) (name_added t n x.interfaces) ∙ sym (or_assoc (is_among t x.objects) (is_among t x.interfaces) (bytes_eq t n))

module _ (i t : List ℕ) where
  -- the type t names the interface i
  abbrev names_it : Naming → Bool
  names_it x = bytes_eq x.interface i && bytes_eq t x.type

  or_nobody : (o : Option ImplementersTree) → has t (unwrap_or o nobody) ≡ is_implementer o t
  or_nobody None = refl
  or_nobody (Some x) = refl

  naming_added : (o : Option ImplementersTree) (x : Naming) → is_implementer (and_naming i o x) t ≡ (is_implementer o t || names_it x)
  naming_added o x = by (bytes_eq x.interface i)
    where
      by : (b : Bool) → is_implementer (if b then Some (and_type x.is_object x.type (unwrap_or o nobody)) else o) t ≡ (is_implementer o t || (b && bytes_eq t x.type))
      by true = type_added x.is_object x.type t (unwrap_or o nobody) ∙ ap (λ b. b || bytes_eq t x.type) (or_nobody o)
      by false = sym (or_false (is_implementer o t))

  all_added : (o : Option ImplementersTree) (xs : List Naming) → is_implementer (fold (and_naming i) o xs) t ≡ (is_implementer o t || list_any names_it xs)
  all_added o [] = sym (or_false (is_implementer o t))
  all_added o (x ∷ xs) =
      all_added (and_naming i o x) xs ∙ ap (λ b. b || list_any names_it xs) (naming_added o x)
      ∙ or_assoc (is_implementer o t) (names_it x) (list_any names_it xs)

  -- ---- what the types name

  one_names : (is_object : Bool) (n : List ℕ) (gs : List (Given Place (Text Place))) → list_any names_it (map (naming is_object n) gs) ≡ (bytes_eq t n && is_among i (map given_name gs))
  one_names is_object n [] = sym (and_false (bytes_eq t n))
  one_names is_object n (g ∷ gs) =
      ap (λ b. (b && bytes_eq t n) || list_any names_it (map (naming is_object n) gs)) (flip (given_name g) i)
      ∙ ap (λ b. (bytes_eq i (given_name g) && bytes_eq t n) || b) (one_names is_object n gs)
      ∙ spread (bytes_eq i (given_name g)) (bytes_eq t n) (is_among i (map given_name gs))

  module _ (s : SchemaTree Place) where
    abbrev stands : List ℕ × SchemaType Place → Bool
    stands e = bytes_eq t e.0 && implements s e.1 i

    types_name : (es : Entries (SchemaType Place)) → list_any names_it (flat_map namings_of es) ≡ list_any stands es
    types_name [] = refl
    types_name (e ∷ es) =
        list_any-append names_it (namings_of e) (flat_map namings_of es)
        ∙ ap (λ b. b || list_any names_it (flat_map namings_of es)) (one_names (same_kind e.1.kind kind.Object) e.0 e.1.interfaces)
        ∙ ap (λ b. stands e || b) (types_name es)

    none_stands : (k : List ℕ) (es : Entries (SchemaType Place)) → t ≡ k → AllByRecursion (λ y. bytes_eq k y ≡ false) (keys_of es) → list_any stands es ≡ false
    none_stands k [] same h = refl
    none_stands k (e ∷ es) same h =
        ap (λ b. (b && implements s e.1 i) || list_any stands es) (ap (λ x. bytes_eq x e.0) same ∙ h.0)
        ∙ none_stands k es same h.1

    one_stands : (es : Entries (SchemaType Place)) → IsDistinct bytes_eq (keys_of es) → list_any stands es ≡ option_map_or (λ b. implements s b i) (under t es) false
    one_stands [] h = refl
    one_stands (e ∷ es) h = by (bytes_eq t e.0) refl (one_stands es (IsDistinct-tail bytes_eq e.0 (keys_of es) h))
      where
        by : (b : Bool) → bytes_eq t e.0 ≡ b → list_any stands es ≡ option_map_or (λ b. implements s b i) (under t es) false
            → ((b && implements s e.1 i) || list_any stands es) ≡ option_map_or (λ b. implements s b i) (option_map (λ (p : List ℕ × SchemaType Place). p.1) (if b then Some e else find (λ (p : List ℕ × SchemaType Place). bytes_eq t p.0) es)) false
        by true is rest =
            ap (λ b. implements s e.1 i || b) (none_stands e.0 es ((bytes_eq-Decides t e.0).0 is) (IsDistinct-head bytes_eq e.0 (keys_of es) h))
            ∙ or_false (implements s e.1 i)
        by false is rest = rest

    listed : IsDistinct bytes_eq (keys_of s.types) → is_implementer (noted_in (namings s) i) t ≡ option_map_or (λ b. implements s b i) (type_at s t) false
    listed distinct = all_added None (namings s) ∙ types_name s.types ∙ one_stands s.types distinct

    -- ---- subtypes

    of_interface : (k : TypeKind) → same_kind k kind.Interface ≡ true → (u x : Bool) → ((same_kind k kind.Union && u) || (same_kind k kind.Interface && x)) ≡ x
    of_interface kind.Scalar h u x = absurd (true≢false (sym h))
    of_interface kind.Object h u x = absurd (true≢false (sym h))
    of_interface kind.Interface h u x = refl
    of_interface kind.Union h u x = absurd (true≢false (sym h))
    of_interface kind.Enum h u x = absurd (true≢false (sym h))
    of_interface kind.InputObject h u x = absurd (true≢false (sym h))

    chosen : (b : Bool) (a : SchemaType Place) → is_some (if b then Some a else None) ≡ true → b ≡ true
    chosen true a h = refl
    chosen false a h = h

    names : (o : Option (SchemaType Place)) → is_some (option_and_then (λ a. if same_kind a.kind kind.Interface then Some a else None) o) ≡ true
        → option_map_or (λ a. (same_kind a.kind kind.Union && is_among t (map given_name a.members)) || (same_kind a.kind kind.Interface && option_map_or (λ b. implements s b i) (type_at s t) false)) o false
        ≡ option_map_or (λ b. implements s b i) (type_at s t) false
    names None h = absurd (true≢false (sym h))
    names (Some a) h = of_interface a.kind (chosen (same_kind a.kind kind.Interface) a h) (is_among t (map given_name a.members)) (option_map_or (λ b. implements s b i) (type_at s t) false)

pub subtypes_are_implementers : (s : SchemaTree Place) → ((i : List ℕ) → noted_in (namings s) i ≡ implementers_in s i) → IsDistinct bytes_eq (keys_of s.types) → SubtypesAreImplementers s
subtypes_are_implementers s noted distinct i t there = names i t s (type_at s i) there ∙ sym (listed i t s distinct) ∙ ap (λ o. is_implementer o t) (noted i)

-- ---- each name is there once

apart : (n : NameValue) (ks : List NameValue) → AllByRecursion (λ y. same_text name_text n y ≡ false) ks → AllByRecursion (λ y. bytes_eq n.text y ≡ false) (map name_text ks)
apart n [] h = h
apart n (k ∷ ks) h = (h.0, apart n ks h.1)

keys_named : (es : List (NameValue × ExtendedType)) → keys_of (map (λ e. (name_text e.0, extended_type e.1)) es) ≡ map name_text (keys_of es)
keys_named [] = refl
keys_named (e ∷ es) = ap (λ l. name_text e.0 ∷ l) (keys_named es)

once : (ks : List NameValue) → IsDistinct (same_text name_text) ks → IsDistinct bytes_eq (map name_text ks)
unfolding IsDistinct
once [] h = h
once (k ∷ ks) h = (apart k ks h.0, once ks h.1)

-- of a schema
pub schema_subtypes : (s : Schema) → IsDistinct (same_text name_text) (keys_of s.types.entries) → SubtypesAreImplementers (schema_tree s)
schema_subtypes s unique = subtypes_are_implementers (schema_tree s) (noted_is s.types.entries) (subst (IsDistinct bytes_eq) (sym (keys_named s.types.entries)) (once (keys_of s.types.entries) unique))
