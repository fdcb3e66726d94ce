-- What a type is given, without origins and places, and the types of a fold.
use Rattle.std.proofs.Common.{◌≡◌, ℕ, Bool, true, false, ◌&&◌, cond, List, [], ◌∷◌, ◌++◌, map, filter, slice_get, bytes_eq, refl, sym, ap, ◌∙◌, Option, None, Some, option_map, option_to_list, if◌then◌else◌}
use Rattle.std.specs.List.{flat_map}
use Rattle.std.specs.Option.{option_map_or}
use Rattle.std.specs.FinMap as fin
use Rattle.std.specs.FinSet as set
use Rattle.std.specs.Cmp.Lexicographic.{nat_list_cmp_total}
use Rattle.std.proofs.lemmas.List.{map-append}
use Rattle.std.proofs.lemmas.Simd.{map-map}
use Rattle.graphql_names.specs.Placed.{Place, unplaced_text, unplaced_node}
use Rattle.schema_fold.specs.in_directives.DirectiveTree.{unplaced_directive, unplaced_directives, unplaced_input_value}
use Rattle.schema_fold.specs.in_type_members.TypeSystemTree.{unplaced_field_definition, unplaced_enum_value}
use Rattle.schema_fold.specs.in_definitions.DefinitionTree as tree
use Rattle.schema_fold.specs.in_definitions.DefinitionTree.{DefinitionTree, unplaced_definition}
use Rattle.schema_fold.specs.in_components.Lists.{each_place_after, firsts}
use Rattle.schema_fold.specs.in_components.Names.{by_bytes, named, names}
use Rattle.schema_fold.specs.in_components.Given.{Given, plain_given, given_name}
use Rattle.schema_fold.proofs.in_components.NamedEquality.{by_bytes-IsAntisymmetric}
use Rattle.schema_fold.specs.in_schema_types.SchemaTree.{SchemaType, same_kind}
use Rattle.schema_fold.specs.in_schema_types.TypeParts.{TypeParts, TypeDefinition, type_here, type_extension_here}
use Rattle.schema_fold.specs.in_schema_types.Plain.{PlainType, plain_type}
use Rattle.schema_fold.specs.NumberedDefinition.{Definitions, listed_after, numbered, type_name, types_in, type_named}
use Rattle.schema_fold.specs.Components.{all_given, go_together, extension_here, parts_of, components, field_key, value_key, input_key, keyed_firsts}
use Rattle.schema_fold.specs.Fold.{folded_type, folded_types}
use Rattle.verdict_laws.proofs.Gathered.{map-filter, find-filter, get-of_firsts, map_of_firsts, set_of_firsts}

-- ---- without places

abbrev pub unplaced_parts : TypeParts Place → TypeParts (Unit {0})
unplaced_parts p = record {
  kind = p.kind;
  name = unplaced_text p.name;
  directives = unplaced_directives p.directives;
  interfaces = map unplaced_text p.interfaces;
  fields = map (unplaced_node unplaced_field_definition) p.fields;
  members = map unplaced_text p.members;
  values = map (unplaced_node unplaced_enum_value) p.values;
  inputs = map (unplaced_node unplaced_input_value) p.inputs;
}

abbrev pub unplaced_type_definition : TypeDefinition Place → TypeDefinition (Unit {0})
unplaced_type_definition t = record { place = tt; description = option_map unplaced_text t.description; parts = unplaced_parts t.parts }

pub type_unplaced : (d : DefinitionTree Place) → type_here (unplaced_definition d) ≡ option_map unplaced_type_definition (type_here d)
type_unplaced (tree.ScalarType p d t) = refl
type_unplaced (tree.ObjectType p d t) = refl
type_unplaced (tree.InterfaceType p d t) = refl
type_unplaced (tree.UnionType p d t) = refl
type_unplaced (tree.EnumType p d t) = refl
type_unplaced (tree.InputObjectType p d t) = refl
type_unplaced _ = refl

pub type_extension_unplaced : (d : DefinitionTree Place) → type_extension_here (unplaced_definition d) ≡ option_map unplaced_parts (type_extension_here d)
type_extension_unplaced (tree.ExtendScalar p t) = refl
type_extension_unplaced (tree.ExtendObject p t) = refl
type_extension_unplaced (tree.ExtendInterface p t) = refl
type_extension_unplaced (tree.ExtendUnion p t) = refl
type_extension_unplaced (tree.ExtendEnum p t) = refl
type_extension_unplaced (tree.ExtendInputObject p t) = refl
type_extension_unplaced _ = refl

-- ---- extensions

-- all extensions of types, in order
abbrev pub extensions_in : Definitions → List (TypeParts Place)
extensions_in ds = flat_map (λ d. option_to_list (type_extension_here d)) ds

abbrev pub extends_called : List ℕ → TypeParts Place → Bool
extends_called n e = bytes_eq n e.name.it

abbrev of_kind : {P : Type 0} → TypeParts P → TypeParts P → Bool
of_kind defined e = same_kind defined.kind e.kind

-- those of a name, without places
abbrev pub extensions_of : Definitions → List ℕ → List (TypeParts (Unit {0}))
extensions_of ds n = map unplaced_parts (filter (extends_called n) (extensions_in ds))

module _ (defined : TypeParts Place) (first : ℕ) where
  abbrev extends : List (TypeParts Place) → List (TypeParts Place)
  extends es = filter (of_kind defined) (filter (extends_called defined.name.it) es)

  pub parts_after : (before ds : Definitions) → map (λ (g : Given Place (TypeParts Place)). g.it) (flat_map (extension_here defined) (each_place_after (λ b d. listed_after first b d ∷ []) before ds)) ≡ extends (extensions_in ds)
  parts_after before [] = refl
  parts_after before (d ∷ ds) =
      map-append (λ (g : Given Place (TypeParts Place)). g.it) (extension_here defined (listed_after first before d)) (flat_map (extension_here defined) (each_place_after (λ b e. listed_after first b e ∷ []) (before ++ d ∷ []) ds))
      ∙ ap (λ l. map (λ (g : Given Place (TypeParts Place)). g.it) (extension_here defined (listed_after first before d)) ++ l) (parts_after (before ++ d ∷ []) ds)
      ∙ by (type_extension_here d)
    where
      by_tests : (e : TypeParts Place) (a b : Bool)
          → map (λ (g : Given Place (TypeParts Place)). g.it) (if a && b then record { extension = (listed_after first before d).extension; it = e } ∷ [] else []) ++ extends (extensions_in ds)
          ≡ cond a (cond b (e ∷ extends (extensions_in ds)) (extends (extensions_in ds))) (extends (extensions_in ds))
      by_tests e true true = refl
      by_tests e true false = refl
      by_tests e false b = refl

      filtered : (e : TypeParts Place) (a : Bool) (l : List (TypeParts Place)) → cond a (cond (of_kind defined e) (e ∷ filter (of_kind defined) l) (filter (of_kind defined) l)) (filter (of_kind defined) l) ≡ filter (of_kind defined) (cond a (e ∷ l) l)
      filtered e true l = refl
      filtered e false l = refl

      by : (o : Option (TypeParts Place))
          → map (λ (g : Given Place (TypeParts Place)). g.it) (option_map_or (λ parts. if go_together defined parts then record { extension = (listed_after first before d).extension; it = parts } ∷ [] else []) o []) ++ extends (extensions_in ds)
          ≡ extends (option_to_list o ++ extensions_in ds)
      by None = refl
      by (Some e) = by_tests e (extends_called defined.name.it e) (of_kind defined e) ∙ filtered e (extends_called defined.name.it e) (filter (extends_called defined.name.it) (extensions_in ds))

-- ---- the parts of a type

-- those of its definition and of the extensions of its kind
abbrev pub all_parts : TypeDefinition (Unit {0}) → List (TypeParts (Unit {0})) → List (TypeParts (Unit {0}))
all_parts t es = t.parts ∷ filter (of_kind t.parts) es

parts_unplaced : (first : ℕ) (ds : Definitions) (t : TypeDefinition Place)
    → map unplaced_parts (map (λ (g : Given Place (TypeParts Place)). g.it) (parts_of (numbered first ds) t)) ≡ all_parts (unplaced_type_definition t) (extensions_of ds (type_name t))
parts_unplaced first ds t = ap (λ l. unplaced_parts t.parts ∷ l) (
    ap (map unplaced_parts) (parts_after t.parts first [] ds)
    ∙ sym (map-filter unplaced_parts (of_kind t.parts) (of_kind (unplaced_parts t.parts)) (λ x. refl) (filter (extends_called (type_name t)) (extensions_in ds))))

-- the components of one class, as they are seen
module _ {A B : Type 0} (of : TypeParts Place → List A) (view : Given Place A → B) (view' : A → B) (seen : (g : Given Place A) → view g ≡ view' g.it)
    (of' : TypeParts (Unit {0}) → List B) (agree : (p : TypeParts Place) → map view' (of p) ≡ of' (unplaced_parts p)) where
  view_all : (g : Given Place (TypeParts Place)) (xs : List A) → map view (all_given g.extension xs) ≡ map view' xs
  view_all g [] = refl
  view_all g (x ∷ xs) = λ i. seen (record { extension = g.extension; it = x }) i ∷ view_all g xs i

  class_seen : (gs : List (Given Place (TypeParts Place))) → map view (flat_map (λ g. all_given g.extension (of g.it)) gs) ≡ flat_map of' (map unplaced_parts (map (λ (g : Given Place (TypeParts Place)). g.it) gs))
  class_seen [] = refl
  class_seen (g ∷ gs) = map-append view (all_given g.extension (of g.it)) (flat_map (λ h. all_given h.extension (of h.it)) gs) ∙ (λ i. (view_all g (of g.it) ∙ agree g.it) i ++ class_seen gs i)

  pub components_seen : (first : ℕ) (ds : Definitions) (t : TypeDefinition Place) → map view (components of (numbered first ds) t) ≡ flat_map of' (all_parts (unplaced_type_definition t) (extensions_of ds (type_name t)))
  components_seen first ds t = class_seen (parts_of (numbered first ds) t) ∙ ap (flat_map of') (parts_unplaced first ds t)

-- ---- a type without places and origins, by the definition and the extensions of its name

abbrev pub plain_by : TypeDefinition (Unit {0}) → List (TypeParts (Unit {0})) → PlainType
plain_by t es = record {
  kind = t.parts.kind;
  description = t.description;
  name = t.parts.name;
  directives = flat_map (λ p. map (λ d. d.it) p.directives) (all_parts t es);
  interfaces = set.from_list (flat_map (λ p. map (λ x. x.it) p.interfaces) (all_parts t es));
  fields = fin.from_entries (flat_map (λ p. map (λ f. (f.it.name.it, f.it)) p.fields) (all_parts t es));
  members = set.from_list (flat_map (λ p. map (λ x. x.it) p.members) (all_parts t es));
  values = fin.from_entries (flat_map (λ p. map (λ v. (v.it.value.it, v.it)) p.values) (all_parts t es));
  inputs = fin.from_entries (flat_map (λ p. map (λ v. (v.it.name.it, v.it)) p.inputs) (all_parts t es));
}

-- the first of each name under its name
named_firsts : {A V : Type 0} (key : A → List ℕ) (f : A → V) (xs : List A) → named f (keyed_firsts key xs) ≡ fin.from_entries (map (λ x. (key x, f x)) xs)
named_firsts key f xs = ap fin.from_entries (map-map (λ e. (e.0, f e.1)) (λ x. (key x, x)) (firsts key xs)) ∙ map_of_firsts key f xs

pub folded_plain : (first : ℕ) (ds : Definitions) (t : TypeDefinition Place) → plain_type (folded_type (numbered first ds) t) ≡ plain_by (unplaced_type_definition t) (extensions_of ds (type_name t))
folded_plain first ds t = λ i. record {
  kind = t.parts.kind;
  description = option_map unplaced_text t.description;
  name = unplaced_text t.parts.name;
  directives = directives i;
  interfaces = interfaces i;
  fields = fields i;
  members = members i;
  values = values i;
  inputs = inputs i;
}
  where
    directives : map (plain_given unplaced_directive) (components (λ p. p.directives) (numbered first ds) t) ≡ flat_map (λ p. map (λ d. d.it) p.directives) (all_parts (unplaced_type_definition t) (extensions_of ds (type_name t)))
    directives = components_seen (λ p. p.directives) (plain_given unplaced_directive) (λ x. unplaced_directive x.it) (λ g. refl) (λ p. map (λ d. d.it) p.directives)
        (λ p. sym (map-map (λ d. d.it) (unplaced_node unplaced_directive) p.directives)) first ds t

    interfaces : names given_name (firsts given_name (components (λ p. p.interfaces) (numbered first ds) t)) ≡ set.from_list (flat_map (λ p. map (λ x. x.it) p.interfaces) (all_parts (unplaced_type_definition t) (extensions_of ds (type_name t))))
    interfaces = set_of_firsts given_name (components (λ p. p.interfaces) (numbered first ds) t)
        ∙ ap set.from_list (components_seen (λ p. p.interfaces) given_name (λ x. x.it) (λ g. refl) (λ p. map (λ x. x.it) p.interfaces) (λ p. sym (map-map (λ x. x.it) unplaced_text p.interfaces)) first ds t)

    members : names given_name (firsts given_name (components (λ p. p.members) (numbered first ds) t)) ≡ set.from_list (flat_map (λ p. map (λ x. x.it) p.members) (all_parts (unplaced_type_definition t) (extensions_of ds (type_name t))))
    members = set_of_firsts given_name (components (λ p. p.members) (numbered first ds) t)
        ∙ ap set.from_list (components_seen (λ p. p.members) given_name (λ x. x.it) (λ g. refl) (λ p. map (λ x. x.it) p.members) (λ p. sym (map-map (λ x. x.it) unplaced_text p.members)) first ds t)

    fields : named (plain_given unplaced_field_definition) (keyed_firsts field_key (components (λ p. p.fields) (numbered first ds) t)) ≡ fin.from_entries (flat_map (λ p. map (λ f. (f.it.name.it, f.it)) p.fields) (all_parts (unplaced_type_definition t) (extensions_of ds (type_name t))))
    fields = named_firsts field_key (plain_given unplaced_field_definition) (components (λ p. p.fields) (numbered first ds) t)
        ∙ ap fin.from_entries (components_seen (λ p. p.fields) (λ g. (field_key g, plain_given unplaced_field_definition g)) (λ x. (x.it.name.it, unplaced_field_definition x.it)) (λ g. refl)
        (λ p. map (λ f. (f.it.name.it, f.it)) p.fields) (λ p. sym (map-map (λ f. (f.it.name.it, f.it)) (unplaced_node unplaced_field_definition) p.fields)) first ds t)

    values : named (plain_given unplaced_enum_value) (keyed_firsts value_key (components (λ p. p.values) (numbered first ds) t)) ≡ fin.from_entries (flat_map (λ p. map (λ v. (v.it.value.it, v.it)) p.values) (all_parts (unplaced_type_definition t) (extensions_of ds (type_name t))))
    values = named_firsts value_key (plain_given unplaced_enum_value) (components (λ p. p.values) (numbered first ds) t)
        ∙ ap fin.from_entries (components_seen (λ p. p.values) (λ g. (value_key g, plain_given unplaced_enum_value g)) (λ x. (x.it.value.it, unplaced_enum_value x.it)) (λ g. refl)
        (λ p. map (λ v. (v.it.value.it, v.it)) p.values) (λ p. sym (map-map (λ v. (v.it.value.it, v.it)) (unplaced_node unplaced_enum_value) p.values)) first ds t)

    inputs : named (plain_given unplaced_input_value) (keyed_firsts input_key (components (λ p. p.inputs) (numbered first ds) t)) ≡ fin.from_entries (flat_map (λ p. map (λ v. (v.it.name.it, v.it)) p.inputs) (all_parts (unplaced_type_definition t) (extensions_of ds (type_name t))))
    inputs = named_firsts input_key (plain_given unplaced_input_value) (components (λ p. p.inputs) (numbered first ds) t)
        ∙ ap fin.from_entries (components_seen (λ p. p.inputs) (λ g. (input_key g, plain_given unplaced_input_value g)) (λ x. (x.it.name.it, unplaced_input_value x.it)) (λ g. refl)
        (λ p. map (λ v. (v.it.name.it, v.it)) p.inputs) (λ p. sym (map-map (λ v. (v.it.name.it, v.it)) (unplaced_node unplaced_input_value) p.inputs)) first ds t)

-- ---- all types

abbrev pub types_of : Definitions → List ℕ → List (TypeDefinition (Unit {0}))
types_of ds n = map unplaced_type_definition (filter (λ t. bytes_eq n (type_name t)) (types_in ds))

-- a type by its definition, and the extensions of its name
abbrev by_extensions : (List ℕ → List (TypeParts (Unit {0}))) → TypeDefinition (Unit {0}) → PlainType
by_extensions extensions t = plain_by t (extensions t.parts.name.it)

pub named_unplaced : (n : List ℕ) (ds : Definitions) → option_map unplaced_type_definition (type_named n ds) ≡ slice_get (types_of ds n) 0
named_unplaced n ds = find-filter unplaced_type_definition (λ t. bytes_eq n (type_name t)) (types_in ds)

get_type : (first : ℕ) (ds : Definitions) (n : List ℕ) → fin.get (named plain_type (folded_types first ds)) n ≡ option_map (by_extensions (extensions_of ds)) (slice_get (types_of ds n) 0)
get_type first ds n =
    ap (λ l. fin.get (fin.from_entries {R = by_bytes} l) n) (map-map {B = List ℕ × SchemaType Place} (λ e. (e.0, plain_type e.1)) (λ t. (type_name t, folded_type (numbered first ds) t)) (firsts type_name (types_in ds)))
    ∙ get-of_firsts type_name (λ t. plain_type (folded_type (numbered first ds) t)) n (types_in ds)
    ∙ (λ i. option_map (λ t. folded_plain first ds t i) (type_named n ds))
    ∙ option_map-map (type_named n ds)
    ∙ ap (option_map (by_extensions (extensions_of ds))) (named_unplaced n ds)
  where
    option_map-map : (o : Option (TypeDefinition Place)) → option_map (λ t. plain_by (unplaced_type_definition t) (extensions_of ds (type_name t))) o ≡ option_map (by_extensions (extensions_of ds)) (option_map unplaced_type_definition o)
    option_map-map None = refl
    option_map-map (Some t) = refl

pub types_alike : (i j : ℕ) (ds es : Definitions) → ((n : List ℕ) → types_of ds n ≡ types_of es n) → ((n : List ℕ) → extensions_of ds n ≡ extensions_of es n)
    → named plain_type (folded_types i ds) ≡ named plain_type (folded_types j es)
types_alike i j ds es types extensions = fin.same_map nat_list_cmp_total by_bytes-IsAntisymmetric _ _ (λ n.
    get_type i ds n ∙ (λ k. option_map (by_extensions (λ m. extensions m k)) (slice_get (types n k) 0)) ∙ sym (get_type j es n))
