-- A type of which no component is repeated is written unchanged, as it is in the list.
use Rattle.std.proofs.Common.{◌≡◌, ℕ, Bool, true, false, not, cond, List, [], ◌∷◌, ◌++◌, map, flat_map, length, Option, Some, None, refl, sym, ap, ◌∙◌, if◌then◌else◌, append_assoc}
use Rattle.std.specs.List.{filter}
use Rattle.std.proofs.lemmas.List.{append-nil, map-append}
use Rattle.std.proofs.lemmas.Simd.{map-map}
use Rattle.graphql_names.specs.Places.{is_built_in}
use Rattle.graphql_names.specs.Placed.{Place}
use Rattle.schema_components.specs.Lists.{firsts}
use Rattle.schema_components.specs.Given.{ExtensionTree, given_name}
use Rattle.schema_types.specs.TypeParts.{TypeParts, TypeDefinition, definition_by, extension_by}
use Rattle.schema_types.specs.Out.{is_empty, givers, entries_givers, given_by, entries_given_by, each_once, type_parts_given_by, extensions_of_type, written_definition, written_extensions, written_type}
use Rattle.schema_fold.specs.NumberedDefinition.{Definitions, NumberedDefinition, numbered}
use Rattle.schema_fold.specs.Components.{components, keyed_firsts, field_key, value_key, input_key}
use Rattle.schema_fold.specs.Fold.{folded_type}
use Rattle.verdict_laws.specs.Arranged.{arranged}
use Rattle.verdict_laws.specs.Whole.{classes, extensions_in, whole_definition, whole_extension, whole_type}
use Rattle.verdict_laws.proofs.Order.{Each, Each-arranged, is_some_of, blocks, tests, firsts_arranged}
use Rattle.verdict_laws.proofs.Whole.{Numbered, number_key, giver_of, all_differ, all_apart, all_of, by_definition, by_extension, all_givers, under, givers_under, given_under, given_numbered}
use Rattle.verdict_laws.proofs.Numbering.{placed, pairs, extensions_given, numbers_ascend, without_numbers}

-- no component of the type is repeated: the first of each name are all
pub record HasNoRepeats (list : List NumberedDefinition) (t : TypeDefinition Place) : Type 0 where
  pub interfaces : firsts given_name (components (λ p. p.interfaces) list t) ≡ components (λ p. p.interfaces) list t
  pub fields : firsts field_key (components (λ p. p.fields) list t) ≡ components (λ p. p.fields) list t
  pub members : firsts given_name (components (λ p. p.members) list t) ≡ components (λ p. p.members) list t
  pub values : firsts value_key (components (λ p. p.values) list t) ≡ components (λ p. p.values) list t
  pub inputs : firsts input_key (components (λ p. p.inputs) list t) ≡ components (λ p. p.inputs) list t

pub map_each : {X Y : Type 0} (f g : X → Y) (xs : List X) → Each (λ x. f x ≡ g x) xs → map f xs ≡ map g xs
map_each f g [] h = refl
map_each f g (x ∷ xs) h = (λ i. h.0 i ∷ map_each f g xs h.1 i)

filter_map : {X Y : Type 0} (f : X → Y) (p : Y → Bool) (xs : List X) → filter p (map f xs) ≡ map f (filter (λ x. p (f x)) xs)
filter_map f p [] = refl
filter_map f p (x ∷ xs) = by (p (f x)) (filter_map f p xs)
  where
    by : (b : Bool) → filter p (map f xs) ≡ map f (filter (λ x. p (f x)) xs) → cond b (f x ∷ filter p (map f xs)) (filter p (map f xs)) ≡ map f (cond b (x ∷ filter (λ x. p (f x)) xs) (filter (λ x. p (f x)) xs))
    by true rest = ap (λ l. f x ∷ l) rest
    by false rest = rest

pub arranged_map : {X Y : Type 0} (f : X → Y) (cs : List (Y → Bool)) (xs : List X) → arranged cs (map f xs) ≡ map f (arranged (map (λ c x. c (f x)) cs) xs)
arranged_map f [] xs = refl
arranged_map f (c ∷ cs) xs =
    (λ i. filter_map f c xs i ++ (ap (arranged cs) (filter_map f (λ y. not (c y)) xs) ∙ arranged_map f cs (filter (λ x. not (c (f x))) xs)) i)
    ∙ sym (map-append f (filter (λ x. c (f x)) xs) (arranged (map (λ c x. c (f x)) cs) (filter (λ x. not (c (f x))) xs)))

pub some_given : {A : Type 0} (xs : List A) → is_some_of (length xs) ≡ not (is_empty xs)
some_given [] = refl
some_given (x ∷ xs) = refl

-- how many components of each class an extension gives
abbrev counts : List (Numbered → ℕ)
counts =
    (λ x. length x.1.directives)
    ∷ (λ x. length x.1.interfaces)
    ∷ (λ x. length x.1.fields)
    ∷ (λ x. length x.1.members)
    ∷ (λ x. length x.1.values)
    ∷ (λ x. length x.1.inputs)
    ∷ []

tests_same : tests number_key giver_of counts ≡ map (λ c x. c (placed x)) classes
tests_same = λ i.
    (λ x. some_given x.1.directives i)
    ∷ (λ x. some_given x.1.interfaces i)
    ∷ (λ x. some_given x.1.fields i)
    ∷ (λ x. some_given x.1.members i)
    ∷ (λ x. some_given x.1.values i)
    ∷ (λ x. some_given x.1.inputs i)
    ∷ []

six : {Y : Type 0} (a b c d e f : List Y) → a ++ b ++ c ++ d ++ e ++ f ≡ a ++ (b ++ (c ++ (d ++ (e ++ (f ++ [])))))
six a b c d e f =
    append_assoc (a ++ b ++ c ++ d) e f ∙ append_assoc (a ++ b ++ c) d (e ++ f) ∙ append_assoc (a ++ b) c (d ++ (e ++ f)) ∙ append_assoc a b (c ++ (d ++ (e ++ f)))
    ∙ ap (λ l. a ++ (b ++ (c ++ (d ++ (e ++ l))))) (sym (append-nil f))

module _ (first : ℕ) (ds : Definitions) (t : TypeDefinition Place) where
  abbrev pub es_of : List Numbered
  es_of = pairs t.parts (numbered first ds)

  pub components_all : {A : Type 0} (of : TypeParts Place → List A) → components of (numbered first ds) t ≡ all_of of t.parts es_of
  components_all of =
      ap (λ gs. flat_map (λ g. map (λ x. record { extension = g.extension; it = x }) (of g.it)) (record { extension = None; it = t.parts } ∷ gs)) (extensions_given t.parts first ds)
      ∙ ap (λ l. map (λ x. record { extension = None; it = x }) (of t.parts) ++ l) (given_numbered of es_of)

module _ (first : ℕ) (ds : Definitions) (t : TypeDefinition Place) (no_repeats : HasNoRepeats (numbered first ds) t) where
  abbrev list : List NumberedDefinition
  list = numbered first ds

  abbrev es : List Numbered
  es = pairs t.parts list

  components_are : {A : Type 0} (of : TypeParts Place → List A) → components of list t ≡ all_of of t.parts es
  components_are of = components_all first ds t of

  abbrev giver_type : Type 0
  giver_type = Option (ExtensionTree Place)

  -- what the type has of each class
  interfaces_are : firsts given_name (components (λ p. p.interfaces) list t) ≡ all_of (λ p. p.interfaces) t.parts es
  interfaces_are = no_repeats.interfaces ∙ components_are (λ p. p.interfaces)

  members_are : firsts given_name (components (λ p. p.members) list t) ≡ all_of (λ p. p.members) t.parts es
  members_are = no_repeats.members ∙ components_are (λ p. p.members)

  fields_are : keyed_firsts field_key (components (λ p. p.fields) list t) ≡ under field_key (all_of (λ p. p.fields) t.parts es)
  fields_are = ap (under field_key) (no_repeats.fields ∙ components_are (λ p. p.fields))

  values_are : keyed_firsts value_key (components (λ p. p.values) list t) ≡ under value_key (all_of (λ p. p.values) t.parts es)
  values_are = ap (under value_key) (no_repeats.values ∙ components_are (λ p. p.values))

  inputs_are : keyed_firsts input_key (components (λ p. p.inputs) list t) ≡ under input_key (all_of (λ p. p.inputs) t.parts es)
  inputs_are = ap (under input_key) (no_repeats.inputs ∙ components_are (λ p. p.inputs))

  -- what a giver gave, where of each class it gave that
  parts_by : (giver : giver_type) (p : TypeParts Place)
      → given_by giver (all_of (λ p. p.directives) t.parts es) ≡ p.directives
      → given_by giver (all_of (λ p. p.interfaces) t.parts es) ≡ p.interfaces
      → given_by giver (all_of (λ p. p.fields) t.parts es) ≡ p.fields
      → given_by giver (all_of (λ p. p.members) t.parts es) ≡ p.members
      → given_by giver (all_of (λ p. p.values) t.parts es) ≡ p.values
      → given_by giver (all_of (λ p. p.inputs) t.parts es) ≡ p.inputs
      → type_parts_given_by giver (folded_type list t) ≡ record p { kind = t.parts.kind; name = t.parts.name }
  parts_by giver p d n f m v u = λ i. record {
    kind = t.parts.kind;
    name = t.parts.name;
    directives = (ap (given_by giver) (components_are (λ p. p.directives)) ∙ d) i;
    interfaces = (ap (given_by giver) interfaces_are ∙ n) i;
    fields = (ap (entries_given_by giver) fields_are ∙ given_under field_key giver (all_of (λ p. p.fields) t.parts es) ∙ f) i;
    members = (ap (given_by giver) members_are ∙ m) i;
    values = (ap (entries_given_by giver) values_are ∙ given_under value_key giver (all_of (λ p. p.values) t.parts es) ∙ v) i;
    inputs = (ap (entries_given_by giver) inputs_are ∙ given_under input_key giver (all_of (λ p. p.inputs) t.parts es) ∙ u) i;
  }

  definition_whole : written_definition (folded_type list t) ≡ whole_definition t
  definition_whole = ap (definition_by t.parts.kind t.place t.description) (parts_by None t.parts
      (by_definition (λ p. p.directives) t.parts es)
      (by_definition (λ p. p.interfaces) t.parts es)
      (by_definition (λ p. p.fields) t.parts es)
      (by_definition (λ p. p.members) t.parts es)
      (by_definition (λ p. p.values) t.parts es)
      (by_definition (λ p. p.inputs) t.parts es))

  order : extensions_of_type (folded_type list t) ≡ map giver_of (arranged (map (λ c x. c (placed x)) classes) es)
  order =
      ap each_once (
      (λ i. givers (components_are (λ p. p.directives) i) ++ givers (interfaces_are i) ++ entries_givers (fields_are i) ++ givers (members_are i) ++ entries_givers (values_are i) ++ entries_givers (inputs_are i))
      ∙ (λ i. all_givers (λ p. p.directives) t.parts es i ++ all_givers (λ p. p.interfaces) t.parts es i
      ++ (givers_under field_key (all_of (λ p. p.fields) t.parts es) ∙ all_givers (λ p. p.fields) t.parts es) i ++ all_givers (λ p. p.members) t.parts es i
      ++ (givers_under value_key (all_of (λ p. p.values) t.parts es) ∙ all_givers (λ p. p.values) t.parts es) i ++ (givers_under input_key (all_of (λ p. p.inputs) t.parts es) ∙ all_givers (λ p. p.inputs) t.parts es) i)
      ∙ six (blocks number_key giver_of (λ x. length x.1.directives) es) (blocks number_key giver_of (λ x. length x.1.interfaces) es) (blocks number_key giver_of (λ x. length x.1.fields) es) (blocks number_key giver_of (λ x. length x.1.members) es) (blocks number_key giver_of (λ x. length x.1.values) es) (blocks number_key giver_of (λ x. length x.1.inputs) es))
      ∙ firsts_arranged number_key giver_of counts es (all_apart _ es (numbers_ascend t.parts first ds))
      ∙ ap (λ cs. map giver_of (arranged cs es)) tests_same

  zip : (xs : List Numbered)
      → Each (λ x. given_by (Some x.0) (all_of (λ p. p.directives) t.parts es) ≡ x.1.directives) xs
      → Each (λ x. given_by (Some x.0) (all_of (λ p. p.interfaces) t.parts es) ≡ x.1.interfaces) xs
      → Each (λ x. given_by (Some x.0) (all_of (λ p. p.fields) t.parts es) ≡ x.1.fields) xs
      → Each (λ x. given_by (Some x.0) (all_of (λ p. p.members) t.parts es) ≡ x.1.members) xs
      → Each (λ x. given_by (Some x.0) (all_of (λ p. p.values) t.parts es) ≡ x.1.values) xs
      → Each (λ x. given_by (Some x.0) (all_of (λ p. p.inputs) t.parts es) ≡ x.1.inputs) xs
      → Each (λ x. extension_by t.parts.kind x.0.place (type_parts_given_by (Some x.0) (folded_type list t)) ≡ whole_extension t (placed x)) xs
  zip [] a b c d e f = tt
  zip (x ∷ xs) a b c d e f = (ap (extension_by t.parts.kind x.0.place) (parts_by (Some x.0) x.1 a.0 b.0 c.0 d.0 e.0 f.0), zip xs a.1 b.1 c.1 d.1 e.1 f.1)

  each_whole : Each (λ x. extension_by t.parts.kind x.0.place (type_parts_given_by (Some x.0) (folded_type list t)) ≡ whole_extension t (placed x)) es
  each_whole =
      let apart = all_differ _ es (numbers_ascend t.parts first ds) in
      zip es (by_extension (λ p. p.directives) t.parts es apart) (by_extension (λ p. p.interfaces) t.parts es apart) (by_extension (λ p. p.fields) t.parts es apart)
      (by_extension (λ p. p.members) t.parts es apart) (by_extension (λ p. p.values) t.parts es apart) (by_extension (λ p. p.inputs) t.parts es apart)

  extensions_whole : written_extensions (folded_type list t) ≡ map (whole_extension t) (arranged classes (extensions_in ds t.parts))
  extensions_whole =
      let cs = map (λ c x. c (placed x)) classes in
      ap (map (λ e. extension_by t.parts.kind e.place (type_parts_given_by (Some e) (folded_type list t)))) order
      ∙ map-map (λ e. extension_by t.parts.kind e.place (type_parts_given_by (Some e) (folded_type list t))) giver_of (arranged cs es)
      ∙ map_each (λ x. extension_by t.parts.kind x.0.place (type_parts_given_by (Some x.0) (folded_type list t))) (λ x. whole_extension t (placed x)) (arranged cs es) (Each-arranged _ cs es each_whole)
      ∙ sym (map-map (whole_extension t) placed (arranged cs es))
      ∙ ap (map (whole_extension t)) (sym (arranged_map placed classes es) ∙ ap (arranged classes) (without_numbers t.parts first ds))

  pub type_whole : (n : List ℕ) → written_type (n, folded_type list t) ≡ whole_type ds t
  type_whole n = λ i. (if is_built_in t.place then [] else definition_whole i ∷ []) ++ extensions_whole i
