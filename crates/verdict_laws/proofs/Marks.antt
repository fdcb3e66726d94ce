-- What is built in of a fold, by the marks of the definitions and extensions of each name.
use Rattle.std.proofs.Common.{◌≡◌, ℕ, Bool, true, false, cond, List, [], ◌∷◌, ◌++◌, map, filter, find, slice_get, bytes_eq, Contains, refl, sym, ap, ◌∙◌, Option, None, Some, option_map, option_to_list, if◌then◌else◌}
use Rattle.std.specs.List.{flat_map}
use Rattle.std.specs.Option.{option_map_or}
use Rattle.std.proofs.lemmas.List.{map-append}
use Rattle.std.proofs.lemmas.List.Elements.{filter-append}
use Rattle.std.proofs.lemmas.Grind.{flat_map-append}
use Rattle.graphql_names.specs.Placed.{Place, Placed, unplaced_node}
use Rattle.graphql_names.specs.Places.{is_built_in}
use Rattle.schema_fold.specs.in_directives.DirectiveTree.{DirectiveDefinitionTree, InputValueTree, unplaced_input_value}
use Rattle.schema_fold.specs.in_type_members.TypeSystemTree.{FieldDefinitionTree, EnumValueTree, unplaced_field_definition, unplaced_enum_value}
use Rattle.schema_fold.specs.in_definitions.DefinitionTree.{DefinitionTree}
use Rattle.schema_fold.specs.in_components.Lists.{firsts}
use Rattle.schema_fold.specs.in_components.Names.{Entries}
use Rattle.schema_fold.specs.in_components.Given.{Given}
use Rattle.schema_fold.proofs.in_components.Places.{Contains-first, Contains-rest}
use Rattle.schema_fold.specs.in_schema_types.SchemaTree.{SchemaType, SchemaTree, same_kind}
use Rattle.schema_fold.specs.in_schema_types.Plain.{plain_directive_definition}
use Rattle.schema_fold.specs.in_schema_types.TypeParts.{TypeParts, TypeDefinition, type_here, type_extension_here}
use Rattle.schema_fold.specs.in_schema_types.Addresses.{Address, TypeAt, DirectiveDefinitionAt, FieldAt, ValueAt, InputAt, ArgumentAt, under, or_nothing, place_of, in_type, directive_definition_at, field_at, value_at, input_at, is_marked}
use Rattle.schema_fold.specs.in_schema_types.declared.type_kind.TypeKind.{TypeKind}
use Rattle.schema_fold.specs.NumberedDefinition.{Definitions, numbered, type_name, types_in, type_named, directive_here, directive_name, directives_in}
use Rattle.schema_fold.specs.Components.{all_given, parts_of, components, field_key, value_key, input_key, keyed_firsts}
use Rattle.schema_fold.specs.Fold.{folded_type, chosen_directive, fold}
use Rattle.rule_definitions.proofs.Lists.{slice_get-map}
use Rattle.rule_definitions.proofs.Same.{same_verdict}
use Rattle.verdict_laws.specs.RearrangedLists.{IsRearranged}
use Rattle.verdict_laws.specs.Elsewhere.{AreFieldsElsewhere, AreElsewhere, ArePartsElsewhere, AreAllElsewhere}
use Rattle.verdict_laws.specs.Judging.{RearrangedAreEqual, RearrangedSameVerdict}
use Rattle.verdict_laws.proofs.Gathered.{find-filter, find-firsts, map-filter}
use Rattle.verdict_laws.proofs.Parts.{unplaced_parts, unplaced_type_definition, extensions_in, extends_called, parts_after}
use Rattle.verdict_laws.proofs.RearrangedLists.{types_same, extensions_same, directives_same, folds_alike}

-- ---- marks

-- the mark of something, and those of its arguments
abbrev Marks : Type 0
Marks = Bool × List Bool

abbrev field_marks : Placed Place (FieldDefinitionTree Place) → Marks
field_marks f = (is_built_in f.place, map (λ a. is_built_in a.place) f.it.arguments)

abbrev value_marks : Placed Place (EnumValueTree Place) → Marks
value_marks v = (is_built_in v.place, [])

abbrev input_marks : Placed Place (InputValueTree Place) → Marks
input_marks v = (is_built_in v.place, [])

abbrev directive_marks : Placed Place (DirectiveDefinitionTree Place) → Marks
directive_marks d = (is_built_in d.place, map (λ a. is_built_in a.place) d.it.arguments)

-- what parts give, with marks
record Marked : Type 0 where
  kind : TypeKind
  name : List ℕ
  fields : List (List ℕ × Marks)
  values : List (List ℕ × Marks)
  inputs : List (List ℕ × Marks)

abbrev marked : TypeParts Place → Marked
marked p = record {
  kind = p.kind;
  name = p.name.it;
  fields = map (λ f. (f.it.name.it, field_marks f)) p.fields;
  values = map (λ v. (v.it.value.it, value_marks v)) p.values;
  inputs = map (λ v. (v.it.name.it, input_marks v)) p.inputs;
}

-- the same where nothing is built in
abbrev unmarked : TypeParts (Unit {0}) → Marked
unmarked p = record {
  kind = p.kind;
  name = p.name.it;
  fields = map (λ f. (f.it.name.it, (false, map (λ a. false) f.it.arguments))) p.fields;
  values = map (λ v. (v.it.value.it, (false, []))) p.values;
  inputs = map (λ v. (v.it.name.it, (false, []))) p.inputs;
}

abbrev marked_type : TypeDefinition Place → Bool × Marked
marked_type t = (is_built_in t.place, marked t.parts)

abbrev unmarked_type : TypeDefinition (Unit {0}) → Bool × Marked
unmarked_type t = (false, unmarked t.parts)

abbrev marked_directive : Placed Place (DirectiveDefinitionTree Place) → List ℕ × Marks
marked_directive d = (directive_name d, directive_marks d)

abbrev unmarked_directive : DirectiveDefinitionTree (Unit {0}) → List ℕ × Marks
unmarked_directive d = (d.name.it, (false, map (λ a. false) d.arguments))

-- ---- of a fold

module _ {X V : Type 0} (key : X → List ℕ) (g : X → V) where
  find-map : (n : List ℕ) (xs : List X) → under n (map (λ x. (key x, g x)) xs) ≡ option_map g (find (λ x. bytes_eq n (key x)) xs)
  find-map n [] = refl
  find-map n (x ∷ xs) = by (bytes_eq n (key x)) (find-map n xs)
    where
      by : (b : Bool) → under n (map (λ y. (key y, g y)) xs) ≡ option_map g (find (λ y. bytes_eq n (key y)) xs)
          → option_map (λ (e : List ℕ × V). e.1) (if b then Some (key x, g x) else find (λ e. bytes_eq n e.0) (map (λ y. (key y, g y)) xs)) ≡ option_map g (if b then Some x else find (λ y. bytes_eq n (key y)) xs)
      by true h = refl
      by false h = h

  pub under_firsts : (n : List ℕ) (xs : List X) → under n (map (λ x. (key x, g x)) (firsts key xs)) ≡ option_map g (find (λ x. bytes_eq n (key x)) xs)
  under_firsts n xs = find-map n (firsts key xs) ∙ ap (option_map g) (find-firsts key n xs)

-- a class of components
module _ {A : Type 0} (of : TypeParts Place → List (Placed Place A)) (key : Given Place (Placed Place A) → List ℕ) (name : Placed Place A → List ℕ) (keys : (g : Given Place (Placed Place A)) → key g ≡ name g.it)
    (marks : Placed Place A → Marks) (of' : Marked → List (List ℕ × Marks)) (agree : (p : TypeParts Place) → map (λ x. (name x, marks x)) (of p) ≡ of' (marked p)) where
  abbrev seen : Given Place (Placed Place A) → List ℕ × Marks
  seen g = (key g, marks g.it)

  all_seen : (g : Given Place (TypeParts Place)) (xs : List (Placed Place A)) → map seen (all_given g.extension xs) ≡ map (λ x. (name x, marks x)) xs
  all_seen g [] = refl
  all_seen g (x ∷ xs) = λ i. (keys (record { extension = g.extension; it = x }) i, marks x) ∷ all_seen g xs i

  class_seen : (gs : List (Given Place (TypeParts Place))) → map seen (flat_map (λ g. all_given g.extension (of g.it)) gs) ≡ flat_map of' (map marked (map (λ (g : Given Place (TypeParts Place)). g.it) gs))
  class_seen [] = refl
  class_seen (g ∷ gs) = map-append seen (all_given g.extension (of g.it)) (flat_map (λ h. all_given h.extension (of h.it)) gs) ∙ (λ i. (all_seen g (of g.it) ∙ agree g.it) i ++ class_seen gs i)

  find_seen : (m : List ℕ) (gs : List (Given Place (Placed Place A))) → option_map (λ g. marks g.it) (find (λ g. bytes_eq m (key g)) gs) ≡ under m (map seen gs)
  find_seen m gs = sym (find-map key (λ g. marks g.it) m gs)

  -- the marks of what stands under a name, by the type's definition and the extensions of its name
  abbrev marks_by : List ℕ → (List ℕ → List Marked) → Bool × Marked → Option Marks
  marks_by m extensions t = under m (flat_map of' (t.1 ∷ filter (λ e. same_kind t.1.kind e.kind) (extensions t.1.name)))

  abbrev marked_extensions : Definitions → List ℕ → List Marked
  marked_extensions ds n = map marked (filter (extends_called n) (extensions_in ds))

  of_type : (first : ℕ) (ds : Definitions) (m : List ℕ) (t : TypeDefinition Place)
      → option_map marks (option_map (λ (g : Given Place (Placed Place A)). g.it) (under m (keyed_firsts key (components of (numbered first ds) t)))) ≡ marks_by m (marked_extensions ds) (marked_type t)
  of_type first ds m t =
      ap (λ o. option_map marks (option_map (λ (g : Given Place (Placed Place A)). g.it) o)) (under_firsts key (λ g. g) m (components of (numbered first ds) t))
      ∙ by (find (λ g. bytes_eq m (key g)) (components of (numbered first ds) t))
      ∙ find_seen m (components of (numbered first ds) t)
      ∙ ap (under m) (class_seen (parts_of (numbered first ds) t) ∙ ap (λ l. flat_map of' (marked t.parts ∷ l)) (
      ap (map marked) (parts_after t.parts first [] ds) ∙ sym (map-filter marked (λ e. same_kind t.parts.kind e.kind) (λ e. same_kind t.parts.kind e.kind) (λ x. refl) (filter (extends_called (type_name t)) (extensions_in ds)))))
    where
      by : (o : Option (Given Place (Placed Place A))) → option_map marks (option_map (λ (g : Given Place (Placed Place A)). g.it) (option_map (λ g. g) o)) ≡ option_map (λ g. marks g.it) o
      by None = refl
      by (Some g) = refl

  -- in a fold
  in_fold : (fields : SchemaType Place → Entries (Given Place (Placed Place A))) (first : ℕ) (built_in ds : Definitions)
      → ((t : TypeDefinition Place) → fields (folded_type (numbered first (built_in ++ ds)) t) ≡ keyed_firsts key (components of (numbered first (built_in ++ ds)) t))
      → (n m : List ℕ) → option_map marks (in_type (fold built_in first ds) fields n m)
      ≡ or_nothing (option_map (marks_by m (marked_extensions (built_in ++ ds))) (slice_get (map marked_type (filter (λ t. bytes_eq n (type_name t)) (types_in (built_in ++ ds)))) 0))
  in_fold fields first built_in ds is n m =
      ap (λ o. option_map marks (or_nothing (option_map (λ t. option_map (λ (g : Given Place (Placed Place A)). g.it) (under m (fields t))) o)))
      (under_firsts type_name (folded_type (numbered first (built_in ++ ds))) n (types_in (built_in ++ ds)))
      ∙ by (type_named n (built_in ++ ds))
      ∙ ap (λ o. or_nothing (option_map (marks_by m (marked_extensions (built_in ++ ds))) o)) (find-filter marked_type (λ t. bytes_eq n (type_name t)) (types_in (built_in ++ ds)))
    where
      by : (o : Option (TypeDefinition Place)) → option_map marks (or_nothing (option_map (λ t. option_map (λ (g : Given Place (Placed Place A)). g.it) (under m (fields t))) (option_map (folded_type (numbered first (built_in ++ ds))) o)))
          ≡ or_nothing (option_map (marks_by m (marked_extensions (built_in ++ ds))) (option_map marked_type o))
      by None = refl
      by (Some t) = ap (λ es. option_map marks (option_map (λ (g : Given Place (Placed Place A)). g.it) (under m es))) (is t) ∙ of_type first (built_in ++ ds) m t

-- ---- where nothing of the texts is built in

arguments_unmarked : (xs : List (Placed Place (InputValueTree Place))) → AreElsewhere xs → map (λ a. is_built_in a.place) xs ≡ map (λ a. false) (map (unplaced_node unplaced_input_value) xs)
arguments_unmarked [] h = refl
arguments_unmarked (x ∷ xs) h = λ i. h.0 i ∷ arguments_unmarked xs h.1 i

fields_unmarked : (fs : List (Placed Place (FieldDefinitionTree Place))) → AreFieldsElsewhere fs
    → ◌≡◌ {A = List (List ℕ × Marks)} (map (λ f. (f.it.name.it, field_marks f)) fs) (map (λ f. (f.it.name.it, (false, map (λ a. false) f.it.arguments))) (map (unplaced_node unplaced_field_definition) fs))
fields_unmarked [] h = refl
fields_unmarked (f ∷ fs) h = λ i. (f.it.name.it, (h.0.0 i, arguments_unmarked f.it.arguments h.0.1 i)) ∷ fields_unmarked fs h.1 i

values_unmarked : (vs : List (Placed Place (EnumValueTree Place))) → AreElsewhere vs
    → ◌≡◌ {A = List (List ℕ × Marks)} (map (λ v. (v.it.value.it, value_marks v)) vs) (map (λ v. (v.it.value.it, (false, []))) (map (unplaced_node unplaced_enum_value) vs))
values_unmarked [] h = refl
values_unmarked (v ∷ vs) h = λ i. (v.it.value.it, (h.0 i, [])) ∷ values_unmarked vs h.1 i

inputs_unmarked : (vs : List (Placed Place (InputValueTree Place))) → AreElsewhere vs
    → ◌≡◌ {A = List (List ℕ × Marks)} (map (λ v. (v.it.name.it, input_marks v)) vs) (map (λ v. (v.it.name.it, (false, []))) (map (unplaced_node unplaced_input_value) vs))
inputs_unmarked [] h = refl
inputs_unmarked (v ∷ vs) h = λ i. (v.it.name.it, (h.0 i, [])) ∷ inputs_unmarked vs h.1 i

parts_unmarked : (p : TypeParts Place) → ArePartsElsewhere p → marked p ≡ unmarked (unplaced_parts p)
parts_unmarked p h = λ i. record { kind = p.kind; name = p.name.it; fields = fields_unmarked p.fields h.fields i; values = values_unmarked p.values h.values i; inputs = inputs_unmarked p.inputs h.inputs i }

-- after the same definitions
module _ {A M : Type 0} (here : DefinitionTree Place → Option A) (mark : A → M) (test : A → Bool) where
  abbrev of_sort : Definitions → List A
  of_sort ds = filter test (flat_map (λ d. option_to_list (here d)) ds)

  pub marked_named_after : (front ds : Definitions) → map mark (of_sort (front ++ ds)) ≡ map mark (of_sort front) ++ map mark (of_sort ds)
  marked_named_after front ds =
      ap (λ l. map mark (filter test l)) (flat_map-append (λ d. option_to_list (here d)) front ds)
      ∙ ap (map mark) (filter-append test (flat_map (λ d. option_to_list (here d)) front) (flat_map (λ d. option_to_list (here d)) ds))
      ∙ map-append mark (of_sort front) (of_sort ds)

module _ {A U M : Type 0} (here : DefinitionTree Place → Option A) (blind : A → U) (mark : A → M) (unmark : U → M) (test : A → Bool) where
  abbrev of_all : Definitions → List A
  of_all ds = flat_map (λ d. option_to_list (here d)) ds

  all_unmarked : (ds : Definitions) → ((d : DefinitionTree Place) → Contains ds d → (a : A) → here d ≡ Some a → mark a ≡ unmark (blind a)) → map mark (filter test (of_all ds)) ≡ map unmark (map blind (filter test (of_all ds)))
  all_unmarked [] h = refl
  all_unmarked (d ∷ ds) h = by (here d) (h d (Contains-first d ds d refl)) (all_unmarked ds (λ e c. h e (Contains-rest d ds e c)))
    where
      by_test : (a : A) (b : Bool) → mark a ≡ unmark (blind a) → map mark (filter test (of_all ds)) ≡ map unmark (map blind (filter test (of_all ds)))
          → map mark (cond b (a ∷ filter test (of_all ds)) (filter test (of_all ds))) ≡ map unmark (map blind (cond b (a ∷ filter test (of_all ds)) (filter test (of_all ds))))
      by_test a true is rest = λ i. is i ∷ rest i
      by_test a false is rest = rest

      by : (o : Option A) → ((a : A) → o ≡ Some a → mark a ≡ unmark (blind a)) → map mark (filter test (of_all ds)) ≡ map unmark (map blind (filter test (of_all ds)))
          → map mark (filter test (option_to_list o ++ of_all ds)) ≡ map unmark (map blind (filter test (option_to_list o ++ of_all ds)))
      by None is rest = rest
      by (Some a) is rest = by_test a (test a) (is a refl) rest

  pub marks_same : (front ds es : Definitions) → map blind (filter test (of_all ds)) ≡ map blind (filter test (of_all es))
      → ((d : DefinitionTree Place) → Contains ds d → (a : A) → here d ≡ Some a → mark a ≡ unmark (blind a)) → ((d : DefinitionTree Place) → Contains es d → (a : A) → here d ≡ Some a → mark a ≡ unmark (blind a))
      → map mark (filter test (of_all (front ++ ds))) ≡ map mark (filter test (of_all (front ++ es)))
  marks_same front ds es same hd he =
      marked_named_after here mark test front ds ∙ ap (λ l. map mark (filter test (of_all front)) ++ l) (all_unmarked ds hd ∙ ap (map unmark) same ∙ sym (all_unmarked es he)) ∙ sym (marked_named_after here mark test front es)

-- the mark of what is there, and of its argument at an index
abbrev own_mark : Option Marks → Bool
own_mark o = option_map_or (λ m. m.0) o false

abbrev argument_mark : ℕ → Option Marks → Bool
argument_mark k o = option_map_or (λ b. b) (or_nothing (option_map (λ m. slice_get m.1 k) o)) false

module _ {A : Type 0} (marks : Placed Place A → Marks) (own : (x : Placed Place A) → (marks x).0 ≡ is_built_in x.place) where
  own_marked : (o : Option (Placed Place A)) → is_built_in (place_of o) ≡ own_mark (option_map marks o)
  own_marked None = refl
  own_marked (Some x) = sym (own x)

module _ {A : Type 0} (of : Placed Place A → List (Placed Place (InputValueTree Place))) (marks : Placed Place A → Marks) (given : (x : Placed Place A) → (marks x).1 ≡ map (λ a. is_built_in a.place) (of x)) where
  argument_marked : (k : ℕ) (o : Option (Placed Place A)) → is_built_in (place_of (slice_get (option_map_or of o []) k)) ≡ argument_mark k (option_map marks o)
  argument_marked k None = refl
  argument_marked k (Some x) = by (slice_get (of x) k) ∙ ap (λ o. option_map_or (λ b. b) o false) (sym (slice_get-map (λ a. is_built_in a.place) (of x) k)) ∙ ap (λ l. option_map_or (λ b. b) (slice_get l k) false) (sym (given x))
    where
      by : (o : Option (Placed Place (InputValueTree Place))) → is_built_in (place_of o) ≡ option_map_or (λ b. b) (option_map (λ a. is_built_in a.place) o) false
      by None = refl
      by (Some a) = refl

module _ (built_in : Definitions) (i j : ℕ) (ds es : Definitions) (r : IsRearranged ds es) (hd : AreAllElsewhere ds) (he : AreAllElsewhere es) where
  types_marked : (n : List ℕ) → map marked_type (filter (λ t. bytes_eq n (type_name t)) (types_in (built_in ++ ds))) ≡ map marked_type (filter (λ t. bytes_eq n (type_name t)) (types_in (built_in ++ es)))
  types_marked n = marks_same type_here unplaced_type_definition marked_type unmarked_type (λ t. bytes_eq n (type_name t)) built_in ds es (types_same ds es r n)
      (λ d c t is. let h = (hd d c).type t is in λ k. (h.0 k, parts_unmarked t.parts h.1 k)) (λ d c t is. let h = (he d c).type t is in λ k. (h.0 k, parts_unmarked t.parts h.1 k))

  extensions_marked : (n : List ℕ) → map marked (filter (extends_called n) (extensions_in (built_in ++ ds))) ≡ map marked (filter (extends_called n) (extensions_in (built_in ++ es)))
  extensions_marked n = marks_same type_extension_here unplaced_parts marked unmarked (extends_called n) built_in ds es (extensions_same ds es r n)
      (λ d c e is. parts_unmarked e ((hd d c).extension e is)) (λ d c e is. parts_unmarked e ((he d c).extension e is))

  -- ---- each class

  abbrev marks_at : {A : Type 0} → (Placed Place A → Marks) → ((s : SchemaTree Place) → Option (Placed Place A)) → Type 0
  marks_at marks at = option_map marks (at (fold built_in i ds)) ≡ option_map marks (at (fold built_in j es))

  fields_marked : (n m : List ℕ) → marks_at field_marks (λ s. field_at s n m)
  fields_marked n m =
      in_fold (λ p. p.fields) field_key (λ x. x.it.name.it) (λ g. refl) field_marks (λ p. p.fields) (λ p. refl) (λ t. t.fields) i built_in ds (λ t. refl) n m
      ∙ (λ k. or_nothing (option_map (marks_by (λ p. p.fields) field_key (λ x. x.it.name.it) (λ g. refl) field_marks (λ p. p.fields) (λ p. refl) m (λ q. extensions_marked q k)) (slice_get (types_marked n k) 0)))
      ∙ sym (in_fold (λ p. p.fields) field_key (λ x. x.it.name.it) (λ g. refl) field_marks (λ p. p.fields) (λ p. refl) (λ t. t.fields) j built_in es (λ t. refl) n m)

  values_marked : (n m : List ℕ) → marks_at value_marks (λ s. value_at s n m)
  values_marked n m =
      in_fold (λ p. p.values) value_key (λ x. x.it.value.it) (λ g. refl) value_marks (λ p. p.values) (λ p. refl) (λ t. t.values) i built_in ds (λ t. refl) n m
      ∙ (λ k. or_nothing (option_map (marks_by (λ p. p.values) value_key (λ x. x.it.value.it) (λ g. refl) value_marks (λ p. p.values) (λ p. refl) m (λ q. extensions_marked q k)) (slice_get (types_marked n k) 0)))
      ∙ sym (in_fold (λ p. p.values) value_key (λ x. x.it.value.it) (λ g. refl) value_marks (λ p. p.values) (λ p. refl) (λ t. t.values) j built_in es (λ t. refl) n m)

  inputs_marked : (n m : List ℕ) → marks_at input_marks (λ s. input_at s n m)
  inputs_marked n m =
      in_fold (λ p. p.inputs) input_key (λ x. x.it.name.it) (λ g. refl) input_marks (λ p. p.inputs) (λ p. refl) (λ t. t.inputs) i built_in ds (λ t. refl) n m
      ∙ (λ k. or_nothing (option_map (marks_by (λ p. p.inputs) input_key (λ x. x.it.name.it) (λ g. refl) input_marks (λ p. p.inputs) (λ p. refl) m (λ q. extensions_marked q k)) (slice_get (types_marked n k) 0)))
      ∙ sym (in_fold (λ p. p.inputs) input_key (λ x. x.it.name.it) (λ g. refl) input_marks (λ p. p.inputs) (λ p. refl) (λ t. t.inputs) j built_in es (λ t. refl) n m)

  -- types
  type_mark_of : (first : ℕ) (fs : Definitions) (n : List ℕ) → is_marked (fold built_in first fs) (TypeAt n) ≡ option_map_or (λ t. t.0) (slice_get (map marked_type (filter (λ t. bytes_eq n (type_name t)) (types_in (built_in ++ fs)))) 0) false
  type_mark_of first fs n =
      ap (λ o. is_built_in (or_nothing (option_map (λ (t : SchemaType Place). t.place) o))) (under_firsts type_name (folded_type (numbered first (built_in ++ fs))) n (types_in (built_in ++ fs)))
      ∙ by (type_named n (built_in ++ fs))
      ∙ ap (λ o. option_map_or (λ (t : Bool × Marked). t.0) o false) (find-filter marked_type (λ t. bytes_eq n (type_name t)) (types_in (built_in ++ fs)))
    where
      by : (o : Option (TypeDefinition Place)) → is_built_in (or_nothing (option_map (λ (t : SchemaType Place). t.place) (option_map (folded_type (numbered first (built_in ++ fs))) o))) ≡ option_map_or (λ (t : Bool × Marked). t.0) (option_map marked_type o) false
      by None = refl
      by (Some t) = refl

  -- directive definitions
  directives_marked_in : (front : Definitions) (n : List ℕ) → map marked_directive (filter (λ d. bytes_eq n (directive_name d)) (directives_in (front ++ ds))) ≡ map marked_directive (filter (λ d. bytes_eq n (directive_name d)) (directives_in (front ++ es)))
  directives_marked_in front n = marks_same directive_here plain_directive_definition marked_directive unmarked_directive (λ d. bytes_eq n (directive_name d)) front ds es (directives_same ds es r n)
      (λ d c x is. let h = (hd d c).directive x is in λ k. (directive_name x, (h.0 k, arguments_unmarked x.it.arguments h.1 k))) (λ d c x is. let h = (he d c).directive x is in λ k. (directive_name x, (h.0 k, arguments_unmarked x.it.arguments h.1 k)))

  abbrev chosen_marks : (List ℕ → List (List ℕ × Marks)) → List ℕ × Marks → Marks
  chosen_marks own d = (option_map_or (λ x. x) (slice_get (own d.0) 0) d).1

  abbrev own_directives : Definitions → List ℕ → List (List ℕ × Marks)
  own_directives fs n = map marked_directive (filter (λ d. bytes_eq n (directive_name d)) (directives_in fs))

  chosen_marked : (fs : Definitions) (d : Placed Place (DirectiveDefinitionTree Place)) → directive_marks (chosen_directive fs d) ≡ chosen_marks (own_directives fs) (marked_directive d)
  chosen_marked fs d = by (find (λ own. bytes_eq (directive_name d) (directive_name own)) (directives_in fs))
      ∙ ap (λ o. (option_map_or (λ x. x) o (marked_directive d)).1) (find-filter marked_directive (λ own. bytes_eq (directive_name d) (directive_name own)) (directives_in fs))
    where
      by : (o : Option (Placed Place (DirectiveDefinitionTree Place))) → directive_marks (option_map_or (λ own. own) o d) ≡ (option_map_or (λ x. x) (option_map marked_directive o) (marked_directive d)).1
      by None = refl
      by (Some x) = refl

  directive_marks_of : (first : ℕ) (fs : Definitions) (n : List ℕ) → option_map directive_marks (directive_definition_at (fold built_in first fs) n) ≡ option_map (chosen_marks (own_directives fs)) (slice_get (own_directives (built_in ++ fs) n) 0)
  directive_marks_of first fs n =
      ap (option_map directive_marks) (under_firsts directive_name (chosen_directive fs) n (directives_in (built_in ++ fs)))
      ∙ by (find (λ d. bytes_eq n (directive_name d)) (directives_in (built_in ++ fs)))
      ∙ ap (option_map (chosen_marks (own_directives fs))) (find-filter marked_directive (λ d. bytes_eq n (directive_name d)) (directives_in (built_in ++ fs)))
    where
      by : (o : Option (Placed Place (DirectiveDefinitionTree Place))) → option_map directive_marks (option_map (chosen_directive fs) o) ≡ option_map (chosen_marks (own_directives fs)) (option_map marked_directive o)
      by None = refl
      by (Some d) = ap Some (chosen_marked fs d)

  directives_marked : (n : List ℕ) → marks_at directive_marks (λ s. directive_definition_at s n)
  directives_marked n = directive_marks_of i ds n ∙ (λ k. option_map (chosen_marks (λ m. directives_marked_in [] m k)) (slice_get (directives_marked_in built_in n k) 0)) ∙ sym (directive_marks_of j es n)

  -- ---- all addresses

  marks : (at : Address) → is_marked (fold built_in i ds) at ≡ is_marked (fold built_in j es) at
  marks (DirectiveDefinitionAt n) = own_marked directive_marks (λ x. refl) (directive_definition_at (fold built_in i ds) n) ∙ ap own_mark (directives_marked n) ∙ sym (own_marked directive_marks (λ x. refl) (directive_definition_at (fold built_in j es) n))
  marks (TypeAt n) = type_mark_of i ds n ∙ ap (λ l. option_map_or (λ (t : Bool × Marked). t.0) (slice_get l 0) false) (types_marked n) ∙ sym (type_mark_of j es n)
  marks (FieldAt n m) = own_marked field_marks (λ x. refl) (field_at (fold built_in i ds) n m) ∙ ap own_mark (fields_marked n m) ∙ sym (own_marked field_marks (λ x. refl) (field_at (fold built_in j es) n m))
  marks (ValueAt n m) = own_marked value_marks (λ x. refl) (value_at (fold built_in i ds) n m) ∙ ap own_mark (values_marked n m) ∙ sym (own_marked value_marks (λ x. refl) (value_at (fold built_in j es) n m))
  marks (InputAt n m) = own_marked input_marks (λ x. refl) (input_at (fold built_in i ds) n m) ∙ ap own_mark (inputs_marked n m) ∙ sym (own_marked input_marks (λ x. refl) (input_at (fold built_in j es) n m))
  marks (ArgumentAt (DirectiveDefinitionAt n) k) = argument_marked (λ d. d.it.arguments) directive_marks (λ x. refl) k (directive_definition_at (fold built_in i ds) n) ∙ ap (argument_mark k) (directives_marked n) ∙ sym (argument_marked (λ d. d.it.arguments) directive_marks (λ x. refl) k (directive_definition_at (fold built_in j es) n))
  marks (ArgumentAt (FieldAt n m) k) = argument_marked (λ f. f.it.arguments) field_marks (λ x. refl) k (field_at (fold built_in i ds) n m) ∙ ap (argument_mark k) (fields_marked n m) ∙ sym (argument_marked (λ f. f.it.arguments) field_marks (λ x. refl) k (field_at (fold built_in j es) n m))
  marks (ArgumentAt _ k) = refl
  marks _ = refl

pub are_equal : RearrangedAreEqual
are_equal built_in i j ds es r hd he = record { same = folds_alike built_in i j ds es r; marks = marks built_in i j ds es r hd he }

pub rearranged_same_verdict : RearrangedSameVerdict
rearranged_same_verdict built_in i j ds es r hd he = same_verdict (fold built_in i ds) (fold built_in j es) (are_equal built_in i j ds es r hd he)
