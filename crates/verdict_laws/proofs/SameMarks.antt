-- What is written of an accepted list folds to a schema with the same built in.
use Rattle.std.proofs.Common.{◌≡◌, ℕ, zero, suc, Bool, true, false, List, [], ◌∷◌, ◌++◌, flat_map, find, slice_get, bytes_eq, refl, sym, ap, ◌∙◌, Option, None, Some, option_map, if◌then◌else◌}
use Rattle.std.specs.Option.{option_map_or}
use Rattle.graphql_names.specs.Placed.{Place, Placed}
use Rattle.graphql_names.specs.Places.{is_built_in}
use Rattle.tree_directives.specs.DirectiveTree.{InputValueTree}
use Rattle.tree_type_members.specs.TypeSystemTree.{FieldDefinitionTree}
use Rattle.tree_definitions.specs.DefinitionTree.{DefinitionTree}
use Rattle.schema_components.specs.Names.{Entries}
use Rattle.schema_components.specs.Lists.{each_place_after}
use Rattle.schema_components.specs.Given.{Given, ExtensionTree}
use Rattle.schema_fold.proofs.in_components.Places.{Contains-first, Contains-rest}
use Rattle.schema_types.specs.SchemaTree.{SchemaType}
use Rattle.schema_types.specs.TypeParts.{TypeParts, TypeDefinition, type_extension_here}
use Rattle.schema_types.specs.Addresses.{Address, TypeAt, DirectiveDefinitionAt, FieldAt, ValueAt, InputAt, ArgumentAt, under, or_nothing, place_of, in_type, is_marked}
use Rattle.schema_fold.specs.NumberedDefinition.{Definitions, listed_after, numbered, type_name, types_in}
use Rattle.schema_fold.specs.Components.{all_given, go_together, extension_here, components, field_key, value_key, input_key, keyed_firsts}
use Rattle.schema_fold.specs.Fold.{folded_type, folded_directives, fold}
use Rattle.schema_fold.specs.BuildErrors.{FoldingRules}
use Rattle.rule_definitions.specs.Laws.{AreEqual}
use Rattle.verdict_laws.specs.Elsewhere.{AreElsewhere, ArePartsElsewhere, AreAllElsewhere}
use Rattle.verdict_laws.proofs.Marks.{under_firsts}
use Rattle.verdict_laws.specs.Table.{IsTable, AreOwn}
use Rattle.verdict_laws.specs.Twice.{WrittenOf}
use Rattle.verdict_laws.proofs.Order.{Each, Each-append}
use Rattle.verdict_laws.proofs.TypesTwice.{all_each}
use Rattle.verdict_laws.proofs.Twice.{types_all, directives_plain, all_plain}

-- every extension of a type gives what stands elsewhere
abbrev ExtendsElsewhere : DefinitionTree Place → Type 0
ExtendsElsewhere d = (e : TypeParts Place) → type_extension_here d ≡ Some e → ArePartsElsewhere e

each_extends : (ds : Definitions) → AreAllElsewhere ds → Each ExtendsElsewhere ds
each_extends [] h = tt
each_extends (d ∷ ds) h = ((h d (Contains-first d ds d refl)).extension, each_extends ds (λ e c. h e (Contains-rest d ds e c)))

table_extends : (ds : Definitions) → Each (λ d. type_extension_here d ≡ None) ds → Each ExtendsElsewhere ds
table_extends [] h = tt
table_extends (d ∷ ds) h = ((λ e is. absurd (let bad = sym h.0 ∙ is in cc)), table_extends ds h.1)

-- what extensions give to a type stands elsewhere
given_elsewhere : (defined : TypeParts Place) (first : ℕ) (before ds : Definitions) → Each ExtendsElsewhere ds
    → Each (λ (g : Given Place (TypeParts Place)). ArePartsElsewhere g.it) (flat_map (extension_here defined) (each_place_after (λ b d. listed_after first b d ∷ []) before ds))
given_elsewhere defined first before [] h = tt
given_elsewhere defined first before (d ∷ ds) h =
    Each-append (λ (g : Given Place (TypeParts Place)). ArePartsElsewhere g.it) (extension_here defined (listed_after first before d)) (flat_map (extension_here defined) (each_place_after (λ b e. listed_after first b e ∷ []) (before ++ d ∷ []) ds))
    (one (type_extension_here d) h.0) (given_elsewhere defined first (before ++ d ∷ []) ds h.1)
  where
    by : (e : TypeParts Place) (b : Bool) → ArePartsElsewhere e → Each (λ (g : Given Place (TypeParts Place)). ArePartsElsewhere g.it) (if b then record { extension = (listed_after first before d).extension; it = e } ∷ [] else [])
    by e true k = (k, tt)
    by e false k = tt

    one : (o : Option (TypeParts Place)) → ((e : TypeParts Place) → o ≡ Some e → ArePartsElsewhere e)
        → Each (λ (g : Given Place (TypeParts Place)). ArePartsElsewhere g.it) (option_map_or (λ parts. if go_together defined parts then record { extension = (listed_after first before d).extension; it = parts } ∷ [] else []) o [])
    one None k = tt
    one (Some e) k = by e (go_together defined e) (k e refl)

-- ---- a class of components, and a mark that nothing elsewhere has

module _ {A : Type 0} (of : TypeParts Place → List (Placed Place A)) (key : Given Place (Placed Place A) → List ℕ) (Own : Placed Place A → Type 0) (mark : Option (Placed Place A) → Bool)
    (none : mark None ≡ false) (own : (x : Placed Place A) → Own x → mark (Some x) ≡ false) (has : (p : TypeParts Place) → ArePartsElsewhere p → Each Own (of p)) where
  abbrev Component : Type 0
  Component = Given Place (Placed Place A)

  abbrev found : List ℕ → List Component → Option (Placed Place A)
  found m gs = option_map (λ (g : Component). g.it) (find (λ g. bytes_eq m (key g)) gs)

  all_own : (m : List ℕ) (gs : List Component) → Each (λ (g : Component). Own g.it) gs → mark (found m gs) ≡ false
  all_own m [] h = none
  all_own m (g ∷ gs) h = by (bytes_eq m (key g)) (all_own m gs h.1)
    where
      by : (b : Bool) → mark (found m gs) ≡ false → mark (option_map (λ (g : Component). g.it) (if b then Some g else find (λ g. bytes_eq m (key g)) gs)) ≡ false
      by true rest = own g.it h.0
      by false rest = rest

  -- after others they do not count
  first_counts : (m : List ℕ) (gs hs : List Component) → Each (λ (g : Component). Own g.it) hs → mark (found m (gs ++ hs)) ≡ mark (found m gs)
  first_counts m [] hs h = all_own m hs h ∙ sym none
  first_counts m (g ∷ gs) hs h = by (bytes_eq m (key g)) (first_counts m gs hs h)
    where
      by : (b : Bool) → mark (found m (gs ++ hs)) ≡ mark (found m gs)
          → mark (option_map (λ (g : Component). g.it) (if b then Some g else find (λ g. bytes_eq m (key g)) (gs ++ hs))) ≡ mark (option_map (λ (g : Component). g.it) (if b then Some g else find (λ g. bytes_eq m (key g)) gs))
      by true rest = refl
      by false rest = rest

  given_own : (e : Option (ExtensionTree Place)) (xs : List (Placed Place A)) → Each Own xs → Each (λ (g : Component). Own g.it) (all_given e xs)
  given_own e [] h = tt
  given_own e (x ∷ xs) h = (h.0, given_own e xs h.1)

  parts_own : (gs : List (Given Place (TypeParts Place))) → Each (λ (g : Given Place (TypeParts Place)). ArePartsElsewhere g.it) gs → Each (λ (g : Component). Own g.it) (flat_map (λ g. all_given g.extension (of g.it)) gs)
  parts_own [] h = tt
  parts_own (g ∷ gs) h = Each-append (λ (g : Component). Own g.it) (all_given g.extension (of g.it)) (flat_map (λ g. all_given g.extension (of g.it)) gs) (given_own g.extension (of g.it) (has g.it h.0)) (parts_own gs h.1)

  -- by the definition of a type alone
  abbrev by_definition : List ℕ → TypeDefinition Place → Bool
  by_definition m t = mark (found m (all_given None (of t.parts)))

  in_components : (first : ℕ) (ds : Definitions) → Each ExtendsElsewhere ds → (m : List ℕ) (t : TypeDefinition Place) → mark (found m (components of (numbered first ds) t)) ≡ by_definition m t
  in_components first ds h m t =
      first_counts m (all_given None (of t.parts)) (flat_map (λ g. all_given g.extension (of g.it)) (flat_map (extension_here t.parts) (numbered first ds)))
      (parts_own (flat_map (extension_here t.parts) (numbered first ds)) (given_elsewhere t.parts first [] ds h))

  pub in_fold : (fields : SchemaType Place → Entries Component) (built_in : Definitions) (first : ℕ) (fs : Definitions)
      → ((t : TypeDefinition Place) → fields (folded_type (numbered first (built_in ++ fs)) t) ≡ keyed_firsts key (components of (numbered first (built_in ++ fs)) t)) → Each ExtendsElsewhere (built_in ++ fs)
      → (n m : List ℕ) → mark (in_type (fold built_in first fs) fields n m) ≡ option_map_or (by_definition m) (find (λ t. bytes_eq n (type_name t)) (types_in (built_in ++ fs))) false
  in_fold fields built_in first fs is h n m =
      ap (λ o. mark (or_nothing (option_map (λ t. option_map (λ (g : Component). g.it) (under m (fields t))) o))) (under_firsts type_name (folded_type (numbered first (built_in ++ fs))) n (types_in (built_in ++ fs)))
      ∙ by (find (λ t. bytes_eq n (type_name t)) (types_in (built_in ++ fs)))
    where
      itself : (o : Option Component) → option_map (λ (g : Component). g.it) (option_map (λ g. g) o) ≡ option_map (λ (g : Component). g.it) o
      itself None = refl
      itself (Some g) = refl

      by : (o : Option (TypeDefinition Place)) → mark (or_nothing (option_map (λ t. option_map (λ (g : Component). g.it) (under m (fields t))) (option_map (folded_type (numbered first (built_in ++ fs))) o))) ≡ option_map_or (by_definition m) o false
      by None = none
      by (Some t) =
          let comps : List Component = components of (numbered first (built_in ++ fs)) t in
          ap (λ es. mark (option_map (λ (g : Component). g.it) (under m es))) (is t)
          ∙ ap (λ o. mark (option_map (λ (g : Component). g.it) o)) (under_firsts key (λ g. g) m comps)
          ∙ ap mark (itself (find (λ g. bytes_eq m (key g)) comps))
          ∙ in_components first (built_in ++ fs) h m t

-- ---- the classes

none_at : (k : ℕ) (xs : List (Placed Place (InputValueTree Place))) → AreElsewhere xs → is_built_in (place_of (slice_get xs k)) ≡ false
none_at k [] h = refl
none_at zero (x ∷ xs) h = h.0
none_at (suc k) (x ∷ xs) h = none_at k xs h.1

abbrev Field : Type 0
Field = Placed Place (FieldDefinitionTree Place)

abbrev OwnField : Field → Type 0
OwnField f = (is_built_in f.place ≡ false) × AreElsewhere f.it.arguments

abbrev IsOwn : {A : Type 0} → Placed Place A → Type 0
IsOwn x = is_built_in x.place ≡ false

abbrev place_mark : {A : Type 0} → Option (Placed Place A) → Bool
place_mark o = is_built_in (place_of o)

abbrev argument_mark : ℕ → Option Field → Bool
argument_mark k o = is_built_in (place_of (slice_get (option_map_or (λ f. f.it.arguments) o []) k))

module _ (built_in : Definitions) (first again : ℕ) (texts : Definitions) (rules : FoldingRules built_in first texts) (table : IsTable built_in) (own : AreOwn texts)
    (elsewhere : AreAllElsewhere texts) (out_elsewhere : AreAllElsewhere (WrittenOf built_in first texts)) where
  abbrev out : Definitions
  out = WrittenOf built_in first texts

  table_elsewhere : Each ExtendsElsewhere built_in
  table_elsewhere = table_extends built_in (all_each (λ d. type_extension_here d ≡ None) built_in table.no_extension)

  texts_extend : Each ExtendsElsewhere (built_in ++ texts)
  texts_extend = Each-append ExtendsElsewhere built_in texts table_elsewhere (each_extends texts elsewhere)

  out_extends : Each ExtendsElsewhere (built_in ++ out)
  out_extends = Each-append ExtendsElsewhere built_in out table_elsewhere (each_extends out out_elsewhere)

  -- the same definition of each type
  types_same : types_in (built_in ++ texts) ≡ types_in (built_in ++ out)
  types_same = sym (types_all built_in first again texts table own rules)

  module _ {A : Type 0} (of : TypeParts Place → List (Placed Place A)) (key : Given Place (Placed Place A) → List ℕ) (Own : Placed Place A → Type 0) (mark : Option (Placed Place A) → Bool)
      (none : mark None ≡ false) (apart : (x : Placed Place A) → Own x → mark (Some x) ≡ false) (has : (p : TypeParts Place) → ArePartsElsewhere p → Each Own (of p))
      (fields : SchemaType Place → Entries (Given Place (Placed Place A)))
      (is : (i : ℕ) (ds : Definitions) (t : TypeDefinition Place) → fields (folded_type (numbered i ds) t) ≡ keyed_firsts key (components of (numbered i ds) t)) where
    class_same : (n m : List ℕ) → mark (in_type (fold built_in first texts) fields n m) ≡ mark (in_type (fold built_in again out) fields n m)
    class_same n m =
        in_fold of key Own mark none apart has fields built_in first texts (is first (built_in ++ texts)) texts_extend n m
        ∙ ap (λ ts. option_map_or (by_definition of key Own mark none apart has m) (find (λ t. bytes_eq n (type_name t)) ts) false) types_same
        ∙ sym (in_fold of key Own mark none apart has fields built_in again out (is again (built_in ++ out)) out_extends n m)

  type_mark : (i : ℕ) (fs : Definitions) (n : List ℕ) → is_marked (fold built_in i fs) (TypeAt n) ≡ is_built_in (or_nothing (option_map (λ (t : TypeDefinition Place). t.place) (find (λ t. bytes_eq n (type_name t)) (types_in (built_in ++ fs)))))
  type_mark i fs n =
      ap (λ o. is_built_in (or_nothing (option_map (λ (t : SchemaType Place). t.place) o))) (under_firsts type_name (folded_type (numbered i (built_in ++ fs))) n (types_in (built_in ++ fs)))
      ∙ by (find (λ t. bytes_eq n (type_name t)) (types_in (built_in ++ fs)))
    where
      by : (o : Option (TypeDefinition Place)) → is_built_in (or_nothing (option_map (λ (t : SchemaType Place). t.place) (option_map (folded_type (numbered i (built_in ++ fs))) o))) ≡ is_built_in (or_nothing (option_map (λ (t : TypeDefinition Place). t.place) o))
      by None = refl
      by (Some t) = refl

  directives_same : folded_directives built_in texts ≡ folded_directives built_in out
  directives_same = sym (directives_plain built_in first again texts table own rules)

  own_fields : (p : TypeParts Place) → ArePartsElsewhere p → Each OwnField p.fields
  own_fields p h = all_each OwnField p.fields h.fields

  marks : (at : Address) → is_marked (fold built_in first texts) at ≡ is_marked (fold built_in again out) at
  marks (DirectiveDefinitionAt n) = ap (λ es. is_built_in (place_of (under n es))) directives_same
  marks (TypeAt n) = type_mark first texts n ∙ ap (λ ts. is_built_in (or_nothing (option_map (λ (t : TypeDefinition Place). t.place) (find (λ t. bytes_eq n (type_name t)) ts)))) types_same ∙ sym (type_mark again out n)
  marks (FieldAt n m) = class_same (λ p. p.fields) field_key OwnField place_mark refl (λ x h. h.0) own_fields (λ t. t.fields) (λ i ds t. refl) n m
  marks (ValueAt n m) = class_same (λ p. p.values) value_key IsOwn place_mark refl (λ x h. h) (λ p h. all_each IsOwn p.values h.values) (λ t. t.values) (λ i ds t. refl) n m
  marks (InputAt n m) = class_same (λ p. p.inputs) input_key IsOwn place_mark refl (λ x h. h) (λ p h. all_each IsOwn p.inputs h.inputs) (λ t. t.inputs) (λ i ds t. refl) n m
  marks (ArgumentAt (DirectiveDefinitionAt n) k) = ap (λ es. is_built_in (place_of (slice_get (option_map_or (λ d. d.it.arguments) (under n es) []) k))) directives_same
  marks (ArgumentAt (FieldAt n m) k) = class_same (λ p. p.fields) field_key OwnField (argument_mark k) refl (λ x h. none_at k x.it.arguments h.1) own_fields (λ t. t.fields) (λ i ds t. refl) n m
  marks (ArgumentAt _ k) = refl
  marks _ = refl

  pub out_equal : AreEqual (fold built_in first texts) (fold built_in again out)
  out_equal = record { same = sym (all_plain built_in first again texts table own rules); marks = marks }
