-- Where at most one root of each operation is given, the schema definition is written whole.
use Rattle.std.proofs.Common.{◌≡◌, ℕ, suc, ◌≤◌, Bool, true, false, ◌&&◌, not, cond, List, [], ◌∷◌, ◌++◌, map, flat_map, length, Option, Some, None, is_none, is_some, refl, sym, ap, subst, ◌∙◌, if◌then◌else◌, append_assoc, option_to_list, arith, true≢false}
use Rattle.std.specs.List.{filter, find}
use Rattle.std.specs.Option.{option_map, option_map_or}
use Rattle.std.specs.Str.{bytes_eq}
use Rattle.std.proofs.lemmas.List.{append-nil, map-append}
use Rattle.std.proofs.lemmas.List.Elements.{filter-append}
use Rattle.std.proofs.lemmas.Simd.{map-map}
use Rattle.graphql_names.specs.Placed.{Placed, Place, Text}
use Rattle.schema_components.specs.in_operations.OperationQueries.{operation_keyword, default_root_name}
use Rattle.schema_components.specs.in_operations.in_directives.declared.operation_type.OperationType.{OperationType}
use Rattle.schema_components.specs.in_operations.in_directives.declared.operation_type.OperationType.TheVariants as operation
use Rattle.schema_components.specs.Given.{Given, ExtensionTree, given_name}
use Rattle.schema_components.specs.Applied.{unplaced_applied}
use Rattle.tree_directives.specs.DirectiveTree.{DirectiveTree, unplaced_directive}
use Rattle.schema_components.specs.Names.{Entries}
use Rattle.tree_definitions.specs.in_type_members.TypeSystemTree.{SchemaParts}
use Rattle.tree_definitions.specs.DefinitionTree as tree
use Rattle.tree_definitions.specs.DefinitionTree.{DefinitionTree, Schema, ExtendSchema}
use Rattle.tree_definitions.specs.Queries.{is_extension}
use Rattle.schema_types.specs.SchemaTree.{SchemaType, SchemaRoots}
use Rattle.schema_types.specs.Out.{is_empty, givers, given_by, each_once, schema_parts_given_by, extensions_of_schema, is_object_named, is_implicit_root}
use Rattle.schema_fold.specs.NumberedDefinition.{Definitions, numbered}
use Rattle.schema_fold.specs.Components.{all_given}
use Rattle.schema_fold.specs.SchemaFold.{Root, SchemaGiver, schema_extension_here, schema_is_defined, schema_base, extends_schema, schema_parts_given, roots_given, root_key, root_in, folded_schema}
use Rattle.verdict_laws.specs.Arranged.{arranged}
use Rattle.verdict_laws.specs.WholeSchema.{roots_of, written_roots, whole_parts, schema_extensions_in, schema_classes, whole_base, whole_schema_extension, whole_schema, roots_in, implicit_of, left_out}
use Rattle.verdict_laws.proofs.Order.{Each, Each-map, Each-arranged, filter_all, blocks, tests, firsts_arranged}
use Rattle.verdict_laws.proofs.Whole.{NumberedOf, as_given, number_key, giver_of, all_differ, all_apart, all_of, by_definition, by_extension, all_givers, given_numbered}
use Rattle.verdict_laws.proofs.Numbering.{unnumbered, pairs_by, given_by_numbers, ascend_by, unnumbered_by}
use Rattle.verdict_laws.proofs.Types.{arranged_map, map_each, some_given}

abbrev Parts : Type 0
Parts = SchemaParts Place

pub schema_extension_is : (d : DefinitionTree Place) (p : Parts) → schema_extension_here d ≡ Some p → is_extension d ≡ true
schema_extension_is (tree.ExtendSchema q t) p e = refl
schema_extension_is _ p e = cc

abbrev pub always : Parts → Bool
always p = true

-- the one that is found is all that passes, where at most one does
pub found_all : {X : Type 0} (p : X → Bool) (xs : List X) → length (filter p xs) ≤ 1 → option_to_list (find p xs) ≡ filter p xs
found_all p [] h = refl
found_all p (x ∷ xs) h = by (p x) h (found_all p xs)
  where
    none : (ys : List _) → length (x ∷ ys) ≤ 1 → ys ≡ []
    none [] k = refl
    none (y ∷ ys) k = absurd (omega (arith, k))

    by : (b : Bool) → length (cond b (x ∷ filter p xs) (filter p xs)) ≤ 1 → (length (filter p xs) ≤ 1 → option_to_list (find p xs) ≡ filter p xs) → option_to_list (cond b (Some x) (find p xs)) ≡ cond b (x ∷ filter p xs) (filter p xs)
    by true k rest = ap (λ l. x ∷ l) (sym (none (filter p xs) k))
    by false k rest = rest k

mapped_option : {X Y : Type 0} (f : X → Y) (o : Option X) → option_to_list (option_map f o) ≡ map f (option_to_list o)
mapped_option f None = refl
mapped_option f (Some x) = refl

four : {Y : Type 0} (a b c d : List Y) → a ++ b ++ c ++ d ≡ a ++ (b ++ (c ++ (d ++ [])))
four a b c d = append_assoc (a ++ b) c d ∙ append_assoc a b (c ++ d) ∙ ap (λ l. a ++ (b ++ (c ++ l))) (sym (append-nil d))

-- ---- roots

abbrev pub root_name : Given Place Root → Given Place (Text Place)
root_name g = record { extension = g.extension; it = g.it.it.name }

module _ (op : OperationType) where
  abbrev pub of_operation : Given Place Root → Bool
  of_operation g = bytes_eq (operation_keyword op) (root_key g)

  names_given : (e : Option (ExtensionTree Place)) (rs : List Root)
      → map root_name (filter of_operation (all_given e rs)) ≡ all_given e (map (λ r. r.it.name) (filter (λ r. bytes_eq (operation_keyword op) (operation_keyword r.it.operation_type)) rs))
  names_given e [] = refl
  names_given e (r ∷ rs) = by (bytes_eq (operation_keyword op) (operation_keyword r.it.operation_type)) (names_given e rs)
    where
      by : (b : Bool) → map root_name (filter of_operation (all_given e rs)) ≡ all_given e (map (λ r. r.it.name) (filter (λ r. bytes_eq (operation_keyword op) (operation_keyword r.it.operation_type)) rs))
          → map root_name (cond b (record { extension = e; it = r } ∷ filter of_operation (all_given e rs)) (filter of_operation (all_given e rs)))
          ≡ all_given e (map (λ r. r.it.name) (cond b (r ∷ filter (λ r. bytes_eq (operation_keyword op) (operation_keyword r.it.operation_type)) rs) (filter (λ r. bytes_eq (operation_keyword op) (operation_keyword r.it.operation_type)) rs)))
      by true rest = ap (λ l. record { extension = e; it = r.it.name } ∷ l) rest
      by false rest = rest

  pub all_names : (gs : List (Given Place Parts)) → map root_name (filter of_operation (flat_map (λ g. all_given g.extension g.it.roots) gs)) ≡ flat_map (λ g. all_given g.extension (roots_of op g.it)) gs
  all_names [] = refl
  all_names (g ∷ gs) =
      ap (map root_name) (filter-append of_operation (all_given g.extension g.it.roots) (flat_map (λ g. all_given g.extension g.it.roots) gs))
      ∙ map-append root_name (filter of_operation (all_given g.extension g.it.roots)) (filter of_operation (flat_map (λ g. all_given g.extension g.it.roots) gs))
      ∙ (λ i. names_given g.extension g.it.roots i ++ all_names gs i)

length-map : {X Y : Type 0} (f : X → Y) (xs : List X) → length (map f xs) ≡ length xs
length-map f [] = refl
length-map f (x ∷ xs) = ap suc (length-map f xs)

its : {A : Type 0} (e : Option (ExtensionTree Place)) (xs : List A) → map (λ g. g.it) (all_given e xs) ≡ xs
its e [] = refl
its e (x ∷ xs) = ap (λ l. x ∷ l) (its e xs)

-- ---- classes

abbrev counts : List (NumberedOf Parts → ℕ)
counts = (λ x. length x.1.directives) ∷ (λ x. length (roots_of operation.Query x.1)) ∷ (λ x. length (roots_of operation.Mutation x.1)) ∷ (λ x. length (roots_of operation.Subscription x.1)) ∷ []

tests_same : tests number_key giver_of counts ≡ map (λ c x. c (unnumbered x)) schema_classes
tests_same = λ i.
    (λ x. some_given x.1.directives i)
    ∷ (λ x. some_given (roots_of operation.Query x.1) i)
    ∷ (λ x. some_given (roots_of operation.Mutation x.1) i)
    ∷ (λ x. some_given (roots_of operation.Subscription x.1) i)
    ∷ []

-- where nothing is arranged, no class has anything
abbrev NoneOf : {X : Type 0} → List (X → Bool) → List X → Type 0
NoneOf [] xs = Unit {0}
NoneOf (c ∷ cs) xs = Each (λ x. c x ≡ false) xs × NoneOf cs xs

no_first : {X : Type 0} (xs ys : List X) → xs ++ ys ≡ [] → xs ≡ []
no_first [] ys h = refl
no_first (x ∷ xs) ys h = cc

none_passes : {X : Type 0} (c : X → Bool) (xs : List X) → filter c xs ≡ [] → Each (λ x. c x ≡ false) xs
none_passes c [] h = tt
none_passes c (x ∷ xs) h = by (c x) refl h (none_passes c xs)
  where
    by : (b : Bool) → c x ≡ b → cond b (x ∷ filter c xs) (filter c xs) ≡ [] → (filter c xs ≡ [] → Each (λ x. c x ≡ false) xs) → (c x ≡ false) × Each (λ x. c x ≡ false) xs
    by true e k rest = absurd cc
    by false e k rest = (e, rest k)

none_arranged : {X : Type 0} (cs : List (X → Bool)) (xs : List X) → arranged cs xs ≡ [] → NoneOf cs xs
none_arranged [] xs h = tt
none_arranged (c ∷ cs) xs h =
    let none = no_first (filter c xs) (arranged cs (filter (λ x. not (c x)) xs)) h in
    let each = none_passes c xs none in
    let all : filter (λ x. not (c x)) xs ≡ xs = filter_all (λ x. not (c x)) xs (Each-map (λ x e. ap not e) xs each) in
    (each, none_arranged cs xs (ap (arranged cs) (sym all) ∙ ap (λ l. l ++ arranged cs (filter (λ x. not (c x)) xs)) (sym none) ∙ h))

gives_none : {A : Type 0} (of : Parts → List A) (xs : List (NumberedOf Parts)) → Each (λ x. not (is_empty (of x.1)) ≡ false) xs → flat_map (λ x. all_given (Some x.0) (of x.1)) xs ≡ []
gives_none of [] h = refl
gives_none {A} of (x ∷ xs) h = λ i. by (of x.1) h.0 i ++ gives_none of xs h.1 i
  where
    by : (ys : List A) → not (is_empty ys) ≡ false → all_given (Some x.0) ys ≡ []
    by [] k = refl
    by (y ∷ ys) k = absurd (true≢false k)

-- ---- the implicit root

module _ (types : Entries (SchemaType Place)) (op : OperationType) where
  implicit_is : (o : Option (Given Place (Text Place))) (xs : List (Text Place)) → option_to_list o ≡ all_given None xs → is_implicit_root types op o ≡ implicit_of (is_object_named types) op xs
  implicit_is None [] h = refl
  implicit_is (Some g) [] h = absurd cc
  implicit_is None (x ∷ xs) h = absurd cc
  implicit_is (Some g) (x ∷ xs) h = ap (λ n. bytes_eq n (default_root_name op) && is_object_named types (default_root_name op)) (ap (λ l. first_name l) h)
    where
      first_name : List (Given Place (Text Place)) → List ℕ
      first_name [] = []
      first_name (g ∷ gs) = g.it.it

some_is : (o : Option (Given Place (Text Place))) (xs : List (Text Place)) → option_to_list o ≡ all_given None xs → is_some o ≡ not (is_empty xs)
some_is None [] h = refl
some_is (Some g) [] h = absurd cc
some_is None (x ∷ xs) h = absurd cc
some_is (Some g) (x ∷ xs) h = refl

no_extension_false : (a b d e f g : Bool) → (a && b && false && d && e && f && g) ≡ false
no_extension_false true true d e f g = refl
no_extension_false true false d e f g = refl
no_extension_false false true d e f g = refl
no_extension_false false false d e f g = refl

empty-map : {X Y : Type 0} (f : X → Y) (xs : List X) → is_empty (map f xs) ≡ is_empty xs
empty-map f [] = refl
empty-map f (x ∷ xs) = refl

empty_given : {A : Type 0} (xs : List A) → is_empty (all_given None xs) ≡ is_empty xs
empty_given [] = refl
empty_given (x ∷ xs) = refl

-- ---- the list of parts

here_same : (e : Option (ExtensionTree Place)) (o : Option Parts) → all_given e (option_to_list o) ≡ option_map_or (λ parts. record { extension = e; it = parts } ∷ []) o []
here_same e None = refl
here_same e (Some p) = refl

module _ (first : ℕ) (ds : Definitions) where
  abbrev pub base : SchemaGiver
  base = schema_base ds

  abbrev pub es : List (NumberedOf Parts)
  es = pairs_by schema_extension_here always schema_extension_is (numbered first ds)

  pub extends_are : flat_map extends_schema (numbered first ds) ≡ map as_given es
  extends_are = (λ i. flat_map (λ l. here_same l.extension (schema_extension_here l.definition) i) (numbered first ds)) ∙ given_by_numbers schema_extension_here always schema_extension_is first ds

  pub unnumbered_are : map unnumbered es ≡ schema_extensions_in ds
  unnumbered_are = unnumbered_by schema_extension_here always schema_extension_is first ds

  module _ (applied : (if schema_is_defined ds then flat_map extends_schema (numbered first ds) else []) ≡ flat_map extends_schema (numbered first ds)) where
    parts_are : schema_parts_given first ds ≡ record { extension = None; it = base.parts } ∷ map as_given es
    parts_are = ap (λ l. record { extension = None; it = base.parts } ∷ l) (applied ∙ extends_are)

    class_are : {A : Type 0} (of : Parts → List A) → flat_map (λ g. all_given g.extension (of g.it)) (schema_parts_given first ds) ≡ all_of of base.parts es
    class_are of = ap (flat_map (λ g. all_given g.extension (of g.it))) parts_are ∙ ap (λ l. all_given None (of base.parts) ++ l) (given_numbered of es)

    pub names_are : (op : OperationType) → map root_name (filter (of_operation op) (roots_given first ds)) ≡ all_of (roots_of op) base.parts es
    names_are op = all_names op (schema_parts_given first ds) ∙ class_are (roots_of op)

    all_its : {A : Type 0} (of : Parts → List A) (xs : List (NumberedOf Parts)) → map (λ g. g.it) (flat_map (λ x. all_given (Some x.0) (of x.1)) xs) ≡ flat_map (λ x. of x.it) (map unnumbered xs)
    all_its of [] = refl
    all_its of (x ∷ xs) = map-append (λ g. g.it) (all_given (Some x.0) (of x.1)) (flat_map (λ x. all_given (Some x.0) (of x.1)) xs) ∙ (λ i. its (Some x.0) (of x.1) i ++ all_its of xs i)

    -- how many roots of an operation there are
    pub how_many : (op : OperationType) → length (filter (of_operation op) (roots_given first ds)) ≡ length (roots_in op ds)
    how_many op =
        sym (length-map root_name (filter (of_operation op) (roots_given first ds))) ∙ ap length (names_are op) ∙ sym (length-map (λ g. g.it) (all_of (roots_of op) base.parts es))
        ∙ ap length (map-append (λ g. g.it) (all_given None (roots_of op base.parts)) (flat_map (λ x. all_given (Some x.0) (roots_of op x.1)) es)
        ∙ (λ i. its None (roots_of op base.parts) i ++ (all_its (roots_of op) es ∙ ap (flat_map (λ x. roots_of op x.it)) unnumbered_are) i))

    module _ (at_most : (op : OperationType) → length (roots_in op ds) ≤ 1) where
      abbrev s : SchemaRoots Place
      s = folded_schema first ds

      root_are : (op : OperationType) → option_to_list (root_in op (roots_given first ds)) ≡ all_of (roots_of op) base.parts es
      root_are op =
          mapped_option root_name (find (of_operation op) (roots_given first ds))
          ∙ ap (map root_name) (found_all (of_operation op) (roots_given first ds) (subst (λ n. n ≤ 1) (sym (how_many op)) (at_most op))) ∙ names_are op

      directives_are : s.directives ≡ all_of (λ p. p.directives) base.parts es
      directives_are = class_are (λ p. p.directives)

      parts_by : (giver : Option (ExtensionTree Place)) (p : Parts)
          → given_by giver (all_of (λ p. p.directives) base.parts es) ≡ p.directives
          → given_by giver (all_of (roots_of operation.Query) base.parts es) ≡ roots_of operation.Query p
          → given_by giver (all_of (roots_of operation.Mutation) base.parts es) ≡ roots_of operation.Mutation p
          → given_by giver (all_of (roots_of operation.Subscription) base.parts es) ≡ roots_of operation.Subscription p
          → schema_parts_given_by None giver s ≡ whole_parts p
      parts_by giver p d q m u = λ i. record {
        directives = (ap (given_by giver) directives_are ∙ d) i;
        roots = written_roots operation.Query ((ap (given_by giver) (root_are operation.Query) ∙ q) i) ++ written_roots operation.Mutation ((ap (given_by giver) (root_are operation.Mutation) ∙ m) i)
            ++ written_roots operation.Subscription ((ap (given_by giver) (root_are operation.Subscription) ∙ u) i);
      }

      base_whole : Schema s.place s.description (schema_parts_given_by None None s) ≡ whole_base base
      base_whole = ap (Schema base.place base.description) (parts_by None base.parts
          (by_definition (λ p. p.directives) base.parts es) (by_definition (roots_of operation.Query) base.parts es)
          (by_definition (roots_of operation.Mutation) base.parts es) (by_definition (roots_of operation.Subscription) base.parts es))

      order : extensions_of_schema s ≡ map giver_of (arranged (map (λ c x. c (unnumbered x)) schema_classes) es)
      order =
          ap each_once (
          (λ i. givers (directives_are i) ++ givers (root_are operation.Query i) ++ givers (root_are operation.Mutation i) ++ givers (root_are operation.Subscription i))
          ∙ (λ i. all_givers (λ p. p.directives) base.parts es i ++ all_givers (roots_of operation.Query) base.parts es i ++ all_givers (roots_of operation.Mutation) base.parts es i ++ all_givers (roots_of operation.Subscription) base.parts es i)
          ∙ four (blocks number_key giver_of (λ x. length x.1.directives) es) (blocks number_key giver_of (λ x. length (roots_of operation.Query x.1)) es)
          (blocks number_key giver_of (λ x. length (roots_of operation.Mutation x.1)) es) (blocks number_key giver_of (λ x. length (roots_of operation.Subscription x.1)) es))
          ∙ firsts_arranged number_key giver_of counts es (all_apart _ es (ascend_by schema_extension_here always schema_extension_is first ds))
          ∙ ap (λ cs. map giver_of (arranged cs es)) tests_same

      zip : (xs : List (NumberedOf Parts))
          → Each (λ x. given_by (Some x.0) (all_of (λ p. p.directives) base.parts es) ≡ x.1.directives) xs
          → Each (λ x. given_by (Some x.0) (all_of (roots_of operation.Query) base.parts es) ≡ roots_of operation.Query x.1) xs
          → Each (λ x. given_by (Some x.0) (all_of (roots_of operation.Mutation) base.parts es) ≡ roots_of operation.Mutation x.1) xs
          → Each (λ x. given_by (Some x.0) (all_of (roots_of operation.Subscription) base.parts es) ≡ roots_of operation.Subscription x.1) xs
          → Each (λ x. ExtendSchema x.0.place (schema_parts_given_by None (Some x.0) s) ≡ whole_schema_extension (unnumbered x)) xs
      zip [] a b c d = tt
      zip (x ∷ xs) a b c d = (ap (ExtendSchema x.0.place) (parts_by (Some x.0) x.1 a.0 b.0 c.0 d.0), zip xs a.1 b.1 c.1 d.1)

      each_whole : Each (λ x. ExtendSchema x.0.place (schema_parts_given_by None (Some x.0) s) ≡ whole_schema_extension (unnumbered x)) es
      each_whole =
          let apart = all_differ _ es (ascend_by schema_extension_here always schema_extension_is first ds) in
          zip es (by_extension (λ p. p.directives) base.parts es apart) (by_extension (roots_of operation.Query) base.parts es apart) (by_extension (roots_of operation.Mutation) base.parts es apart) (by_extension (roots_of operation.Subscription) base.parts es apart)

      extensions_whole : map (λ e. ExtendSchema e.place (schema_parts_given_by None (Some e) s)) (extensions_of_schema s) ≡ map whole_schema_extension (arranged schema_classes (schema_extensions_in ds))
      extensions_whole =
          let cs = map (λ c x. c (unnumbered x)) schema_classes in
          ap (map (λ e. ExtendSchema e.place (schema_parts_given_by None (Some e) s))) order
          ∙ map-map (λ e. ExtendSchema e.place (schema_parts_given_by None (Some e) s)) giver_of (arranged cs es)
          ∙ map_each (λ x. ExtendSchema x.0.place (schema_parts_given_by None (Some x.0) s)) (λ x. whole_schema_extension (unnumbered x)) (arranged cs es) (Each-arranged _ cs es each_whole)
          ∙ sym (map-map whole_schema_extension unnumbered (arranged cs es))
          ∙ ap (map whole_schema_extension) (sym (arranged_map unnumbered schema_classes es) ∙ ap (arranged schema_classes) unnumbered_are)

      pub schema_whole : Schema s.place s.description (schema_parts_given_by None None s) ∷ map (λ e. ExtendSchema e.place (schema_parts_given_by None (Some e) s)) (extensions_of_schema s) ≡ whole_schema ds
      schema_whole = λ i. base_whole i ∷ extensions_whole i

      -- ---- without numbers

      all_values : {A : Type 0} (of : Parts → List A) → map (λ g. g.it) (all_of of base.parts es) ≡ of base.parts ++ flat_map (λ x. of x.it) (schema_extensions_in ds)
      all_values of =
          map-append (λ g. g.it) (all_given None (of base.parts)) (flat_map (λ x. all_given (Some x.0) (of x.1)) es)
          ∙ (λ i. its None (of base.parts) i ++ (all_its of es ∙ ap (flat_map (λ x. of x.it)) unnumbered_are) i)

      pub root_names : (op : OperationType) → map given_name (option_to_list (root_in op (roots_given first ds))) ≡ map (λ n. n.it) (roots_in op ds)
      root_names op =
          ap (map given_name) (root_are op) ∙ sym (map-map (λ (n : Text Place). n.it) (λ (g : Given Place (Text Place)). g.it) (all_of (roots_of op) base.parts es))
          ∙ ap (map (λ n. n.it)) (all_values (roots_of op))

      pub directives_unplaced : unplaced_applied s.directives ≡ map (λ d. unplaced_directive d.it) (base.parts.directives ++ flat_map (λ x. x.it.directives) (schema_extensions_in ds))
      directives_unplaced =
          ap unplaced_applied directives_are
          ∙ sym (map-map (λ (d : Placed Place (DirectiveTree Place)). unplaced_directive d.it) (λ (g : Given Place (Placed Place (DirectiveTree Place))). g.it) (all_of (λ p. p.directives) base.parts es))
          ∙ ap (map (λ d. unplaced_directive d.it)) (all_values (λ p. p.directives))

      -- ---- whether it is left out

      no_extensions : is_empty (extensions_of_schema s) ≡ is_empty (arranged schema_classes (schema_extensions_in ds))
      no_extensions =
          ap is_empty order ∙ empty-map giver_of (arranged (map (λ c x. c (unnumbered x)) schema_classes) es)
          ∙ sym (empty-map unnumbered (arranged (map (λ c x. c (unnumbered x)) schema_classes) es))
          ∙ ap is_empty (sym (arranged_map unnumbered schema_classes es) ∙ ap (arranged schema_classes) unnumbered_are)

      module _ (types : Entries (SchemaType Place)) where
        abbrev is_left : Bool
        is_left =
            is_none s.description && is_empty s.directives && is_empty (extensions_of_schema s)
            && is_implicit_root types operation.Query s.query && is_implicit_root types operation.Mutation s.mutation
            && is_implicit_root types operation.Subscription s.subscription && is_some s.query

        pub left_out_is : is_left ≡ left_out (is_object_named types) base (is_empty (arranged schema_classes (schema_extensions_in ds)))
        left_out_is = by (arranged (map (λ c x. c (unnumbered x)) schema_classes) es) refl
          where
            same_empty : is_empty (arranged schema_classes (schema_extensions_in ds)) ≡ is_empty (arranged (map (λ c x. c (unnumbered x)) schema_classes) es)
            same_empty = ap is_empty (ap (arranged schema_classes) (sym unnumbered_are) ∙ arranged_map unnumbered schema_classes es) ∙ empty-map unnumbered (arranged (map (λ c x. c (unnumbered x)) schema_classes) es)

            by : (xs : List (NumberedOf Parts)) → arranged (map (λ c x. c (unnumbered x)) schema_classes) es ≡ xs → is_left ≡ left_out (is_object_named types) base (is_empty (arranged schema_classes (schema_extensions_in ds)))
            by (x ∷ xs) e =
                let none : is_empty (arranged schema_classes (schema_extensions_in ds)) ≡ false = same_empty ∙ ap is_empty e in
                ap (λ b. is_none s.description && is_empty s.directives && b && is_implicit_root types operation.Query s.query && is_implicit_root types operation.Mutation s.mutation && is_implicit_root types operation.Subscription s.subscription && is_some s.query) (no_extensions ∙ none)
                ∙ no_extension_false (is_none s.description) (is_empty s.directives) (is_implicit_root types operation.Query s.query) (is_implicit_root types operation.Mutation s.mutation) (is_implicit_root types operation.Subscription s.subscription) (is_some s.query)
                ∙ sym (ap (left_out (is_object_named types) base) none
                ∙ no_extension_false (is_none base.description) (is_empty base.parts.directives) (implicit_of (is_object_named types) operation.Query (roots_of operation.Query base.parts))
                (implicit_of (is_object_named types) operation.Mutation (roots_of operation.Mutation base.parts)) (implicit_of (is_object_named types) operation.Subscription (roots_of operation.Subscription base.parts)) (not (is_empty (roots_of operation.Query base.parts))))
            by [] e =
                let none = none_arranged (map (λ c x. c (unnumbered x)) schema_classes) es e in
                let d : s.directives ≡ all_given None base.parts.directives = directives_are ∙ ap (λ l. all_given None base.parts.directives ++ l) (gives_none (λ p. p.directives) es none.0) ∙ append-nil (all_given None base.parts.directives) in
                let q : option_to_list s.query ≡ all_given None (roots_of operation.Query base.parts) = root_are operation.Query ∙ ap (λ l. all_given None (roots_of operation.Query base.parts) ++ l) (gives_none (roots_of operation.Query) es none.1.0) ∙ append-nil (all_given None (roots_of operation.Query base.parts)) in
                let m : option_to_list s.mutation ≡ all_given None (roots_of operation.Mutation base.parts) = root_are operation.Mutation ∙ ap (λ l. all_given None (roots_of operation.Mutation base.parts) ++ l) (gives_none (roots_of operation.Mutation) es none.1.1.0) ∙ append-nil (all_given None (roots_of operation.Mutation base.parts)) in
                let u : option_to_list s.subscription ≡ all_given None (roots_of operation.Subscription base.parts) = root_are operation.Subscription ∙ ap (λ l. all_given None (roots_of operation.Subscription base.parts) ++ l) (gives_none (roots_of operation.Subscription) es none.1.1.1.0) ∙ append-nil (all_given None (roots_of operation.Subscription base.parts)) in
                λ i. is_none base.description && (ap is_empty d ∙ empty_given base.parts.directives) i && no_extensions i
                && implicit_is types operation.Query s.query (roots_of operation.Query base.parts) q i && implicit_is types operation.Mutation s.mutation (roots_of operation.Mutation base.parts) m i
                && implicit_is types operation.Subscription s.subscription (roots_of operation.Subscription base.parts) u i && some_is s.query (roots_of operation.Query base.parts) q i
