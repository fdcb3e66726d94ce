-- The schema definition of an accepted list, written, folded and written again, is as it was written.
use Rattle.std.proofs.Common.{◌≡◌, ℕ, ◌≤◌, Bool, true, false, ◌&&◌, ◌||◌, not, cond, List, [], ◌∷◌, ◌++◌, map, flat_map, length, Option, Some, None, is_none, is_some, refl, sym, ap, subst, ◌∙◌, if◌then◌else◌, append_assoc, option_to_list, arith, true≢false, slice_get, ◌⊎◌, inl, inr}
use Rattle.std.specs.List.{filter, find}
use Rattle.std.specs.Option.{option_map, option_map_or}
use Rattle.std.specs.Str.{bytes_eq}
use Rattle.std.proofs.lemmas.List.{append-nil, map-append, length-append}
use Rattle.std.proofs.lemmas.List.Elements.{filter-append}
use Rattle.std.proofs.lemmas.Grind.{flat_map-append}
use Rattle.std.proofs.lemmas.Slice.Eq.{bytes_eq-Decides}
use Rattle.graphql_names.specs.Placed.{Placed, Place, Text}
use Rattle.schema_components.specs.in_operations.OperationQueries.{operation_keyword, default_root_name}
use Rattle.schema_components.specs.in_operations.in_directives.declared.operation_type.OperationType.{OperationType}
use Rattle.schema_components.specs.in_operations.in_directives.declared.operation_type.OperationType.TheVariants as operation
use Rattle.schema_components.specs.Lists.{firsts}
use Rattle.schema_components.specs.Given.{Given, given_name}
use Rattle.tree_definitions.specs.in_type_members.TypeSystemTree.{SchemaParts}
use Rattle.tree_definitions.specs.DefinitionTree.{DefinitionTree, Schema, ExtendSchema}
use Rattle.tree_definitions.specs.Queries.{definition_place}
use Rattle.schema_types.specs.SchemaTree.{SchemaType, same_kind}
use Rattle.schema_types.specs.TypeParts.{TypeDefinition}
use Rattle.schema_types.specs.Out.{is_empty, is_object_named, written_schema}
use Rattle.schema_types.specs.declared.type_kind.TypeKind.TheVariants.{Object}
use Rattle.schema_fold.specs.NumberedDefinition.{Definitions, NumberedDefinition, numbered, type_name, types_in}
use Rattle.schema_fold.specs.SchemaFold.{Root, SchemaGiver, schema_here, schema_extension_here, schema_definition_in, schema_is_defined, schema_base, extends_schema, implicit_roots, is_object_in, roots_given, root_key, root_in, folded_schema}
use Rattle.schema_fold.specs.Fold.{fold, folded_type, folded_types}
use Rattle.schema_fold.specs.BuildErrors.{FoldingRules, orphan_schema_extension, duplicate_root_operation}
use Rattle.verdict_laws.specs.Arranged.{arranged}
use Rattle.verdict_laws.specs.WholeSchema.{roots_of, written_roots, whole_parts, SchemaExtension, schema_extensions_in, schema_classes, whole_base, whole_schema_extension, whole_schema, roots_in, implicit_of, left_out}
use Rattle.verdict_laws.specs.Table.{IsTable}
use Rattle.verdict_laws.proofs.Order.{Each, Each-append, AreApart, arranged-arranged}
use Rattle.verdict_laws.proofs.Whole.{as_given}
use Rattle.verdict_laws.proofs.Numbering.{unnumbered}
use Rattle.verdict_laws.proofs.Types.{arranged_map}
use Rattle.verdict_laws.proofs.Accepted.{none_repeated}
use Rattle.verdict_laws.proofs.Again.{firsts_apart}
use Rattle.verdict_laws.proofs.Names.{count, IsSilent, arranged_total, nothing_named}
use Rattle.verdict_laws.proofs.TypesTwice.{all_each}
use Rattle.verdict_laws.proofs.PlainTwice.{one_named, in_order, same_passing}
use Rattle.graphql_names.specs.Placed.{unplaced_text}
use Rattle.tree_directives.specs.DirectiveTree.{DirectiveTree, unplaced_directive}
use Rattle.schema_types.specs.Plain.{plain_roots}
use Rattle.verdict_laws.proofs.SchemaWhole.{es, extends_are, unnumbered_are, how_many, schema_whole, left_out_is, root_names, directives_unplaced}

abbrev Parts : Type 0
Parts = SchemaParts Place

-- ---- roots written and read again

read_roots : (op op' : OperationType) (b : Bool) → bytes_eq (operation_keyword op) (operation_keyword op') ≡ b → (ns : List (Text Place))
    → map (λ r. r.it.name) (filter (λ r. bytes_eq (operation_keyword op) (operation_keyword r.it.operation_type)) (written_roots op' ns)) ≡ cond b ns []
read_roots op op' true e [] = refl
read_roots op op' false e [] = refl
read_roots op op' true e (n ∷ ns) =
    ap (λ b. map (λ r. r.it.name) (cond b (record { it = record { operation_type = op'; name = n }; place = None } ∷ filter (λ r. bytes_eq (operation_keyword op) (operation_keyword r.it.operation_type)) (written_roots op' ns))
    (filter (λ r. bytes_eq (operation_keyword op) (operation_keyword r.it.operation_type)) (written_roots op' ns)))) e ∙ ap (λ l. n ∷ l) (read_roots op op' true e ns)
read_roots op op' false e (n ∷ ns) =
    ap (λ b. map (λ r. r.it.name) (cond b (record { it = record { operation_type = op'; name = n }; place = None } ∷ filter (λ r. bytes_eq (operation_keyword op) (operation_keyword r.it.operation_type)) (written_roots op' ns))
    (filter (λ r. bytes_eq (operation_keyword op) (operation_keyword r.it.operation_type)) (written_roots op' ns)))) e ∙ read_roots op op' false e ns

read_three : (op : OperationType) (a b c : List Root) → map (λ r. r.it.name) (filter (λ r. bytes_eq (operation_keyword op) (operation_keyword r.it.operation_type)) (a ++ b ++ c))
    ≡ map (λ r. r.it.name) (filter (λ r. bytes_eq (operation_keyword op) (operation_keyword r.it.operation_type)) a) ++ map (λ r. r.it.name) (filter (λ r. bytes_eq (operation_keyword op) (operation_keyword r.it.operation_type)) b)
    ++ map (λ r. r.it.name) (filter (λ r. bytes_eq (operation_keyword op) (operation_keyword r.it.operation_type)) c)
read_three op a b c = read_two (a ++ b) c ∙ ap (λ l. l ++ map (λ r. r.it.name) (filter (λ r. bytes_eq (operation_keyword op) (operation_keyword r.it.operation_type)) c)) (read_two a b)
  where
    read_two : (x y : List Root) → map (λ r. r.it.name) (filter (λ r. bytes_eq (operation_keyword op) (operation_keyword r.it.operation_type)) (x ++ y))
        ≡ map (λ r. r.it.name) (filter (λ r. bytes_eq (operation_keyword op) (operation_keyword r.it.operation_type)) x) ++ map (λ r. r.it.name) (filter (λ r. bytes_eq (operation_keyword op) (operation_keyword r.it.operation_type)) y)
    read_two x y =
        ap (map (λ r. r.it.name)) (filter-append (λ r. bytes_eq (operation_keyword op) (operation_keyword r.it.operation_type)) x y)
        ∙ map-append (λ r. r.it.name) (filter (λ r. bytes_eq (operation_keyword op) (operation_keyword r.it.operation_type)) x) (filter (λ r. bytes_eq (operation_keyword op) (operation_keyword r.it.operation_type)) y)

whole_roots : (op : OperationType) (p : Parts) → roots_of op (whole_parts p) ≡ roots_of op p
whole_roots operation.Query p =
    read_three operation.Query (written_roots operation.Query (roots_of operation.Query p)) (written_roots operation.Mutation (roots_of operation.Mutation p)) (written_roots operation.Subscription (roots_of operation.Subscription p))
    ∙ (λ i. read_roots operation.Query operation.Query true refl (roots_of operation.Query p) i ++ read_roots operation.Query operation.Mutation false refl (roots_of operation.Mutation p) i ++ read_roots operation.Query operation.Subscription false refl (roots_of operation.Subscription p) i)
    ∙ append-nil (roots_of operation.Query p ++ []) ∙ append-nil (roots_of operation.Query p)
whole_roots operation.Mutation p =
    read_three operation.Mutation (written_roots operation.Query (roots_of operation.Query p)) (written_roots operation.Mutation (roots_of operation.Mutation p)) (written_roots operation.Subscription (roots_of operation.Subscription p))
    ∙ (λ i. read_roots operation.Mutation operation.Query false refl (roots_of operation.Query p) i ++ read_roots operation.Mutation operation.Mutation true refl (roots_of operation.Mutation p) i ++ read_roots operation.Mutation operation.Subscription false refl (roots_of operation.Subscription p) i)
    ∙ append-nil (roots_of operation.Mutation p)
whole_roots operation.Subscription p =
    read_three operation.Subscription (written_roots operation.Query (roots_of operation.Query p)) (written_roots operation.Mutation (roots_of operation.Mutation p)) (written_roots operation.Subscription (roots_of operation.Subscription p))
    ∙ (λ i. read_roots operation.Subscription operation.Query false refl (roots_of operation.Query p) i ++ read_roots operation.Subscription operation.Mutation false refl (roots_of operation.Mutation p) i ++ read_roots operation.Subscription operation.Subscription true refl (roots_of operation.Subscription p) i)

whole_twice : (p : Parts) → whole_parts (whole_parts p) ≡ whole_parts p
whole_twice p = λ i. record {
  directives = p.directives;
  roots = written_roots operation.Query (whole_roots operation.Query p i) ++ written_roots operation.Mutation (whole_roots operation.Mutation p i) ++ written_roots operation.Subscription (whole_roots operation.Subscription p i);
}

-- ---- the implicit roots

module _ (ds : Definitions) where
  abbrev root_by_default : OperationType → Root
  root_by_default op = record { it = record { operation_type = op; name = record { it = default_root_name op; place = None } }; place = None }

  abbrev imp : Bool → Bool → Bool → List Root
  imp a b c = (if a then root_by_default operation.Query ∷ [] else []) ++ ((if b then root_by_default operation.Mutation ∷ [] else []) ++ (if c then root_by_default operation.Subscription ∷ [] else []))

  abbrev is_there : OperationType → Bool
  is_there op = is_object_in ds (default_root_name op)

  imp_Query : (a b c : Bool) → roots_of operation.Query (record { directives = []; roots = imp a b c }) ≡ (if a then record { it = default_root_name operation.Query; place = None } ∷ [] else [])
  imp_Query true true true = refl
  imp_Query true true false = refl
  imp_Query true false true = refl
  imp_Query true false false = refl
  imp_Query false true true = refl
  imp_Query false true false = refl
  imp_Query false false true = refl
  imp_Query false false false = refl

  imp_Mutation : (a b c : Bool) → roots_of operation.Mutation (record { directives = []; roots = imp a b c }) ≡ (if b then record { it = default_root_name operation.Mutation; place = None } ∷ [] else [])
  imp_Mutation true true true = refl
  imp_Mutation true true false = refl
  imp_Mutation true false true = refl
  imp_Mutation true false false = refl
  imp_Mutation false true true = refl
  imp_Mutation false true false = refl
  imp_Mutation false false true = refl
  imp_Mutation false false false = refl

  imp_Subscription : (a b c : Bool) → roots_of operation.Subscription (record { directives = []; roots = imp a b c }) ≡ (if c then record { it = default_root_name operation.Subscription; place = None } ∷ [] else [])
  imp_Subscription true true true = refl
  imp_Subscription true true false = refl
  imp_Subscription true false true = refl
  imp_Subscription true false false = refl
  imp_Subscription false true true = refl
  imp_Subscription false true false = refl
  imp_Subscription false false true = refl
  imp_Subscription false false false = refl

  -- the names of the implicit roots
  implicit_names : (op : OperationType) → roots_of op (record { directives = []; roots = implicit_roots ds }) ≡ (if is_there op then record { it = default_root_name op; place = None } ∷ [] else [])
  implicit_names operation.Query = imp_Query (is_there operation.Query) (is_there operation.Mutation) (is_there operation.Subscription)
  implicit_names operation.Mutation = imp_Mutation (is_there operation.Query) (is_there operation.Mutation) (is_there operation.Subscription)
  implicit_names operation.Subscription = imp_Subscription (is_there operation.Query) (is_there operation.Mutation) (is_there operation.Subscription)

one_at_most : (b : Bool) (n : Text Place) → length ((if b then n ∷ [] else []) ++ []) ≤ 1
one_at_most true n = omega arith
one_at_most false n = omega arith

-- ---- accepted lists

no_schema_extensions : (ds : Definitions) → Each (λ d. schema_extension_here d ≡ None) ds → schema_extensions_in ds ≡ []
no_schema_extensions [] h = refl
no_schema_extensions (d ∷ ds) h = λ i. option_map_or (λ parts. record { it = parts; place = definition_place d } ∷ []) (h.0 i) [] ++ no_schema_extensions ds h.1 i

pub no_schemas : (ds : Definitions) → Each (λ d. schema_here d ≡ None) ds → flat_map (λ d. option_to_list (schema_here d)) ds ≡ []
no_schemas [] h = refl
no_schemas (d ∷ ds) h = λ i. option_to_list (h.0 i) ++ no_schemas ds h.1 i

unmapped : {X Y : Type 0} (f : X → Y) (xs : List X) → map f xs ≡ [] → xs ≡ []
unmapped f [] h = refl
unmapped f (x ∷ xs) h = cc

-- where there are no extensions it does not matter whether they apply
applied_none : (first : ℕ) (ds : Definitions) → schema_extensions_in ds ≡ [] → (b : Bool) → (if b then flat_map extends_schema (numbered first ds) else []) ≡ flat_map extends_schema (numbered first ds)
applied_none first ds none true = refl
applied_none first ds none false = sym (extends_are first ds ∙ ap (map as_given) (unmapped unnumbered (es first ds) (unnumbered_are first ds ∙ none)))

-- which names are those of objects
objects_are : (n : List ℕ) (list : List NumberedDefinition) (ts : List (TypeDefinition Place)) → is_object_named (map (λ t. (type_name t, folded_type list t)) ts) n ≡ option_map_or (λ t. same_kind t.parts.kind Object) (find (λ t. bytes_eq n (type_name t)) ts) false
objects_are n list [] = refl
objects_are n list (t ∷ ts) = by (bytes_eq n (type_name t)) (objects_are n list ts)
  where
    by : (b : Bool) → is_object_named (map (λ t. (type_name t, folded_type list t)) ts) n ≡ option_map_or (λ t. same_kind t.parts.kind Object) (find (λ t. bytes_eq n (type_name t)) ts) false
        → option_map_or {T = List ℕ × SchemaType Place} (λ e. same_kind e.1.kind Object) (cond b (Some (type_name t, folded_type list t)) (find (λ e. bytes_eq n e.0) (map (λ t. (type_name t, folded_type list t)) ts))) false
        ≡ option_map_or (λ t. same_kind t.parts.kind Object) (cond b (Some t) (find (λ t. bytes_eq n (type_name t)) ts)) false
    by true rest = refl
    by false rest = rest

-- what is written of a schema, number-free
abbrev pub written_by : Bool → Definitions → List (DefinitionTree Place)
written_by b ds = if b then [] else whole_schema ds

pub schema_written : (built_in : Definitions) (first : ℕ) (texts : Definitions)
    → (if schema_is_defined (built_in ++ texts) then flat_map extends_schema (numbered first (built_in ++ texts)) else []) ≡ flat_map extends_schema (numbered first (built_in ++ texts))
    → ((op : OperationType) → length (roots_in op (built_in ++ texts)) ≤ 1)
    → written_schema (fold built_in first texts)
    ≡ written_by (left_out (is_object_named (folded_types first (built_in ++ texts))) (schema_base (built_in ++ texts)) (is_empty (arranged schema_classes (schema_extensions_in (built_in ++ texts))))) (built_in ++ texts)
schema_written built_in first texts applied at_most =
    let ds = built_in ++ texts in
    λ i. if left_out_is first ds applied at_most (folded_types first ds) i then [] else schema_whole first ds applied at_most i

module _ (built_in : Definitions) (first : ℕ) (texts : Definitions) (rules : FoldingRules built_in first texts) (table : IsTable built_in) where
  abbrev ds : Definitions
  ds = built_in ++ texts

  texts_none : schema_is_defined ds ≡ false → (before rest : Definitions) → texts ≡ before ++ rest → Each (λ d. schema_extension_here d ≡ None) rest
  texts_none undefined before [] e = tt
  texts_none undefined before (d ∷ rest) e = (here (schema_extension_here d) refl, texts_none undefined (before ++ d ∷ []) rest (e ∙ sym (append_assoc before (d ∷ []) rest)))
    where
      here : (o : Option Parts) → schema_extension_here d ≡ o → o ≡ None
      here None h = refl
      here (Some p) h = absurd (rules _ (orphan_schema_extension (before, (d, ((rest, e), (ap is_some h, undefined, refl))))))

  table_none : Each (λ d. schema_extension_here d ≡ None) built_in
  table_none = all_each (λ d. schema_extension_here d ≡ None) built_in table.no_schema_extension

  pub accepted_applied : (if schema_is_defined ds then flat_map extends_schema (numbered first ds) else []) ≡ flat_map extends_schema (numbered first ds)
  accepted_applied = by (schema_is_defined ds) refl
    where
      by : (b : Bool) → schema_is_defined ds ≡ b → (if b then flat_map extends_schema (numbered first ds) else []) ≡ flat_map extends_schema (numbered first ds)
      by true e = refl
      by false e = applied_none first ds (no_schema_extensions ds (Each-append (λ d. schema_extension_here d ≡ None) built_in texts table_none (texts_none e [] texts refl))) false

  pub accepted_at_most : (op : OperationType) → length (roots_in op ds) ≤ 1
  accepted_at_most op =
      let distinct = none_repeated root_key (roots_given first ds) (λ g r. rules _ (duplicate_root_operation (g, (r, refl)))) in
      subst (λ n. n ≤ 1) (how_many first ds accepted_applied op)
      (one_named root_key (operation_keyword op) (roots_given first ds) (subst (AreApart root_key (λ x. x)) distinct (firsts_apart root_key (roots_given first ds))))

  abbrev sorted : SchemaExtension → SchemaExtension
  sorted x = record { it = whole_parts x.it; place = x.place }

  abbrev exts : List SchemaExtension
  exts = arranged schema_classes (schema_extensions_in ds)

  abbrev base : SchemaGiver
  base = schema_base ds

  abbrev base_again : SchemaGiver
  base_again = record { place = base.place; description = base.description; parts = whole_parts base.parts }

  classes_sorted : map (λ c x. c (sorted x)) schema_classes ≡ schema_classes
  classes_sorted = λ i.
      (λ x. not (is_empty x.it.directives))
      ∷ (λ x. not (is_empty (whole_roots operation.Query x.it i)))
      ∷ (λ x. not (is_empty (whole_roots operation.Mutation x.it i)))
      ∷ (λ x. not (is_empty (whole_roots operation.Subscription x.it i)))
      ∷ []

  arranged_again : arranged schema_classes (map sorted exts) ≡ map sorted exts
  arranged_again = arranged_map sorted schema_classes exts ∙ ap (λ cs. map sorted (arranged cs exts)) classes_sorted ∙ ap (map sorted) (arranged-arranged schema_classes (schema_extensions_in ds))

  module _ (others : Definitions) (no_schema : Each (λ d. schema_here d ≡ None) others) (no_extension : Each (λ d. schema_extension_here d ≡ None) others) (again_first : ℕ) where
    abbrev again_after : Definitions → Definitions
    again_after written = built_in ++ (written ++ others)

    schemas_again : (written : Definitions) → flat_map (λ d. option_to_list (schema_here d)) (again_after written) ≡ flat_map (λ d. option_to_list (schema_here d)) written
    schemas_again written =
        flat_map-append (λ d. option_to_list (schema_here d)) built_in (written ++ others)
        ∙ (λ i. no_schemas built_in (all_each (λ d. schema_here d ≡ None) built_in table.no_schema) i ++ (flat_map-append (λ d. option_to_list (schema_here d)) written others
        ∙ ap (λ l. flat_map (λ d. option_to_list (schema_here d)) written ++ l) (no_schemas others no_schema) ∙ append-nil (flat_map (λ d. option_to_list (schema_here d)) written)) i)

    abbrev extension_of : DefinitionTree Place → List SchemaExtension
    extension_of d = option_map_or (λ parts. record { it = parts; place = definition_place d } ∷ []) (schema_extension_here d) []

    extensions_again : (written : Definitions) → schema_extensions_in (again_after written) ≡ schema_extensions_in written
    extensions_again written =
        flat_map-append extension_of built_in (written ++ others)
        ∙ (λ i. no_schema_extensions built_in table_none i ++ (flat_map-append extension_of written others ∙ ap (λ l. schema_extensions_in written ++ l) (no_schema_extensions others no_extension) ∙ append-nil (schema_extensions_in written)) i)

    -- the types are the same, whichever schema definition is written
    module _ (distinct : firsts type_name (types_in ds) ≡ types_in ds) where
      abbrev HasTypes : Definitions → Type 0
      HasTypes written = types_in (again_after written) ≡ types_in ds

      same_objects : (written : Definitions) → HasTypes written → (n : List ℕ) → is_object_named (folded_types again_first (again_after written)) n ≡ is_object_named (folded_types first ds) n
      same_objects written same n =
          objects_are n (numbered again_first (again_after written)) (firsts type_name (types_in (again_after written)))
          ∙ ap (λ ts. option_map_or (λ t. same_kind t.parts.kind Object) (find (λ t. bytes_eq n (type_name t)) (firsts type_name ts)) false) same
          ∙ sym (objects_are n (numbered first ds) (firsts type_name (types_in ds)))

      objects_in : (written : Definitions) → HasTypes written → (n : List ℕ) → is_object_in (again_after written) n ≡ is_object_named (folded_types first ds) n
      objects_in written same n =
          ap (λ ts. option_map_or (λ t. same_kind t.parts.kind Object) (find (λ t. bytes_eq n (type_name t)) ts) false) (same ∙ sym distinct)
          ∙ sym (objects_are n (numbered first ds) (firsts type_name (types_in ds)))

      abbrev is_object : List ℕ → Bool
      is_object = is_object_named (folded_types first ds)

      -- ---- it is written

      abbrev again : Definitions
      again = again_after (whole_schema ds)

      no_schema_in : (xs : List SchemaExtension) → flat_map (λ d. option_to_list (schema_here d)) (map whole_schema_extension xs) ≡ []
      no_schema_in [] = refl
      no_schema_in (x ∷ xs) = no_schema_in xs

      sorted_in : (xs : List SchemaExtension) → schema_extensions_in (map whole_schema_extension xs) ≡ map sorted xs
      sorted_in [] = refl
      sorted_in (x ∷ xs) = ap (λ l. sorted x ∷ l) (sorted_in xs)

      definition_again : schema_definition_in again ≡ Some base_again
      definition_again = ap (λ l. slice_get l 0) (schemas_again (whole_schema ds) ∙ ap (λ l. base_again ∷ l) (no_schema_in exts))

      base_is : schema_base again ≡ base_again
      base_is = ap (λ o. option_map_or (λ s. s) o (record { place = None; description = None; parts = record { directives = []; roots = implicit_roots again } })) definition_again

      sorted_again : schema_extensions_in again ≡ map sorted exts
      sorted_again = extensions_again (whole_schema ds) ∙ sorted_in exts

      applied_again : (if schema_is_defined again then flat_map extends_schema (numbered again_first again) else []) ≡ flat_map extends_schema (numbered again_first again)
      applied_again = ap (λ o. if is_some o || is_some (slice_get (implicit_roots again) 0) then flat_map extends_schema (numbered again_first again) else []) definition_again

      abbrev blank : Text Place → List ℕ
      blank n = []

      blanks : (xs : List (Text Place)) → count [] (map blank xs) ≡ length xs
      blanks [] = refl
      blanks (x ∷ xs) = omega (arith, blanks xs)

      abbrev names_of : OperationType → SchemaExtension → List (List ℕ)
      names_of op x = map blank (roots_of op x.it)

      blank_names : (op : OperationType) (xs : List SchemaExtension) → flat_map (names_of op) xs ≡ map blank (flat_map (λ x. roots_of op x.it) xs)
      blank_names op [] = refl
      blank_names op (x ∷ xs) = ap (λ l. names_of op x ++ l) (blank_names op xs) ∙ sym (map-append blank (roots_of op x.it) (flat_map (λ x. roots_of op x.it) xs))

      silent : (op : OperationType) (x : SchemaExtension) → IsSilent schema_classes (names_of op) x
      silent operation.Query x = λ d q m u. nothing_named blank (roots_of operation.Query x.it) q
      silent operation.Mutation x = λ d q m u. nothing_named blank (roots_of operation.Mutation x.it) m
      silent operation.Subscription x = λ d q m u. nothing_named blank (roots_of operation.Subscription x.it) u

      all_silent : (op : OperationType) (xs : List SchemaExtension) → Each (IsSilent schema_classes (names_of op)) xs
      all_silent op [] = tt
      all_silent op (x ∷ xs) = (silent op x, all_silent op xs)

      roots_sorted : (op : OperationType) (xs : List SchemaExtension) → flat_map (λ x. roots_of op x.it) (map sorted xs) ≡ flat_map (λ x. roots_of op x.it) xs
      roots_sorted op [] = refl
      roots_sorted op (x ∷ xs) = λ i. whole_roots op x.it i ++ roots_sorted op xs i

      as_many : (op : OperationType) → length (flat_map (λ x. roots_of op x.it) exts) ≡ length (flat_map (λ x. roots_of op x.it) (schema_extensions_in ds))
      as_many op =
          sym (ap (count []) (blank_names op exts) ∙ blanks (flat_map (λ x. roots_of op x.it) exts))
          ∙ arranged_total (names_of op) [] schema_classes (schema_extensions_in ds) (all_silent op (schema_extensions_in ds))
          ∙ ap (count []) (blank_names op (schema_extensions_in ds)) ∙ blanks (flat_map (λ x. roots_of op x.it) (schema_extensions_in ds))

      at_most_again : (op : OperationType) → length (roots_in op again) ≤ 1
      at_most_again op =
          let roots : roots_in op again ≡ roots_of op base.parts ++ flat_map (λ x. roots_of op x.it) exts =
          (λ i. roots_of op (base_is i).parts ++ flat_map (λ x. roots_of op x.it) (sorted_again i)) ∙ (λ i. whole_roots op base.parts i ++ roots_sorted op exts i) in
          let most = accepted_at_most op in
          omega (arith, ap length roots, length-append (roots_of op base.parts) (flat_map (λ x. roots_of op x.it) exts), length-append (roots_of op base.parts) (flat_map (λ x. roots_of op x.it) (schema_extensions_in ds)), as_many op, most)

      empty-map : {X Y : Type 0} (f : X → Y) (xs : List X) → is_empty (map f xs) ≡ is_empty xs
      empty-map f [] = refl
      empty-map f (x ∷ xs) = refl

      left_again : HasTypes (whole_schema ds) → left_out (is_object_named (folded_types again_first again)) (schema_base again) (is_empty (arranged schema_classes (schema_extensions_in again))) ≡ left_out is_object base (is_empty exts)
      left_again same =
          (λ i. left_out (λ n. same_objects (whole_schema ds) same n i) (base_is i) ((ap (λ l. is_empty (arranged schema_classes l)) sorted_again ∙ ap is_empty arranged_again ∙ empty-map sorted exts) i))
          ∙ (λ i. is_none base.description && is_empty base.parts.directives && is_empty exts
          && implicit_of is_object operation.Query (whole_roots operation.Query base.parts i) && implicit_of is_object operation.Mutation (whole_roots operation.Mutation base.parts i)
          && implicit_of is_object operation.Subscription (whole_roots operation.Subscription base.parts i) && not (is_empty (whole_roots operation.Query base.parts i)))

      sorted_twice : (xs : List SchemaExtension) → map whole_schema_extension (map sorted xs) ≡ map whole_schema_extension xs
      sorted_twice [] = refl
      sorted_twice (x ∷ xs) = λ i. ExtendSchema x.place (whole_twice x.it i) ∷ sorted_twice xs i

      whole_again : whole_schema again ≡ whole_schema ds
      whole_again =
          (λ i. whole_base (base_is i) ∷ map whole_schema_extension ((ap (arranged schema_classes) sorted_again ∙ arranged_again) i))
          ∙ (λ i. Schema base.place base.description (whole_twice base.parts i) ∷ sorted_twice exts i)

      written_twice : HasTypes (whole_schema ds) → left_out is_object base (is_empty exts) ≡ false → written_schema (fold built_in again_first (whole_schema ds ++ others)) ≡ whole_schema ds
      written_twice same is =
          schema_written built_in again_first (whole_schema ds ++ others) applied_again at_most_again
          ∙ ap (λ b. written_by b again) (left_again same ∙ is) ∙ whole_again

      -- ---- it is left out

      abbrev bare : Definitions
      bare = again_after []

      no_definition : schema_definition_in bare ≡ None
      no_definition = ap (λ l. slice_get l 0) (schemas_again [])

      abbrev implicit_base : SchemaGiver
      implicit_base = record { place = None; description = None; parts = record { directives = []; roots = implicit_roots bare } }

      bare_base : schema_base bare ≡ implicit_base
      bare_base = ap (λ o. option_map_or (λ s. s) o implicit_base) no_definition

      bare_extensions : schema_extensions_in bare ≡ []
      bare_extensions = extensions_again []

      bare_at_most : (op : OperationType) → length (roots_in op bare) ≤ 1
      bare_at_most op =
          subst (λ l. length l ≤ 1) (sym ((λ i. roots_of op (bare_base i).parts ++ flat_map (λ x. roots_of op x.it) (bare_extensions i)) ∙ ap (λ l. l ++ []) (implicit_names bare op)))
          (one_at_most (is_object_in bare (default_root_name op)) (record { it = default_root_name op; place = None }))

      implicit_there : (op : OperationType) (a : Bool) → is_object (default_root_name op) ≡ a → implicit_of is_object op (if a then record { it = default_root_name op; place = None } ∷ [] else []) ≡ true
      implicit_there op true e = (λ i. (bytes_eq-Decides (default_root_name op) (default_root_name op)).1 refl i && e i)
      implicit_there op false e = ap not e

      -- a query root that is left out is the object
      query_there : left_out is_object base (is_empty exts) ≡ true → is_object (default_root_name operation.Query) ≡ true
      query_there is = by (roots_of operation.Query base.parts) (is_none base.description) (is_empty base.parts.directives) (is_empty exts) (implicit_of is_object operation.Mutation (roots_of operation.Mutation base.parts)) (implicit_of is_object operation.Subscription (roots_of operation.Subscription base.parts)) is
        where
          second : (a b : Bool) → (a && b) ≡ true → b ≡ true
          second true b e = e
          second false b e = absurd (true≢false (sym e))

          fourth : (a b c d e f g : Bool) → (a && b && c && d && e && f && g) ≡ true → d ≡ true
          fourth true true true true e f g h = refl
          fourth true true true false e f g h = h
          fourth true true false d e f g h = absurd (true≢false (sym h))
          fourth true false c d e f g h = absurd (true≢false (sym h))
          fourth false b c d e f g h = absurd (true≢false (sym h))

          last : (a b c d e f g : Bool) → (a && b && c && d && e && f && g) ≡ true → g ≡ true
          last a b c d e f true h = refl
          last a b c d e f false h = sym (none (a && b && c && d && e && f)) ∙ h
            where
              none : (x : Bool) → (x && false) ≡ false
              none true = refl
              none false = refl

          by : (ns : List (Text Place)) (a b c e f : Bool) → (a && b && c && implicit_of is_object operation.Query ns && e && f && not (is_empty ns)) ≡ true → is_object (default_root_name operation.Query) ≡ true
          by [] a b c e f h = absurd (true≢false (sym (last a b c (implicit_of is_object operation.Query []) e f false h)))
          by (n ∷ ns) a b c e f h = second (bytes_eq n.it (default_root_name operation.Query)) (is_object (default_root_name operation.Query)) (fourth a b c (implicit_of is_object operation.Query (n ∷ ns)) e f true h)

      bare_left : HasTypes [] → left_out is_object base (is_empty exts) ≡ true → left_out (is_object_named (folded_types again_first bare)) (schema_base bare) (is_empty (arranged schema_classes (schema_extensions_in bare))) ≡ true
      bare_left same is =
          (λ i. left_out (λ n. same_objects [] same n i) (bare_base i) (is_empty (arranged schema_classes (bare_extensions i))))
          ∙ (λ i. implicit_of is_object operation.Query (names operation.Query i) && implicit_of is_object operation.Mutation (names operation.Mutation i) && implicit_of is_object operation.Subscription (names operation.Subscription i) && not (is_empty (names operation.Query i)))
          ∙ (λ i. implicit_there operation.Query (is_object (default_root_name operation.Query)) refl i && implicit_there operation.Mutation (is_object (default_root_name operation.Mutation)) refl i && implicit_there operation.Subscription (is_object (default_root_name operation.Subscription)) refl i
          && not (is_empty {A = Text Place} (if query_there is i then record { it = default_root_name operation.Query; place = None } ∷ [] else [])))
        where
          names : (op : OperationType) → roots_of op implicit_base.parts ≡ (if is_object (default_root_name op) then record { it = default_root_name op; place = None } ∷ [] else [])
          names op = implicit_names bare op ∙ ap (λ b. if b then record { it = default_root_name op; place = None } ∷ [] else []) (objects_in [] same (default_root_name op))

      left_twice : HasTypes [] → left_out is_object base (is_empty exts) ≡ true → written_schema (fold built_in again_first ([] ++ others)) ≡ []
      left_twice same is =
          schema_written built_in again_first ([] ++ others) (applied_none again_first bare bare_extensions (schema_is_defined bare)) bare_at_most
          ∙ ap (λ b. written_by b bare) (bare_left same is)

      abbrev written : List (DefinitionTree Place)
      written = written_schema (fold built_in first texts)

      pub schema_twice : ((w : Definitions) → (w ≡ []) ⊎ (w ≡ whole_schema ds) → HasTypes w) → written_schema (fold built_in again_first (written ++ others)) ≡ written
      schema_twice same = by (left_out is_object base (is_empty exts)) refl
        where
          is : written ≡ written_by (left_out is_object base (is_empty exts)) ds
          is = schema_written built_in first texts accepted_applied accepted_at_most

          by : (b : Bool) → left_out is_object base (is_empty exts) ≡ b → written_schema (fold built_in again_first (written ++ others)) ≡ written
          by true e =
              let none : written ≡ [] = is ∙ ap (λ b. written_by b ds) e in
              ap (λ w. written_schema (fold built_in again_first (w ++ others))) none ∙ left_twice (same [] (inl refl)) e ∙ sym none
          by false e =
              let whole : written ≡ whole_schema ds = is ∙ ap (λ b. written_by b ds) e in
              ap (λ w. written_schema (fold built_in again_first (w ++ others))) whole ∙ written_twice (same (whole_schema ds) (inr refl)) e ∙ sym whole

      -- ---- it is equal

      abbrev dirs : SchemaExtension → List (Placed Place (DirectiveTree Place))
      dirs x = x.it.directives

      dirs_sorted : (xs : List SchemaExtension) → flat_map dirs (map sorted xs) ≡ flat_map dirs xs
      dirs_sorted [] = refl
      dirs_sorted (x ∷ xs) = ap (λ l. dirs x ++ l) (dirs_sorted xs)

      no_dirs : (x : SchemaExtension) → not (is_empty x.it.directives) ≡ false → dirs x ≡ []
      no_dirs x e = by x.it.directives e
        where
          by : (ys : List (Placed Place (DirectiveTree Place))) → not (is_empty ys) ≡ false → ys ≡ []
          by [] k = refl
          by (y ∷ ys) k = absurd (true≢false k)

      dirs_in_order : flat_map dirs exts ≡ flat_map dirs (schema_extensions_in ds)
      dirs_in_order =
          in_order dirs (λ x. not (is_empty x.it.directives))
          ((λ x. not (is_empty (roots_of operation.Query x.it))) ∷ (λ x. not (is_empty (roots_of operation.Mutation x.it))) ∷ (λ x. not (is_empty (roots_of operation.Subscription x.it))) ∷ []) no_dirs (schema_extensions_in ds)

      every_one : {X : Type 0} (xs : List X) → filter (λ x. true) xs ≡ xs
      every_one [] = refl
      every_one (x ∷ xs) = ap (λ l. x ∷ l) (every_one xs)

      no_roots : (op : OperationType) (x : SchemaExtension) → not (is_empty (roots_of op x.it)) ≡ false → roots_of op x.it ≡ []
      no_roots op x e = by (roots_of op x.it) e
        where
          by : (ys : List (Text Place)) → not (is_empty ys) ≡ false → ys ≡ []
          by [] k = refl
          by (y ∷ ys) k = absurd (true≢false k)

      quiet : (op : OperationType) (x : SchemaExtension) → IsSilent schema_classes (λ x. roots_of op x.it) x
      quiet operation.Query x = λ d q m u. no_roots operation.Query x q
      quiet operation.Mutation x = λ d q m u. no_roots operation.Mutation x m
      quiet operation.Subscription x = λ d q m u. no_roots operation.Subscription x u

      all_quiet : (op : OperationType) (xs : List SchemaExtension) → Each (IsSilent schema_classes (λ x. roots_of op x.it)) xs
      all_quiet op [] = tt
      all_quiet op (x ∷ xs) = (quiet op x, all_quiet op xs)

      roots_in_order : (op : OperationType) → flat_map (λ x. roots_of op x.it) exts ≡ flat_map (λ x. roots_of op x.it) (schema_extensions_in ds)
      roots_in_order op =
          let all = flat_map (λ x. roots_of op x.it) (schema_extensions_in ds) in
          let most = accepted_at_most op in
          let sum = length-append (roots_of op base.parts) all in
          sym (every_one (flat_map (λ x. roots_of op x.it) exts))
          ∙ same_passing (λ x. roots_of op x.it) (λ x. true) schema_classes (schema_extensions_in ds) (all_quiet op (schema_extensions_in ds)) (omega (arith, ap length (every_one all), sum, most))
          ∙ every_one all

      abbrev first_of : {X : Type 0} → List X → Option X
      first_of [] = None
      first_of (x ∷ xs) = Some x

      named_first : (o : Option (Given Place (Text Place))) → option_map given_name o ≡ first_of (map given_name (option_to_list o))
      named_first None = refl
      named_first (Some g) = refl

      -- equal by what is in the lists
      roots_equal : (f : ℕ) (xs : Definitions) (applied : (if schema_is_defined xs then flat_map extends_schema (numbered f xs) else []) ≡ flat_map extends_schema (numbered f xs)) (most : (op : OperationType) → length (roots_in op xs) ≤ 1)
          → option_map unplaced_text (schema_base xs).description ≡ option_map unplaced_text base.description
          → (schema_base xs).parts.directives ++ flat_map dirs (schema_extensions_in xs) ≡ base.parts.directives ++ flat_map dirs (schema_extensions_in ds)
          → ((op : OperationType) → map (λ n. n.it) (roots_in op xs) ≡ map (λ n. n.it) (roots_in op ds))
          → plain_roots (folded_schema f xs) ≡ plain_roots (folded_schema first ds)
      roots_equal f xs applied most description directives roots = λ i. record {
        description = description i;
        directives = (directives_unplaced f xs applied most ∙ ap (map (λ d. unplaced_directive d.it)) directives ∙ sym (directives_unplaced first ds accepted_applied accepted_at_most)) i;
        query = root operation.Query i;
        mutation = root operation.Mutation i;
        subscription = root operation.Subscription i;
      }
        where
          root : (op : OperationType) → option_map given_name (root_in op (roots_given f xs)) ≡ option_map given_name (root_in op (roots_given first ds))
          root op =
              named_first (root_in op (roots_given f xs))
              ∙ ap first_of (root_names f xs applied most op ∙ roots op ∙ sym (root_names first ds accepted_applied accepted_at_most op))
              ∙ sym (named_first (root_in op (roots_given first ds)))

      written_equal : plain_roots (folded_schema again_first again) ≡ plain_roots (folded_schema first ds)
      written_equal =
          roots_equal again_first again applied_again at_most_again (ap (λ b. option_map unplaced_text b.description) base_is)
          ((λ i. (base_is i).parts.directives ++ (ap (flat_map dirs) sorted_again ∙ dirs_sorted exts ∙ dirs_in_order) i))
          (λ op. ap (map (λ n. n.it)) ((λ i. roots_of op (base_is i).parts ++ flat_map (λ x. roots_of op x.it) (sorted_again i)) ∙ (λ i. whole_roots op base.parts i ++ (roots_sorted op exts ∙ roots_in_order op) i)))

      left_and : (a b : Bool) → (a && b) ≡ true → a ≡ true
      left_and true b h = refl
      left_and false b h = h

      right_and : (a b : Bool) → (a && b) ≡ true → b ≡ true
      right_and true b h = h
      right_and false b h = absurd (true≢false (sym h))

      is_nothing : {X : Type 0} (xs : List X) → is_empty xs ≡ true → xs ≡ []
      is_nothing [] h = refl
      is_nothing (x ∷ xs) h = absurd (true≢false (sym h))

      -- what an implicit root is called
      implicit_called : (op : OperationType) (ns : List (Text Place)) → length ns ≤ 1 → implicit_of is_object op ns ≡ true → (a : Bool) → is_object (default_root_name op) ≡ a
          → map {A = Text Place} (λ n. n.it) (if a then record { it = default_root_name op; place = None } ∷ [] else []) ≡ map {A = Text Place} (λ n. n.it) ns
      implicit_called op [] few h true e = absurd (true≢false (sym h ∙ ap not e))
      implicit_called op [] few h false e = refl
      implicit_called op (n ∷ []) few h true e = ap (λ m. m ∷ []) (sym ((bytes_eq-Decides n.it (default_root_name op)).0 (left_and (bytes_eq n.it (default_root_name op)) (is_object (default_root_name op)) h)))
      implicit_called op (n ∷ []) few h false e = absurd (true≢false (sym (right_and (bytes_eq n.it (default_root_name op)) (is_object (default_root_name op)) h) ∙ e))
      implicit_called op (n ∷ m ∷ ns) few h a e = absurd (omega (arith, few))

      bare_equal : HasTypes [] → left_out is_object base (is_empty exts) ≡ true → plain_roots (folded_schema again_first bare) ≡ plain_roots (folded_schema first ds)
      bare_equal same is =
          roots_equal again_first bare (applied_none again_first bare bare_extensions (schema_is_defined bare)) bare_at_most
          (ap (λ b. option_map unplaced_text b.description) bare_base ∙ undescribed base.description none)
          ((λ i. (bare_base i).parts.directives ++ flat_map dirs (bare_extensions i)) ∙ (λ i. sym (is_nothing base.parts.directives no_directives) i ++ (ap (flat_map dirs) (sym (is_nothing exts no_exts)) ∙ dirs_in_order) i))
          roots
        where
          seven : (a b c d e f g : Bool) → (a && b && c && d && e && f && g) ≡ true → (a ≡ true) × (b ≡ true) × (c ≡ true) × (d ≡ true) × (e ≡ true) × (f ≡ true)
          seven true true true true true true g h = (refl, refl, refl, refl, refl, refl)
          seven true true true true true false g h = absurd (true≢false (sym h))
          seven true true true true false f g h = absurd (true≢false (sym h))
          seven true true true false e f g h = absurd (true≢false (sym h))
          seven true true false d e f g h = absurd (true≢false (sym h))
          seven true false c d e f g h = absurd (true≢false (sym h))
          seven false b c d e f g h = absurd (true≢false (sym h))

          parts : (is_none base.description ≡ true) × (is_empty base.parts.directives ≡ true) × (is_empty exts ≡ true) × (implicit_of is_object operation.Query (roots_of operation.Query base.parts) ≡ true) × (implicit_of is_object operation.Mutation (roots_of operation.Mutation base.parts) ≡ true) × (implicit_of is_object operation.Subscription (roots_of operation.Subscription base.parts) ≡ true)
          parts = seven (is_none base.description) (is_empty base.parts.directives) (is_empty exts) (implicit_of is_object operation.Query (roots_of operation.Query base.parts)) (implicit_of is_object operation.Mutation (roots_of operation.Mutation base.parts)) (implicit_of is_object operation.Subscription (roots_of operation.Subscription base.parts)) (not (is_empty (roots_of operation.Query base.parts))) is

          none : is_none base.description ≡ true
          none = parts.0

          no_directives : is_empty base.parts.directives ≡ true
          no_directives = parts.1

          no_exts : is_empty exts ≡ true
          no_exts = parts.2

          undescribed : (o : Option (Text Place)) → is_none o ≡ true → None ≡ option_map unplaced_text o
          undescribed None h = refl
          undescribed (Some x) h = absurd (true≢false (sym h))

          is_implicit : (op : OperationType) → implicit_of is_object op (roots_of op base.parts) ≡ true
          is_implicit operation.Query = parts.3
          is_implicit operation.Mutation = parts.4
          is_implicit operation.Subscription = parts.5

          alone : (op : OperationType) → roots_in op ds ≡ roots_of op base.parts
          alone op = ap (λ l. roots_of op base.parts ++ l) (sym (roots_in_order op) ∙ ap (flat_map (λ x. roots_of op x.it)) (is_nothing exts no_exts)) ∙ append-nil (roots_of op base.parts)

          roots : (op : OperationType) → map {A = Text Place} (λ n. n.it) (roots_in op bare) ≡ map {A = Text Place} (λ n. n.it) (roots_in op ds)
          roots op =
              ap (map {A = Text Place} (λ n. n.it)) ((λ i. roots_of op (bare_base i).parts ++ flat_map (λ x. roots_of op x.it) (bare_extensions i)) ∙ append-nil (roots_of op implicit_base.parts) ∙ implicit_names bare op
              ∙ ap (λ b. if b then record { it = default_root_name op; place = None } ∷ [] else []) (objects_in [] same (default_root_name op)))
              ∙ implicit_called op (roots_of op base.parts) (subst (λ l. length l ≤ 1) (alone op) (accepted_at_most op)) (is_implicit op) (is_object (default_root_name op)) refl
              ∙ ap (map {A = Text Place} (λ n. n.it)) (sym (alone op))

      pub schema_equal : ((w : Definitions) → (w ≡ []) ⊎ (w ≡ whole_schema ds) → HasTypes w) → plain_roots (folded_schema again_first (built_in ++ (written ++ others))) ≡ plain_roots (folded_schema first ds)
      schema_equal same = by (left_out is_object base (is_empty exts)) refl
        where
          is : written ≡ written_by (left_out is_object base (is_empty exts)) ds
          is = schema_written built_in first texts accepted_applied accepted_at_most

          by : (b : Bool) → left_out is_object base (is_empty exts) ≡ b → plain_roots (folded_schema again_first (built_in ++ (written ++ others))) ≡ plain_roots (folded_schema first ds)
          by true e = ap (λ w. plain_roots (folded_schema again_first (built_in ++ (w ++ others)))) (is ∙ ap (λ b. written_by b ds) e) ∙ bare_equal (same [] (inl refl)) e
          by false e = ap (λ w. plain_roots (folded_schema again_first (built_in ++ (w ++ others)))) (is ∙ ap (λ b. written_by b ds) e) ∙ written_equal

      -- what is asked of the list for a second fold
      pub again_fits : ((w : Definitions) → (w ≡ []) ⊎ (w ≡ whole_schema ds) → HasTypes w)
          → ((if schema_is_defined (built_in ++ (written ++ others)) then flat_map extends_schema (numbered again_first (built_in ++ (written ++ others))) else []) ≡ flat_map extends_schema (numbered again_first (built_in ++ (written ++ others))))
          × ((op : OperationType) → length (roots_in op (built_in ++ (written ++ others))) ≤ 1)
      again_fits same = by (left_out is_object base (is_empty exts)) refl
        where
          is : written ≡ written_by (left_out is_object base (is_empty exts)) ds
          is = schema_written built_in first texts accepted_applied accepted_at_most

          Goal : Definitions → Type 0
          Goal w = ((if schema_is_defined (built_in ++ (w ++ others)) then flat_map extends_schema (numbered again_first (built_in ++ (w ++ others))) else []) ≡ flat_map extends_schema (numbered again_first (built_in ++ (w ++ others))))
              × ((op : OperationType) → length (roots_in op (built_in ++ (w ++ others))) ≤ 1)

          by : (b : Bool) → left_out is_object base (is_empty exts) ≡ b → Goal written
          by true e = subst Goal (sym (is ∙ ap (λ b. written_by b ds) e)) (applied_none again_first bare bare_extensions (schema_is_defined bare), bare_at_most)
          by false e = subst Goal (sym (is ∙ ap (λ b. written_by b ds) e)) (applied_again, at_most_again)
