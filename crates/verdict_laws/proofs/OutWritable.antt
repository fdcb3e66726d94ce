-- What is written of an accepted list can be written.
use Rattle.std.proofs.Common.{◌≡◌, ◌⊎◌, ℕ, Bool, true, false, cond, List, [], ◌∷◌, ◌++◌, ◌&&◌, ◌||◌, is_some, map, flat_map, Option, Some, None, refl, sym, ap, subst, ◌∙◌, if◌then◌else◌, option_to_list, slice_get, inl, inr, true≢false}
use Rattle.std.specs.List.{find, filter, list_all}
use Rattle.std.specs.Option.{option_map_or}
use Rattle.std.specs.Cmp.{second_so}
use Rattle.std.specs.Str.{bytes_eq}
use Rattle.std.proofs.lemmas.Option.{same_Some}
use Rattle.graphql_names.specs.Places.{is_built_in}
use Rattle.graphql_names.specs.Placed.{Place, Text}
use Rattle.tree_definitions.specs.in_type_members.TypeSystemTree.{SchemaParts}
use Rattle.tree_definitions.specs.DefinitionTree as tree
use Rattle.tree_definitions.specs.DefinitionTree.{DefinitionTree}
use Rattle.tree_definitions.specs.Queries.{definition_place}
use Rattle.tree_definitions.specs.Writable.{has_some, schema_writable, schema_extension_writable, definition_writable}
use Rattle.tree_definitions.specs.in_operations.Writable.{directives_writable, directive_definition_writable}
use Rattle.schema_components.specs.in_operations.OperationQueries.{operation_keyword}
use Rattle.schema_components.specs.in_operations.in_directives.declared.operation_type.OperationType.{OperationType}
use Rattle.schema_components.specs.in_operations.in_directives.declared.operation_type.OperationType.TheVariants as operation
use Rattle.schema_components.specs.Lists.{firsts}
use Rattle.schema_types.specs.SchemaTree.{same_kind}
use Rattle.schema_types.specs.TypeParts.{TypeParts, TypeDefinition, type_here, type_extension_here, extension_by}
use Rattle.schema_types.specs.Out.{is_empty, is_object_named, written_directive}
use Rattle.schema_fold.specs.NumberedDefinition.{Definitions, type_name, types_in, directive_name, directives_in}
use Rattle.schema_fold.specs.Components.{go_together}
use Rattle.schema_fold.specs.SchemaFold.{Root, SchemaGiver, schema_here, schema_extension_here, schema_base, implicit_roots, schema_is_defined}
use Rattle.schema_fold.specs.Fold.{chosen_directive, folded_types}
use Rattle.schema_fold.specs.BuildErrors.{FoldingRules}
use Rattle.verdict_laws.specs.Arranged.{arranged}
use Rattle.verdict_laws.specs.Whole.{Extension, classes, extension_at, extensions_in, whole_definition, whole_extension, whole_type}
use Rattle.verdict_laws.specs.WholeSchema.{roots_of, written_roots, whole_parts, SchemaExtension, schema_classes, schema_extensions_in, whole_schema_extension, left_out}
use Rattle.verdict_laws.specs.Table.{IsTable, AreOwn}
use Rattle.verdict_laws.specs.Twice.{WrittenOf}
use Rattle.verdict_laws.proofs.Order.{Each, Each-append, Each-arranged}
use Rattle.verdict_laws.proofs.Accepted.{types_whole}
use Rattle.verdict_laws.proofs.Again.{kinds_same}
use Rattle.verdict_laws.proofs.TypesTwice.{all_each, all_types}
use Rattle.verdict_laws.proofs.DirectivesTwice.{Directive, same, all_firsts, marked_unless_own}
use Rattle.verdict_laws.proofs.SchemaTwice.{schema_written, accepted_applied, accepted_at_most, written_by}

abbrev Parts : Type 0
Parts = TypeParts Place

-- ---- a whole definition can be written as it could be

stood : (d : DefinitionTree Place) (t : TypeDefinition Place) → type_here d ≡ Some t → whole_definition t ≡ d
stood (tree.ScalarType q w s) t e = subst (λ t. whole_definition t ≡ tree.ScalarType q w s) (same_Some _ _ e) refl
stood (tree.ObjectType q w s) t e = subst (λ t. whole_definition t ≡ tree.ObjectType q w s) (same_Some _ _ e) refl
stood (tree.InterfaceType q w s) t e = subst (λ t. whole_definition t ≡ tree.InterfaceType q w s) (same_Some _ _ e) refl
stood (tree.UnionType q w s) t e = subst (λ t. whole_definition t ≡ tree.UnionType q w s) (same_Some _ _ e) refl
stood (tree.EnumType q w s) t e = subst (λ t. whole_definition t ≡ tree.EnumType q w s) (same_Some _ _ e) refl
stood (tree.InputObjectType q w s) t e = subst (λ t. whole_definition t ≡ tree.InputObjectType q w s) (same_Some _ _ e) refl
stood _ t e = cc

as_writable : (d : DefinitionTree Place) (p : Parts) (q : Place) (n : Text Place) → type_extension_here d ≡ Some p → definition_writable (extension_by p.kind q (record p { name = n })) ≡ definition_writable d
as_writable (tree.ExtendScalar r t) p q n e = subst (λ p. definition_writable (extension_by p.kind q (record p { name = n })) ≡ definition_writable (tree.ExtendScalar r t)) (same_Some _ _ e) refl
as_writable (tree.ExtendObject r t) p q n e = subst (λ p. definition_writable (extension_by p.kind q (record p { name = n })) ≡ definition_writable (tree.ExtendObject r t)) (same_Some _ _ e) refl
as_writable (tree.ExtendInterface r t) p q n e = subst (λ p. definition_writable (extension_by p.kind q (record p { name = n })) ≡ definition_writable (tree.ExtendInterface r t)) (same_Some _ _ e) refl
as_writable (tree.ExtendUnion r t) p q n e = subst (λ p. definition_writable (extension_by p.kind q (record p { name = n })) ≡ definition_writable (tree.ExtendUnion r t)) (same_Some _ _ e) refl
as_writable (tree.ExtendEnum r t) p q n e = subst (λ p. definition_writable (extension_by p.kind q (record p { name = n })) ≡ definition_writable (tree.ExtendEnum r t)) (same_Some _ _ e) refl
as_writable (tree.ExtendInputObject r t) p q n e = subst (λ p. definition_writable (extension_by p.kind q (record p { name = n })) ≡ definition_writable (tree.ExtendInputObject r t)) (same_Some _ _ e) refl
as_writable _ p q n e = cc

abbrev pub Fits : DefinitionTree Place → Type 0
Fits d = definition_writable d ≡ true

pub all_fit : (ds : Definitions) → list_all definition_writable ds ≡ true → Each Fits ds
all_fit [] h = tt
all_fit (d ∷ ds) h = by (definition_writable d) refl h (all_fit ds)
  where
    by : (b : Bool) → definition_writable d ≡ b → (b && list_all definition_writable ds) ≡ true → (list_all definition_writable ds ≡ true → Each Fits ds) → Each Fits (d ∷ ds)
    by true e k rest = (e, rest k)
    by false e k rest = absurd (true≢false (sym k))

pub fits_all : (ds : Definitions) → Each Fits ds → list_all definition_writable ds ≡ true
fits_all [] h = refl
fits_all (d ∷ ds) h = ap (λ b. b && list_all definition_writable ds) h.0 ∙ fits_all ds h.1

-- it is built in, or it fits
abbrev TypeFits : TypeDefinition Place → Type 0
TypeFits t = (is_built_in t.place ≡ true) ⊎ Fits (whole_definition t)

types_fit : (ds : Definitions) → Each Fits ds → Each TypeFits (types_in ds)
types_fit [] h = tt
types_fit (d ∷ ds) h = here (type_here d) refl (types_fit ds h.1)
  where
    here : (o : Option (TypeDefinition Place)) → type_here d ≡ o → Each TypeFits (types_in ds) → Each TypeFits (option_to_list o ++ types_in ds)
    here None e rest = rest
    here (Some t) e rest = (inr (subst Fits (sym (stood d t e)) h.0), rest)

marked_fit : (ts : List (TypeDefinition Place)) → Each (λ t. is_built_in t.place ≡ true) ts → Each TypeFits ts
marked_fit [] h = tt
marked_fit (t ∷ ts) h = (inl h.0, marked_fit ts h.1)

-- an extension of the list fits, or there are none of types
extensions_fit : (t : TypeDefinition Place) (ds : Definitions) → Each (λ d. (type_extension_here d ≡ None) ⊎ Fits d) ds → Each (λ x. Fits (whole_extension t x)) (extensions_in ds t.parts)
extensions_fit t [] h = tt
extensions_fit t (d ∷ ds) h = Each-append (λ x. Fits (whole_extension t x)) (extension_at t.parts d) (extensions_in ds t.parts) (here (type_extension_here d) refl h.0) (extensions_fit t ds h.1)
  where
    here : (o : Option Parts) → type_extension_here d ≡ o → (o ≡ None) ⊎ Fits d
        → Each (λ x. Fits (whole_extension t x)) (option_map_or (λ parts. if go_together t.parts parts then record { it = parts; place = definition_place d } ∷ [] else []) o [])
    here None e f = tt
    here (Some p) e (inl f) = absurd cc
    here (Some p) e (inr f) = by (go_together t.parts p) refl
      where
        by : (b : Bool) → go_together t.parts p ≡ b → Each (λ x. Fits (whole_extension t x)) (if b then record { it = p; place = definition_place d } ∷ [] else [])
        by true g = (
          subst (λ k. definition_writable (extension_by k (definition_place d) (record p { kind = k; name = t.parts.name })) ≡ true)
              (sym (kinds_same t.parts.kind p.kind (second_so (bytes_eq t.parts.name.it p.name.it) (same_kind t.parts.kind p.kind) g)))
              (as_writable d p (definition_place d) t.parts.name e ∙ f),
          tt,
        )
        by false g = tt

whole_fit : (ds : Definitions) → Each (λ d. (type_extension_here d ≡ None) ⊎ Fits d) ds → (ts : List (TypeDefinition Place)) → Each TypeFits ts → Each Fits (flat_map (whole_type ds) ts)
whole_fit ds h [] f = tt
whole_fit ds h (t ∷ ts) f =
    Each-append Fits (whole_type ds t) (flat_map (whole_type ds) ts)
    (Each-append Fits (if is_built_in t.place then [] else whole_definition t ∷ []) (map (whole_extension t) (arranged classes (extensions_in ds t.parts)))
    (by (is_built_in t.place) refl f.0) (mapped (arranged classes (extensions_in ds t.parts)) (Each-arranged (λ x. Fits (whole_extension t x)) classes (extensions_in ds t.parts) (extensions_fit t ds h))))
    (whole_fit ds h ts f.1)
  where
    by : (b : Bool) → is_built_in t.place ≡ b → TypeFits t → Each Fits (if b then [] else whole_definition t ∷ [])
    by true e k = tt
    by false e (inl k) = absurd (true≢false (sym k ∙ e))
    by false e (inr k) = (k, tt)

    mapped : (xs : List Extension) → Each (λ x. Fits (whole_extension t x)) xs → Each Fits (map (whole_extension t) xs)
    mapped [] k = tt
    mapped (x ∷ xs) k = (k.0, mapped xs k.1)

-- ---- directives

abbrev DirectiveFits : Directive → Type 0
DirectiveFits d = directive_definition_writable d.it ≡ true

directives_fit : (ds : Definitions) → Each Fits ds → Each DirectiveFits (directives_in ds)
directives_fit [] h = tt
directives_fit (tree.DirectiveDefinition p x ∷ ds) h = (h.0, directives_fit ds h.1)
directives_fit (tree.Operation p x ∷ ds) h = directives_fit ds h.1
directives_fit (tree.Fragment p x ∷ ds) h = directives_fit ds h.1
directives_fit (tree.Schema p w x ∷ ds) h = directives_fit ds h.1
directives_fit (tree.ScalarType p w x ∷ ds) h = directives_fit ds h.1
directives_fit (tree.ObjectType p w x ∷ ds) h = directives_fit ds h.1
directives_fit (tree.InterfaceType p w x ∷ ds) h = directives_fit ds h.1
directives_fit (tree.UnionType p w x ∷ ds) h = directives_fit ds h.1
directives_fit (tree.EnumType p w x ∷ ds) h = directives_fit ds h.1
directives_fit (tree.InputObjectType p w x ∷ ds) h = directives_fit ds h.1
directives_fit (tree.ExtendSchema p x ∷ ds) h = directives_fit ds h.1
directives_fit (tree.ExtendScalar p x ∷ ds) h = directives_fit ds h.1
directives_fit (tree.ExtendObject p x ∷ ds) h = directives_fit ds h.1
directives_fit (tree.ExtendInterface p x ∷ ds) h = directives_fit ds h.1
directives_fit (tree.ExtendUnion p x ∷ ds) h = directives_fit ds h.1
directives_fit (tree.ExtendEnum p x ∷ ds) h = directives_fit ds h.1
directives_fit (tree.ExtendInputObject p x ∷ ds) h = directives_fit ds h.1

found_fits : (n : List ℕ) (x : Directive) (xs : List Directive) → Each DirectiveFits xs → find (same n) xs ≡ Some x → DirectiveFits x
found_fits n x [] h e = absurd cc
found_fits n x (y ∷ ys) h e = by (same n y) refl (found_fits n x ys h.1)
  where
    by : (b : Bool) → same n y ≡ b → (find (same n) ys ≡ Some x → DirectiveFits x) → DirectiveFits x
    by true s rest = let f : Some y ≡ Some x = sym (ap (λ b. cond b (Some y) (find (same n) ys)) s) ∙ e in subst DirectiveFits (same_Some _ _ f) h.0
    by false s rest = rest (sym (ap (λ b. cond b (Some y) (find (same n) ys)) s) ∙ e)

chosen_fit : (texts : Definitions) → Each Fits texts → (ds : List Directive) → Each (λ d. find (same (directive_name d)) (directives_in texts) ≡ None → is_built_in d.place ≡ true) ds
    → Each Fits (flat_map written_directive (map (λ d. (directive_name d, chosen_directive texts d)) ds))
chosen_fit texts fit [] h = tt
chosen_fit texts fit (d ∷ ds) h =
    Each-append Fits (written_directive (directive_name d, chosen_directive texts d)) (flat_map written_directive (map (λ d. (directive_name d, chosen_directive texts d)) ds))
    (here (find (same (directive_name d)) (directives_in texts)) refl h.0) (chosen_fit texts fit ds h.1)
  where
    one : (x : Directive) (b : Bool) → DirectiveFits x → Each Fits (if b then [] else tree.DirectiveDefinition x.place x.it ∷ [])
    one x true k = tt
    one x false k = (k, tt)

    here : (o : Option Directive) → find (same (directive_name d)) (directives_in texts) ≡ o → (o ≡ None → is_built_in d.place ≡ true) → Each Fits (written_directive (directive_name d, option_map_or (λ own. own) o d))
    here None e k = subst (λ b. Each Fits (if b then [] else tree.DirectiveDefinition d.place d.it ∷ [])) (sym (k refl)) tt
    here (Some x) e k = one x (is_built_in x.place) (found_fits (directive_name d) x (directives_in texts) (directives_fit texts fit) e)

-- ---- the schema definition

pub some_first : {A : Type 0} (xs ys : List A) → has_some xs ≡ true → has_some (xs ++ ys) ≡ true
some_first [] ys h = absurd (true≢false (sym h))
some_first (x ∷ xs) ys h = refl

pub some_second : {A : Type 0} (xs ys : List A) → has_some ys ≡ true → has_some (xs ++ ys) ≡ true
some_second [] ys h = h
some_second (x ∷ xs) ys h = refl

-- a root is of one of the three operations, so some root is written where there is some
roots_stay : (p : SchemaParts Place) → has_some p.roots ≡ true → has_some (whole_parts p).roots ≡ true
roots_stay p h = by p.roots refl h
  where
    of : OperationType → List (Text Place)
    of o = roots_of o p

    first_of : (r : Root) (rs : List Root) → p.roots ≡ r ∷ rs → (o : OperationType) → r.it.operation_type ≡ o → has_some (written_roots o (roots_of o p)) ≡ true
    first_of r rs e operation.Query k = subst (λ l. has_some (written_roots operation.Query (map (λ r. r.it.name) (filter (λ r. bytes_eq (operation_keyword operation.Query) (operation_keyword r.it.operation_type)) l))) ≡ true) (sym e)
        (subst (λ o. has_some (written_roots operation.Query (map (λ r. r.it.name) (cond (bytes_eq (operation_keyword operation.Query) (operation_keyword o)) (r ∷ filter (λ r. bytes_eq (operation_keyword operation.Query) (operation_keyword r.it.operation_type)) rs) (filter (λ r. bytes_eq (operation_keyword operation.Query) (operation_keyword r.it.operation_type)) rs)))) ≡ true) (sym k) refl)
    first_of r rs e operation.Mutation k = subst (λ l. has_some (written_roots operation.Mutation (map (λ r. r.it.name) (filter (λ r. bytes_eq (operation_keyword operation.Mutation) (operation_keyword r.it.operation_type)) l))) ≡ true) (sym e)
        (subst (λ o. has_some (written_roots operation.Mutation (map (λ r. r.it.name) (cond (bytes_eq (operation_keyword operation.Mutation) (operation_keyword o)) (r ∷ filter (λ r. bytes_eq (operation_keyword operation.Mutation) (operation_keyword r.it.operation_type)) rs) (filter (λ r. bytes_eq (operation_keyword operation.Mutation) (operation_keyword r.it.operation_type)) rs)))) ≡ true) (sym k) refl)
    first_of r rs e operation.Subscription k = subst (λ l. has_some (written_roots operation.Subscription (map (λ r. r.it.name) (filter (λ r. bytes_eq (operation_keyword operation.Subscription) (operation_keyword r.it.operation_type)) l))) ≡ true) (sym e)
        (subst (λ o. has_some (written_roots operation.Subscription (map (λ r. r.it.name) (cond (bytes_eq (operation_keyword operation.Subscription) (operation_keyword o)) (r ∷ filter (λ r. bytes_eq (operation_keyword operation.Subscription) (operation_keyword r.it.operation_type)) rs) (filter (λ r. bytes_eq (operation_keyword operation.Subscription) (operation_keyword r.it.operation_type)) rs)))) ≡ true) (sym k) refl)

    queries : List Root
    queries = written_roots operation.Query (roots_of operation.Query p)

    mutations : List Root
    mutations = written_roots operation.Mutation (roots_of operation.Mutation p)

    subscriptions : List Root
    subscriptions = written_roots operation.Subscription (roots_of operation.Subscription p)

    all : (o : OperationType) → has_some (written_roots o (roots_of o p)) ≡ true → has_some ((queries ++ mutations) ++ subscriptions) ≡ true
    all operation.Query k = some_first (queries ++ mutations) subscriptions (some_first queries mutations k)
    all operation.Mutation k = some_first (queries ++ mutations) subscriptions (some_second queries mutations k)
    all operation.Subscription k = some_second (queries ++ mutations) subscriptions k

    by : (rs : List Root) → p.roots ≡ rs → has_some rs ≡ true → has_some (whole_parts p).roots ≡ true
    by [] e k = absurd (true≢false (sym k))
    by (r ∷ rs) e k = all r.it.operation_type (first_of r rs e r.it.operation_type refl)

module _ (p : SchemaParts Place) where
  given_both : (a b : Bool) → (a && b) ≡ true → (a ≡ true) × (b ≡ true)
  given_both true true h = (refl, refl)
  given_both true false h = absurd (true≢false (sym h))
  given_both false b h = absurd (true≢false (sym h))

  definition_stays : schema_writable p ≡ true → schema_writable (whole_parts p) ≡ true
  definition_stays h =
      let both = given_both (directives_writable true p.directives) (has_some p.roots) h in
      ap (λ b. b && has_some (whole_parts p).roots) both.0 ∙ roots_stay p both.1

  extension_stays : schema_extension_writable p ≡ true → schema_extension_writable (whole_parts p) ≡ true
  extension_stays h =
      let both = given_both (directives_writable true p.directives) (has_some p.directives || has_some p.roots) h in
      ap (λ b. b && (has_some p.directives || has_some (whole_parts p).roots)) both.0 ∙ by (has_some p.directives) refl both.1
    where
      by : (b : Bool) → has_some p.directives ≡ b → (b || has_some p.roots) ≡ true → (has_some p.directives || has_some (whole_parts p).roots) ≡ true
      by true e k = ap (λ c. c || has_some (whole_parts p).roots) e
      by false e k = ap (λ c. c || has_some (whole_parts p).roots) e ∙ roots_stay p k

schema_extensions_fit : (ds : Definitions) → Each (λ d. (schema_extension_here d ≡ None) ⊎ Fits d) ds → Each {X = SchemaExtension} (λ x. schema_extension_writable x.it ≡ true) (schema_extensions_in ds)
schema_extensions_fit [] h = tt
schema_extensions_fit (d ∷ ds) h =
    Each-append (λ x. schema_extension_writable x.it ≡ true) (option_map_or (λ parts. record { it = parts; place = definition_place d } ∷ []) (schema_extension_here d) []) (schema_extensions_in ds) (here (schema_extension_here d) refl h.0) (schema_extensions_fit ds h.1)
  where
    of : (d : DefinitionTree Place) (p : SchemaParts Place) → schema_extension_here d ≡ Some p → definition_writable d ≡ schema_extension_writable p
    of (tree.ExtendSchema q s) p e = ap schema_extension_writable (same_Some _ _ e)
    of _ p e = cc

    here : (o : Option (SchemaParts Place)) → schema_extension_here d ≡ o → (o ≡ None) ⊎ Fits d → Each {X = SchemaExtension} (λ x. schema_extension_writable x.it ≡ true) (option_map_or (λ parts. record { it = parts; place = definition_place d } ∷ []) o [])
    here None e k = tt
    here (Some p) e (inl k) = absurd cc
    here (Some p) e (inr k) = (sym (of d p e) ∙ k, tt)

schemas_fit : (ds : Definitions) → Each (λ d. (schema_here d ≡ None) ⊎ Fits d) ds → Each (λ g. schema_writable g.parts ≡ true) (flat_map (λ d. option_to_list (schema_here d)) ds)
schemas_fit [] h = tt
schemas_fit (d ∷ ds) h = here (schema_here d) refl h.0 (schemas_fit ds h.1)
  where
    of : (d : DefinitionTree Place) (g : SchemaGiver) → schema_here d ≡ Some g → definition_writable d ≡ schema_writable g.parts
    of (tree.Schema q w s) g e = ap (λ g. schema_writable g.parts) (same_Some _ _ e)
    of _ g e = cc

    here : (o : Option SchemaGiver) → schema_here d ≡ o → (o ≡ None) ⊎ Fits d → Each (λ g. schema_writable g.parts ≡ true) (flat_map (λ d. option_to_list (schema_here d)) ds) → Each (λ g. schema_writable g.parts ≡ true) (option_to_list o ++ flat_map (λ d. option_to_list (schema_here d)) ds)
    here None e k rest = rest
    here (Some g) e (inl k) rest = absurd cc
    here (Some g) e (inr k) rest = (sym (of d g e) ∙ k, rest)

-- what stands for the schema definition can be written: a definition that can, or some implicit root
base_fits : (ds : Definitions) → Each (λ d. (schema_here d ≡ None) ⊎ Fits d) ds → schema_is_defined ds ≡ true → schema_writable (schema_base ds).parts ≡ true
base_fits ds h defined = by (flat_map (λ d. option_to_list (schema_here d)) ds) refl (schemas_fit ds h) defined
  where
    implicit : (rs : List Root) → is_some (slice_get rs 0) ≡ true → has_some rs ≡ true
    implicit [] k = absurd (true≢false (sym k))
    implicit (r ∷ rs) k = refl

    by : (gs : List SchemaGiver) → flat_map (λ d. option_to_list (schema_here d)) ds ≡ gs → Each (λ g. schema_writable g.parts ≡ true) gs → (is_some (slice_get gs 0) || is_some (slice_get (implicit_roots ds) 0)) ≡ true
        → schema_writable (option_map_or (λ s. s) (slice_get gs 0) (record { place = None; description = None; parts = record { directives = []; roots = implicit_roots ds } })).parts ≡ true
    by [] e k d = implicit (implicit_roots ds) d
    by (g ∷ gs) e k d = k.0

schema_fits : (b : Bool) (ds : Definitions) → schema_is_defined ds ≡ true → Each (λ d. (schema_here d ≡ None) ⊎ Fits d) ds → Each (λ d. (schema_extension_here d ≡ None) ⊎ Fits d) ds → Each Fits (written_by b ds)
schema_fits true ds defined h k = tt
schema_fits false ds defined h k = (definition_stays (schema_base ds).parts (base_fits ds h defined), mapped (arranged schema_classes (schema_extensions_in ds)) (Each-arranged (λ x. schema_extension_writable x.it ≡ true) schema_classes (schema_extensions_in ds) (schema_extensions_fit ds k)))
  where
    mapped : (xs : List SchemaExtension) → Each {X = SchemaExtension} (λ x. schema_extension_writable x.it ≡ true) xs → Each Fits (map whole_schema_extension xs)
    mapped [] f = tt
    mapped (x ∷ xs) f = (extension_stays x.it f.0, mapped xs f.1)

-- ---- all

either_each : (Q : DefinitionTree Place → Type 0) (xs ys : Definitions) → Each Q xs → Each Fits ys → Each (λ d. Q d ⊎ Fits d) (xs ++ ys)
either_each Q [] [] h k = tt
either_each Q [] (y ∷ ys) h k = (inr k.0, either_each Q [] ys tt k.1)
either_each Q (x ∷ xs) ys h k = (inl h.0, either_each Q xs ys h.1 k)

pub out_writable : (built_in : Definitions) (first : ℕ) (texts : Definitions) → IsTable built_in → AreOwn texts → FoldingRules built_in first texts → schema_is_defined (built_in ++ texts) ≡ true
    → list_all definition_writable texts ≡ true → list_all definition_writable (WrittenOf built_in first texts) ≡ true
out_writable built_in first texts table own rules defined can =
    let fit = all_fit texts can in
    let ds = built_in ++ texts in
    let schema = subst (Each Fits) (sym (schema_written built_in first texts (accepted_applied built_in first texts rules table) (accepted_at_most built_in first texts rules table)))
    (schema_fits (left_out (is_object_named (folded_types first ds)) (schema_base ds) (is_empty (arranged schema_classes (schema_extensions_in ds)))) ds defined
    (either_each (λ d. schema_here d ≡ None) built_in texts (all_each (λ d. schema_here d ≡ None) built_in table.no_schema) fit)
    (either_each (λ d. schema_extension_here d ≡ None) built_in texts (all_each (λ d. schema_extension_here d ≡ None) built_in table.no_schema_extension) fit)) in
    let directives = chosen_fit texts fit (all_firsts built_in first texts rules table own) (marked_unless_own built_in first texts rules table own) in
    let types = subst (Each Fits) (sym (types_whole built_in first texts rules))
    (whole_fit ds (either_each (λ d. type_extension_here d ≡ None) built_in texts (all_each (λ d. type_extension_here d ≡ None) built_in table.no_extension) fit) (firsts type_name (types_in ds))
    (subst (Each TypeFits) (sym (all_types built_in first texts rules table own))
    (Each-append TypeFits (types_in built_in) (types_in texts) (marked_fit (types_in built_in) (all_each (λ t. is_built_in t.place ≡ true) (types_in built_in) table.types_marked)) (types_fit texts fit)))) in
    fits_all (WrittenOf built_in first texts) (Each-append Fits _ _ (Each-append Fits _ _ schema directives) types)
