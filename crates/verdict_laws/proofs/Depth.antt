-- What is written of an accepted list nests no deeper than the list.
use Rattle.std.proofs.Common.{◌≡◌, ◌⊎◌, ℕ, ◌≤◌, Bool, true, false, cond, List, [], ◌∷◌, ◌++◌, map, flat_map, Option, Some, None, refl, sym, ap, subst, ◌∙◌, if◌then◌else◌, option_to_list, slice_get, inl, inr, arith, true≢false}
use Rattle.std.specs.List.{find}
use Rattle.std.specs.Option.{option_map_or}
use Rattle.std.specs.Cmp.{second_so}
use Rattle.std.specs.Str.{bytes_eq}
use Rattle.std.proofs.lemmas.Option.{same_Some}
use Rattle.graphql_names.specs.Places.{is_built_in}
use Rattle.graphql_names.specs.Placed.{Place, Text}
use Rattle.tree_definitions.specs.in_type_members.TypeSystemTree.{SchemaParts}
use Rattle.tree_definitions.specs.DefinitionTree as tree
use Rattle.tree_definitions.specs.DefinitionTree.{DefinitionTree}
use Rattle.tree_definitions.specs.Queries.{definition_place}
use Rattle.schema_components.specs.Lists.{firsts}
use Rattle.schema_types.specs.SchemaTree.{same_kind}
use Rattle.schema_types.specs.TypeParts.{TypeParts, TypeDefinition, type_here, type_extension_here, extension_by}
use Rattle.schema_types.specs.Out.{is_empty, is_object_named, written_directive}
use Rattle.schema_fold.specs.NumberedDefinition.{Definitions, type_name, types_in, directive_name, directives_in}
use Rattle.schema_fold.specs.Components.{go_together}
use Rattle.schema_fold.specs.SchemaFold.{Root, SchemaGiver, schema_here, schema_extension_here, schema_base, implicit_roots}
use Rattle.schema_fold.specs.Fold.{chosen_directive, folded_types}
use Rattle.schema_fold.specs.BuildErrors.{FoldingRules}
use Rattle.verdict_laws.specs.Arranged.{arranged}
use Rattle.verdict_laws.specs.Whole.{Extension, classes, extension_at, extensions_in, whole_definition, whole_extension, whole_type}
use Rattle.verdict_laws.specs.WholeSchema.{whole_parts, SchemaExtension, schema_classes, schema_extensions_in, whole_schema_extension, left_out}
use Rattle.verdict_laws.specs.Table.{IsTable, AreOwn}
use Rattle.verdict_laws.specs.Twice.{WrittenOf}
use Rattle.round_trip.specs.TreeDepth.{deepest, bracketed, directives_depth, directive_definition_depth, schema_depth, definition_depth, document_depth}
use Rattle.verdict_laws.proofs.Order.{Each, Each-append, Each-arranged}
use Rattle.verdict_laws.proofs.Accepted.{types_whole}
use Rattle.verdict_laws.proofs.Again.{kinds_same}
use Rattle.verdict_laws.proofs.TypesTwice.{all_each, all_types}
use Rattle.verdict_laws.proofs.DirectivesTwice.{Directive, same, all_firsts, marked_unless_own}
use Rattle.verdict_laws.proofs.SchemaTwice.{schema_written, accepted_applied, accepted_at_most, written_by}

abbrev Parts : Type 0
Parts = TypeParts Place

-- ---- a whole definition is as deep as it was

stood : (d : DefinitionTree Place) (t : TypeDefinition Place) → type_here d ≡ Some t → whole_definition t ≡ d
stood (tree.ScalarType q w s) t e = subst (λ t. whole_definition t ≡ tree.ScalarType q w s) (same_Some _ _ e) refl
stood (tree.ObjectType q w s) t e = subst (λ t. whole_definition t ≡ tree.ObjectType q w s) (same_Some _ _ e) refl
stood (tree.InterfaceType q w s) t e = subst (λ t. whole_definition t ≡ tree.InterfaceType q w s) (same_Some _ _ e) refl
stood (tree.UnionType q w s) t e = subst (λ t. whole_definition t ≡ tree.UnionType q w s) (same_Some _ _ e) refl
stood (tree.EnumType q w s) t e = subst (λ t. whole_definition t ≡ tree.EnumType q w s) (same_Some _ _ e) refl
stood (tree.InputObjectType q w s) t e = subst (λ t. whole_definition t ≡ tree.InputObjectType q w s) (same_Some _ _ e) refl
stood _ t e = cc

as_deep : (d : DefinitionTree Place) (p : Parts) (q : Place) (n : Text Place) → type_extension_here d ≡ Some p → definition_depth (extension_by p.kind q (record p { name = n })) ≡ definition_depth d
as_deep (tree.ExtendScalar r t) p q n e = subst (λ p. definition_depth (extension_by p.kind q (record p { name = n })) ≡ definition_depth (tree.ExtendScalar r t)) (same_Some _ _ e) refl
as_deep (tree.ExtendObject r t) p q n e = subst (λ p. definition_depth (extension_by p.kind q (record p { name = n })) ≡ definition_depth (tree.ExtendObject r t)) (same_Some _ _ e) refl
as_deep (tree.ExtendInterface r t) p q n e = subst (λ p. definition_depth (extension_by p.kind q (record p { name = n })) ≡ definition_depth (tree.ExtendInterface r t)) (same_Some _ _ e) refl
as_deep (tree.ExtendUnion r t) p q n e = subst (λ p. definition_depth (extension_by p.kind q (record p { name = n })) ≡ definition_depth (tree.ExtendUnion r t)) (same_Some _ _ e) refl
as_deep (tree.ExtendEnum r t) p q n e = subst (λ p. definition_depth (extension_by p.kind q (record p { name = n })) ≡ definition_depth (tree.ExtendEnum r t)) (same_Some _ _ e) refl
as_deep (tree.ExtendInputObject r t) p q n e = subst (λ p. definition_depth (extension_by p.kind q (record p { name = n })) ≡ definition_depth (tree.ExtendInputObject r t)) (same_Some _ _ e) refl
as_deep _ p q n e = cc

module _ (bound : ℕ) where
  abbrev pub Fits : DefinitionTree Place → Type 0
  Fits d = definition_depth d ≤ bound

  pub all_fit : (ds : Definitions) → document_depth ds ≤ bound → Each Fits ds
  all_fit [] h = tt
  all_fit (d ∷ ds) h = (omega (arith, h), all_fit ds (omega (arith, h)))

  pub fits_all : (ds : Definitions) → Each Fits ds → document_depth ds ≤ bound
  fits_all [] h = omega arith
  fits_all (d ∷ ds) h = let a = h.0 in let b = fits_all ds h.1 in omega (arith, a, b)

  -- it is built in, or it fits
  abbrev TypeFits : TypeDefinition Place → Type 0
  TypeFits t = (is_built_in t.place ≡ true) ⊎ Fits (whole_definition t)

  types_fit : (ds : Definitions) → Each Fits ds → Each TypeFits (types_in ds)
  types_fit [] h = tt
  types_fit (d ∷ ds) h = here (type_here d) refl (types_fit ds h.1)
    where
      here : (o : Option (TypeDefinition Place)) → type_here d ≡ o → Each TypeFits (types_in ds) → Each TypeFits (option_to_list o ++ types_in ds)
      here None e rest = rest
      here (Some t) e rest = (inr (subst Fits (sym (stood d t e)) h.0), rest)

  marked_fit : (ts : List (TypeDefinition Place)) → Each (λ t. is_built_in t.place ≡ true) ts → Each TypeFits ts
  marked_fit [] h = tt
  marked_fit (t ∷ ts) h = (inl h.0, marked_fit ts h.1)

  -- an extension of the list fits, or there are none of types
  extensions_fit : (t : TypeDefinition Place) (ds : Definitions) → Each (λ d. (type_extension_here d ≡ None) ⊎ Fits d) ds → Each (λ x. Fits (whole_extension t x)) (extensions_in ds t.parts)
  extensions_fit t [] h = tt
  extensions_fit t (d ∷ ds) h = Each-append (λ x. Fits (whole_extension t x)) (extension_at t.parts d) (extensions_in ds t.parts) (here (type_extension_here d) refl h.0) (extensions_fit t ds h.1)
    where
      here : (o : Option Parts) → type_extension_here d ≡ o → (o ≡ None) ⊎ Fits d
          → Each (λ x. Fits (whole_extension t x)) (option_map_or (λ parts. if go_together t.parts parts then record { it = parts; place = definition_place d } ∷ [] else []) o [])
      here None e f = tt
      here (Some p) e (inl f) = absurd cc
      here (Some p) e (inr f) = by (go_together t.parts p) refl
        where
          by : (b : Bool) → go_together t.parts p ≡ b → Each (λ x. Fits (whole_extension t x)) (if b then record { it = p; place = definition_place d } ∷ [] else [])
          by true g = (
            subst (λ k. definition_depth (extension_by k (definition_place d) (record p { kind = k; name = t.parts.name })) ≤ bound)
                (sym (kinds_same t.parts.kind p.kind (second_so (bytes_eq t.parts.name.it p.name.it) (same_kind t.parts.kind p.kind) g)))
                (subst (λ n. n ≤ bound) (sym (as_deep d p (definition_place d) t.parts.name e)) f),
            tt,
          )
          by false g = tt

  whole_fit : (ds : Definitions) → Each (λ d. (type_extension_here d ≡ None) ⊎ Fits d) ds → (ts : List (TypeDefinition Place)) → Each TypeFits ts → Each Fits (flat_map (whole_type ds) ts)
  whole_fit ds h [] f = tt
  whole_fit ds h (t ∷ ts) f =
      Each-append Fits (whole_type ds t) (flat_map (whole_type ds) ts)
      (Each-append Fits (if is_built_in t.place then [] else whole_definition t ∷ []) (map (whole_extension t) (arranged classes (extensions_in ds t.parts)))
      (by (is_built_in t.place) refl f.0) (mapped (arranged classes (extensions_in ds t.parts)) (Each-arranged (λ x. Fits (whole_extension t x)) classes (extensions_in ds t.parts) (extensions_fit t ds h))))
      (whole_fit ds h ts f.1)
    where
      by : (b : Bool) → is_built_in t.place ≡ b → TypeFits t → Each Fits (if b then [] else whole_definition t ∷ [])
      by true e k = tt
      by false e (inl k) = absurd (true≢false (sym k ∙ e))
      by false e (inr k) = (k, tt)

      mapped : (xs : List Extension) → Each (λ x. Fits (whole_extension t x)) xs → Each Fits (map (whole_extension t) xs)
      mapped [] k = tt
      mapped (x ∷ xs) k = (k.0, mapped xs k.1)

  -- ---- directives

  abbrev DirectiveFits : Directive → Type 0
  DirectiveFits d = directive_definition_depth d.it ≤ bound

  directives_fit : (ds : Definitions) → Each Fits ds → Each DirectiveFits (directives_in ds)
  directives_fit [] h = tt
  directives_fit (tree.DirectiveDefinition p x ∷ ds) h = (h.0, directives_fit ds h.1)
  directives_fit (tree.Operation p x ∷ ds) h = directives_fit ds h.1
  directives_fit (tree.Fragment p x ∷ ds) h = directives_fit ds h.1
  directives_fit (tree.Schema p w x ∷ ds) h = directives_fit ds h.1
  directives_fit (tree.ScalarType p w x ∷ ds) h = directives_fit ds h.1
  directives_fit (tree.ObjectType p w x ∷ ds) h = directives_fit ds h.1
  directives_fit (tree.InterfaceType p w x ∷ ds) h = directives_fit ds h.1
  directives_fit (tree.UnionType p w x ∷ ds) h = directives_fit ds h.1
  directives_fit (tree.EnumType p w x ∷ ds) h = directives_fit ds h.1
  directives_fit (tree.InputObjectType p w x ∷ ds) h = directives_fit ds h.1
  directives_fit (tree.ExtendSchema p x ∷ ds) h = directives_fit ds h.1
  directives_fit (tree.ExtendScalar p x ∷ ds) h = directives_fit ds h.1
  directives_fit (tree.ExtendObject p x ∷ ds) h = directives_fit ds h.1
  directives_fit (tree.ExtendInterface p x ∷ ds) h = directives_fit ds h.1
  directives_fit (tree.ExtendUnion p x ∷ ds) h = directives_fit ds h.1
  directives_fit (tree.ExtendEnum p x ∷ ds) h = directives_fit ds h.1
  directives_fit (tree.ExtendInputObject p x ∷ ds) h = directives_fit ds h.1

  found_fits : (n : List ℕ) (x : Directive) (xs : List Directive) → Each DirectiveFits xs → find (same n) xs ≡ Some x → DirectiveFits x
  found_fits n x [] h e = absurd cc
  found_fits n x (y ∷ ys) h e = by (same n y) refl (found_fits n x ys h.1)
    where
      by : (b : Bool) → same n y ≡ b → (find (same n) ys ≡ Some x → DirectiveFits x) → DirectiveFits x
      by true s rest = let f : Some y ≡ Some x = sym (ap (λ b. cond b (Some y) (find (same n) ys)) s) ∙ e in subst DirectiveFits (same_Some _ _ f) h.0
      by false s rest = rest (sym (ap (λ b. cond b (Some y) (find (same n) ys)) s) ∙ e)

  chosen_fit : (texts : Definitions) → Each Fits texts → (ds : List Directive) → Each (λ d. find (same (directive_name d)) (directives_in texts) ≡ None → is_built_in d.place ≡ true) ds
      → Each Fits (flat_map written_directive (map (λ d. (directive_name d, chosen_directive texts d)) ds))
  chosen_fit texts fit [] h = tt
  chosen_fit texts fit (d ∷ ds) h =
      Each-append Fits (written_directive (directive_name d, chosen_directive texts d)) (flat_map written_directive (map (λ d. (directive_name d, chosen_directive texts d)) ds))
      (here (find (same (directive_name d)) (directives_in texts)) refl h.0) (chosen_fit texts fit ds h.1)
    where
      one : (x : Directive) (b : Bool) → DirectiveFits x → Each Fits (if b then [] else tree.DirectiveDefinition x.place x.it ∷ [])
      one x true k = tt
      one x false k = (k, tt)

      here : (o : Option Directive) → find (same (directive_name d)) (directives_in texts) ≡ o → (o ≡ None → is_built_in d.place ≡ true) → Each Fits (written_directive (directive_name d, option_map_or (λ own. own) o d))
      here None e k = subst (λ b. Each Fits (if b then [] else tree.DirectiveDefinition d.place d.it ∷ [])) (sym (k refl)) tt
      here (Some x) e k = one x (is_built_in x.place) (found_fits (directive_name d) x (directives_in texts) (directives_fit texts fit) e)

  -- ---- the schema definition

  flat_roots : (xs : List Root) → bracketed (λ r. 0) xs ≤ 1
  flat_roots [] = omega arith
  flat_roots (x ∷ xs) = let a = zeros xs in omega (arith, a)
    where
      zeros : (ys : List Root) → deepest (λ r. 0) ys ≡ 0
      zeros [] = refl
      zeros (y ∷ ys) = omega (arith, zeros ys)

  abbrev PartsFit : SchemaParts Place → Type 0
  PartsFit p = directives_depth p.directives ≤ bound

  module _ (some : 1 ≤ bound) where
    parts_fit : (p : SchemaParts Place) → PartsFit p → schema_depth (whole_parts p) ≤ bound
    parts_fit p h = let a = flat_roots (whole_parts p).roots in omega (arith, a, h, some)

    schema_extensions_fit : (ds : Definitions) → Each (λ d. (schema_extension_here d ≡ None) ⊎ Fits d) ds → Each {X = SchemaExtension} (λ x. PartsFit x.it) (schema_extensions_in ds)
    schema_extensions_fit [] h = tt
    schema_extensions_fit (d ∷ ds) h =
        Each-append (λ x. PartsFit x.it) (option_map_or (λ parts. record { it = parts; place = definition_place d } ∷ []) (schema_extension_here d) []) (schema_extensions_in ds) (here (schema_extension_here d) refl h.0) (schema_extensions_fit ds h.1)
      where
        depth_of : (d : DefinitionTree Place) (p : SchemaParts Place) → schema_extension_here d ≡ Some p → definition_depth d ≡ schema_depth p
        depth_of (tree.ExtendSchema q s) p e = ap schema_depth (same_Some _ _ e)
        depth_of _ p e = cc

        here : (o : Option (SchemaParts Place)) → schema_extension_here d ≡ o → (o ≡ None) ⊎ Fits d → Each {X = SchemaExtension} (λ x. PartsFit x.it) (option_map_or (λ parts. record { it = parts; place = definition_place d } ∷ []) o [])
        here None e k = tt
        here (Some p) e (inl k) = absurd cc
        here (Some p) e (inr k) = (omega (arith, depth_of d p e, k), tt)

    schemas_fit : (ds : Definitions) → Each (λ d. (schema_here d ≡ None) ⊎ Fits d) ds → Each (λ g. PartsFit g.parts) (flat_map (λ d. option_to_list (schema_here d)) ds)
    schemas_fit [] h = tt
    schemas_fit (d ∷ ds) h = here (schema_here d) refl h.0 (schemas_fit ds h.1)
      where
        depth_of : (d : DefinitionTree Place) (g : SchemaGiver) → schema_here d ≡ Some g → definition_depth d ≡ schema_depth g.parts
        depth_of (tree.Schema q w s) g e = ap (λ g. schema_depth g.parts) (same_Some _ _ e)
        depth_of _ g e = cc

        here : (o : Option SchemaGiver) → schema_here d ≡ o → (o ≡ None) ⊎ Fits d → Each (λ g. PartsFit g.parts) (flat_map (λ d. option_to_list (schema_here d)) ds) → Each (λ g. PartsFit g.parts) (option_to_list o ++ flat_map (λ d. option_to_list (schema_here d)) ds)
        here None e k rest = rest
        here (Some g) e (inl k) rest = absurd cc
        here (Some g) e (inr k) rest = (omega (arith, depth_of d g e, k), rest)

    base_fits : (ds : Definitions) → Each (λ d. (schema_here d ≡ None) ⊎ Fits d) ds → PartsFit (schema_base ds).parts
    base_fits ds h = by (flat_map (λ d. option_to_list (schema_here d)) ds) (schemas_fit ds h)
      where
        by : (gs : List SchemaGiver) → Each (λ g. PartsFit g.parts) gs → PartsFit (option_map_or (λ s. s) (slice_get gs 0) (record { place = None; description = None; parts = record { directives = []; roots = implicit_roots ds } })).parts
        by [] k = omega arith
        by (g ∷ gs) k = k.0

    schema_fits : (b : Bool) (ds : Definitions) → Each (λ d. (schema_here d ≡ None) ⊎ Fits d) ds → Each (λ d. (schema_extension_here d ≡ None) ⊎ Fits d) ds → Each Fits (written_by b ds)
    schema_fits true ds h k = tt
    schema_fits false ds h k = (parts_fit (schema_base ds).parts (base_fits ds h), mapped (arranged schema_classes (schema_extensions_in ds)) (Each-arranged (λ x. PartsFit x.it) schema_classes (schema_extensions_in ds) (schema_extensions_fit ds k)))
      where
        mapped : (xs : List SchemaExtension) → Each {X = SchemaExtension} (λ x. PartsFit x.it) xs → Each Fits (map whole_schema_extension xs)
        mapped [] f = tt
        mapped (x ∷ xs) f = (parts_fit x.it f.0, mapped xs f.1)

    -- ---- all

    either_each : (Q : DefinitionTree Place → Type 0) (xs ys : Definitions) → Each Q xs → Each Fits ys → Each (λ d. Q d ⊎ Fits d) (xs ++ ys)
    either_each Q [] [] h k = tt
    either_each Q [] (y ∷ ys) h k = (inr k.0, either_each Q [] ys tt k.1)
    either_each Q (x ∷ xs) ys h k = (inl h.0, either_each Q xs ys h.1 k)

    pub out_fits : (built_in : Definitions) (first : ℕ) (texts : Definitions) → IsTable built_in → AreOwn texts → FoldingRules built_in first texts → document_depth texts ≤ bound → document_depth (WrittenOf built_in first texts) ≤ bound
    out_fits built_in first texts table own rules deep =
        let fit = all_fit texts deep in
        let ds = built_in ++ texts in
        let schema = subst (Each Fits) (sym (schema_written built_in first texts (accepted_applied built_in first texts rules table) (accepted_at_most built_in first texts rules table)))
        (schema_fits (left_out (is_object_named (folded_types first ds)) (schema_base ds) (is_empty (arranged schema_classes (schema_extensions_in ds)))) ds
        (either_each (λ d. schema_here d ≡ None) built_in texts (all_each (λ d. schema_here d ≡ None) built_in table.no_schema) fit)
        (either_each (λ d. schema_extension_here d ≡ None) built_in texts (all_each (λ d. schema_extension_here d ≡ None) built_in table.no_schema_extension) fit)) in
        let directives = chosen_fit texts fit (all_firsts built_in first texts rules table own) (marked_unless_own built_in first texts rules table own) in
        let types = subst (Each Fits) (sym (types_whole built_in first texts rules))
        (whole_fit ds (either_each (λ d. type_extension_here d ≡ None) built_in texts (all_each (λ d. type_extension_here d ≡ None) built_in table.no_extension) fit) (firsts type_name (types_in ds))
        (subst (Each TypeFits) (sym (all_types built_in first texts rules table own))
        (Each-append TypeFits (types_in built_in) (types_in texts) (marked_fit (types_in built_in) (all_each (λ t. is_built_in t.place ≡ true) (types_in built_in) table.types_marked)) (types_fit texts fit)))) in
        fits_all (WrittenOf built_in first texts) (Each-append Fits _ _ (Each-append Fits _ _ schema directives) types)
