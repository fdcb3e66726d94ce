-- Lemmas on definitions without a bracket: they give a schema no roots but those of the default names, and types no fields.
use Rattle.std.proofs.Common.{◌≡◌, ◌⊎◌, ℕ, ◌≤◌, suc, Bool, true, false, List, [], ◌∷◌, ◌++◌, flat_map, Option, Some, None, refl, sym, ap, subst, ◌∙◌, if◌then◌else◌, option_to_list, slice_get, inl, inr, arith}
use Rattle.std.specs.List.{AllByRecursion}
use Rattle.std.specs.Option.{option_map_or}
use Rattle.std.proofs.lemmas.Option.{same_Some}
use Rattle.std.proofs.lemmas.List.{append-nil}
use Rattle.std.proofs.lemmas.Grind.{flat_map-append}
use Rattle.graphql_names.specs.Placed.{Place, Placed}
use Rattle.tree_definitions.specs.in_type_members.TypeSystemTree.{FieldDefinitionTree, SchemaParts}
use Rattle.tree_definitions.specs.DefinitionTree as tree
use Rattle.tree_definitions.specs.DefinitionTree.{DefinitionTree}
use Rattle.schema_components.specs.Lists.{each_place_after}
use Rattle.schema_components.specs.Given.{Given, ExtensionTree}
use Rattle.schema_types.specs.TypeParts.{TypeParts, TypeDefinition, type_here, type_extension_here}
use Rattle.schema_fold.specs.NumberedDefinition.{Definitions, NumberedDefinition, listed_after, numbered, types_in}
use Rattle.schema_fold.specs.Components.{all_given, go_together, extension_here, components}
use Rattle.schema_fold.specs.SchemaFold.{Root, SchemaGiver, schema_here, schema_extension_here, implicit_roots, schema_is_defined, schema_base, extends_schema, roots_given}
use Rattle.round_trip.specs.TreeDepth.{deepest, bracketed, field_definition_depth, definition_depth}
use Rattle.verdict_laws.proofs.Order.{Each}

-- ---- what definitions give without a bracket: no roots and no fields

pub record GivesNone (d : DefinitionTree Place) : Type 0 where
  pub roots : (g : SchemaGiver) → schema_here d ≡ Some g → g.parts.roots ≡ []
  pub more_roots : (p : SchemaParts Place) → schema_extension_here d ≡ Some p → p.roots ≡ []
  pub more_fields : (p : TypeParts Place) → type_extension_here d ≡ Some p → p.fields ≡ []

no_bracket : {A : Type 0} (depth : A → ℕ) (xs : List A) → bracketed depth xs ≤ 0 → xs ≡ []
no_bracket depth [] h = refl
no_bracket depth (x ∷ xs) h = let bad : suc (deepest depth (x ∷ xs)) ≤ 0 = h in absurd (omega (arith, bad))

flat_roots : (d : DefinitionTree Place) → definition_depth d ≤ 0 → (g : SchemaGiver) → schema_here d ≡ Some g → g.parts.roots ≡ []
flat_roots (tree.Schema q w s) h g e = subst (λ (g : SchemaGiver). g.parts.roots ≡ []) (same_Some _ _ e) (no_bracket (λ r. 0) s.roots (omega (arith, h)))
flat_roots _ h g e = cc

flat_more_roots : (d : DefinitionTree Place) → definition_depth d ≤ 0 → (p : SchemaParts Place) → schema_extension_here d ≡ Some p → p.roots ≡ []
flat_more_roots (tree.ExtendSchema q s) h p e = subst (λ (p : SchemaParts Place). p.roots ≡ []) (same_Some _ _ e) (no_bracket (λ r. 0) s.roots (omega (arith, h)))
flat_more_roots _ h p e = cc

flat_more_fields : (d : DefinitionTree Place) → definition_depth d ≤ 0 → (p : TypeParts Place) → type_extension_here d ≡ Some p → p.fields ≡ []
flat_more_fields (tree.ExtendScalar q t) h p e = subst (λ (p : TypeParts Place). p.fields ≡ []) (same_Some _ _ e) refl
flat_more_fields (tree.ExtendObject q t) h p e = subst (λ (p : TypeParts Place). p.fields ≡ []) (same_Some _ _ e) (no_bracket (λ f. field_definition_depth f.it) t.fields (omega (arith, h)))
flat_more_fields (tree.ExtendInterface q t) h p e = subst (λ (p : TypeParts Place). p.fields ≡ []) (same_Some _ _ e) (no_bracket (λ f. field_definition_depth f.it) t.fields (omega (arith, h)))
flat_more_fields (tree.ExtendUnion q t) h p e = subst (λ (p : TypeParts Place). p.fields ≡ []) (same_Some _ _ e) refl
flat_more_fields (tree.ExtendEnum q t) h p e = subst (λ (p : TypeParts Place). p.fields ≡ []) (same_Some _ _ e) refl
flat_more_fields (tree.ExtendInputObject q t) h p e = subst (λ (p : TypeParts Place). p.fields ≡ []) (same_Some _ _ e) refl
flat_more_fields _ h p e = cc

flat_fields : (d : DefinitionTree Place) → definition_depth d ≤ 0 → (t : TypeDefinition Place) → type_here d ≡ Some t → t.parts.fields ≡ []
flat_fields (tree.ScalarType q w s) h t e = subst (λ (t : TypeDefinition Place). t.parts.fields ≡ []) (same_Some _ _ e) refl
flat_fields (tree.ObjectType q w s) h t e = subst (λ (t : TypeDefinition Place). t.parts.fields ≡ []) (same_Some _ _ e) (no_bracket (λ f. field_definition_depth f.it) s.fields (omega (arith, h)))
flat_fields (tree.InterfaceType q w s) h t e = subst (λ (t : TypeDefinition Place). t.parts.fields ≡ []) (same_Some _ _ e) (no_bracket (λ f. field_definition_depth f.it) s.fields (omega (arith, h)))
flat_fields (tree.UnionType q w s) h t e = subst (λ (t : TypeDefinition Place). t.parts.fields ≡ []) (same_Some _ _ e) refl
flat_fields (tree.EnumType q w s) h t e = subst (λ (t : TypeDefinition Place). t.parts.fields ≡ []) (same_Some _ _ e) refl
flat_fields (tree.InputObjectType q w s) h t e = subst (λ (t : TypeDefinition Place). t.parts.fields ≡ []) (same_Some _ _ e) refl
flat_fields _ h t e = cc

flat : (d : DefinitionTree Place) → definition_depth d ≤ 0 → GivesNone d
flat d h = record { roots = flat_roots d h; more_roots = flat_more_roots d h; more_fields = flat_more_fields d h }

pub flat_each : (ds : Definitions) → Each (λ d. definition_depth d ≤ 0) ds → Each GivesNone ds
flat_each [] h = tt
flat_each (d ∷ ds) h = (flat d h.0, flat_each ds h.1)

pub own_fields : (ds : Definitions) → Each (λ d. definition_depth d ≤ 0) ds → Each (λ (t : TypeDefinition Place). t.parts.fields ≡ []) (types_in ds)
own_fields [] h = tt
own_fields (d ∷ ds) h = here (type_here d) refl (own_fields ds h.1)
  where
    here : (o : Option (TypeDefinition Place)) → type_here d ≡ o → Each (λ (t : TypeDefinition Place). t.parts.fields ≡ []) (types_in ds) → Each (λ (t : TypeDefinition Place). t.parts.fields ≡ []) (option_to_list o ++ types_in ds)
    here None is rest = rest
    here (Some t) is rest = (flat_fields d h.0 t is, rest)

-- nor does the table: it has no schema definition and no extensions
pub table_each : (ds : Definitions) → AllByRecursion (λ d. schema_here d ≡ None) ds → AllByRecursion (λ d. schema_extension_here d ≡ None) ds → AllByRecursion (λ d. type_extension_here d ≡ None) ds → Each GivesNone ds
table_each [] a b c = tt
table_each (d ∷ ds) a b c = (
  record {
    roots = λ g e. let bad : None ≡ Some g = sym a.0 ∙ e in cc;
    more_roots = λ p e. let bad : None ≡ Some p = sym b.0 ∙ e in cc;
    more_fields = λ p e. let bad : None ≡ Some p = sym c.0 ∙ e in cc;
  },
  table_each ds a.1 b.1 c.1,
)

-- ---- what extensions give among numbered definitions

abbrev numbered_after : ℕ → Definitions → Definitions → List NumberedDefinition
numbered_after first before ds = each_place_after (λ before d. listed_after first before d ∷ []) before ds

module _ {Y Z : Type 0} (F : Z → List Y) (G : NumberedDefinition → List Z) (P : DefinitionTree Place → Type 0) (none : (d : DefinitionTree Place) → P d → (e : Option (ExtensionTree Place)) → flat_map F (G (record { definition = d; extension = e })) ≡ []) where
  none_after : (first : ℕ) (before ds : Definitions) → Each P ds → flat_map F (flat_map G (numbered_after first before ds)) ≡ []
  none_after first before [] h = refl
  none_after first before (d ∷ ds) h =
      flat_map-append F (G (listed_after first before d)) (flat_map G (numbered_after first (before ++ d ∷ []) ds))
      ∙ (λ i. none d h.0 (listed_after first before d).extension i ++ none_after first (before ++ d ∷ []) ds h.1 i)

abbrev given_roots : Given Place (SchemaParts Place) → List (Given Place Root)
given_roots g = all_given g.extension g.it.roots

abbrev given_fields : Given Place (TypeParts Place) → List (Given Place (Placed Place (FieldDefinitionTree Place)))
given_fields g = all_given g.extension g.it.fields

module _ (first : ℕ) (ds : Definitions) (none : Each GivesNone ds) where
  -- ---- roots: those of what stands for the schema definition alone

  extensions_root_none : flat_map given_roots (flat_map extends_schema (numbered first ds)) ≡ []
  extensions_root_none = none_after given_roots extends_schema GivesNone here first [] ds none
    where
      here : (d : DefinitionTree Place) → GivesNone d → (e : Option (ExtensionTree Place)) → flat_map given_roots (extends_schema (record { definition = d; extension = e })) ≡ []
      here d h e = by (schema_extension_here d) refl
        where
          by : (o : Option (SchemaParts Place)) → schema_extension_here d ≡ o → flat_map given_roots (all_given e (option_to_list o)) ≡ []
          by None is = refl
          by (Some p) is = ap (λ rs. all_given e rs ++ []) (h.more_roots p is)

  pub roots_are : roots_given first ds ≡ all_given None (schema_base ds).parts.roots
  roots_are = by (schema_is_defined ds)
    where
      by : (b : Bool) → all_given None (schema_base ds).parts.roots ++ flat_map given_roots (if b then flat_map extends_schema (numbered first ds) else []) ≡ all_given None (schema_base ds).parts.roots
      by true = ap (λ l. all_given None (schema_base ds).parts.roots ++ l) extensions_root_none ∙ append-nil (all_given None (schema_base ds).parts.roots)
      by false = append-nil (all_given None (schema_base ds).parts.roots)

  givers_none : (es : Definitions) → Each GivesNone es → Each (λ (g : SchemaGiver). g.parts.roots ≡ []) (flat_map (λ d. option_to_list (schema_here d)) es)
  givers_none [] h = tt
  givers_none (e ∷ es) h = here (schema_here e) refl (givers_none es h.1)
    where
      here : (o : Option SchemaGiver) → schema_here e ≡ o → Each (λ (g : SchemaGiver). g.parts.roots ≡ []) (flat_map (λ d. option_to_list (schema_here d)) es)
          → Each (λ (g : SchemaGiver). g.parts.roots ≡ []) (option_to_list o ++ flat_map (λ d. option_to_list (schema_here d)) es)
      here None is rest = rest
      here (Some g) is rest = (h.0.roots g is, rest)

  abbrev base : List SchemaGiver → SchemaGiver
  base gs = option_map_or (λ s. s) (slice_get gs 0) (record { place = None; description = None; parts = record { directives = []; roots = implicit_roots ds } })

  -- there are none, or those of the default names
  pub base_roots : ((schema_base ds).parts.roots ≡ []) ⊎ ((schema_base ds).parts.roots ≡ implicit_roots ds)
  base_roots = by (flat_map (λ d. option_to_list (schema_here d)) ds) (givers_none ds none)
    where
      by : (gs : List SchemaGiver) → Each (λ (g : SchemaGiver). g.parts.roots ≡ []) gs → ((base gs).parts.roots ≡ []) ⊎ ((base gs).parts.roots ≡ implicit_roots ds)
      by [] h = inr refl
      by (g ∷ gs) h = inl h.0

  -- ---- fields of a type: those of its definition alone

  pub no_components : (t : TypeDefinition Place) → t.parts.fields ≡ [] → components (λ p. p.fields) (numbered first ds) t ≡ []
  no_components t e = λ i. all_given None (e i) ++ none_after given_fields (extension_here t.parts) GivesNone here first [] ds none i
    where
      here : (d : DefinitionTree Place) → GivesNone d → (x : Option (ExtensionTree Place)) → flat_map given_fields (extension_here t.parts (record { definition = d; extension = x })) ≡ []
      here d h x = by (type_extension_here d) refl
        where
          one : (p : TypeParts Place) → p.fields ≡ [] → (b : Bool) → flat_map given_fields (if b then record { extension = x; it = p } ∷ [] else []) ≡ []
          one p k true = ap (λ fs. all_given x fs ++ []) k
          one p k false = refl

          by : (o : Option (TypeParts Place)) → type_extension_here d ≡ o
              → flat_map given_fields (option_map_or (λ parts. if go_together t.parts parts then record { extension = x; it = parts } ∷ [] else []) o []) ≡ []
          by None is = refl
          by (Some p) is = one p (h.more_fields p is) (go_together t.parts p)
