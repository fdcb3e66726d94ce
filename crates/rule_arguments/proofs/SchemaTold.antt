-- What the rules on uses tell of a schema entry by entry is what they tell of it by addresses.
use Rattle.std.proofs.Common.{◌≡◌, ℕ, ◌⊎◌, ◌↔◌, Bool, true, false, ◌&&◌, List, [], ◌∷◌, map, refl, sym, ap, subst, ◌∙◌, inl, inr, Option, Some, slice_get, bytes_eq, true≢false, option_map}
use Rattle.std.specs.List.{IsDistinct}
use Rattle.std.specs.Map.{keys_of}
use Rattle.std.specs.Option.{option_map_or}
use Rattle.graphql_names.specs.Placed.{Placed, Place, unplaced_node}
use Rattle.graphql_names.specs.Places.{is_built_in}
use Rattle.tree_directives.specs.DirectiveTree.{DirectiveTree, Directives, InputValueTree, InputValues, DirectiveDefinitionTree, unplaced_directive, unplaced_input_value}
use Rattle.tree_directives.specs.declared.directive_location.DirectiveLocation.{DirectiveLocation}
use Rattle.tree_directives.specs.declared.directive_location.DirectiveLocation.TheVariants as location
use Rattle.tree_type_members.specs.TypeSystemTree.{FieldDefinitionTree, EnumValueTree, unplaced_field_definition, unplaced_enum_value}
use Rattle.schema_components.specs.Names.{Entries}
use Rattle.schema_components.specs.Given.{Given, plain_given}
use Rattle.schema_components.specs.Applied.{Applied}
use Rattle.schema_types.specs.SchemaTree.{SchemaType, SchemaTree, same_kind}
use Rattle.schema_types.specs.declared.type_kind.TypeKind.{TypeKind}
use Rattle.schema_types.specs.declared.type_kind.TypeKind.TheVariants as kind
use Rattle.schema_types.specs.Plain.{plain, plain_type, plain_directive_definition}
use Rattle.schema_types.specs.Looks.{TypeLooks, type_looks}
use Rattle.schema_types.specs.Addresses.{Address, SchemaAt, TypeAt, FieldAt, ValueAt, InputAt, ArgumentAt, DirectiveDefinitionAt, under, type_at, or_nothing, arguments_at, directives_at, applied, is_marked}
use Rattle.rule_values.specs.in_rule_definitions.Words.{Somewhere, AtSomeIndex}
use Rattle.rule_values.specs.in_rule_definitions.Spots.{At, spotted_directives}
use Rattle.rule_values.specs.in_rule_definitions.Faults.{SchemaFault}
use Rattle.rule_values.specs.in_rule_definitions.Judged.{judged, applied_directives, is_built_in_scalar, IsBuiltInScalar, type_location}
use Rattle.rule_values.specs.in_rule_definitions.Uses.{UsesBreak}
use Rattle.rule_values.specs.in_rule_definitions.Rules.{SchemaUsesBreak, IsToldAs, extension_places_at}
use Rattle.rule_values.specs.in_rule_definitions.PlacedFaults.{PlacedFault, Told}
use Rattle.schema_types.specs.Distinct.{AreAllDistinct}
use Rattle.rule_values.proofs.in_rule_definitions.Lists.{index_found, index_given, mapped_some, slice_get-map}
use Rattle.rule_values.proofs.in_rule_definitions.Lookups.{under_found, under_given}
use Rattle.rule_values.proofs.in_fault_data.Judgings.{type_look, directive_look, field_look, value_look, input_look}
use Rattle.rule_arguments.specs.SchemaUses.{UsesAt, ArgumentUses, FieldUses, FieldsUses, ValuesUses, InputsUses, OwnUses, TypeUses, DefinitionUses, DefinitionsUses, SchemaUses}
use Rattle.rule_arguments.proofs.Moves.{Moves, moves_either, moves_where}
use Rattle.rule_arguments.proofs.SpottedUses.{uses_told}

-- ---- of entries and lists, where the rule says u of what stands there

module _ {A B : Type 0} (Is : A → B → Type 0) {X Y : Type 0} (u : X → Y) where
  told_entries : (es : Entries X) → IsDistinct bytes_eq (keys_of es) → (look : List ℕ → Option Y) → ((n : List ℕ) → look n ≡ option_map u (under n es)) → (R : List ℕ → Y → A → Type 0) (S : X → B → Type 0)
      → ((i : ℕ) (e : List ℕ × X) → slice_get es i ≡ Some e → under e.0 es ≡ Some e.1 → Moves Is (R e.0 (u e.1)) (S e.1)) → Moves Is (λ g. Somewhere look (λ n y. R n y g)) (λ f. AtSomeIndex es (λ i e. S e.1 f))
  told_entries es distinct look same R S each f = (
    λ h.
        let e = h.1.0 in
        let there = under_found es distinct e (index_given es h.0 e h.1.1.0) in
        let r = (each h.0 e h.1.1.0 there f).0 h.1.1.1 in
        (r.0, ((e.0, (u e.1, (same e.0 ∙ ap (option_map u) there, r.1.0))), r.1.1)),
    λ q.
        let n = q.1.0.0 in
        let x = mapped_some u (under n es) q.1.0.1.0 (sym (same n) ∙ q.1.0.1.1.0) in
        let at = index_found es (n, x.0) (under_given n es x.0 x.1.0) in
        (at.0, ((n, x.0), (at.1, (each at.0 (n, x.0) at.1 x.1.0 f).1 (q.0, (subst (λ y. R n y q.0) x.1.1 q.1.0.1.1.1, q.1.1))))),
  )

  told_index : (xs : List X) (R : ℕ → Y → A → Type 0) (S : X → B → Type 0) → ((i : ℕ) (x : X) → slice_get xs i ≡ Some x → Moves Is (R i (u x)) (S x)) → Moves Is (λ g. AtSomeIndex (map u xs) (λ i y. R i y g)) (λ f. AtSomeIndex xs (λ i x. S x f))
  told_index xs R S each f = (
    λ h.
        let r = (each h.0 h.1.0 h.1.1.0 f).0 h.1.1.1 in
        (r.0, ((h.0, (u h.1.0, (slice_get-map u xs h.0 ∙ ap (option_map u) h.1.1.0, r.1.0))), r.1.1)),
    λ q.
        let i = q.1.0.0 in
        let x = mapped_some u (slice_get xs i) q.1.0.1.0 (sym (slice_get-map u xs i) ∙ q.1.0.1.1.0) in
        (i, (x.0, (x.1.0, (each i x.0 x.1.0 f).1 (q.0, (subst (λ y. R i y q.0) x.1.1 q.1.0.1.1.1, q.1.1))))),
  )

-- ---- directives without places

bare_directives : (ds : Directives Place) → applied_directives (map (unplaced_node unplaced_directive) ds) ≡ map (λ d. unplaced_directive d.it) ds
bare_directives [] = refl
bare_directives (d ∷ ds) = ap (λ l. unplaced_directive d.it ∷ l) (bare_directives ds)

bare_applied : (s : SchemaTree Place) (ds : Applied Place) → map (plain_given unplaced_directive) ds ≡ map (λ d. unplaced_directive d.it) (applied s ds)
bare_applied s [] = refl
bare_applied s (d ∷ ds) = ap (λ l. unplaced_directive d.it.it ∷ l) (bare_applied s ds)

-- ---- at each place of the schema

module _ (s : SchemaTree Place) (distinct : AreAllDistinct s) where
  abbrev T : (SchemaFault → Type 0) → (PlacedFault → Type 0) → Type 0
  T R S = Moves (IsToldAs s) R S

  abbrev By : Address → DirectiveLocation → List (DirectiveTree (Unit {0})) → SchemaFault → Type 0
  By holder place ds g = UsesBreak At (judged s) [] place (spotted_directives holder ds) g

  -- at one place
  told_at : (holder : Address) (place : DirectiveLocation) (ds : Directives Place) (plain : List (DirectiveTree (Unit {0}))) → directives_at s holder ≡ ds → plain ≡ map (λ d. unplaced_directive d.it) ds → T (By holder place plain) (UsesAt s place ds)
  told_at holder place ds plain same is =
      subst (λ l. T (By holder place l) (UsesAt s place ds)) (sym is) (uses_told s (judged s) (extension_places_at s) holder place ds same)

  -- at the argument definitions of a holder
  told_arguments : (holder : Address) (vs : InputValues Place) → arguments_at s holder ≡ vs
      → T (λ g. AtSomeIndex (map (unplaced_node unplaced_input_value) vs) (λ i v. By (ArgumentAt holder i) location.ArgumentDefinition (applied_directives v.it.directives) g)) (ArgumentUses s vs)
  told_arguments holder vs same =
      told_index (IsToldAs s) (unplaced_node unplaced_input_value) vs (λ i v g. By (ArgumentAt holder i) location.ArgumentDefinition (applied_directives v.it.directives) g) (λ v f. UsesAt s location.ArgumentDefinition v.it.directives f)
      (λ i v there. told_at (ArgumentAt holder i) location.ArgumentDefinition v.it.directives _
      (ap (λ o. option_map_or (λ (x : Placed Place (InputValueTree Place)). x.it.directives) o []) (ap (λ l. slice_get l i) same ∙ there))
      (bare_directives v.it.directives))

  -- a type
  module _ (n : List ℕ) (t : SchemaType Place) (here : type_at s n ≡ Some t) (fields : IsDistinct bytes_eq (keys_of t.fields)) (values : IsDistinct bytes_eq (keys_of t.values)) (inputs : IsDistinct bytes_eq (keys_of t.inputs)) where
    abbrev L : TypeLooks
    L = type_looks (plain_type t)

    not_scalar : (b c : Bool) → ((b && c) ≡ false) ↔ (((b ≡ true) × (c ≡ true)) → ⊥)
    not_scalar true true = (λ h q. true≢false h, λ h. absurd (h (refl, refl)))
    not_scalar true false = (λ h q. true≢false (sym q.1), λ h. refl)
    not_scalar false c = (λ h q. true≢false (sym q.0), λ h. refl)

    scalar_kind : (k : TypeKind) → (k ≡ kind.Scalar) ↔ (same_kind k kind.Scalar ≡ true)
    scalar_kind k = (λ e. ap (λ x. same_kind x kind.Scalar) e, by k)
      where
        by : (k : TypeKind) → same_kind k kind.Scalar ≡ true → k ≡ kind.Scalar
        by kind.Scalar e = refl
        by kind.Object e = cc
        by kind.Interface e = cc
        by kind.Union e = cc
        by kind.Enum e = cc
        by kind.InputObject e = cc

    marked : is_marked s (TypeAt n) ≡ is_built_in t.place
    marked = ap (λ o. is_built_in (or_nothing (option_map (λ (x : SchemaType Place). x.place) o))) here

    no_built_in : (IsBuiltInScalar (judged s) n L → ⊥) ↔ (is_built_in_scalar t ≡ false)
    no_built_in = (
      λ h. (not_scalar (same_kind t.kind kind.Scalar) (is_built_in t.place)).1 (λ q. h ((scalar_kind t.kind).1 q.0, marked ∙ q.1)),
      λ e q. (not_scalar (same_kind t.kind kind.Scalar) (is_built_in t.place)).0 e ((scalar_kind t.kind).0 q.0, sym marked ∙ q.1),
    )

    told_own : T (λ g. (IsBuiltInScalar (judged s) n L → ⊥) × By (TypeAt n) (type_location t.kind) L.directives g) (OwnUses s t)
    told_own =
        moves_where (IsToldAs s) no_built_in
        (told_at (TypeAt n) (type_location t.kind) (applied s t.directives) _ (ap (λ o. option_map_or (λ (x : SchemaType Place). applied s x.directives) o []) here) (bare_applied s t.directives))

    -- what stands under a name in the type
    in_type_found : {V : Type 0} (of : SchemaType Place → Entries (Given Place V)) (m : List ℕ) (x : Given Place V) → under m (of t) ≡ Some x → or_nothing (option_map (λ t'. option_map (λ g. g.it) (under m (of t'))) (type_at s n)) ≡ Some x.it
    in_type_found of m x there = ap (λ o. or_nothing (option_map (λ t'. option_map (λ g. g.it) (under m (of t'))) o)) here ∙ ap (option_map (λ g. g.it)) there

    told_fields : T (λ g. Somewhere L.field (λ m f. By (FieldAt n m) location.FieldDefinition (applied_directives f.directives) g
        ⊎ AtSomeIndex f.arguments (λ i v. By (ArgumentAt (FieldAt n m) i) location.ArgumentDefinition (applied_directives v.it.directives) g))) (FieldsUses s t.fields)
    told_fields =
        told_entries (IsToldAs s) (plain_given unplaced_field_definition) t.fields fields L.field (field_look t)
        (λ m f g. By (FieldAt n m) location.FieldDefinition (applied_directives f.directives) g ⊎ AtSomeIndex f.arguments (λ i v. By (ArgumentAt (FieldAt n m) i) location.ArgumentDefinition (applied_directives v.it.directives) g))
        (λ x f. FieldUses s x.it.it f)
        (λ i e at there.
        let f = in_type_found (λ t'. t'.fields) e.0 e.1 there in
        moves_either (IsToldAs s)
        (told_at (FieldAt n e.0) location.FieldDefinition e.1.it.it.directives _ (ap (λ o. option_map_or (λ (x : Placed Place (FieldDefinitionTree Place)). x.it.directives) o []) f) (bare_directives e.1.it.it.directives))
        (told_arguments (FieldAt n e.0) e.1.it.it.arguments (ap (λ o. option_map_or (λ (x : Placed Place (FieldDefinitionTree Place)). x.it.arguments) o []) f)))

    told_values : T (λ g. Somewhere L.value (λ m v. By (ValueAt n m) location.EnumValue (applied_directives v.directives) g)) (ValuesUses s t.values)
    told_values =
        told_entries (IsToldAs s) (plain_given unplaced_enum_value) t.values values L.value (value_look t)
        (λ m v g. By (ValueAt n m) location.EnumValue (applied_directives v.directives) g) (λ x f. UsesAt s location.EnumValue x.it.it.directives f)
        (λ i e at there. told_at (ValueAt n e.0) location.EnumValue e.1.it.it.directives _ (ap (λ o. option_map_or (λ (x : Placed Place (EnumValueTree Place)). x.it.directives) o []) (in_type_found (λ t'. t'.values) e.0 e.1 there)) (bare_directives e.1.it.it.directives))

    told_inputs : T (λ g. Somewhere L.input (λ m v. By (InputAt n m) location.InputFieldDefinition (applied_directives v.directives) g)) (InputsUses s t.inputs)
    told_inputs =
        told_entries (IsToldAs s) (plain_given unplaced_input_value) t.inputs inputs L.input (input_look t)
        (λ m v g. By (InputAt n m) location.InputFieldDefinition (applied_directives v.directives) g) (λ x f. UsesAt s location.InputFieldDefinition x.it.it.directives f)
        (λ i e at there. told_at (InputAt n e.0) location.InputFieldDefinition e.1.it.it.directives _ (ap (λ o. option_map_or (λ (x : Placed Place (InputValueTree Place)). x.it.directives) o []) (in_type_found (λ t'. t'.inputs) e.0 e.1 there)) (bare_directives e.1.it.it.directives))

    abbrev TypeBroken : SchemaFault → Type 0
    TypeBroken g =
        ((IsBuiltInScalar (judged s) n L → ⊥) × By (TypeAt n) (type_location t.kind) L.directives g)
        ⊎ (Somewhere L.field (λ m f. By (FieldAt n m) location.FieldDefinition (applied_directives f.directives) g ⊎ AtSomeIndex f.arguments (λ i v. By (ArgumentAt (FieldAt n m) i) location.ArgumentDefinition (applied_directives v.it.directives) g))
        ⊎ (Somewhere L.value (λ m v. By (ValueAt n m) location.EnumValue (applied_directives v.directives) g) ⊎ Somewhere L.input (λ m v. By (InputAt n m) location.InputFieldDefinition (applied_directives v.directives) g)))

    told_type : T TypeBroken (TypeUses s t)
    told_type = moves_either (IsToldAs s) told_own (moves_either (IsToldAs s) told_fields (moves_either (IsToldAs s) told_values told_inputs))

  -- all types
  abbrev OfType : List ℕ → TypeLooks → SchemaFault → Type 0
  OfType n l g =
      ((IsBuiltInScalar (judged s) n l → ⊥) × By (TypeAt n) (type_location l.kind) l.directives g)
      ⊎ (Somewhere l.field (λ m f. By (FieldAt n m) location.FieldDefinition (applied_directives f.directives) g ⊎ AtSomeIndex f.arguments (λ i v. By (ArgumentAt (FieldAt n m) i) location.ArgumentDefinition (applied_directives v.it.directives) g))
      ⊎ (Somewhere l.value (λ m v. By (ValueAt n m) location.EnumValue (applied_directives v.directives) g) ⊎ Somewhere l.input (λ m v. By (InputAt n m) location.InputFieldDefinition (applied_directives v.directives) g)))

  told_types : T (λ g. Somewhere (judged s).type_named (λ n l. OfType n l g)) (λ f. AtSomeIndex s.types (λ i e. TypeUses s e.1 f))
  told_types =
      told_entries (IsToldAs s) (λ t. type_looks (plain_type t)) s.types distinct.types (judged s).type_named (type_look s) OfType (λ t f. TypeUses s t f)
      (λ i e at there. let parts = distinct.parts e (index_given s.types i e at) in told_type e.0 e.1 there parts.fields parts.values parts.inputs)

  -- all definitions of directives
  abbrev OfDefinition : List ℕ → DirectiveDefinitionTree (Unit {0}) → SchemaFault → Type 0
  OfDefinition n d g =
      (((judged s).built_in (DirectiveDefinitionAt n) ≡ false) × By (DirectiveDefinitionAt n) location.DirectiveDefinition (applied_directives d.directives) g)
      ⊎ AtSomeIndex d.arguments (λ i v. By (ArgumentAt (DirectiveDefinitionAt n) i) location.ArgumentDefinition (applied_directives v.it.directives) g)

  -- a definition is marked by its place
  same_mark : (n : List ℕ) (d : Placed Place (DirectiveDefinitionTree Place)) → under n s.directives ≡ Some d → ((judged s).built_in (DirectiveDefinitionAt n) ≡ false) ↔ (is_built_in d.place ≡ false)
  same_mark n d there = (λ h. sym marked ∙ h, λ h. marked ∙ h)
    where
      marked : is_marked s (DirectiveDefinitionAt n) ≡ is_built_in d.place
      marked = ap (λ o. is_built_in (or_nothing (option_map (λ (x : Placed Place (DirectiveDefinitionTree Place)). x.place) o))) there

  told_definitions : T (λ g. Somewhere (judged s).directive (λ n d. OfDefinition n d g)) (DefinitionsUses s s.directives)
  told_definitions =
      told_entries (IsToldAs s) plain_directive_definition s.directives distinct.directives (judged s).directive (directive_look s) OfDefinition (λ d f. DefinitionUses s d f)
      (λ i e at there.
      moves_either (IsToldAs s)
      (moves_where (IsToldAs s) (same_mark e.0 e.1 there)
      (told_at (DirectiveDefinitionAt e.0) location.DirectiveDefinition e.1.it.directives _ (ap (λ o. option_map_or (λ (x : Placed Place (DirectiveDefinitionTree Place)). x.it.directives) o []) there) (bare_directives e.1.it.directives)))
      (told_arguments (DirectiveDefinitionAt e.0) e.1.it.arguments (ap (λ o. option_map_or (λ (x : Placed Place (DirectiveDefinitionTree Place)). x.it.arguments) o []) there)))

  abbrev Broken : SchemaFault → Type 0
  Broken g = By SchemaAt location.Schema (judged s).definition.directives g
      ⊎ (Somewhere (judged s).type_named (λ n l. OfType n l g) ⊎ Somewhere (judged s).directive (λ n d. OfDefinition n d g))

  told_schema : T Broken (SchemaUses s)
  told_schema =
      moves_either (IsToldAs s) (told_at SchemaAt location.Schema (applied s s.definition.directives) _ refl (bare_applied s s.definition.directives))
      (moves_either (IsToldAs s) told_types told_definitions)

  -- the same, by kinds of places
  regrouped : (g : SchemaFault) → Broken g → SchemaUsesBreak (judged s) g
  regrouped g (inl h) = inl h
  regrouped g (inr (inl (n, (l, (e, inl own))))) = inr (inl (n, (l, (e, own))))
  regrouped g (inr (inl (n, (l, (e, inr (inl (m, (x, (e', inl h))))))))) = inr (inr (inl (n, (l, (e, (m, (x, (e', h))))))))
  regrouped g (inr (inl (n, (l, (e, inr (inl (m, (x, (e', inr h))))))))) = inr (inr (inr (inl (inl (n, (l, (e, (m, (x, (e', h))))))))))
  regrouped g (inr (inl (n, (l, (e, inr (inr (inl h))))))) = inr (inr (inr (inr (inl (n, (l, (e, h)))))))
  regrouped g (inr (inl (n, (l, (e, inr (inr (inr h))))))) = inr (inr (inr (inr (inr (inl (n, (l, (e, h))))))))
  regrouped g (inr (inr (n, (d, (e, inl own))))) = inr (inr (inr (inr (inr (inr (n, (d, (e, own))))))))
  regrouped g (inr (inr (n, (d, (e, inr h))))) = inr (inr (inr (inl (inr (n, (d, (e, h)))))))

  grouped : (g : SchemaFault) → SchemaUsesBreak (judged s) g → Broken g
  grouped g (inl h) = inl h
  grouped g (inr (inl (n, (l, (e, own))))) = inr (inl (n, (l, (e, inl own))))
  grouped g (inr (inr (inl (n, (l, (e, (m, (x, (e', h))))))))) = inr (inl (n, (l, (e, inr (inl (m, (x, (e', inl h))))))))
  grouped g (inr (inr (inr (inl (inl (n, (l, (e, (m, (x, (e', h))))))))))) = inr (inl (n, (l, (e, inr (inl (m, (x, (e', inr h))))))))
  grouped g (inr (inr (inr (inl (inr (n, (d, (e, h)))))))) = inr (inr (n, (d, (e, inr h))))
  grouped g (inr (inr (inr (inr (inl (n, (l, (e, h)))))))) = inr (inl (n, (l, (e, inr (inr (inl h))))))
  grouped g (inr (inr (inr (inr (inr (inl (n, (l, (e, h))))))))) = inr (inl (n, (l, (e, inr (inr (inr h))))))
  grouped g (inr (inr (inr (inr (inr (inr (n, (d, (e, own))))))))) = inr (inr (n, (d, (e, inl own))))

  -- the faults of the places are what the rules on uses tell of the schema
  pub schema_uses_told : (f : PlacedFault) → SchemaUses s f ↔ Told s SchemaUsesBreak f
  schema_uses_told f = (
    λ h. let r = (told_schema f).0 h in (r.0, (regrouped r.0 r.1.0, r.1.1)),
    λ q. (told_schema f).1 (q.0, (grouped q.0 q.1.0, q.1.1)),
  )
