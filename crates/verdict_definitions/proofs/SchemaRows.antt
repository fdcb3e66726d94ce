-- Every rule on schemas holds of S `type Query { field: Int }`, after all that is built in.
use Rattle.std.proofs.Common.{arith, ◌≡◌, ◌<◌, ℕ, count_by, Bool, true, false, not, ◌&&◌, ◌||◌, List, [], ◌∷◌, codes, Option, None, Some, is_some, ◌⊎◌, refl, sym, ap, subst, ◌∙◌, inl, inr, true≢false}
use Rattle.std.specs.List.{list_all}
use Rattle.std.specs.Cmp.{first_so, second_so}
use Rattle.std.specs.Option.{option_map, option_map_or}
use Rattle.graphql_names.specs.Placed.{Place, Placed}
use Rattle.schema_built_in.specs.Table.{built_in_definitions}
use Rattle.graphql_faults.specs.in_grammar.Places.{place_in}
use Rattle.schema_fold.specs.in_directives.DirectiveTree.{DirectiveTree, Directives, InputValueTree, InputValues}
use Rattle.schema_fold.specs.in_directives.declared.directive_location.DirectiveLocation.TheVariants as location
use Rattle.schema_fold.specs.in_directives.declared.operation_type.OperationType.TheVariants.{Query, Mutation, Subscription}
use Rattle.schema_fold.specs.in_components.Applied.{Applied, unplaced_applied}
use Rattle.schema_fold.specs.in_components.Names.{Entries}
use Rattle.schema_types.specs.Out.{is_empty}
use Rattle.schema_types.specs.SchemaTree.{SchemaType, SchemaTree, same_kind, is_input_kind, is_output_kind, kind_words}
use Rattle.schema_types.specs.Addresses.{SchemaAt, TypeAt, FieldAt, ValueAt, InputAt, ArgumentAt, TypeReferenceAt, DirectiveDefinitionAt, under}
use Rattle.schema_types.specs.Looks.{TypeLooks}
use Rattle.schema_types.specs.declared.type_kind.TypeKind.{TypeKind}
use Rattle.schema_types.specs.declared.type_kind.TypeKind.TheVariants as kind
use Rattle.rule_definitions.specs.Faults.{SchemaFault, told}
use Rattle.rule_definitions.specs.Judged.{Judged, judged, applied_directives, type_location}
use Rattle.rule_definitions.specs.Diagnostics.{InputType, UniqueInputValue}
use Rattle.rule_definitions.specs.Names.{is_reserved, named_in}
use Rattle.rule_definitions.specs.ReservedNames.{IsReservedAt, ReservedNameAt}
use Rattle.rule_definitions.specs.Rules.{SchemaRules, ReferencesBreak, EmptyBreaks, InterfacesBreak, CyclesBreak, SchemaUsesBreak}
use Rattle.rule_definitions.specs.Spots.{At, spotted_directives}
use Rattle.rule_definitions.specs.Uses.{UsesBreak}
use Rattle.rule_definitions.specs.TypesUsed.{IsUndefinedAt}
use Rattle.rule_definitions.specs.Things.{Thing, ADirective, AType}
use Rattle.rule_definitions.specs.Cycles.{reference_bound, is_a_directive, is_a_type, Referring, Refers, RefersByUse, RefersByInput, PassesReferenceBound}
use Rattle.rule_definitions.specs.Words.{Present, AtSomeIndex, Repeats}
use Rattle.rule_definitions.proofs.Lookups.{no_entries}
use Rattle.graphql_faults.proofs.in_document_rule_definitions.RowWords.{of_present, not_present, not_at_index, none_repeats, one_repeats}
use Rattle.verdict_definitions.specs.Meaning.{schema_of}
use Rattle.verdict_definitions.specs.Judge.{PassesNoReferenceBound}
use Rattle.verdict_definitions.proofs.RowTrees.{terms, named, field_definition}
use Rattle.verdict_definitions.proofs.RowMeanings.{type_found, judged_found, same_judged}
use Rattle.verdict_definitions.proofs.RowRules.{no_type, no_field, no_value, no_definition, no_arguments, no_argument, no_input_field, no_name, no_use, at_all}
use Rattle.verdict_definitions.proofs.TextRows.{query_field_tree}

abbrev schema : SchemaTree Place
schema = schema_of terms (query_field_tree ∷ [])

abbrev found : Judged
found = judged_found schema

-- ---- tests

both_not : (a b : Bool) → (a || not b) ≡ true → a ≡ false → b ≡ true → ⊥
both_not true b h f t = true≢false f
both_not false true h f t = true≢false (sym h)
both_not false false h f t = true≢false (sym t)

-- a test of what is there, or there is nothing
abbrev if_there : (TypeKind → Bool) → Option TypeLooks → Bool
if_there test o = option_map_or (λ t. test t.kind) o true

there_passes : (test : TypeKind → Bool) (o : Option TypeLooks) (t : TypeLooks) → o ≡ Some t → if_there test o ≡ true → test t.kind ≡ false → ⊥
there_passes test o t e h f = true≢false (sym h ∙ ap (if_there test) e ∙ f)

is_there : (o : Option TypeLooks) → is_some o ≡ true → o ≡ None → ⊥
is_there o h e = true≢false (sym h ∙ ap is_some e)

other_kind : (k l : TypeKind) → not (same_kind k l) ≡ true → same_kind l l ≡ true → k ≡ l → ⊥
other_kind k l h itself e = true≢false (sym h ∙ ap not (ap (λ x. same_kind x l) e ∙ itself))

abbrev at_most_one : InputValues (Unit {0}) → Bool
at_most_one [] = true
at_most_one (v ∷ []) = true
at_most_one vs = false

no_repeat : (vs : InputValues (Unit {0})) → at_most_one vs ≡ true → {Q : ℕ → _ → ℕ → _ → Type 0} → Repeats (λ (v : Placed (Unit {0}) (InputValueTree (Unit {0}))). v.it.name.it) vs Q → ⊥
no_repeat [] h r = none_repeats (λ v. v.it.name.it) r
no_repeat (v ∷ []) h r = one_repeats (λ x. x.it.name.it) v r
no_repeat (v ∷ w ∷ vs) h r = true≢false (sym h)

-- ---- the parts, all of which pass

no_input_objects : list_all (λ e. is_empty e.1.inputs) schema.types ≡ true
unfolding built_in_definitions place_in
no_input_objects = refl

-- no type implements, has members or directives, or is an input object or a union
abbrev is_plain : List ℕ → SchemaType Place → Bool
is_plain n t = is_empty t.interfaces && (is_empty t.members && (is_empty t.directives && (not (same_kind t.kind kind.InputObject) && not (same_kind t.kind kind.Union))))

plain_types : list_all (λ e. is_plain e.0 e.1) schema.types ≡ true
unfolding built_in_definitions place_in
plain_types = refl

abbrev has_parts : List ℕ → SchemaType Place → Bool
has_parts n t = (not (is_empty t.fields) || not (same_kind t.kind kind.Object || same_kind t.kind kind.Interface)) && (not (is_empty t.values) || not (same_kind t.kind kind.Enum))

parted_types : list_all (λ e. has_parts e.0 e.1) schema.types ≡ true
unfolding built_in_definitions place_in
parted_types = refl

module _ (n : List ℕ) (t : SchemaType Place) (h : is_plain n t ≡ true) where
  no_interfaces : is_empty t.interfaces ≡ true
  no_interfaces = first_so (is_empty t.interfaces) _ h

  after_interfaces : (is_empty t.members && (is_empty t.directives && (not (same_kind t.kind kind.InputObject) && not (same_kind t.kind kind.Union)))) ≡ true
  after_interfaces = second_so (is_empty t.interfaces) _ h

  no_members : is_empty t.members ≡ true
  no_members = first_so (is_empty t.members) _ after_interfaces

  after_members : (is_empty t.directives && (not (same_kind t.kind kind.InputObject) && not (same_kind t.kind kind.Union))) ≡ true
  after_members = second_so (is_empty t.members) _ after_interfaces

  no_directives : is_empty t.directives ≡ true
  no_directives = first_so (is_empty t.directives) _ after_members

  no_input_object : t.kind ≡ kind.InputObject → ⊥
  no_input_object = other_kind t.kind kind.InputObject (first_so (not (same_kind t.kind kind.InputObject)) _ (second_so (is_empty t.directives) _ after_members)) refl

  no_union : t.kind ≡ kind.Union → ⊥
  no_union = other_kind t.kind kind.Union (second_so (not (same_kind t.kind kind.InputObject)) _ (second_so (is_empty t.directives) _ after_members)) refl

-- ---- roots, names and references

abbrev query_found : TypeLooks
query_found = type_found (record {
  kind = kind.Object;
  place = place_in 1 0 25;
  description = None;
  name = named (codes "Query") (place_in 1 5 10);
  directives = [];
  interfaces = [];
  fields = (codes "field", record { extension = None; it = field_definition (codes "field") 13 18 (codes "Int") 20 23 }) ∷ [];
  members = [];
  values = [];
  inputs = [];
})

no_reserved : (fault : SchemaFault) → ReservedNameAt found fault → ⊥
unfolding built_in_definitions place_in
no_reserved fault (inl p) = no_type schema (λ n t. found.built_in (TypeAt n) || not (is_reserved n)) refl _ p (λ n t h q. both_not (found.built_in (TypeAt n)) (is_reserved n) h q.0 q.1.0)
no_reserved fault (inr (inl p)) = no_definition schema (λ n d. found.built_in (DirectiveDefinitionAt n) || not (is_reserved n)) refl _ p (λ n d h q. both_not (found.built_in (DirectiveDefinitionAt n)) (is_reserved n) h q.0 q.1.0)
no_reserved fault (inr (inr (inl p))) = no_field schema (λ n m f. found.built_in (FieldAt n m) || not (is_reserved m)) refl _ p (λ n m f h q. both_not (found.built_in (FieldAt n m)) (is_reserved m) h q.0 q.1.0)
no_reserved fault (inr (inr (inr (inl p)))) = no_argument schema (λ v. not (is_reserved v.name.it)) refl refl (λ at v. IsReservedAt found fault at v.name.it (codes "an argument")) p (λ at v h q. true≢false (sym h ∙ ap not q.1.0))
no_reserved fault (inr (inr (inr (inr (inl p))))) = no_input_field schema no_input_objects _ p
no_reserved fault (inr (inr (inr (inr (inr p))))) = no_value schema (λ n m v. found.built_in (ValueAt n m) || not (is_reserved m)) refl _ p (λ n m v h q. both_not (found.built_in (ValueAt n m)) (is_reserved m) h q.0 q.1.0)

no_references : (fault : SchemaFault) → ReferencesBreak found fault → ⊥
unfolding built_in_definitions place_in
no_references fault (inl p) = true≢false (ap is_some p.0)
no_references fault (inr (inl (Query, p))) = is_there (found.type_named (codes "Query")) refl (of_present (codes "Query") p).0
no_references fault (inr (inl (Mutation, p))) = not_present p
no_references fault (inr (inl (Subscription, p))) = not_present p
no_references fault (inr (inr (inl (Query, p)))) = (of_present query_found (of_present (codes "Query") p)).0 refl
no_references fault (inr (inr (inl (Mutation, p)))) = not_present p
no_references fault (inr (inr (inl (Subscription, p)))) = not_present p
no_references fault (inr (inr (inr (inl r)))) = one_repeats (λ x. x.1) (Query, codes "Query") r
no_references fault (inr (inr (inr (inr (inl p))))) = no_reserved fault p
no_references fault (inr (inr (inr (inr (inr (inl p)))))) = no_field schema (λ n m f. is_some (found.type_named (named_in f.ty))) refl _ p (λ n m f h q. is_there (found.type_named (named_in f.ty)) h q.0)
no_references fault (inr (inr (inr (inr (inr (inr (inl (inl p)))))))) = no_argument schema (λ v. is_some (found.type_named (named_in v.ty.it))) refl refl (λ at v. IsUndefinedAt found fault at v.ty.it) p (λ at v h q. is_there (found.type_named (named_in v.ty.it)) h q.0)
no_references fault (inr (inr (inr (inr (inr (inr (inl (inr p)))))))) = no_input_field schema no_input_objects _ p
no_references fault (inr (inr (inr (inr (inr (inr (inr (inl p)))))))) = no_type schema is_plain plain_types _ p (λ n t h q. no_name t.members (no_members n t h) q.0 q.1.0)
no_references fault (inr (inr (inr (inr (inr (inr (inr (inr (inl p))))))))) = no_field schema (λ n m f. if_there is_output_kind (found.type_named (named_in f.ty))) refl _ p (λ n m f h q. there_passes is_output_kind (found.type_named (named_in f.ty)) q.0 q.1.0 h q.1.1.0)
no_references fault (inr (inr (inr (inr (inr (inr (inr (inr (inr (inl (inl p))))))))))) = no_argument schema (λ v. if_there is_input_kind (found.type_named (named_in v.ty.it))) refl refl (λ at v. Present (found.type_named (named_in v.ty.it)) (λ t.
    (is_input_kind t.kind ≡ false) × (fault ≡ told at (InputType v.name.it (kind_words t.kind) (TypeReferenceAt at))))) p (λ at v h q. there_passes is_input_kind (found.type_named (named_in v.ty.it)) q.0 q.1.0 h q.1.1.0)
no_references fault (inr (inr (inr (inr (inr (inr (inr (inr (inr (inl (inr p))))))))))) = no_input_field schema no_input_objects _ p
no_references fault (inr (inr (inr (inr (inr (inr (inr (inr (inr (inr (inl p))))))))))) = no_type schema is_plain plain_types _ p (λ n t h q. no_name t.members (no_members n t h) q.0 q.1.0)
no_references fault (inr (inr (inr (inr (inr (inr (inr (inr (inr (inr (inr p))))))))))) = no_arguments schema at_most_one refl refl (λ holder vs. Repeats (λ v. v.it.name.it) vs (λ i first j later.
    fault ≡ told (ArgumentAt holder i) (UniqueInputValue first.it.name.it (ArgumentAt holder i) (ArgumentAt holder j)))) p (λ at vs h q. no_repeat vs h q)

-- ---- parts

none_mapped : {V W : Type 0} (f : V → W) (o : Option V) → option_map f o ≡ None → o ≡ None
none_mapped f None e = refl
none_mapped f (Some v) e = absurd (true≢false (ap is_some e))

either_way : (a b : Bool) → (not a || not b) ≡ true → a ≡ true → b ≡ true → ⊥
either_way true true h a b = true≢false (sym h)
either_way true false h a b = true≢false (sym b)
either_way false b h a c = true≢false (sym a)

-- entries of which none stands under any name are none
are_none : {V W : Type 0} (f : V → W) (es : Entries V) → ((n : List ℕ) → option_map f (under n es) ≡ None) → is_empty es ≡ true
are_none f es none = ap is_empty (no_entries es (λ n. none_mapped f (under n es) (none n)))

is_composite : (k : TypeKind) → (k ≡ kind.Object) ⊎ (k ≡ kind.Interface) → (same_kind k kind.Object || same_kind k kind.Interface) ≡ true
is_composite k (inl e) = ap (λ x. same_kind x kind.Object || same_kind x kind.Interface) e
is_composite k (inr e) = ap (λ x. same_kind x kind.Object || same_kind x kind.Interface) e

no_empty : (fault : SchemaFault) → EmptyBreaks found fault → ⊥
no_empty fault (inl p) = no_type schema has_parts parted_types _ p (λ n t h q.
    either_way (is_empty t.fields) (same_kind t.kind kind.Object || same_kind t.kind kind.Interface) (first_so (not (is_empty t.fields) || not (same_kind t.kind kind.Object || same_kind t.kind kind.Interface)) _ h)
    (are_none _ t.fields q.1.0) (is_composite t.kind q.0))
no_empty fault (inr (inl p)) = no_type schema has_parts parted_types _ p (λ n t h q.
    either_way (is_empty t.values) (same_kind t.kind kind.Enum) (second_so (not (is_empty t.fields) || not (same_kind t.kind kind.Object || same_kind t.kind kind.Interface)) _ h)
    (are_none _ t.values q.1.0) (ap (λ x. same_kind x kind.Enum) q.0))
no_empty fault (inr (inr (inl p))) = no_type schema is_plain plain_types _ p (λ n t h q. no_union n t h q.0)
no_empty fault (inr (inr (inr p))) = no_type schema is_plain plain_types _ p (λ n t h q. no_input_object n t h q.0)

-- ---- interfaces

no_interface : (fault : SchemaFault) → InterfacesBreak found fault → ⊥
no_interface fault (inl p) = no_type schema is_plain plain_types _ p (λ n t h q. no_name t.interfaces (no_interfaces n t h) q.0 q.1.0)
no_interface fault (inr (inl p)) = no_type schema is_plain plain_types _ p (λ n t h q. no_name t.interfaces (no_interfaces n t h) n q.1.0)
no_interface fault (inr (inr (inl p))) = no_type schema is_plain plain_types _ p (λ n t h q. no_name t.interfaces (no_interfaces n t h) q.0 q.1.0)
no_interface fault (inr (inr (inr (inl p)))) = no_type schema is_plain plain_types _ p (λ n t h q. no_name t.interfaces (no_interfaces n t h) q.0 q.1.0)
no_interface fault (inr (inr (inr (inr (inl p))))) = no_type schema is_plain plain_types _ p (λ n t h q. no_name t.interfaces (no_interfaces n t h) q.0 q.1.0)
no_interface fault (inr (inr (inr (inr (inr (inl p)))))) = no_type schema is_plain plain_types _ p (λ n t h q. no_name t.interfaces (no_interfaces n t h) q.0 q.1.0)
no_interface fault (inr (inr (inr (inr (inr (inr (inl p))))))) = no_type schema is_plain plain_types _ p (λ n t h q. no_name t.interfaces (no_interfaces n t h) q.0 q.1.0)
no_interface fault (inr (inr (inr (inr (inr (inr (inr p))))))) = no_type schema is_plain plain_types _ p (λ n t h q. no_name t.interfaces (no_interfaces n t h) q.0 q.1.0)

-- ---- references and uses of directives: there are no directives

no_bare : (ds : Directives (Unit {0})) → is_empty ds ≡ true → {Q : ℕ → DirectiveTree (Unit {0}) → Type 0} → AtSomeIndex (applied_directives ds) Q → ⊥
no_bare [] none h = not_at_index h
no_bare (d ∷ ds) none h = true≢false (sym none)

applied_none : (gs : Applied Place) → is_empty gs ≡ true → is_empty (unplaced_applied gs) ≡ true
applied_none [] none = refl
applied_none (g ∷ gs) none = absurd (true≢false (sym none))

no_index : {X : Type 0} (xs : List X) → is_empty xs ≡ true → {Q : ℕ → X → Type 0} → AtSomeIndex xs Q → ⊥
no_index [] none h = not_at_index h
no_index (x ∷ xs) none h = true≢false (sym none)

abbrev By : Type 0
By = Option (Referring (DirectiveTree (Unit {0})))

type_refers : (n : List ℕ) (by : By) (to : Thing) → Refers found (AType n) by to → ⊥
unfolding built_in_definitions place_in
type_refers n by to (t, (there, inl p)) = no_type schema is_plain plain_types (λ m u. RefersByUse found (TypeAt m) u.directives by to) (n, (t, (there, p)))
    (λ m u h q. no_index (unplaced_applied u.directives) (applied_none u.directives (no_directives m u h)) q)
type_refers n by to (t, (there, inr (inl p))) = no_value schema (λ m k v. is_empty v.directives) refl (λ m k v. RefersByUse found (ValueAt m k) (applied_directives v.directives) by to) (n, (t, (there, p)))
    (λ m k v h q. no_bare v.directives h q)
type_refers n by to (t, (there, inr (inr p))) = no_input_field schema no_input_objects (λ m k v. RefersByInput found (InputAt m k) v by to) (n, (t, (there, p)))

directive_refers : (n : List ℕ) (by : By) (to : Thing) → ((m : List ℕ) → to ≡ AType m → ⊥) → Refers found (ADirective n) by to → ⊥
unfolding built_in_definitions place_in
directive_refers n by to none p = no_definition schema (λ m d. is_empty d.directives && list_all (λ v. is_empty v.it.directives) d.arguments) refl
    (λ m d. AtSomeIndex d.arguments (λ i v. RefersByInput found (ArgumentAt (DirectiveDefinitionAt m) i) v.it by to) ⊎ RefersByUse found (DirectiveDefinitionAt m) (applied_directives d.directives) by to) (n, p)
    (λ m d h q. elim q [
      | inl a ↦ elim a.1.1.1 [
        | inl used ↦ no_bare a.1.0.it.directives (at_all (λ v. is_empty v.it.directives) d.arguments (second_so (is_empty d.directives) _ h) a.0 a.1.0 a.1.1.0) used
        | inr typed ↦ none (named_in a.1.0.it.ty.it) typed.1.0
      ]
      | inr own ↦ no_bare d.directives (first_so (is_empty d.directives) _ h) own
    ])

no_cycle : (fault : SchemaFault) → CyclesBreak found fault → ⊥
no_cycle fault (inl (n, (by, (rest, ((z, ((t, (there, (is, more))), back)), told))))) = no_type schema is_plain plain_types (λ m u. u.kind ≡ kind.InputObject) (n, (t, (there, is))) (λ m u h k. no_input_object m u h k)
no_cycle fault (inr (n, (by, ([], ((z, (refers, back)), told))))) = directive_refers n by z (λ m e. true≢false (ap is_a_type (sym e ∙ back))) refers
no_cycle fault (inr (n, (by, (next ∷ rest, ((z, (refers, (to, (again, back)))), told))))) = directive_refers n by z (λ m e. type_refers m next to (subst (λ w. Refers found w next to) e again)) refers

no_uses : (fault : SchemaFault) → SchemaUsesBreak found fault → ⊥
unfolding built_in_definitions place_in
no_uses fault (inl p) = no_use schema fault SchemaAt location.Schema [] refl p
no_uses fault (inr (inl p)) = no_type schema is_plain plain_types _ p (λ n t h q. no_use schema fault (TypeAt n) (type_location t.kind) (unplaced_applied t.directives) (applied_none t.directives (no_directives n t h)) q.1)
no_uses fault (inr (inr (inl p))) = no_field schema (λ n m f. is_empty (applied_directives f.directives)) refl _ p (λ n m f h q. no_use schema fault (FieldAt n m) location.FieldDefinition (applied_directives f.directives) h q)
no_uses fault (inr (inr (inr (inl p)))) = no_argument schema (λ v. is_empty (applied_directives v.directives)) refl refl (λ at v. UsesBreak At found [] location.ArgumentDefinition (spotted_directives at (applied_directives v.directives)) fault) p
    (λ at v h q. no_use schema fault at location.ArgumentDefinition (applied_directives v.directives) h q)
no_uses fault (inr (inr (inr (inr (inl p))))) = no_value schema (λ n m v. is_empty (applied_directives v.directives)) refl _ p (λ n m v h q. no_use schema fault (ValueAt n m) location.EnumValue (applied_directives v.directives) h q)
no_uses fault (inr (inr (inr (inr (inr (inl p)))))) = no_input_field schema no_input_objects _ p
no_uses fault (inr (inr (inr (inr (inr (inr p)))))) = no_definition schema (λ n d. is_empty (applied_directives d.directives)) refl _ p (λ n d h q. no_use schema fault (DirectiveDefinitionAt n) location.DirectiveDefinition (applied_directives d.directives) h q.1)

-- ---- every rule holds

rules_found : SchemaRules found
rules_found fault (inl p) = no_references fault p
rules_found fault (inr (inl p)) = no_empty fault p
rules_found fault (inr (inr (inl p))) = no_interface fault p
rules_found fault (inr (inr (inr (inl p)))) = no_cycle fault p
rules_found fault (inr (inr (inr (inr p)))) = no_uses fault p

pub rules_hold : SchemaRules (judged schema)
rules_hold = subst SchemaRules (same_judged schema) rules_found

-- ---- no way of references is long: of input objects there is none, and a directive leads to a type that leads nowhere

two_at_most : (n : List ℕ) (x : Thing) → ((reference_bound < count_by is_a_directive (ADirective n ∷ x ∷ [])) ⊎ (reference_bound < count_by is_a_type (ADirective n ∷ x ∷ []))) → ⊥
two_at_most n (ADirective m) (inl long) = omega (arith, long)
two_at_most n (ADirective m) (inr long) = omega (arith, long)
two_at_most n (AType m) (inl long) = omega (arith, long)
two_at_most n (AType m) (inr long) = omega (arith, long)

none_is_long : (fault : SchemaFault) → PassesReferenceBound found fault → ⊥
none_is_long fault (inl (n, ([], (way, (apart, (long, told)))))) = omega (arith, long)
none_is_long fault (inl (n, (m ∷ rest, (((by, (t, (there, (is, more)))), way), passed)))) =
    no_type schema is_plain plain_types (λ k u. u.kind ≡ kind.InputObject) (n, (t, (there, is))) (λ k u h e. no_input_object k u h e)
none_is_long fault (inr (n, ([], (way, (apart, (inl long, told)))))) = omega (arith, long)
none_is_long fault (inr (n, ([], (way, (apart, (inr long, told)))))) = omega (arith, long)
none_is_long fault (inr (n, (x ∷ [], (way, (apart, (long, told)))))) = two_at_most n x long
none_is_long fault (inr (n, (x ∷ y ∷ rest, (((by, refers), ((next, again), way)), passed)))) =
    directive_refers n by x (λ m e. type_refers m next y (subst (λ w. Refers found w next y) e again)) refers

pub references_within : PassesNoReferenceBound schema
references_within = subst (λ j. (fault : SchemaFault) → PassesReferenceBound j fault → ⊥) (same_judged schema) none_is_long
