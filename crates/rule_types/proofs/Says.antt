-- The lists of faults tell the rules, one lemma for each rule and place.
use Rattle.std.proofs.Common.{◌≡◌, ◌≢◌, ℕ, ◌⊎◌, ◌↔◌, Bool, true, false, ◌||◌, List, [], ◌∷◌, ◌++◌, map, refl, sym, ap, subst, ◌∙◌, inl, inr, Option, None, Some, Contains, codes, slice_get, if◌then◌else◌, true≢false}
use Rattle.std.specs.List.{flat_map, find}
use Rattle.std.specs.Option.{option_map, option_map_or}
use Rattle.std.specs.Str.{bytes_eq}
use Rattle.graphql_names.specs.Places.{is_built_in}
use Rattle.graphql_names.specs.Placed.{Placed, Place, Text, unplaced_node}
use Rattle.tree_literals.specs.TypeTree.{TypeTree, unplaced_type}
use Rattle.tree_literals.specs.TypeQueries.{inner_name}
use Rattle.tree_directives.specs.DirectiveTree.{InputValueTree, InputValues, DirectiveDefinitionTree, unplaced_input_value}
use Rattle.tree_type_members.specs.TypeSystemTree.{FieldDefinitionTree, EnumValueTree, unplaced_field_definition, unplaced_enum_value}
use Rattle.schema_components.specs.Lists.{is_among, each_place}
use Rattle.schema_components.specs.Given.{Given, given_name, plain_given}
use Rattle.schema_types.specs.SchemaTree.{SchemaType, SchemaTree, kind_words, same_kind, is_input_kind, is_output_kind}
use Rattle.schema_types.specs.Plain.{plain_directive_definition}
use Rattle.schema_types.specs.Addresses.{Address, RootAt, TypeAt, MemberAt, FieldAt, ValueAt, InputAt, DirectiveDefinitionAt, ArgumentAt, NameAt, TypeNameAt, TypeReferenceAt, under, or_nothing, place_of, inner_name_place, root_at, field_at, value_at, input_at, arguments_at, place_at, name_place, is_marked}
use Rattle.schema_types.specs.declared.type_kind.TypeKind.{TypeKind}
use Rattle.schema_types.specs.declared.type_kind.TypeKind.TheVariants as kind
use Rattle.tree_directives.specs.declared.operation_type.OperationType.{OperationType}
use Rattle.fault_data.specs.in_rule_definitions.Diagnostics.{Diagnostic, map_places, UndefinedDefinition, RootOperationObjectType, ReservedName, OutputType, InputType, EmptyFieldSet, EmptyValueSet, EmptyMemberSet, EmptyInputValueSet, UnionMemberObjectType, UniqueInputValue}
use Rattle.fault_data.specs.in_rule_definitions.Spots.{At, spot_place}
use Rattle.fault_data.specs.in_rule_definitions.Faults.{SchemaFault, wrong, told}
use Rattle.fault_data.specs.in_rule_definitions.Judged.{judged}
use Rattle.fault_data.specs.in_rule_definitions.RootTypes.{root_type_of}
use Rattle.fault_data.specs.in_rule_definitions.Names.{is_reserved, scalar_names}
use Rattle.fault_data.specs.in_rule_definitions.ReservedNames.{IsReservedAt}
use Rattle.fault_data.specs.in_rule_definitions.Rules.{IsToldAs, extension_places, extension_places_at}
use Rattle.fault_data.specs.in_rule_definitions.TypesUsed.{IsUndefinedAt}
use Rattle.fault_data.specs.in_rule_definitions.Words.{Present, IsEmpty}
use Rattle.fault_data.specs.in_rule_definitions.PlacedFaults.{PlacedFault}
use Rattle.schema_types.specs.Distinct.{ArePartsDistinct}
use Rattle.rule_types.specs.FaultLists.{if_none, kind_named, reserved_name, undefined_name, undefined_type, output_type, input_type, union_member_object_type, root_operation_object_type, empty_field_set, empty_member_set, empty_value_set, empty_input_value_set, unique_input_value, value_faults, input_value_faults, argument_faults, arguments_faults, field_faults, member_faults, input_faults, directive_faults, root_faults}
use Rattle.fault_data.proofs.in_rule_definitions.Lists.{mapped_none}
use Rattle.fault_data.proofs.in_rule_definitions.Lookups.{text_found, text_given, no_names, no_entries}
use Rattle.fault_data.proofs.Judgings.{type_seen, field_look, value_look, input_look, member_look, named_unplaced, inner_place, field_there, value_there, input_there, listed_there}
use Rattle.rule_types.proofs.KindsNamed.{missing_kind, present_kind}
use Rattle.rule_types.proofs.ByPlace.{IsMissingAt, IsNoObjectRootAt, IsNoObjectMemberAt, IsNoOutputAt, IsNoInputAt, HasNoField, HasNoMember, HasNoValue, HasNoInput, InputValueBreaks, ArgumentBreaks, ArgumentsBreak, FieldBreaks, MemberBreaks, ValueBreaks, InputBreaks, FieldsBreak, MembersBreak, ValuesBreak, InputsBreak, PartsBreak, TypeBreaks, DirectiveBreaks, RootBreaks}
use Rattle.fault_data.proofs.in_rule_definitions.Tells.{Tells, Says, tells_same, tells_both, tells_nothing, tells_one, tells_no, tells_when, tells_unless, tells_present, tells_entries, tells_index, tells_names, tells_repeats}

-- ---- kinds

pub no_object : (k : TypeKind) → (same_kind k kind.Object ≡ false) ↔ (k ≢ kind.Object)
no_object kind.Scalar = (λ e p. cc, λ h. refl)
no_object kind.Object = (λ e. absurd (true≢false e), λ h. absurd (h refl))
no_object kind.Interface = (λ e p. cc, λ h. refl)
no_object kind.Union = (λ e p. cc, λ h. refl)
no_object kind.Enum = (λ e p. cc, λ h. refl)
no_object kind.InputObject = (λ e p. cc, λ h. refl)

has_fields : (k : TypeKind) → ((same_kind k kind.Object || same_kind k kind.Interface) ≡ true) ↔ ((k ≡ kind.Object) ⊎ (k ≡ kind.Interface))
has_fields kind.Scalar = (λ e. absurd (true≢false (sym e)), λ h. elim h [ inl p ↦ cc | inr p ↦ cc ])
has_fields kind.Object = (λ e. inl refl, λ h. refl)
has_fields kind.Interface = (λ e. inr refl, λ h. refl)
has_fields kind.Union = (λ e. absurd (true≢false (sym e)), λ h. elim h [ inl p ↦ cc | inr p ↦ cc ])
has_fields kind.Enum = (λ e. absurd (true≢false (sym e)), λ h. elim h [ inl p ↦ cc | inr p ↦ cc ])
has_fields kind.InputObject = (λ e. absurd (true≢false (sym e)), λ h. elim h [ inl p ↦ cc | inr p ↦ cc ])

is_union : (k : TypeKind) → (same_kind k kind.Union ≡ true) ↔ (k ≡ kind.Union)
is_union kind.Scalar = (λ e. absurd (true≢false (sym e)), λ p. cc)
is_union kind.Object = (λ e. absurd (true≢false (sym e)), λ p. cc)
is_union kind.Interface = (λ e. absurd (true≢false (sym e)), λ p. cc)
is_union kind.Union = (λ e. refl, λ p. refl)
is_union kind.Enum = (λ e. absurd (true≢false (sym e)), λ p. cc)
is_union kind.InputObject = (λ e. absurd (true≢false (sym e)), λ p. cc)

is_enum : (k : TypeKind) → (same_kind k kind.Enum ≡ true) ↔ (k ≡ kind.Enum)
is_enum kind.Scalar = (λ e. absurd (true≢false (sym e)), λ p. cc)
is_enum kind.Object = (λ e. absurd (true≢false (sym e)), λ p. cc)
is_enum kind.Interface = (λ e. absurd (true≢false (sym e)), λ p. cc)
is_enum kind.Union = (λ e. absurd (true≢false (sym e)), λ p. cc)
is_enum kind.Enum = (λ e. refl, λ p. refl)
is_enum kind.InputObject = (λ e. absurd (true≢false (sym e)), λ p. cc)

is_input_object : (k : TypeKind) → (same_kind k kind.InputObject ≡ true) ↔ (k ≡ kind.InputObject)
is_input_object kind.Scalar = (λ e. absurd (true≢false (sym e)), λ p. cc)
is_input_object kind.Object = (λ e. absurd (true≢false (sym e)), λ p. cc)
is_input_object kind.Interface = (λ e. absurd (true≢false (sym e)), λ p. cc)
is_input_object kind.Union = (λ e. absurd (true≢false (sym e)), λ p. cc)
is_input_object kind.Enum = (λ e. absurd (true≢false (sym e)), λ p. cc)
is_input_object kind.InputObject = (λ e. refl, λ p. refl)

map_self : {X : Type 0} (o : Option X) → o ≡ option_map (λ x. x) o
map_self None = refl
map_self (Some x) = refl

-- the parts of a type, whatever its kind
module _ (n : List ℕ) (t : SchemaType Place) where
  abbrev pub no_fields : List PlacedFault
  no_fields = if same_kind t.kind kind.Object || same_kind t.kind kind.Interface then empty_field_set n t t.fields else []

  abbrev pub no_members : List PlacedFault
  no_members = if same_kind t.kind kind.Union then empty_member_set n t t.members else []

  abbrev pub no_values : List PlacedFault
  no_values = if same_kind t.kind kind.Enum then empty_value_set n t t.values else []

  abbrev pub no_inputs : List PlacedFault
  no_inputs = if same_kind t.kind kind.InputObject then empty_input_value_set n t t.inputs else []

abbrev pub all_parts : SchemaTree Place → List ℕ → SchemaType Place → List PlacedFault
all_parts s n t =
    (no_fields n t ++ flat_map (λ e. field_faults s e.0 e.1.it) t.fields) ++ ((no_members n t ++ flat_map (λ g. member_faults s g.it) t.members)
    ++ ((no_values n t ++ flat_map (λ e. value_faults e.0 e.1.it) t.values) ++ (no_inputs n t ++ flat_map (λ e. input_faults s e.0 e.1.it) t.inputs)))

module _ (s : SchemaTree Place) where
  abbrev pub Is : SchemaFault → PlacedFault → Type 0
  Is = IsToldAs s

  -- a fault all of whose places are addresses
  pub says : (a : Address) (breach : Diagnostic Address Address) (x : PlacedFault) → x.place ≡ place_at s a → x.breach ≡ map_places (spot_place s) (extension_places_at s) (map_places At (λ e. e) breach) → Says Is (told a breach) x
  says a breach x p b f = (
    λ h. λ i. wrong ((h.0 ∙ sym p) i) ((h.1 ∙ sym b) i),
    λ e. (ap (λ (y : PlacedFault). y.place) e ∙ p, ap (λ (y : PlacedFault). y.breach) e ∙ b),
  )

  -- ---- one rule at one place

  says_reserved : (at : Address) (n describe : List ℕ) (built_in : Bool) (place : Place) → is_marked s at ≡ built_in → place ≡ name_place s at → Tells Is (reserved_name built_in n place describe) (λ g. IsReservedAt (judged s) g at n describe)
  says_reserved at n describe true place marked p = tells_nothing Is (λ g. IsReservedAt (judged s) g at n describe) (λ g r. true≢false (sym marked ∙ r.0))
  says_reserved at n describe false place marked p =
      tells_same Is (if is_reserved n then wrong place (ReservedName n describe) ∷ [] else []) (λ g. (is_reserved n ≡ true) × (g ≡ told (NameAt at) (ReservedName n describe))) (λ g. IsReservedAt (judged s) g at n describe)
      (λ g. (λ r. (marked, r), λ r. r.1))
      (tells_when Is (is_reserved n) (wrong place (ReservedName n describe)) (told (NameAt at) (ReservedName n describe)) (says (NameAt at) (ReservedName n describe) (wrong place (ReservedName n describe)) p refl))

  says_missing : (at : Address) (n : Text Place) → n.place ≡ place_at s at → Tells Is (undefined_name n (kind_named s n.it)) (λ g. IsMissingAt (judged s) g at n.it)
  says_missing at n p = by (kind_named s n.it) refl
    where
      by : (o : Option TypeKind) → kind_named s n.it ≡ o → Tells Is (undefined_name n o) (λ g. IsMissingAt (judged s) g at n.it)
      by None e =
          tells_one Is ((judged s).type_named n.it ≡ None) (wrong n.place (UndefinedDefinition n.it)) (told at (UndefinedDefinition n.it)) ((missing_kind s n.it).1 e)
          (says at (UndefinedDefinition n.it) (wrong n.place (UndefinedDefinition n.it)) p refl)
      by (Some k) e = tells_no Is ((judged s).type_named n.it ≡ None) (told at (UndefinedDefinition n.it)) (λ h. let c : None ≡ Some k = sym ((missing_kind s n.it).0 h) ∙ e in cc)

  says_undefined : (at : Address) (ty : TypeTree Place) → (inner_name ty).place ≡ place_at s (TypeNameAt at) → Tells Is (undefined_type ty (kind_named s (inner_name ty).it)) (λ g. IsUndefinedAt (judged s) g at (unplaced_type ty))
  says_undefined at ty p = subst (λ m. Tells Is (undefined_type ty (kind_named s (inner_name ty).it)) (Undefined m)) (sym (named_unplaced ty)) (by (kind_named s (inner_name ty).it) refl)
    where
      Undefined : List ℕ → SchemaFault → Type 0
      Undefined m g = ((judged s).type_named m ≡ None) × ((Contains scalar_names m → ⊥) × (g ≡ told (TypeNameAt at) (UndefinedDefinition m)))

      no_scalar : (b : Bool) → is_among (inner_name ty).it scalar_names ≡ b → (b ≡ false) ↔ (Contains scalar_names (inner_name ty).it → ⊥)
      no_scalar true e = (λ h. absurd (true≢false h), λ h. absurd (h (text_given scalar_names (inner_name ty).it e)))
      no_scalar false e = (λ h c. true≢false (sym (text_found scalar_names (inner_name ty).it c) ∙ e), λ h. refl)

      by : (o : Option TypeKind) → kind_named s (inner_name ty).it ≡ o → Tells Is (undefined_type ty o) (Undefined (inner_name ty).it)
      by None e =
          let n = inner_name ty in
          let x = wrong n.place (UndefinedDefinition n.it) in
          let g = told (TypeNameAt at) (UndefinedDefinition n.it) in
          let d = no_scalar (is_among n.it scalar_names) refl in
          tells_same Is (if is_among n.it scalar_names then [] else x ∷ []) (λ y. (is_among n.it scalar_names ≡ false) × (y ≡ g)) (Undefined n.it)
          (λ y. (λ r. ((missing_kind s n.it).1 e, (d.0 r.0, r.1)), λ r. (d.1 r.1.0, r.1.1)))
          (tells_unless Is (is_among n.it scalar_names) x g (says (TypeNameAt at) (UndefinedDefinition n.it) x p refl))
      by (Some k) e = tells_nothing Is (Undefined (inner_name ty).it) (λ g r. let c : None ≡ Some k = sym ((missing_kind s (inner_name ty).it).0 r.0) ∙ e in cc)

  -- of the kind of the type of that name
  tells_kind : (n : List ℕ) (l : TypeKind → List PlacedFault) (K : TypeKind → SchemaFault → Type 0) → ((k : TypeKind) → Tells Is (l k) (K k)) → Tells Is (option_map_or l (kind_named s n) []) (λ g. Present ((judged s).type_named n) (λ t. K t.kind g))
  tells_kind n l K each =
      tells_same Is (option_map_or l (kind_named s n) []) (λ g. Present (kind_named s n) (λ k. K k g)) (λ g. Present ((judged s).type_named n) (λ t. K t.kind g)) (λ g. present_kind s n (λ k. K k g))
      (tells_present Is (λ k. k) (kind_named s n) (kind_named s n) (map_self (kind_named s n)) l K (λ k there. each k))

  says_no_object : (at : Address) (x : TypeKind → PlacedFault) (breach : TypeKind → Diagnostic Address Address) → ((k : TypeKind) → Says Is (told at (breach k)) (x k)) → (k : TypeKind)
      → Tells Is (if same_kind k kind.Object then [] else x k ∷ []) (λ g. (k ≢ kind.Object) × (g ≡ told at (breach k)))
  says_no_object at x breach each k =
      tells_same Is (if same_kind k kind.Object then [] else x k ∷ []) (λ g. (same_kind k kind.Object ≡ false) × (g ≡ told at (breach k))) (λ g. (k ≢ kind.Object) × (g ≡ told at (breach k)))
      (λ g. (λ r. ((no_object k).0 r.0, r.1), λ r. ((no_object k).1 r.0, r.1)))
      (tells_unless Is (same_kind k kind.Object) (x k) (told at (breach k)) (each k))

  says_object_root : (o : OperationType) (n : Text Place) → n.place ≡ place_at s (RootAt o) → Tells Is (root_operation_object_type n (kind_named s n.it)) (λ g. IsNoObjectRootAt (judged s) g o n.it)
  says_object_root o n p =
      tells_kind n.it (λ k. if same_kind k kind.Object then [] else wrong n.place (RootOperationObjectType n.it (kind_words k)) ∷ []) (λ k g. (k ≢ kind.Object) × (g ≡ told (RootAt o) (RootOperationObjectType n.it (kind_words k))))
      (says_no_object (RootAt o) (λ k. wrong n.place (RootOperationObjectType n.it (kind_words k))) (λ k. RootOperationObjectType n.it (kind_words k)) (λ k. says (RootAt o) (RootOperationObjectType n.it (kind_words k)) (wrong n.place (RootOperationObjectType n.it (kind_words k))) p refl))

  says_object_member : (n : List ℕ) (m : Text Place) → m.place ≡ place_at s (MemberAt n m.it) → Tells Is (union_member_object_type m (kind_named s m.it)) (λ g. IsNoObjectMemberAt (judged s) g n m.it)
  says_object_member n m p =
      tells_kind m.it (λ k. if same_kind k kind.Object then [] else wrong m.place (UnionMemberObjectType m.it (kind_words k)) ∷ []) (λ k g. (k ≢ kind.Object) × (g ≡ told (MemberAt n m.it) (UnionMemberObjectType m.it (kind_words k))))
      (says_no_object (MemberAt n m.it) (λ k. wrong m.place (UnionMemberObjectType m.it (kind_words k))) (λ k. UnionMemberObjectType m.it (kind_words k)) (λ k. says (MemberAt n m.it) (UnionMemberObjectType m.it (kind_words k)) (wrong m.place (UnionMemberObjectType m.it (kind_words k))) p refl))

  says_output : (n m : List ℕ) (f : Placed Place (FieldDefinitionTree Place)) → f.place ≡ place_at s (FieldAt n m) → (inner_name f.it.ty).place ≡ place_at s (TypeNameAt (FieldAt n m))
      → Tells Is (output_type m f (kind_named s (inner_name f.it.ty).it)) (λ g. IsNoOutputAt (judged s) g n m (unplaced_field_definition f.it))
  says_output n m f p q =
      let at = FieldAt n m in
      let place = (inner_name f.it.ty).place in
      let l : TypeKind → List PlacedFault = λ k. if is_output_kind k then [] else wrong f.place (OutputType m (kind_words k) place) ∷ [] in
      let K : TypeKind → SchemaFault → Type 0 = λ k g. (is_output_kind k ≡ false) × (g ≡ told at (OutputType m (kind_words k) (TypeNameAt at))) in
      subst (λ x. Tells Is (option_map_or l (kind_named s (inner_name f.it.ty).it) []) (λ g. Present ((judged s).type_named x) (λ t. K t.kind g))) (sym (named_unplaced f.it.ty))
      (tells_kind (inner_name f.it.ty).it l K (λ k.
      tells_unless Is (is_output_kind k) (wrong f.place (OutputType m (kind_words k) place)) (told at (OutputType m (kind_words k) (TypeNameAt at)))
      (says at (OutputType m (kind_words k) (TypeNameAt at)) (wrong f.place (OutputType m (kind_words k) place)) p (λ i. OutputType m (kind_words k) (q i)))))

  says_input : (at : Address) (v : Placed Place (InputValueTree Place)) → v.place ≡ place_at s at → v.it.ty.place ≡ place_at s (TypeReferenceAt at)
      → Tells Is (input_type v (kind_named s (inner_name v.it.ty.it).it)) (λ g. IsNoInputAt (judged s) g at (unplaced_input_value v.it))
  says_input at v p q =
      let n = v.it.name.it in
      let l : TypeKind → List PlacedFault = λ k. if is_input_kind k then [] else wrong v.place (InputType n (kind_words k) v.it.ty.place) ∷ [] in
      let K : TypeKind → SchemaFault → Type 0 = λ k g. (is_input_kind k ≡ false) × (g ≡ told at (InputType n (kind_words k) (TypeReferenceAt at))) in
      subst (λ x. Tells Is (option_map_or l (kind_named s (inner_name v.it.ty.it).it) []) (λ g. Present ((judged s).type_named x) (λ t. K t.kind g))) (sym (named_unplaced v.it.ty.it))
      (tells_kind (inner_name v.it.ty.it).it l K (λ k.
      tells_unless Is (is_input_kind k) (wrong v.place (InputType n (kind_words k) v.it.ty.place)) (told at (InputType n (kind_words k) (TypeReferenceAt at)))
      (says at (InputType n (kind_words k) (TypeReferenceAt at)) (wrong v.place (InputType n (kind_words k) v.it.ty.place)) p (λ i. InputType n (kind_words k) (q i)))))

  -- where a type of these kinds has nothing
  tells_empty : {V : Type 0} (b : Bool) (Q : Type 0) → (b ≡ true) ↔ Q → (xs : List V) (E : Type 0) → (xs ≡ []) ↔ E → (x : PlacedFault) (g : SchemaFault) → Says Is g x → Tells Is (if b then if_none xs x else []) (λ y. Q × (E × (y ≡ g)))
  tells_empty false Q q xs E e x g is = tells_nothing Is (λ y. Q × (E × (y ≡ g))) (λ y r. true≢false (sym (q.1 r.0)))
  tells_empty true Q q [] E e x g is = tells_same Is (x ∷ []) (λ y. E × (y ≡ g)) (λ y. Q × (E × (y ≡ g))) (λ y. (λ r. (q.0 refl, r), λ r. r.1)) (tells_one Is E x g (e.0 refl) is)
  tells_empty true Q q (v ∷ xs) E e x g is = tells_nothing Is (λ y. Q × (E × (y ≡ g))) (λ y r. let c : v ∷ xs ≡ [] = e.1 r.1.0 in cc)

  -- ---- argument definitions and input fields

  -- where it stands
  record StandsAs (at : Address) (v : Placed Place (InputValueTree Place)) : Type 0 where
    here : v.place ≡ place_at s at
    name : v.it.name.place ≡ name_place s at
    marked : is_marked s at ≡ is_built_in v.place
    reference : v.it.ty.place ≡ place_at s (TypeReferenceAt at)
    type_name : (inner_name v.it.ty.it).place ≡ place_at s (TypeNameAt at)

  argument_stands : (holder : Address) (i : ℕ) (v : Placed Place (InputValueTree Place)) → slice_get (arguments_at s holder) i ≡ Some v → StandsAs (ArgumentAt holder i) v
  argument_stands holder i v e = record {
    here = sym (ap place_of e);
    name = sym (ap (λ o. or_nothing (option_map (λ (x : Placed Place (InputValueTree Place)). x.it.name.place) o)) e);
    marked = ap (λ o. is_built_in (place_of o)) e;
    reference = sym (ap (λ o. or_nothing (option_map (λ (x : Placed Place (InputValueTree Place)). x.it.ty.place) o)) e);
    type_name = sym (inner_place v.it.ty.it) ∙ sym (ap (λ o. or_nothing (option_map (λ (x : Placed Place (InputValueTree Place)). inner_name_place x.it.ty.it) o)) e);
  }

  input_stands : (n m : List ℕ) (v : Placed Place (InputValueTree Place)) → input_at s n m ≡ Some v → StandsAs (InputAt n m) v
  input_stands n m v e = record {
    here = sym (ap place_of e);
    name = sym (ap (λ o. or_nothing (option_map (λ (x : Placed Place (InputValueTree Place)). x.it.name.place) o)) e);
    marked = ap (λ o. is_built_in (place_of o)) e;
    reference = sym (ap (λ o. or_nothing (option_map (λ (x : Placed Place (InputValueTree Place)). x.it.ty.place) o)) e);
    type_name = sym (inner_place v.it.ty.it) ∙ sym (ap (λ o. or_nothing (option_map (λ (x : Placed Place (InputValueTree Place)). inner_name_place x.it.ty.it) o)) e);
  }

  says_input_value : (at : Address) (n describe : List ℕ) (v : Placed Place (InputValueTree Place)) → StandsAs at v → Tells Is (input_value_faults s n describe v) (λ g. InputValueBreaks (judged s) g at n describe (unplaced_input_value v.it))
  says_input_value at n describe v stands =
      let k = kind_named s (inner_name v.it.ty.it).it in
      tells_both Is (reserved_name (is_built_in v.place) n v.it.name.place describe) (undefined_type v.it.ty.it k ++ input_type v k)
      (λ g. IsReservedAt (judged s) g at n describe) (λ g. IsUndefinedAt (judged s) g at (unplaced_type v.it.ty.it) ⊎ IsNoInputAt (judged s) g at (unplaced_input_value v.it))
      (says_reserved at n describe (is_built_in v.place) v.it.name.place stands.marked stands.name)
      (tells_both Is (undefined_type v.it.ty.it k) (input_type v k) (λ g. IsUndefinedAt (judged s) g at (unplaced_type v.it.ty.it)) (λ g. IsNoInputAt (judged s) g at (unplaced_input_value v.it))
      (says_undefined at v.it.ty.it stands.type_name) (says_input at v stands.here stands.reference))

  pub says_arguments : (holder : Address) (vs : InputValues Place) → arguments_at s holder ≡ vs → Tells Is (arguments_faults s vs) (λ g. ArgumentsBreak (judged s) g holder (map (unplaced_node unplaced_input_value) vs))
  says_arguments holder vs are =
      tells_both Is (flat_map (argument_faults s) vs) (each_place unique_input_value vs) _ _
      (tells_index Is (unplaced_node unplaced_input_value) vs (argument_faults s) (λ i v g. ArgumentBreaks (judged s) g (ArgumentAt holder i) v.it) (λ i v there.
      says_input_value (ArgumentAt holder i) v.it.name.it (codes "an argument") v (stands i v there)))
      (tells_repeats Is (unplaced_node unplaced_input_value) (λ v. v.it.name.it) (λ w v. wrong w.place (UniqueInputValue v.it.name.it w.place v.place))
      (λ i first j later. told (ArgumentAt holder i) (UniqueInputValue first.it.name.it (ArgumentAt holder i) (ArgumentAt holder j))) vs (λ i j x y at at' same.
      says (ArgumentAt holder i) (UniqueInputValue x.it.name.it (ArgumentAt holder i) (ArgumentAt holder j)) (wrong x.place (UniqueInputValue y.it.name.it x.place y.place)) (stands i x at).here
      (λ k. UniqueInputValue (sym same k) ((stands i x at).here k) ((stands j y at').here k))))
    where
      stands : (i : ℕ) (v : Placed Place (InputValueTree Place)) → slice_get vs i ≡ Some v → StandsAs (ArgumentAt holder i) v
      stands i v there = argument_stands holder i v (ap (λ l. slice_get l i) are ∙ there)

  -- ---- what stands under the names of a type

  module _ (n : List ℕ) (t : SchemaType Place) (there : under n s.types ≡ Some t) where
    says_field : (m : List ℕ) (g : Given Place (Placed Place (FieldDefinitionTree Place))) → under m t.fields ≡ Some g → Tells Is (field_faults s m g.it) (λ y. FieldBreaks (judged s) y n m (unplaced_field_definition g.it.it))
    says_field m g has =
        let at = FieldAt n m in
        let f = g.it in
        let k = kind_named s (inner_name f.it.ty).it in
        let found : field_at s n m ≡ Some f = field_there s n t there m g has in
        let here : f.place ≡ place_at s at = sym (ap place_of found) in
        let inside : (inner_name f.it.ty).place ≡ place_at s (TypeNameAt at) =
        sym (inner_place f.it.ty) ∙ sym (ap (λ o. or_nothing (option_map (λ (x : Placed Place (FieldDefinitionTree Place)). inner_name_place x.it.ty) o)) found) in
        tells_both Is (reserved_name (is_built_in f.place) m f.it.name.place (codes "a field")) (undefined_type f.it.ty k ++ (output_type m f k ++ arguments_faults s f.it.arguments)) _ _
        (says_reserved at m (codes "a field") (is_built_in f.place) f.it.name.place (ap (λ o. is_built_in (place_of o)) found) (sym (ap (λ o. or_nothing (option_map (λ (x : Placed Place (FieldDefinitionTree Place)). x.it.name.place) o)) found)))
        (tells_both Is (undefined_type f.it.ty k) (output_type m f k ++ arguments_faults s f.it.arguments) _ _ (says_undefined at f.it.ty inside)
        (tells_both Is (output_type m f k) (arguments_faults s f.it.arguments) _ _ (says_output n m f here inside)
        (says_arguments at f.it.arguments (ap (λ o. option_map_or (λ (x : Placed Place (FieldDefinitionTree Place)). x.it.arguments) o []) found))))

    says_value : (m : List ℕ) (g : Given Place (Placed Place (EnumValueTree Place))) → under m t.values ≡ Some g → Tells Is (value_faults m g.it) (λ y. ValueBreaks (judged s) y n m)
    says_value m g has =
        let found : value_at s n m ≡ Some g.it = value_there s n t there m g has in
        says_reserved (ValueAt n m) m (codes "an enum value") (is_built_in g.it.place) g.it.it.value.place (ap (λ o. is_built_in (place_of o)) found) (sym (ap (λ o. or_nothing (option_map (λ (x : Placed Place (EnumValueTree Place)). x.it.value.place) o)) found))

    says_input_field : (m : List ℕ) (g : Given Place (Placed Place (InputValueTree Place))) → under m t.inputs ≡ Some g → Tells Is (input_faults s m g.it) (λ y. InputBreaks (judged s) y n m (unplaced_input_value g.it.it))
    says_input_field m g has = says_input_value (InputAt n m) m (codes "an input object field") g.it (input_stands n m g.it (input_there s n t there m g has))

    says_member : (g : Given Place (Text Place)) → find (λ y. bytes_eq (given_name g) (given_name y)) t.members ≡ Some g → Tells Is (member_faults s g.it) (λ y. MemberBreaks (judged s) y n (given_name g))
    says_member g has =
        let here : g.it.place ≡ place_at s (MemberAt n g.it.it) = sym (ap place_of (listed_there s n t there g.it.it (λ (x : SchemaType Place). x.members) g has)) in
        tells_both Is (undefined_name g.it (kind_named s g.it.it)) (union_member_object_type g.it (kind_named s g.it.it)) _ _ (says_missing (MemberAt n g.it.it) g.it here) (says_object_member n g.it here)

    type_place : t.place ≡ place_at s (TypeAt n)
    type_place = sym (ap (λ o. or_nothing (option_map (λ (x : SchemaType Place). x.place) o)) there)

    places : extension_places t ≡ extension_places_at s (TypeAt n)
    places = sym (ap (λ o. option_map_or extension_places o []) there)

    -- ---- the parts of a type, whatever its kind

    says_no_fields : Tells Is (no_fields n t) (λ g. HasNoField (judged s) g n (type_seen t))
    says_no_fields =
        tells_empty (same_kind t.kind kind.Object || same_kind t.kind kind.Interface) _ (has_fields t.kind) t.fields (IsEmpty (type_seen t).field) (
          λ e m. field_look t m ∙ ap (λ es. option_map (plain_given unplaced_field_definition) (under m es)) e,
          λ none. no_entries t.fields (λ m. mapped_none (plain_given unplaced_field_definition) (under m t.fields) (sym (field_look t m) ∙ none m)),
        )
        (wrong t.place (EmptyFieldSet n t.place (extension_places t))) (told (TypeAt n) (EmptyFieldSet n (TypeAt n) (TypeAt n)))
        (says (TypeAt n) (EmptyFieldSet n (TypeAt n) (TypeAt n)) (wrong t.place (EmptyFieldSet n t.place (extension_places t))) type_place (λ i. EmptyFieldSet n (type_place i) (places i)))

    says_no_members : Tells Is (no_members n t) (λ g. HasNoMember (judged s) g n (type_seen t))
    says_no_members =
        tells_empty (same_kind t.kind kind.Union) _ (is_union t.kind) t.members ((m : List ℕ) → (type_seen t).has_member m ≡ false) (
          λ e m. member_look t m ∙ ap (λ gs. is_among m (map given_name gs)) e,
          λ none. no_names given_name t.members (λ m. sym (member_look t m) ∙ none m),
        )
        (wrong t.place (EmptyMemberSet n t.place (extension_places t))) (told (TypeAt n) (EmptyMemberSet n (TypeAt n) (TypeAt n)))
        (says (TypeAt n) (EmptyMemberSet n (TypeAt n) (TypeAt n)) (wrong t.place (EmptyMemberSet n t.place (extension_places t))) type_place (λ i. EmptyMemberSet n (type_place i) (places i)))

    says_no_values : Tells Is (no_values n t) (λ g. HasNoValue (judged s) g n (type_seen t))
    says_no_values =
        tells_empty (same_kind t.kind kind.Enum) _ (is_enum t.kind) t.values (IsEmpty (type_seen t).value) (
          λ e m. value_look t m ∙ ap (λ es. option_map (plain_given unplaced_enum_value) (under m es)) e,
          λ none. no_entries t.values (λ m. mapped_none (plain_given unplaced_enum_value) (under m t.values) (sym (value_look t m) ∙ none m)),
        )
        (wrong t.place (EmptyValueSet n t.place (extension_places t))) (told (TypeAt n) (EmptyValueSet n (TypeAt n) (TypeAt n)))
        (says (TypeAt n) (EmptyValueSet n (TypeAt n) (TypeAt n)) (wrong t.place (EmptyValueSet n t.place (extension_places t))) type_place (λ i. EmptyValueSet n (type_place i) (places i)))

    says_no_inputs : Tells Is (no_inputs n t) (λ g. HasNoInput (judged s) g n (type_seen t))
    says_no_inputs =
        tells_empty (same_kind t.kind kind.InputObject) _ (is_input_object t.kind) t.inputs (IsEmpty (type_seen t).input) (
          λ e m. input_look t m ∙ ap (λ es. option_map (plain_given unplaced_input_value) (under m es)) e,
          λ none. no_entries t.inputs (λ m. mapped_none (plain_given unplaced_input_value) (under m t.inputs) (sym (input_look t m) ∙ none m)),
        )
        (wrong t.place (EmptyInputValueSet n t.place (extension_places t))) (told (TypeAt n) (EmptyInputValueSet n (TypeAt n) (TypeAt n)))
        (says (TypeAt n) (EmptyInputValueSet n (TypeAt n) (TypeAt n)) (wrong t.place (EmptyInputValueSet n t.place (extension_places t))) type_place (λ i. EmptyInputValueSet n (type_place i) (places i)))

    pub says_parts : ArePartsDistinct t → Tells Is (all_parts s n t) (λ g. PartsBreak (judged s) g n (type_seen t))
    says_parts distinct =
        tells_both Is (no_fields n t ++ flat_map (λ e. field_faults s e.0 e.1.it) t.fields) _ (λ g. FieldsBreak (judged s) g n (type_seen t)) _
        (tells_both Is (no_fields n t) (flat_map (λ e. field_faults s e.0 e.1.it) t.fields) _ _ says_no_fields
        (tells_entries Is (plain_given unplaced_field_definition) t.fields distinct.fields (type_seen t).field (field_look t) (λ m g. field_faults s m g.it) (λ m f g. FieldBreaks (judged s) g n m f) says_field))
        (tells_both Is (no_members n t ++ flat_map (λ g. member_faults s g.it) t.members) _ (λ g. MembersBreak (judged s) g n (type_seen t)) _
        (tells_both Is (no_members n t) (flat_map (λ g. member_faults s g.it) t.members) _ _ says_no_members
        (tells_names Is given_name t.members distinct.members (type_seen t).has_member (member_look t) (λ g. member_faults s g.it) (λ m g. MemberBreaks (judged s) g n m) says_member))
        (tells_both Is (no_values n t ++ flat_map (λ e. value_faults e.0 e.1.it) t.values) (no_inputs n t ++ flat_map (λ e. input_faults s e.0 e.1.it) t.inputs) (λ g. ValuesBreak (judged s) g n (type_seen t)) (λ g. InputsBreak (judged s) g n (type_seen t))
        (tells_both Is (no_values n t) (flat_map (λ e. value_faults e.0 e.1.it) t.values) _ _ says_no_values
        (tells_entries Is (plain_given unplaced_enum_value) t.values distinct.values (type_seen t).value (value_look t) (λ m g. value_faults m g.it) (λ m v g. ValueBreaks (judged s) g n m) says_value))
        (tells_both Is (no_inputs n t) (flat_map (λ e. input_faults s e.0 e.1.it) t.inputs) _ _ says_no_inputs
        (tells_entries Is (plain_given unplaced_input_value) t.inputs distinct.inputs (type_seen t).input (input_look t) (λ m g. input_faults s m g.it) (λ m v g. InputBreaks (judged s) g n m v) says_input_field))))

    pub says_type : ArePartsDistinct t → Tells Is (reserved_name (is_built_in t.place) n t.name.place (kind_words t.kind) ++ all_parts s n t) (λ g. TypeBreaks (judged s) g n (type_seen t))
    says_type distinct =
        tells_both Is (reserved_name (is_built_in t.place) n t.name.place (kind_words t.kind)) (all_parts s n t) _ _
        (says_reserved (TypeAt n) n (kind_words t.kind) (is_built_in t.place) t.name.place (ap is_built_in (sym type_place)) (sym (ap (λ o. or_nothing (option_map (λ (x : SchemaType Place). x.name.place) o)) there)))
        (says_parts distinct)

  pub says_directive : (n : List ℕ) (d : Placed Place (DirectiveDefinitionTree Place)) → under n s.directives ≡ Some d → Tells Is (directive_faults s n d) (λ g. DirectiveBreaks (judged s) g n (plain_directive_definition d))
  says_directive n d there =
      let at = DirectiveDefinitionAt n in
      tells_both Is (reserved_name (is_built_in d.place) n d.it.name.place (codes "a directive definition")) (arguments_faults s d.it.arguments) _ _
      (says_reserved at n (codes "a directive definition") (is_built_in d.place) d.it.name.place (ap (λ o. is_built_in (place_of o)) there) (sym (ap (λ o. or_nothing (option_map (λ (x : Placed Place (DirectiveDefinitionTree Place)). x.it.name.place) o)) there)))
      (says_arguments at d.it.arguments (ap (λ o. option_map_or (λ (x : Placed Place (DirectiveDefinitionTree Place)). x.it.arguments) o []) there))

  pub says_root : (o : OperationType) (root : Option (Given Place (Text Place))) → root_at s o ≡ option_map (λ g. g.it) root → root_type_of (judged s).definition o ≡ option_map given_name root → Tells Is (root_faults s root) (λ g. RootBreaks (judged s) g o)
  says_root o root stands seen =
      tells_present Is given_name root (root_type_of (judged s).definition o) seen (λ g. undefined_name g.it (kind_named s g.it.it) ++ root_operation_object_type g.it (kind_named s g.it.it)) (λ n g. IsMissingAt (judged s) g (RootAt o) n ⊎ IsNoObjectRootAt (judged s) g o n) (λ g there.
      let here : g.it.place ≡ place_at s (RootAt o) = sym (ap place_of (stands ∙ ap (option_map (λ (y : Given Place (Text Place)). y.it)) there)) in
      tells_both Is (undefined_name g.it (kind_named s g.it.it)) (root_operation_object_type g.it (kind_named s g.it.it)) _ _ (says_missing (RootAt o) g.it here) (says_object_root o g.it here))
