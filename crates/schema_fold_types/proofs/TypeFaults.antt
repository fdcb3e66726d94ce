-- What the fold of a type tells is what the rules on its components say.
use Rattle.std.proofs.Common.{◌≡◌, ◌⊎◌, ℕ, Bool, true, false, List, [], ◌∷◌, ◌++◌, Option, None, Some, refl, sym, ap, subst, ◌∙◌, inl, inr, cond, if◌then◌else◌, option_to_list, Contains}
use Rattle.std.specs.Prelude.{◌↔◌}
use Rattle.std.specs.List.{flat_map}
use Rattle.std.proofs.lemmas.List.Elements.{Contains-append_left, Contains-append_right, Contains-append_cases}
use Rattle.graphql_names.specs.Placed.{Placed, Place, Text}
use Rattle.tree_operations.specs.in_directives.DirectiveTree.{InputValueTree}
use Rattle.schema_fold_index.specs.in_definitions.DefinitionTree.{DefinitionTree}
use Rattle.schema_fold_index.specs.in_type_members.TypeSystemTree.{FieldDefinitionTree, EnumValueTree}
use Rattle.schema_fold_index.specs.in_components.Lists.{firsts, has_name, AtSomePlace}
use Rattle.schema_fold_index.specs.in_components.Given.{Given, given_name}
use Rattle.schema_fold_index.proofs.in_components.Places.{not_in_nil, Contains-cons, Contains-first, Contains-rest, found_at, only}
use Rattle.schema_fold_index.specs.in_schema_types.SchemaTree.{same_kind}
use Rattle.schema_fold_index.specs.in_schema_types.TypeParts.{TypeDefinition, type_here}
use Rattle.schema_fold_index.specs.in_schema_types.declared.type_kind.TypeKind.{TypeKind}
use Rattle.schema_fold_index.specs.in_schema_types.declared.type_kind.TypeKind.TheVariants.{Scalar, Object, Interface, Union, Enum, InputObject}
use Rattle.schema_fold_index.specs.in_fold.NumberedDefinition.{Definitions, NumberedDefinition, numbered, type_name, types_in}
use Rattle.schema_fold_index.specs.in_fold.Components.{parts_of, keyed_firsts, field_key, value_key, input_key}
use Rattle.schema_fold_index.specs.in_fold.Collected.{AllComponents, collected_from}
use Rattle.schema_fold_index.specs.in_fold.Kept.{kept_from, repeat_faults, component_faults}
use Rattle.schema_fold_index.specs.in_fold.Made.{IsOfKind}
use Rattle.schema_fold_index.specs.in_fold.FaultView.{repeat_breach}
use Rattle.schema_fold_index.specs.in_fold.BuildErrors as breach
use Rattle.schema_fold_index.specs.in_fold.BuildErrors.{Breach, BuildFault}
use Rattle.schema_fold_index.specs.in_fold.declared.build_error.Repeat.{Repeat}
use Rattle.schema_fold_index.specs.in_fold.declared.build_error.Repeat.TheVariants as repeat
use Rattle.schema_fold_index.proofs.in_fold.OfKind.{folded_of_kind}
use Rattle.schema_fold_types.specs.TypeFaults.{faults_of_type, faults_of_types, FailsInType, ComponentRule, duplicate_implements_interface_in_object, duplicate_implements_interface_in_interface, object_field_name_collision, interface_field_name_collision, enum_value_name_collision, union_member_name_collision, input_field_name_collision}
use Rattle.schema_fold_types.proofs.Telling.{told, IsTold}

-- ---- one type

abbrev Member : Type 0
Member = Given Place (Text Place)

abbrev Field : Type 0
Field = Given Place (Placed Place (FieldDefinitionTree Place))

abbrev EnumValue : Type 0
EnumValue = Given Place (Placed Place (EnumValueTree Place))

abbrev Input : Type 0
Input = Given Place (Placed Place (InputValueTree Place))

-- what is told of a second one of a name
abbrev note : {A : Type 0} → Repeat → List ℕ → (Given Place A → List ℕ) → (A → Place) → Given Place A → BuildFault
note r name key place g = record { place = place g.it; breach = repeat_breach r name (key g) }

-- it is told of a second name, field, value or input field
module _ (r : Repeat) (name : List ℕ) where
  abbrev OfName : List Member → BuildFault → Type 0
  OfName gs f = IsTold given_name (note r name given_name (λ x. x.place)) gs f

  abbrev OfField : List Field → BuildFault → Type 0
  OfField gs f = IsTold field_key (note r name field_key (λ x. x.place)) gs f

  abbrev OfValue : List EnumValue → BuildFault → Type 0
  OfValue gs f = IsTold value_key (note r name value_key (λ x. x.place)) gs f

  abbrev OfInput : List Input → BuildFault → Type 0
  OfInput gs f = IsTold input_key (note r name input_key (λ x. x.place)) gs f

-- it is told of a component of the classes that the kind has
abbrev pub ToldOf : TypeKind → List ℕ → AllComponents → BuildFault → Type 0
ToldOf Scalar name all f = ⊥
ToldOf Object name all f = OfName repeat.ObjectInterface name all.interfaces f ⊎ OfField repeat.ObjectField name all.fields f
ToldOf Interface name all f = OfName repeat.InterfaceInterface name all.interfaces f ⊎ OfField repeat.InterfaceField name all.fields f
ToldOf Union name all f = OfName repeat.UnionMember name all.members f
ToldOf Enum name all f = OfValue repeat.EnumValue name all.values f
ToldOf InputObject name all f = OfInput repeat.InputField name all.inputs f

no_firsts : {X : Type 0} (key : X → List ℕ) (xs : List X) → firsts key xs ≡ [] → xs ≡ []
no_firsts key [] e = refl
no_firsts key (x ∷ xs) e = cc

no_keyed : {X : Type 0} (key : X → List ℕ) (xs : List X) → keyed_firsts key xs ≡ [] → xs ≡ []
no_keyed key [] e = refl
no_keyed key (x ∷ xs) e = cc

-- nothing is told of nothing
none_told : {A : Type 0} (r : Repeat) (name : List ℕ) (key : Given Place A → List ℕ) (place : A → Place) (gs : List (Given Place A)) (f : BuildFault) → gs ≡ [] → Contains (repeat_faults r name key place gs) f → ⊥
none_told r name key place gs f e h = not_in_nil f (subst (λ l. Contains (repeat_faults r name key place l) f) e h)

module _ {F : Type 0} (a b c d e : List F) (f : F) where
  abbrev Five : Type 0
  Five = Contains a f ⊎ (Contains b f ⊎ (Contains c f ⊎ (Contains d f ⊎ Contains e f)))

  in_five : Contains (a ++ (b ++ (c ++ (d ++ e)))) f → Five
  in_five h = elim (Contains-append_cases a (b ++ (c ++ (d ++ e))) f h) [
    | inl x ↦ inl x
    | inr h2 ↦ elim (Contains-append_cases b (c ++ (d ++ e)) f h2) [
      | inl x ↦ inr (inl x)
      | inr h3 ↦ elim (Contains-append_cases c (d ++ e) f h3) [
        | inl x ↦ inr (inr (inl x))
        | inr h4 ↦ elim (Contains-append_cases d e f h4) [ inl x ↦ inr (inr (inr (inl x))) | inr x ↦ inr (inr (inr (inr x))) ]
      ]
    ]
  ]

  from_one : Contains a f → Contains (a ++ (b ++ (c ++ (d ++ e)))) f
  from_one h = Contains-append_left a (b ++ (c ++ (d ++ e))) f h

  from_two : Contains b f → Contains (a ++ (b ++ (c ++ (d ++ e)))) f
  from_two h = Contains-append_right a (b ++ (c ++ (d ++ e))) f (Contains-append_left b (c ++ (d ++ e)) f h)

  from_three : Contains c f → Contains (a ++ (b ++ (c ++ (d ++ e)))) f
  from_three h = Contains-append_right a (b ++ (c ++ (d ++ e))) f (Contains-append_right b (c ++ (d ++ e)) f (Contains-append_left c (d ++ e) f h))

  from_four : Contains d f → Contains (a ++ (b ++ (c ++ (d ++ e)))) f
  from_four h = Contains-append_right a (b ++ (c ++ (d ++ e))) f (Contains-append_right b (c ++ (d ++ e)) f (Contains-append_right c (d ++ e) f (Contains-append_left d e f h)))

  from_five : Contains e f → Contains (a ++ (b ++ (c ++ (d ++ e)))) f
  from_five h = Contains-append_right a (b ++ (c ++ (d ++ e))) f (Contains-append_right b (c ++ (d ++ e)) f (Contains-append_right c (d ++ e) f (Contains-append_right d e f h)))

module _ (name : List ℕ) (all : AllComponents) (f : BuildFault) where
  abbrev names_told : Repeat → List BuildFault
  names_told r = repeat_faults r name given_name (λ x. x.place) all.interfaces

  abbrev fields_told : Repeat → List BuildFault
  fields_told r = repeat_faults r name field_key (λ x. x.place) all.fields

  abbrev members_told : List BuildFault
  members_told = repeat_faults repeat.UnionMember name given_name (λ x. x.place) all.members

  abbrev values_told : List BuildFault
  values_told = repeat_faults repeat.EnumValue name value_key (λ x. x.place) all.values

  abbrev inputs_told : List BuildFault
  inputs_told = repeat_faults repeat.InputField name input_key (λ x. x.place) all.inputs

  no_names : (r : Repeat) → firsts given_name all.interfaces ≡ [] → Contains (names_told r) f → ⊥
  no_names r e h = none_told r name given_name (λ x. x.place) all.interfaces f (no_firsts given_name all.interfaces e) h

  no_fields : (r : Repeat) → keyed_firsts field_key all.fields ≡ [] → Contains (fields_told r) f → ⊥
  no_fields r e h = none_told r name field_key (λ x. x.place) all.fields f (no_keyed field_key all.fields e) h

  no_members : firsts given_name all.members ≡ [] → Contains members_told f → ⊥
  no_members e h = none_told repeat.UnionMember name given_name (λ x. x.place) all.members f (no_firsts given_name all.members e) h

  no_values : keyed_firsts value_key all.values ≡ [] → Contains values_told f → ⊥
  no_values e h = none_told repeat.EnumValue name value_key (λ x. x.place) all.values f (no_keyed value_key all.values e) h

  no_inputs : keyed_firsts input_key all.inputs ≡ [] → Contains inputs_told f → ⊥
  no_inputs e h = none_told repeat.InputField name input_key (λ x. x.place) all.inputs f (no_keyed input_key all.inputs e) h

  abbrev five : (i r : Repeat) → Contains (names_told i ++ (fields_told r ++ (members_told ++ (values_told ++ inputs_told)))) f → Five (names_told i) (fields_told r) members_told values_told inputs_told f
  five i r h = in_five (names_told i) (fields_told r) members_told values_told inputs_told f h

  abbrev interfaces_say : (r : Repeat) → Contains (names_told r) f ↔ OfName r name all.interfaces f
  interfaces_say r = told given_name (note r name given_name (λ x. x.place)) all.interfaces f

  abbrev fields_say : (r : Repeat) → Contains (fields_told r) f ↔ OfField r name all.fields f
  fields_say r = told field_key (note r name field_key (λ x. x.place)) all.fields f

  abbrev members_say : Contains members_told f ↔ OfName repeat.UnionMember name all.members f
  members_say = told given_name (note repeat.UnionMember name given_name (λ x. x.place)) all.members f

  abbrev values_say : Contains values_told f ↔ OfValue repeat.EnumValue name all.values f
  values_say = told value_key (note repeat.EnumValue name value_key (λ x. x.place)) all.values f

  abbrev inputs_say : Contains inputs_told f ↔ OfInput repeat.InputField name all.inputs f
  inputs_say = told input_key (note repeat.InputField name input_key (λ x. x.place)) all.inputs f

  pub told_sound : (k : TypeKind) → IsOfKind k (kept_from all) → Contains (component_faults k name all) f → ToldOf k name all f
  told_sound Scalar has h = elim (five repeat.InterfaceInterface repeat.InterfaceField h) [
    | inl x ↦ no_names repeat.InterfaceInterface has.0 x
    | inr (inl x) ↦ no_fields repeat.InterfaceField has.1 x
    | inr (inr (inl x)) ↦ no_members has.2 x
    | inr (inr (inr (inl x))) ↦ no_values has.3 x
    | inr (inr (inr (inr x))) ↦ no_inputs has.4 x
  ]
  told_sound Object has h = elim (five repeat.ObjectInterface repeat.ObjectField h) [
    | inl x ↦ inl ((interfaces_say repeat.ObjectInterface).0 x)
    | inr (inl x) ↦ inr ((fields_say repeat.ObjectField).0 x)
    | inr (inr (inl x)) ↦ absurd (no_members has.0 x)
    | inr (inr (inr (inl x))) ↦ absurd (no_values has.1 x)
    | inr (inr (inr (inr x))) ↦ absurd (no_inputs has.2 x)
  ]
  told_sound Interface has h = elim (five repeat.InterfaceInterface repeat.InterfaceField h) [
    | inl x ↦ inl ((interfaces_say repeat.InterfaceInterface).0 x)
    | inr (inl x) ↦ inr ((fields_say repeat.InterfaceField).0 x)
    | inr (inr (inl x)) ↦ absurd (no_members has.0 x)
    | inr (inr (inr (inl x))) ↦ absurd (no_values has.1 x)
    | inr (inr (inr (inr x))) ↦ absurd (no_inputs has.2 x)
  ]
  told_sound Union has h = elim (five repeat.InterfaceInterface repeat.InterfaceField h) [
    | inl x ↦ absurd (no_names repeat.InterfaceInterface has.0 x)
    | inr (inl x) ↦ absurd (no_fields repeat.InterfaceField has.1 x)
    | inr (inr (inl x)) ↦ members_say.0 x
    | inr (inr (inr (inl x))) ↦ absurd (no_values has.2 x)
    | inr (inr (inr (inr x))) ↦ absurd (no_inputs has.3 x)
  ]
  told_sound Enum has h = elim (five repeat.InterfaceInterface repeat.InterfaceField h) [
    | inl x ↦ absurd (no_names repeat.InterfaceInterface has.0 x)
    | inr (inl x) ↦ absurd (no_fields repeat.InterfaceField has.1 x)
    | inr (inr (inl x)) ↦ absurd (no_members has.2 x)
    | inr (inr (inr (inl x))) ↦ values_say.0 x
    | inr (inr (inr (inr x))) ↦ absurd (no_inputs has.3 x)
  ]
  told_sound InputObject has h = elim (five repeat.InterfaceInterface repeat.InterfaceField h) [
    | inl x ↦ absurd (no_names repeat.InterfaceInterface has.0 x)
    | inr (inl x) ↦ absurd (no_fields repeat.InterfaceField has.1 x)
    | inr (inr (inl x)) ↦ absurd (no_members has.2 x)
    | inr (inr (inr (inl x))) ↦ absurd (no_values has.3 x)
    | inr (inr (inr (inr x))) ↦ inputs_say.0 x
  ]

  pub told_full : (k : TypeKind) → ToldOf k name all f → Contains (component_faults k name all) f
  told_full Scalar t = absurd t
  told_full Object t = elim t [
    | inl x ↦ from_one (names_told repeat.ObjectInterface) (fields_told repeat.ObjectField) members_told values_told inputs_told f ((interfaces_say repeat.ObjectInterface).1 x)
    | inr x ↦ from_two (names_told repeat.ObjectInterface) (fields_told repeat.ObjectField) members_told values_told inputs_told f ((fields_say repeat.ObjectField).1 x)
  ]
  told_full Interface t = elim t [
    | inl x ↦ from_one (names_told repeat.InterfaceInterface) (fields_told repeat.InterfaceField) members_told values_told inputs_told f ((interfaces_say repeat.InterfaceInterface).1 x)
    | inr x ↦ from_two (names_told repeat.InterfaceInterface) (fields_told repeat.InterfaceField) members_told values_told inputs_told f ((fields_say repeat.InterfaceField).1 x)
  ]
  told_full Union t = from_three (names_told repeat.InterfaceInterface) (fields_told repeat.InterfaceField) members_told values_told inputs_told f (members_say.1 t)
  told_full Enum t = from_four (names_told repeat.InterfaceInterface) (fields_told repeat.InterfaceField) members_told values_told inputs_told f (values_say.1 t)
  told_full InputObject t = from_five (names_told repeat.InterfaceInterface) (fields_told repeat.InterfaceField) members_told values_told inputs_told f (inputs_say.1 t)

-- ---- all types

module _ {X Y : Type 0} (g : X → List Y) where
  from_flat_map : (xs : List X) (y : Y) → Contains (flat_map g xs) y → (x : X) × (Contains xs x × Contains (g x) y)
  from_flat_map [] y h = absurd (not_in_nil y h)
  from_flat_map (x ∷ xs) y h = elim (Contains-append_cases (g x) (flat_map g xs) y h) [
    | inl e ↦ (x, (Contains-first x xs x refl, e))
    | inr r ↦ let p = from_flat_map xs y r in (p.0, (Contains-rest x xs p.0 p.1.0, p.1.1))
  ]

  to_flat_map : (xs : List X) (x : X) (y : Y) → Contains xs x → Contains (g x) y → Contains (flat_map g xs) y
  to_flat_map [] x y h k = absurd (not_in_nil x h)
  to_flat_map (z ∷ zs) x y h k = elim (Contains-cons z zs x h) [
    | inl e ↦ Contains-append_left (g z) (flat_map g zs) y (subst (λ w. Contains (g w) y) (sym e) k)
    | inr r ↦ Contains-append_right (g z) (flat_map g zs) y (to_flat_map zs x y r k)
  ]

-- a first one is in the list
first_stands : {X : Type 0} (key : X → List ℕ) (xs : List X) (x : X) → Contains (firsts key xs) x → Contains xs x
first_stands {X} key xs x h = stands (found_at cond_here xs x h)
  where
    cond_here : List X → X → List X
    cond_here before y = if has_name key (key y) before then [] else y ∷ []

    same : (b : List X) (y : X) → Contains (cond_here b y) x → x ≡ y
    same b y k = by (has_name key (key y) b) k
      where
        by : (c : Bool) → Contains (cond c [] (y ∷ [])) x → x ≡ y
        by true m = absurd (not_in_nil x m)
        by false m = only y x m

    stands : AtSomePlace (λ b y. Contains (cond_here b y) x) xs → Contains xs x
    stands (b, (y, ((after, e), k))) = subst (λ l. Contains l x) (sym e) (Contains-append_right b (y ∷ after) x (Contains-first y after x (sym (same b y k))))

-- a type that is defined in the list has components of the classes of its kind alone
of_kind : (list : List NumberedDefinition) (ds : Definitions) (t : TypeDefinition Place) → Contains (firsts type_name (types_in ds)) t → IsOfKind t.parts.kind (kept_from (collected_from (parts_of list t)))
of_kind list ds t h =
    let p = from_flat_map (λ d. option_to_list (type_here d)) ds t (first_stands type_name (types_in ds) t h) in
    by p.0 (type_here p.0) refl p.1.1
  where
    by : (d : DefinitionTree Place) (o : Option (TypeDefinition Place)) → type_here d ≡ o → Contains (option_to_list o) t → IsOfKind t.parts.kind (kept_from (collected_from (parts_of list t)))
    by d None e k = absurd (not_in_nil t k)
    by d (Some u) e k = folded_of_kind list d t (e ∙ ap Some (sym (only u t k)))

module _ (built_in texts : Definitions) (first : ℕ) (f : BuildFault) where
  abbrev all : Definitions
  all = built_in ++ texts

  abbrev here : TypeDefinition Place → AllComponents
  here t = collected_from (parts_of (numbered first all) t)

  abbrev is_kind : TypeDefinition Place → TypeKind → Type 0
  is_kind t k = same_kind t.parts.kind k ≡ true

  sound_in : (t : TypeDefinition Place) → Contains (firsts type_name (types_in all)) t → (k : TypeKind) → is_kind t k → ToldOf k (type_name t) (here t) f → FailsInType built_in texts first f
  sound_in t at Scalar is h = absurd h
  sound_in t at Object is h = elim h [
    | inl x ↦ duplicate_implements_interface_in_object (t, (x.0, (at, is, x.1.0, x.1.1)))
    | inr x ↦ object_field_name_collision (t, (x.0, (at, is, x.1.0, x.1.1)))
  ]
  sound_in t at Interface is h = elim h [
    | inl x ↦ duplicate_implements_interface_in_interface (t, (x.0, (at, is, x.1.0, x.1.1)))
    | inr x ↦ interface_field_name_collision (t, (x.0, (at, is, x.1.0, x.1.1)))
  ]
  sound_in t at Union is x = union_member_name_collision (t, (x.0, (at, is, x.1.0, x.1.1)))
  sound_in t at Enum is x = enum_value_name_collision (t, (x.0, (at, is, x.1.0, x.1.1)))
  sound_in t at InputObject is x = input_field_name_collision (t, (x.0, (at, is, x.1.0, x.1.1)))

  same_self : (k : TypeKind) → same_kind k k ≡ true
  same_self Scalar = refl
  same_self Object = refl
  same_self Interface = refl
  same_self Union = refl
  same_self Enum = refl
  same_self InputObject = refl

  pub types_sound : Contains (faults_of_types first all) f → FailsInType built_in texts first f
  types_sound h =
      let p = from_flat_map (faults_of_type (numbered first all)) (firsts type_name (types_in all)) f h in
      sound_in p.0 p.1.0 p.0.parts.kind (same_self p.0.parts.kind)
      (told_sound (type_name p.0) (here p.0) f p.0.parts.kind (of_kind (numbered first all) all p.0 p.1.0) p.1.1)

  kinds_same : (a b : TypeKind) → same_kind a b ≡ true → a ≡ b
  kinds_same Scalar Scalar h = refl
  kinds_same Object Object h = refl
  kinds_same Interface Interface h = refl
  kinds_same Union Union h = refl
  kinds_same Enum Enum h = refl
  kinds_same InputObject InputObject h = refl
  kinds_same _ _ h = cc

  full_of : (t : TypeDefinition Place) (k : TypeKind) → Contains (firsts type_name (types_in all)) t → is_kind t k → ToldOf k (type_name t) (here t) f → Contains (faults_of_types first all) f
  full_of t k at is h = to_flat_map (faults_of_type (numbered first all)) (firsts type_name (types_in all)) t f at
      (subst (λ j. Contains (component_faults j (type_name t) (here t)) f) (sym (kinds_same t.parts.kind k is)) (told_full (type_name t) (here t) f k h))

  pub types_full : FailsInType built_in texts first f → Contains (faults_of_types first all) f
  types_full (duplicate_implements_interface_in_object (t, (g, (at, is, again, e)))) = full_of t Object at is (inl (g, (again, e)))
  types_full (duplicate_implements_interface_in_interface (t, (g, (at, is, again, e)))) = full_of t Interface at is (inl (g, (again, e)))
  types_full (object_field_name_collision (t, (g, (at, is, again, e)))) = full_of t Object at is (inr (g, (again, e)))
  types_full (interface_field_name_collision (t, (g, (at, is, again, e)))) = full_of t Interface at is (inr (g, (again, e)))
  types_full (enum_value_name_collision (t, (g, (at, is, again, e)))) = full_of t Enum at is (g, (again, e))
  types_full (union_member_name_collision (t, (g, (at, is, again, e)))) = full_of t Union at is (g, (again, e))
  types_full (input_field_name_collision (t, (g, (at, is, again, e)))) = full_of t InputObject at is (g, (again, e))

  -- what the folds of all types tell
  pub types_tell : Contains (faults_of_types first all) f ↔ FailsInType built_in texts first f
  types_tell = (types_sound, types_full)

  -- ---- variant by variant

  abbrev Named : BuildFault → Type 0
  Named z = ComponentRule built_in texts first z.breach z

  named_sound : FailsInType built_in texts first f → Named f
  named_sound (duplicate_implements_interface_in_object (t, (g, (at, is, again, e)))) = subst Named (sym e) (t, (g, (at, is, again, refl)))
  named_sound (duplicate_implements_interface_in_interface (t, (g, (at, is, again, e)))) = subst Named (sym e) (t, (g, (at, is, again, refl)))
  named_sound (object_field_name_collision (t, (g, (at, is, again, e)))) = subst Named (sym e) (t, (g, (at, is, again, refl)))
  named_sound (interface_field_name_collision (t, (g, (at, is, again, e)))) = subst Named (sym e) (t, (g, (at, is, again, refl)))
  named_sound (enum_value_name_collision (t, (g, (at, is, again, e)))) = subst Named (sym e) (t, (g, (at, is, again, refl)))
  named_sound (union_member_name_collision (t, (g, (at, is, again, e)))) = subst Named (sym e) (t, (g, (at, is, again, refl)))
  named_sound (input_field_name_collision (t, (g, (at, is, again, e)))) = subst Named (sym e) (t, (g, (at, is, again, refl)))

  named_full : (b : Breach) → ComponentRule built_in texts first b f → FailsInType built_in texts first f
  named_full (breach.DuplicateImplementsInterfaceInObject t n) h = duplicate_implements_interface_in_object h
  named_full (breach.DuplicateImplementsInterfaceInInterface t n) h = duplicate_implements_interface_in_interface h
  named_full (breach.ObjectFieldNameCollision t n) h = object_field_name_collision h
  named_full (breach.InterfaceFieldNameCollision t n) h = interface_field_name_collision h
  named_full (breach.EnumValueNameCollision t n) h = enum_value_name_collision h
  named_full (breach.UnionMemberNameCollision t n) h = union_member_name_collision h
  named_full (breach.InputFieldNameCollision t n) h = input_field_name_collision h
  named_full _ h = absurd h

  -- a fault is told exactly when the rule that its breach names is broken so
  pub rules_tell : Contains (faults_of_types first all) f ↔ ComponentRule built_in texts first f.breach f
  rules_tell = (λ h. named_sound (types_sound h), λ h. types_full (named_full f.breach h))
