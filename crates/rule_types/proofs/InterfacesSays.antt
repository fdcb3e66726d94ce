-- The lists of faults tell the rules on interfaces, one lemma for each rule and place.
use Rattle.std.proofs.Common.{◌≡◌, ◌≢◌, ℕ, ◌⊎◌, ◌↔◌, ◌&&◌, Bool, true, false, List, [], ◌∷◌, map, refl, sym, ap, subst, ◌∙◌, inl, inr, is_none, Option, None, Some, slice_get, if◌then◌else◌, true≢false}
use Rattle.std.specs.Prelude.{option_and_then}
use Rattle.std.specs.List.{flat_map, find}
use Rattle.std.specs.Option.{option_map, option_map_or}
use Rattle.std.specs.Str.{bytes_eq}
use Rattle.std.proofs.lemmas.Option.{same_Some}
use Rattle.std.proofs.lemmas.Slice.Eq.{bytes_eq-Decides}
use Rattle.graphql_names.specs.Placed.{Placed, Place, Text, unplaced_node}
use Rattle.tree_literals.specs.TypeTree.{TypeTree, NamedTree, NonNullNamedTree, ListTree, NonNullListTree, unplaced_type}
use Rattle.tree_literals.specs.TypeQueries.{has_mark}
use Rattle.tree_literals.specs.ValueTree.{unplaced_value}
use Rattle.tree_directives.specs.DirectiveTree.{InputValueTree, unplaced_input_value}
use Rattle.tree_directives.specs.DirectiveQueries.{is_required_input}
use Rattle.tree_type_members.specs.TypeSystemTree.{unplaced_field_definition}
use Rattle.schema_components.specs.Lists.{is_among}
use Rattle.schema_components.specs.Given.{Given, given_name, plain_given}
use Rattle.schema_types.specs.SchemaTree.{SchemaType, SchemaTree, same_kind}
use Rattle.schema_types.specs.Looks.{TypeLooks}
use Rattle.schema_types.specs.Addresses.{Address, TypeAt, FieldAt, ImplementsAt, ArgumentAt, under, or_nothing, place_of, field_at, arguments_at, place_at}
use Rattle.schema_types.specs.declared.type_kind.TypeKind.{TypeKind}
use Rattle.schema_types.specs.declared.type_kind.TypeKind.TheVariants as kind
use Rattle.fault_data.specs.in_rule_definitions.Diagnostics.{UndefinedDefinition, RecursiveInterfaceDefinition, TransitiveImplementedInterfaces, MissingInterfaceField, InvalidImplementationFieldType, MissingInterfaceFieldArgument, InvalidImplementationFieldArgumentType, ExtraRequiredImplementationFieldArgument}
use Rattle.fault_data.specs.in_rule_definitions.Faults.{SchemaFault, wrong, told}
use Rattle.fault_data.specs.in_rule_definitions.Judged.{judged}
use Rattle.fault_data.specs.in_rule_definitions.Subtypes.{is_valid_type}
use Rattle.fault_data.specs.in_rule_definitions.Words.{Present, Among, Lacks, FirstNamed}
use Rattle.fault_data.specs.in_rule_definitions.PlacedFaults.{PlacedFault}
use Rattle.schema_types.specs.Distinct.{ArePartsDistinct}
use Rattle.fault_data.proofs.in_rule_definitions.Tells.{Tells, tells_same, tells_both, tells_nothing, tells_one, tells_when, tells_unless, tells_names, tells_entries, tells_index}
use Rattle.fault_data.proofs.Judgings.{type_seen, type_look, interface_look, field_look, field_there, listed_there}
use Rattle.rule_types.specs.InterfaceFaults.{Field, Input, plain, same_type, recursive_interface_definition, undefined_interface, transitive_implemented_interfaces, missing_interface_field, invalid_implementation_field_type, missing_interface_field_argument, extra_required_argument, invalid_implementation_field_argument_type, wanted_fault, own_fault, arguments_faults, implementation_faults, field_faults, fields_faults, over_faults, interface_faults, type_faults}
use Rattle.rule_types.proofs.Says.{Is, says}
use Rattle.rule_types.proofs.SameTypes.{same_type-Decides}
use Rattle.rule_types.proofs.TellsFirst.{tells_first}
use Rattle.rule_types.proofs.InterfacesByPlace.{HasOtherType, LacksArgument, HasOtherArgument, HasExtraArgument, ImplementationBreaks, ImplementsItself, IsNoInterface, LacksInterface, FieldBreaks, OverBreaks, InterfaceBreaks}

is_interface : (k : TypeKind) → (same_kind k kind.Interface ≡ true) ↔ (k ≡ kind.Interface)
is_interface kind.Scalar = (λ e. absurd (true≢false (sym e)), λ p. cc)
is_interface kind.Object = (λ e. absurd (true≢false (sym e)), λ p. cc)
is_interface kind.Interface = (λ e. refl, λ p. refl)
is_interface kind.Union = (λ e. absurd (true≢false (sym e)), λ p. cc)
is_interface kind.Enum = (λ e. absurd (true≢false (sym e)), λ p. cc)
is_interface kind.InputObject = (λ e. absurd (true≢false (sym e)), λ p. cc)

-- an argument is required whatever its places
mark_unplaced : (ty : TypeTree Place) → has_mark (unplaced_type ty) ≡ has_mark ty
mark_unplaced (NamedTree n) = refl
mark_unplaced (NonNullNamedTree n) = refl
mark_unplaced (ListTree t) = refl
mark_unplaced (NonNullListTree t) = refl

none_mapped : {X Y : Type 0} (f : X → Y) (o : Option X) → is_none (option_map f o) ≡ is_none o
none_mapped f None = refl
none_mapped f (Some x) = refl

required_unplaced : (v : InputValueTree Place) → is_required_input (unplaced_input_value v) ≡ is_required_input v
required_unplaced v = λ i. mark_unplaced v.ty.it i && none_mapped (unplaced_node unplaced_value) v.default_value i

other_type : (a b : TypeTree (Unit {0})) → (same_type a b ≡ false) ↔ (a ≢ b)
other_type a b = (λ e same. true≢false (sym ((same_type-Decides a b).1 same) ∙ e), λ differ. by (same_type a b) refl differ)
  where
    by : (c : Bool) → same_type a b ≡ c → (a ≢ b) → c ≡ false
    by false e differ = refl
    by true e differ = absurd (differ ((same_type-Decides a b).0 e))

module _ (s : SchemaTree Place) where
  -- what a type lists, and itself
  listed_place : (n : List ℕ) (t : SchemaType Place) → under n s.types ≡ Some t → (g : Given Place (Text Place)) → find (λ y. bytes_eq (given_name g) (given_name y)) t.interfaces ≡ Some g → g.it.place ≡ place_at s (ImplementsAt n g.it.it)
  listed_place n t there g has = sym (ap place_of (listed_there s n t there g.it.it (λ (x : SchemaType Place). x.interfaces) g has))

  type_place : (n : List ℕ) (t : SchemaType Place) → under n s.types ≡ Some t → t.place ≡ place_at s (TypeAt n)
  type_place n t there = sym (ap (λ o. or_nothing (option_map (λ (x : SchemaType Place). x.place) o)) there)

  -- ---- a field of a type and one of an interface

  -- where it stands
  record StandsAs (at : Address) (f : Field) : Type 0 where
    here : f.place ≡ place_at s at
    arguments : arguments_at s at ≡ f.it.arguments

  field_stands : (n m : List ℕ) (f : Field) → field_at s n m ≡ Some f → StandsAs (FieldAt n m) f
  field_stands n m f found = record { here = sym (ap place_of found); arguments = ap (λ o. option_map_or (λ (x : Field). x.it.arguments) o []) found }

  argument_place : (at : Address) (f : Field) → StandsAs at f → (k : ℕ) (v : Input) → slice_get f.it.arguments k ≡ Some v → v.place ≡ place_at s (ArgumentAt at k)
  argument_place at f stands k v there = sym (ap place_of (ap (λ l. slice_get l k) stands.arguments ∙ there))

  module _ (n i m : List ℕ) (wanted field : Field) (of_interface : StandsAs (FieldAt i m) wanted) (own : StandsAs (FieldAt n m) field) where
    says_type_of_field : Tells (Is s) (invalid_implementation_field_type n i m wanted field s) (λ y. HasOtherType (judged s) y n i m (unplaced_field_definition wanted.it) (unplaced_field_definition field.it))
    says_type_of_field =
        let w = plain wanted.it.ty in
        let f = plain field.it.ty in
        tells_unless (Is s) (is_valid_type (judged s) w f) (wrong field.place (InvalidImplementationFieldType n i m w f field.place wanted.place))
        (told (FieldAt n m) (InvalidImplementationFieldType n i m w f (FieldAt n m) (FieldAt i m)))
        (says s (FieldAt n m) (InvalidImplementationFieldType n i m w f (FieldAt n m) (FieldAt i m)) (wrong field.place (InvalidImplementationFieldType n i m w f field.place wanted.place)) own.here
        (λ k. InvalidImplementationFieldType n i m w f (own.here k) (of_interface.here k)))

    -- an argument of the interface's field
    abbrev WantedBreaks : ℕ → Placed (Unit {0}) (InputValueTree (Unit {0})) → SchemaFault → Type 0
    WantedBreaks k w y =
        LacksArgument (judged s) y n i m (unplaced_field_definition wanted.it) (unplaced_field_definition field.it) k w ⊎ HasOtherArgument (judged s) y n i m (unplaced_field_definition wanted.it) (unplaced_field_definition field.it) k w

    says_wanted : (k : ℕ) (w : Input) → slice_get wanted.it.arguments k ≡ Some w → Tells (Is s) (wanted_fault n i m wanted field field.it.arguments w) (WantedBreaks k (unplaced_node unplaced_input_value w))
    says_wanted k w there =
        tells_first (Is s) (unplaced_node unplaced_input_value) (λ v. v.it.name.it) w.it.name.it field.it.arguments (λ v. invalid_implementation_field_argument_type n i m w v) (missing_interface_field_argument n i m wanted field w)
        (λ j v y. (unplaced_type w.it.ty.it ≢ v.it.ty.it) × (y ≡ told (ArgumentAt (FieldAt n m) j) (InvalidImplementationFieldArgumentType n i m w.it.name.it (unplaced_type w.it.ty.it) v.it.ty.it (ArgumentAt (FieldAt n m) j) (ArgumentAt (FieldAt i m) k))))
        (λ y. y ≡ told (FieldAt n m) (MissingInterfaceFieldArgument n i m w.it.name.it (FieldAt n m) (ArgumentAt (FieldAt i m) k)))
        lacking other
      where
        place : w.place ≡ place_at s (ArgumentAt (FieldAt i m) k)
        place = argument_place (FieldAt i m) wanted of_interface k w there

        lacking : Tells (Is s) (missing_interface_field_argument n i m wanted field w) (λ y. y ≡ told (FieldAt n m) (MissingInterfaceFieldArgument n i m w.it.name.it (FieldAt n m) (ArgumentAt (FieldAt i m) k)))
        lacking =
            let x = wrong field.place (MissingInterfaceFieldArgument n i m w.it.name.it field.place w.place) in
            let g = told (FieldAt n m) (MissingInterfaceFieldArgument n i m w.it.name.it (FieldAt n m) (ArgumentAt (FieldAt i m) k)) in
            tells_same (Is s) (x ∷ []) (λ y. Unit {0} × (y ≡ g)) (λ y. y ≡ g) (λ y. (λ r. r.1, λ r. (tt, r)))
            (tells_one (Is s) (Unit {0}) x g tt (says s (FieldAt n m) (MissingInterfaceFieldArgument n i m w.it.name.it (FieldAt n m) (ArgumentAt (FieldAt i m) k)) x own.here (λ l. MissingInterfaceFieldArgument n i m w.it.name.it (own.here l) (place l))))

        other : (j : ℕ) (v : Input) → slice_get field.it.arguments j ≡ Some v → v.it.name.it ≡ w.it.name.it
            → Tells (Is s) (invalid_implementation_field_argument_type n i m w v) (λ y. (unplaced_type w.it.ty.it ≢ unplaced_type v.it.ty.it) × (y ≡ told (ArgumentAt (FieldAt n m) j) (InvalidImplementationFieldArgumentType n i m w.it.name.it (unplaced_type w.it.ty.it) (unplaced_type v.it.ty.it) (ArgumentAt (FieldAt n m) j) (ArgumentAt (FieldAt i m) k))))
        other j v at named =
            let a = unplaced_type w.it.ty.it in
            let b = unplaced_type v.it.ty.it in
            let own_place : v.place ≡ place_at s (ArgumentAt (FieldAt n m) j) = argument_place (FieldAt n m) field own j v at in
            let x = wrong v.place (InvalidImplementationFieldArgumentType n i m w.it.name.it a b v.place w.place) in
            let breach = InvalidImplementationFieldArgumentType n i m w.it.name.it a b (ArgumentAt (FieldAt n m) j) (ArgumentAt (FieldAt i m) k) in
            let g = told (ArgumentAt (FieldAt n m) j) breach in
            tells_same (Is s) (if same_type a b then [] else x ∷ []) (λ y. (same_type a b ≡ false) × (y ≡ g)) (λ y. (a ≢ b) × (y ≡ g)) (λ y. (λ r. ((other_type a b).0 r.0, r.1), λ r. ((other_type a b).1 r.0, r.1)))
            (tells_unless (Is s) (same_type a b) x g (says s (ArgumentAt (FieldAt n m) j) breach x own_place (λ l. InvalidImplementationFieldArgumentType n i m w.it.name.it a b (own_place l) (place l))))

    -- an argument of the type's field
    says_extra : (j : ℕ) (v : Input) → slice_get field.it.arguments j ≡ Some v
        → Tells (Is s) (own_fault n i m wanted field wanted.it.arguments v) (λ y. HasExtraArgument (judged s) y n i m (unplaced_field_definition wanted.it) (unplaced_field_definition field.it) j (unplaced_node unplaced_input_value v))
    says_extra j v there =
        tells_same (Is s) (own_fault n i m wanted field wanted.it.arguments v) (λ y. (Lacks (λ (w : Placed (Unit {0}) (InputValueTree (Unit {0}))). w.it.name.it) ws v.it.name.it × Required y) ⊎ FirstNamed (λ (w : Placed (Unit {0}) (InputValueTree (Unit {0}))). w.it.name.it) ws v.it.name.it (λ k w. ⊥)) _
        (λ y. (λ h. elim h [ inl r ↦ r | inr p ↦ absurd p.1.1.1.1.1 ], inl))
        (tells_first (Is s) (unplaced_node unplaced_input_value) (λ w. w.it.name.it) v.it.name.it wanted.it.arguments (λ w. []) (extra_required_argument n i m wanted field v) (λ k w y. ⊥) Required required
        (λ k w at named. tells_nothing (Is s) (λ y. ⊥) (λ y h. h)))
      where
        ws : List (Placed (Unit {0}) (InputValueTree (Unit {0})))
        ws = map (unplaced_node unplaced_input_value) wanted.it.arguments

        Required : SchemaFault → Type 0
        Required y = (is_required_input (unplaced_input_value v.it) ≡ true) × (y ≡ told (ArgumentAt (FieldAt n m) j) (ExtraRequiredImplementationFieldArgument n i m v.it.name.it (ArgumentAt (FieldAt n m) j) (FieldAt i m)))

        required : Tells (Is s) (extra_required_argument n i m wanted field v) Required
        required =
            let place : v.place ≡ place_at s (ArgumentAt (FieldAt n m) j) = argument_place (FieldAt n m) field own j v there in
            let x = wrong v.place (ExtraRequiredImplementationFieldArgument n i m v.it.name.it v.place wanted.place) in
            let breach = ExtraRequiredImplementationFieldArgument n i m v.it.name.it (ArgumentAt (FieldAt n m) j) (FieldAt i m) in
            let g = told (ArgumentAt (FieldAt n m) j) breach in
            tells_same (Is s) (if is_required_input v.it then x ∷ [] else []) (λ y. (is_required_input v.it ≡ true) × (y ≡ g)) Required
            (λ y. (λ r. (required_unplaced v.it ∙ r.0, r.1), λ r. (sym (required_unplaced v.it) ∙ r.0, r.1)))
            (tells_when (Is s) (is_required_input v.it) x g (says s (ArgumentAt (FieldAt n m) j) breach x place (λ l. ExtraRequiredImplementationFieldArgument n i m v.it.name.it (place l) (of_interface.here l))))

    says_implementation : Tells (Is s) (implementation_faults s n i m wanted field) (λ y. ImplementationBreaks (judged s) y n i m (unplaced_field_definition wanted.it) (unplaced_field_definition field.it))
    says_implementation =
        tells_both (Is s) (invalid_implementation_field_type n i m wanted field s) (arguments_faults n i m wanted field) _ _ says_type_of_field
        (tells_both (Is s) (flat_map (wanted_fault n i m wanted field field.it.arguments) wanted.it.arguments) (flat_map (own_fault n i m wanted field wanted.it.arguments) field.it.arguments) _ _
        (tells_index (Is s) (unplaced_node unplaced_input_value) wanted.it.arguments (wanted_fault n i m wanted field field.it.arguments) WantedBreaks says_wanted)
        (tells_index (Is s) (unplaced_node unplaced_input_value) field.it.arguments (own_fault n i m wanted field wanted.it.arguments)
        (λ j v y. HasExtraArgument (judged s) y n i m (unplaced_field_definition wanted.it) (unplaced_field_definition field.it) j v) says_extra))

  -- ---- a type n over an interface i that it lists

  module _ (n : List ℕ) (t : SchemaType Place) (there : under n s.types ≡ Some t) (i : Text Place) (here : i.place ≡ place_at s (ImplementsAt n i.it)) where
    says_recursive : Tells (Is s) (recursive_interface_definition n t i) (λ y. ImplementsItself (judged s) y n (type_seen t) i.it)
    says_recursive = by (same_kind t.kind kind.Interface) refl (bytes_eq i.it n) refl
      where
        x : PlacedFault
        x = wrong i.place (RecursiveInterfaceDefinition n)

        by : (b : Bool) → same_kind t.kind kind.Interface ≡ b → (c : Bool) → bytes_eq i.it n ≡ c → Tells (Is s) (if b then (if c then x ∷ [] else []) else []) (λ y. ImplementsItself (judged s) y n (type_seen t) i.it)
        by false e c d = tells_nothing (Is s) (λ y. ImplementsItself (judged s) y n (type_seen t) i.it) (λ y r. true≢false (sym ((is_interface t.kind).1 r.0) ∙ e))
        by true e false d = tells_nothing (Is s) (λ y. ImplementsItself (judged s) y n (type_seen t) i.it) (λ y r. true≢false (sym ((bytes_eq-Decides i.it n).1 r.1.0) ∙ d))
        by true e true d =
            let same : i.it ≡ n = (bytes_eq-Decides i.it n).0 d in
            let g = told (ImplementsAt n n) (RecursiveInterfaceDefinition n) in
            tells_same (Is s) (x ∷ []) (λ y. (i.it ≡ n) × (y ≡ g)) (λ y. ImplementsItself (judged s) y n (type_seen t) i.it) (λ y. (λ r. ((is_interface t.kind).0 e, r), λ r. r.1))
            (tells_one (Is s) (i.it ≡ n) x g same (says s (ImplementsAt n n) (RecursiveInterfaceDefinition n) x (here ∙ ap (λ m. place_at s (ImplementsAt n m)) same) refl))

    module _ (over : SchemaType Place) (is_there : under i.it s.types ≡ Some over) where
      says_transitive : (g : Given Place (Text Place)) → find (λ y. bytes_eq (given_name g) (given_name y)) over.interfaces ≡ Some g
          → Tells (Is s) (transitive_implemented_interfaces n t i g.it) (λ y. LacksInterface (judged s) y n (type_seen t) i.it (type_seen over) (given_name g))
      says_transitive g has =
          let m = g.it.it in
          let place : g.it.place ≡ place_at s (ImplementsAt i.it m) = listed_place i.it over is_there g has in
          let b = is_among m (map given_name t.interfaces) in
          let x = wrong t.place (TransitiveImplementedInterfaces n i.it g.it.place m) in
          let breach = TransitiveImplementedInterfaces n i.it (ImplementsAt i.it m) m in
          let f = told (TypeAt n) breach in
          tells_same (Is s) (if b then [] else x ∷ []) (λ y. (b ≡ false) × (y ≡ f)) (λ y. LacksInterface (judged s) y n (type_seen t) i.it (type_seen over) m)
          (λ y. (λ r. (interface_look t m ∙ r.0, r.1), λ r. (sym (interface_look t m) ∙ r.0, r.1)))
          (tells_unless (Is s) b x f (says s (TypeAt n) breach x (type_place n t there) (λ l. TransitiveImplementedInterfaces n i.it (place l) m)))

      says_field : (m : List ℕ) (g : Given Place Field) → under m over.fields ≡ Some g → Tells (Is s) (field_faults s n t i m g.it) (λ y. FieldBreaks (judged s) y n (type_seen t) i.it m (plain_given unplaced_field_definition g))
      says_field m g has = by (under m t.fields) refl
        where
          of_interface : StandsAs (FieldAt i.it m) g.it
          of_interface = field_stands i.it m g.it (field_there s i.it over is_there m g has)

          Breaks : SchemaFault → Type 0
          Breaks y = FieldBreaks (judged s) y n (type_seen t) i.it m (plain_given unplaced_field_definition g)

          by : (o : Option (Given Place Field)) → under m t.fields ≡ o
              → Tells (Is s) (option_map_or (λ field. implementation_faults s n i.it m g.it field) (option_map (λ (h : Given Place Field). h.it) o) (missing_interface_field n t i m g.it)) Breaks
          by None e =
              let x = wrong t.place (MissingInterfaceField n i.place i.it m g.it.place) in
              let breach = MissingInterfaceField n (ImplementsAt n i.it) i.it m (FieldAt i.it m) in
              let none : (type_seen t).field m ≡ None = field_look t m ∙ ap (option_map (plain_given unplaced_field_definition)) e in
              tells_same (Is s) (x ∷ []) (λ y. ((type_seen t).field m ≡ None) × (y ≡ told (TypeAt n) breach)) Breaks (λ y. (inl, λ h. elim h [ inl r ↦ r | inr p ↦ (let c : None ≡ Some p.0 = sym none ∙ p.1.0 in cc) ]))
              (tells_one (Is s) ((type_seen t).field m ≡ None) x (told (TypeAt n) breach) none (says s (TypeAt n) breach x (type_place n t there) (λ l. MissingInterfaceField n (here l) i.it m (of_interface.here l))))
          by (Some h) e =
              let one : (type_seen t).field m ≡ Some (plain_given unplaced_field_definition h) = field_look t m ∙ ap (option_map (plain_given unplaced_field_definition)) e in
              tells_same (Is s) (implementation_faults s n i.it m g.it h.it) (λ y. ImplementationBreaks (judged s) y n i.it m (unplaced_field_definition g.it.it) (unplaced_field_definition h.it.it)) Breaks
              (λ y. (
                λ r. inr (plain_given unplaced_field_definition h, (one, r)),
                λ q. elim q [
                  | inl r ↦ (let c : None ≡ Some (plain_given unplaced_field_definition h) = sym r.0 ∙ one in cc)
                  | inr p ↦ subst (λ f. ImplementationBreaks (judged s) y n i.it m (unplaced_field_definition g.it.it) f) (same_Some _ _ (sym p.1.0 ∙ one)) p.1.1
                ],
              ))
              (says_implementation n i.it m g.it h.it of_interface (field_stands n m h.it (field_there s n t there m h e)))

      says_over : ArePartsDistinct over → Tells (Is s) (over_faults s n t i over) (λ y. OverBreaks (judged s) y n (type_seen t) i.it (type_seen over))
      says_over distinct =
          tells_both (Is s) (flat_map (λ g. transitive_implemented_interfaces n t i g.it) over.interfaces) (fields_faults s n t i over.fields) _ _
          (tells_names (Is s) given_name over.interfaces distinct.interfaces (type_seen over).implements (interface_look over) (λ g. transitive_implemented_interfaces n t i g.it)
          (λ m y. LacksInterface (judged s) y n (type_seen t) i.it (type_seen over) m) says_transitive)
          (tells_entries (Is s) (plain_given unplaced_field_definition) over.fields distinct.fields (type_seen over).field (field_look over) (λ m g. field_faults s n t i m g.it)
          (λ m wanted y. FieldBreaks (judged s) y n (type_seen t) i.it m wanted) says_field)

    -- the interface is there and is one, or not
    abbrev OverOrNot : SchemaFault → Type 0
    OverOrNot y = IsNoInterface (judged s) y n (type_seen t) i.it ⊎ Present ((judged s).type_named i.it) (λ over. (over.kind ≡ kind.Interface) × OverBreaks (judged s) y n (type_seen t) i.it over)

    says_none : (Present ((judged s).type_named i.it) (λ over. over.kind ≡ kind.Interface) → ⊥) → Tells (Is s) (undefined_interface i) OverOrNot
    says_none none =
        let x = wrong i.place (UndefinedDefinition i.it) in
        let g = told (ImplementsAt n i.it) (UndefinedDefinition i.it) in
        tells_same (Is s) (x ∷ []) (λ y. IsNoInterface (judged s) y n (type_seen t) i.it) OverOrNot (λ y. (inl, λ h. elim h [ inl r ↦ r | inr p ↦ absurd (none (p.0, (p.1.0, p.1.1.0))) ]))
        (tells_one (Is s) (Present ((judged s).type_named i.it) (λ over. over.kind ≡ kind.Interface) → ⊥) x g none (says s (ImplementsAt n i.it) (UndefinedDefinition i.it) x here refl))

    says_over_or_not : ((over : SchemaType Place) → under i.it s.types ≡ Some over → ArePartsDistinct over)
        → Tells (Is s) (option_map_or (λ over. over_faults s n t i over) (option_and_then (λ x. if same_kind x.kind kind.Interface then Some x else None) (under i.it s.types)) (undefined_interface i)) OverOrNot
    says_over_or_not distinct = by (under i.it s.types) refl
      where
        by_kind : (over : SchemaType Place) → under i.it s.types ≡ Some over → (b : Bool) → same_kind over.kind kind.Interface ≡ b
            → Tells (Is s) (option_map_or (λ over. over_faults s n t i over) (if b then Some over else None) (undefined_interface i)) OverOrNot
        by_kind over e false f =
            says_none (λ p.
            let same : p.0 ≡ type_seen over = same_Some _ _ (sym p.1.0 ∙ type_look s i.it ∙ ap (option_map type_seen) e) in
            true≢false (sym ((is_interface over.kind).1 (sym (ap (λ (x : TypeLooks). x.kind) same) ∙ p.1.1)) ∙ f))
        by_kind over e true f =
            let seen : (judged s).type_named i.it ≡ Some (type_seen over) = type_look s i.it ∙ ap (option_map type_seen) e in
            let is : over.kind ≡ kind.Interface = (is_interface over.kind).0 f in
            tells_same (Is s) (over_faults s n t i over) (λ y. OverBreaks (judged s) y n (type_seen t) i.it (type_seen over)) OverOrNot
            (λ y. (
              λ r. inr (type_seen over, (seen, (is, r))),
              λ q. elim q [
                | inl r ↦ absurd (r.0 (type_seen over, (seen, is)))
                | inr p ↦ subst (λ x. OverBreaks (judged s) y n (type_seen t) i.it x) (same_Some _ _ (sym p.1.0 ∙ seen)) p.1.1.1
              ],
            ))
            (says_over over e (distinct over e))

        by : (o : Option (SchemaType Place)) → under i.it s.types ≡ o
            → Tells (Is s) (option_map_or (λ over. over_faults s n t i over) (option_and_then (λ x. if same_kind x.kind kind.Interface then Some x else None) o) (undefined_interface i)) OverOrNot
        by None e = says_none (λ p. let c : None ≡ Some p.0 = sym (type_look s i.it ∙ ap (option_map type_seen) e) ∙ p.1.0 in cc)
        by (Some over) e = by_kind over e (same_kind over.kind kind.Interface) refl

  -- a type over all that it lists
  pub says_interfaces : (n : List ℕ) (t : SchemaType Place) → under n s.types ≡ Some t → ArePartsDistinct t → ((m : List ℕ) (over : SchemaType Place) → under m s.types ≡ Some over → ArePartsDistinct over)
      → Tells (Is s) (type_faults s n t) (λ y. Among (type_seen t).implements (λ i. InterfaceBreaks (judged s) y n (type_seen t) i))
  says_interfaces n t there distinct parts =
      tells_names (Is s) given_name t.interfaces distinct.interfaces (type_seen t).implements (interface_look t) (interface_faults s n t) (λ i y. InterfaceBreaks (judged s) y n (type_seen t) i) (λ g has.
      let here : g.it.place ≡ place_at s (ImplementsAt n g.it.it) = listed_place n t there g has in
      tells_both (Is s) (recursive_interface_definition n t g.it) _ _ _ (says_recursive n t there g.it here) (says_over_or_not n t there g.it here (parts g.it.it)))
