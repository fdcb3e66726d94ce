-- What input objects refer to by number is what the rules read.
use Rattle.std.proofs.Common.{◌≡◌, ℕ, Bool, true, false, if◌then◌else◌, List, [], slice_get, Option, None, Some, refl, sym, ap, subst, ◌∙◌, true≢false}
use Rattle.std.specs.Prelude.{Contains}
use Rattle.std.specs.Option.{option_map, option_map_or}
use Rattle.std.proofs.lemmas.Option.{same_Some}
use Rattle.graphql_names.specs.Placed.{Placed, Place, Text, unplaced_text}
use Rattle.tree_literals.specs.TypeTree.{TypeTree, NamedTree, NonNullNamedTree, ListTree, NonNullListTree, unplaced_type}
use Rattle.tree_directives.specs.DirectiveTree.{InputValueTree, unplaced_input_value}
use Rattle.schema_components.specs.Given.{Given, plain_given}
use Rattle.schema_types.specs.SchemaTree.{SchemaType, SchemaTree, same_kind}
use Rattle.schema_types.specs.Looks.{TypeLooks}
use Rattle.schema_types.specs.Addresses.{under, or_nothing, place_of, place_at, InputAt}
use Rattle.schema_types.specs.declared.type_kind.TypeKind.{TypeKind}
use Rattle.schema_types.specs.declared.type_kind.TypeKind.TheVariants as kind
use Rattle.fault_data.specs.in_rule_definitions.Diagnostics.{map_place}
use Rattle.fault_data.specs.in_rule_definitions.Spots.{At, spot_place}
use Rattle.fault_data.specs.in_rule_definitions.Judged.{judged}
use Rattle.fault_data.specs.in_rule_definitions.Cycles.{Referring, RefersToInput}
use Rattle.schema_types.specs.Distinct.{AreAllDistinct}
use Rattle.rule_cycles.specs.Numbers.{number_of, at_number, each_value, is_input_object_at, input_if, input_object_number, required_input, Field, referred, field_references, input_references}
use Rattle.rule_cycles.specs.Labels.{Labelled, targets}
use Rattle.rule_cycle_search.proofs.Lists.{only, index_given, mapped_some, not_in_nil}
use Rattle.fault_data.proofs.Judgings.{type_seen, type_look, input_look}
use Rattle.rule_cycles.proofs.Ways.{Contains-last}
use Rattle.rule_cycles.proofs.Transport.{IsSoundView, target_there}
use Rattle.rule_cycles.proofs.Entries.{number_given, number_there, under_at, under_given, each_found, each_given, one_number}

pub is_input : (k : TypeKind) → same_kind k kind.InputObject ≡ true → k ≡ kind.InputObject
is_input kind.Scalar h = absurd (true≢false (sym h))
is_input kind.Object h = absurd (true≢false (sym h))
is_input kind.Interface h = absurd (true≢false (sym h))
is_input kind.Union h = absurd (true≢false (sym h))
is_input kind.Enum h = absurd (true≢false (sym h))
is_input kind.InputObject h = refl

-- the name of a reference that is none to a list
abbrev outer_name : TypeTree (Unit {0}) → List ℕ
outer_name (NamedTree n) = n.it
outer_name (NonNullNamedTree n) = n.it
outer_name (ListTree t) = []
outer_name (NonNullListTree t) = []

-- the place of an input field
pub input_place : (s : SchemaTree Place) (n m : List ℕ) (t : SchemaType Place) (g : Given Place (Placed Place (InputValueTree Place))) → under n s.types ≡ Some t → under m t.inputs ≡ Some g → place_at s (InputAt n m) ≡ g.it.place
input_place s n m t g there has =
    ap place_of (ap (λ o. or_nothing (option_map (λ (x : SchemaType Place). option_map (λ (y : Given Place (Placed Place (InputValueTree Place))). y.it) (under m x.inputs)) o)) there
    ∙ ap (option_map (λ (y : Given Place (Placed Place (InputValueTree Place))). y.it)) has)

module _ (s : SchemaTree Place) (distinct : AreAllDistinct s) where
  abbrev pub Refs : ℕ → Labelled Field
  Refs i = at_number (input_references s.types) s.types i

  abbrev pub name_at : ℕ → Option (List ℕ)
  name_at i = option_map (λ e. e.0) (slice_get s.types i)

  abbrev pub number_at : List ℕ → Option ℕ
  number_at n = number_of n s.types

  abbrev pub tells : Referring (InputValueTree (Unit {0})) → Placed Place (InputValueTree (Unit {0}))
  tells r = map_place (spot_place s) r

  abbrev pub says : Field → Placed Place (InputValueTree (Unit {0}))
  says v = record { it = unplaced_input_value v.it; place = v.place }

  -- what is at a number stands under its name
  pub there : (i : ℕ) (n : List ℕ) (t : SchemaType Place) → slice_get s.types i ≡ Some (n, t) → (judged s).type_named n ≡ Some (type_seen t)
  there i n t h = type_look s n ∙ ap (option_map type_seen) (under_at s.types distinct.types i n t h)

  -- the input object of which one is required
  required_given : (ty : TypeTree Place) (r : ℕ) → required_input s.types ty ≡ Some r
      → (name : Text Place) × ((ty ≡ NonNullNamedTree name) × ((u : SchemaType Place) × ((slice_get s.types r ≡ Some (name.it, u)) × (u.kind ≡ kind.InputObject))))
  required_given (NamedTree n) r h = cc
  required_given (ListTree t) r h = cc
  required_given (NonNullListTree t) r h = cc
  required_given (NonNullNamedTree n) r h = by (number_of n.it s.types) refl h
    where
      by_kind : (k : ℕ) (b : Bool) → number_of n.it s.types ≡ Some k → is_input_object_at s.types k ≡ b → (if b then Some k else None) ≡ Some r
          → (name : Text Place) × ((NonNullNamedTree n ≡ NonNullNamedTree name) × ((u : SchemaType Place) × ((slice_get s.types r ≡ Some (name.it, u)) × (u.kind ≡ kind.InputObject))))
      by_kind k false e f q = cc
      by_kind k true e f q =
          let at : (v : SchemaType Place) × (slice_get s.types k ≡ Some (n.it, v)) = number_given n.it s.types k e in
          let k_is : same_kind at.0.kind kind.InputObject ≡ true = sym (ap (λ o. option_map_or (λ (x : List ℕ × SchemaType Place). same_kind x.1.kind kind.InputObject) o false) at.1) ∙ f in
          (n, (refl, (at.0, (subst (λ z. slice_get s.types z ≡ Some (n.it, at.0)) (same_Some k r q) at.1, is_input at.0.kind k_is))))

      by : (o : Option ℕ) → number_of n.it s.types ≡ o → input_if s.types o ≡ Some r
          → (name : Text Place) × ((NonNullNamedTree n ≡ NonNullNamedTree name) × ((u : SchemaType Place) × ((slice_get s.types r ≡ Some (name.it, u)) × (u.kind ≡ kind.InputObject))))
      by None e q = cc
      by (Some k) e q = by_kind k (is_input_object_at s.types k) e refl q

  -- a field by which a type refers
  field_given : (t : SchemaType Place) (j : ℕ) (l : Field) → Contains (input_references s.types t) (j, l)
      → (t.kind ≡ kind.InputObject) × ((k : ℕ) × ((m : List ℕ) × ((g : Given Place Field) × ((slice_get t.inputs k ≡ Some (m, g)) × ((g.it ≡ l) × (required_input s.types l.it.ty.it ≡ Some j))))))
  field_given t j l c = by (same_kind t.kind kind.InputObject) refl c
    where
      chosen : (g : Given Place Field) (o : Option ℕ) → required_input s.types g.it.it.ty.it ≡ o → Contains (referred s.types o g.it) (j, l) → (g.it ≡ l) × (required_input s.types l.it.ty.it ≡ Some j)
      chosen g None e d = not_in_nil (j, l) d
      chosen g (Some r) e d =
          let same : (j, l) ≡ (r, g.it) = only (r, g.it) (j, l) d in
          let it : g.it ≡ l = sym (ap (λ x. x.1) same) in
          (it, ap (λ v. required_input s.types v.it.ty.it) (sym it) ∙ e ∙ ap (λ x. Some x.0) (sym same))

      by : (b : Bool) → same_kind t.kind kind.InputObject ≡ b → Contains (if b then each_value (λ g. field_references s.types g.it) t.inputs else []) (j, l)
          → (t.kind ≡ kind.InputObject) × ((k : ℕ) × ((m : List ℕ) × ((g : Given Place Field) × ((slice_get t.inputs k ≡ Some (m, g)) × ((g.it ≡ l) × (required_input s.types l.it.ty.it ≡ Some j))))))
      by false e d = not_in_nil (j, l) d
      by true e d =
          let f : (k : ℕ) × ((e : List ℕ × Given Place Field) × ((slice_get t.inputs k ≡ Some e) × Contains (field_references s.types e.1.it) (j, l))) = each_found (λ (g : Given Place Field). field_references s.types g.it) t.inputs (j, l) d in
          (is_input t.kind e, (f.0, (f.1.0.0, (f.1.0.1, (f.1.1.0, chosen f.1.0.1 (required_input s.types f.1.0.1.it.it.ty.it) refl f.1.1.1)))))

  refers : (i j : ℕ) (n : List ℕ) (t : SchemaType Place) (l : Field) → slice_get s.types i ≡ Some (n, t) → Contains (input_references s.types t) (j, l)
      → (to : List ℕ) × ((by : Referring (InputValueTree (Unit {0}))) × ((name_at j ≡ Some to) × (RefersToInput (judged s) n by to × (tells by ≡ says l))))
  refers i j n t l h c =
      let f : (t.kind ≡ kind.InputObject) × ((k : ℕ) × ((m : List ℕ) × ((g : Given Place Field) × ((slice_get t.inputs k ≡ Some (m, g)) × ((g.it ≡ l) × (required_input s.types l.it.ty.it ≡ Some j)))))) = field_given t j l c in
      let m = f.1.1.0 in
      let g = f.1.1.1.0 in
      let has : under m t.inputs ≡ Some g = under_at t.inputs (distinct.parts (n, t) (index_given s.types i (n, t) h)).inputs f.1.0 m g f.1.1.1.1.0 in
      let r : (name : Text Place) × ((l.it.ty.it ≡ NonNullNamedTree name) × ((u : SchemaType Place) × ((slice_get s.types j ≡ Some (name.it, u)) × (u.kind ≡ kind.InputObject)))) = required_given l.it.ty.it j f.1.1.1.1.1.1 in
      let it : g.it ≡ l = f.1.1.1.1.1.0 in (
        r.0.it,
        (
          record { it = unplaced_input_value g.it.it; place = At (InputAt n m) },
          (
            ap (option_map (λ (e : List ℕ × SchemaType Place). e.0)) r.1.1.1.0,
            (
              (
                type_seen t,
                (
                  there i n t h,
                  (
                    f.0,
                    (
                      (
                        m,
                        (
                          unplaced_input_value g.it.it,
                          (
                            input_look t m ∙ ap (option_map (plain_given unplaced_input_value)) has,
                            (refl, (unplaced_text r.0, (ap unplaced_type (ap (λ (v : Field). v.it.ty.it) it ∙ r.1.0), refl))),
                          ),
                        ),
                      ),
                      (type_seen r.1.1.0, (there j r.0.it r.1.1.0 r.1.1.1.0, r.1.1.1.1)),
                    ),
                  ),
                ),
              ),
              (λ z. record { it = unplaced_input_value (it z).it; place = (input_place s n m t g (under_at s.types distinct.types i n t h) has ∙ ap (λ (v : Field). v.place) it) z }),
            ),
          ),
        ),
      )

  pub input_sound : IsSoundView Refs name_at number_at (RefersToInput (judged s)) tells says
  input_sound i j l x h c = by (slice_get s.types i) refl h c
    where
      by : (o : Option (List ℕ × SchemaType Place)) → slice_get s.types i ≡ o → option_map (λ (e : List ℕ × SchemaType Place). e.0) o ≡ Some x
          → Contains (option_map_or (λ (e : List ℕ × SchemaType Place). input_references s.types e.1) o []) (j, l)
          → (to : List ℕ) × ((by : Referring (InputValueTree (Unit {0}))) × ((name_at j ≡ Some to) × (RefersToInput (judged s) x by to × (tells by ≡ says l))))
      by None e q d = cc
      by (Some y) e q d = refers i j x y.1 l (e ∙ (λ z. Some (same_Some y.0 x q z, y.1))) d

  -- ---- and the other way

  input_named : (t : TypeTree Place) (nm : Text (Unit {0})) → unplaced_type t ≡ NonNullNamedTree nm → (m : Text Place) × ((t ≡ NonNullNamedTree m) × (m.it ≡ nm.it))
  input_named (NamedTree n) nm h = cc
  input_named (NonNullNamedTree n) nm h = (n, (refl, ap outer_name h))
  input_named (ListTree t) nm h = cc
  input_named (NonNullListTree t) nm h = cc

  pub input_defined : (x y : List ℕ) (by : Referring (InputValueTree (Unit {0}))) → RefersToInput (judged s) x by y → (i : ℕ) × (number_at x ≡ Some i)
  input_defined x y by r =
      let t : (t : SchemaType Place) × ((under x s.types ≡ Some t) × (r.0 ≡ type_seen t)) = mapped_some type_seen (under x s.types) r.0 (sym (type_look s x) ∙ r.1.0) in
      let i : (i : ℕ) × (slice_get s.types i ≡ Some (x, t.0)) = under_given x s.types t.0 t.1.0 in
      number_there s.types (x, t.0) (index_given s.types i.0 (x, t.0) i.1)

  -- the type at a number, as it is seen by its name
  seen_at : (n : List ℕ) (i : ℕ) (l : TypeLooks) → number_at n ≡ Some i → (judged s).type_named n ≡ Some l → (t : SchemaType Place) × ((slice_get s.types i ≡ Some (n, t)) × (l ≡ type_seen t))
  seen_at n i l h e =
      let t : (t : SchemaType Place) × (slice_get s.types i ≡ Some (n, t)) = number_given n s.types i h in
      (t.0, (t.1, same_Some l (type_seen t.0) (sym e ∙ there i n t.0 t.1)))

  requires_it : (ty : TypeTree Place) (m : Text Place) (y : List ℕ) (j : ℕ) (u : SchemaType Place) → ty ≡ NonNullNamedTree m → m.it ≡ y → number_at y ≡ Some j → slice_get s.types j ≡ Some (y, u) → u.kind ≡ kind.InputObject → required_input s.types ty ≡ Some j
  requires_it ty m y j u is named h at k =
      ap (required_input s.types) is
      ∙ ap (input_object_number s.types) named
      ∙ ap (input_if s.types) h
      ∙ ap (λ (b : Bool). if b then Some j else None) (ap (λ o. option_map_or (λ (e : List ℕ × SchemaType Place). same_kind e.1.kind kind.InputObject) o false) at ∙ ap (λ x. same_kind x kind.InputObject) k)

  pub input_full : (i j : ℕ) (x y : List ℕ) (by : Referring (InputValueTree (Unit {0}))) → number_at x ≡ Some i → RefersToInput (judged s) x by y → number_at y ≡ Some j → Contains (targets (Refs i)) j
  input_full i j x y by h r h' =
      let t : (t : SchemaType Place) × ((slice_get s.types i ≡ Some (x, t)) × (r.0 ≡ type_seen t)) = seen_at x i r.0 h r.1.0 in
      let u : (u : SchemaType Place) × ((slice_get s.types j ≡ Some (y, u)) × (r.1.1.1.1.0 ≡ type_seen u)) = seen_at y j r.1.1.1.1.0 h' r.1.1.1.1.1.0 in
      let kind_of : t.0.kind ≡ kind.InputObject = sym (ap (λ (z : TypeLooks). z.kind) t.1.1) ∙ r.1.1.0 in
      let kind_to : u.0.kind ≡ kind.InputObject = sym (ap (λ (z : TypeLooks). z.kind) u.1.1) ∙ r.1.1.1.1.1.1 in
      let m : List ℕ = r.1.1.1.0.0 in
      let v : InputValueTree (Unit {0}) = r.1.1.1.0.1.0 in
      let g : (g : Given Place Field) × ((under m t.0.inputs ≡ Some g) × (v ≡ plain_given unplaced_input_value g)) =
      mapped_some (plain_given unplaced_input_value) (under m t.0.inputs) v (sym (input_look t.0 m) ∙ sym (ap (λ (z : TypeLooks). z.input m) t.1.1) ∙ r.1.1.1.0.1.1.0) in
      let k : (k : ℕ) × (slice_get t.0.inputs k ≡ Some (m, g.0)) = under_given m t.0.inputs g.0 g.1.0 in
      let nm = r.1.1.1.0.1.1.1.1 in
      let p : (p : Text Place) × ((g.0.it.it.ty.it ≡ NonNullNamedTree p) × (p.it ≡ nm.0.it)) = input_named g.0.it.it.ty.it nm.0 (sym (ap (λ (z : InputValueTree (Unit {0})). z.ty.it) g.1.1) ∙ nm.1.0) in
      let needs : required_input s.types g.0.it.it.ty.it ≡ Some j = requires_it g.0.it.it.ty.it p.0 y j u.0 p.1.0 (p.1.1 ∙ nm.1.1) h' u.1.0 kind_to in
      let one : Contains (field_references s.types g.0.it) (j, g.0.it) = subst (λ o. Contains (referred s.types o g.0.it) (j, g.0.it)) (sym needs) (Contains-last [] (j, g.0.it)) in
      let each : Contains (each_value (λ (z : Given Place Field). field_references s.types z.it) t.0.inputs) (j, g.0.it) =
      each_given (λ (z : Given Place Field). field_references s.types z.it) t.0.inputs k.0 (m, g.0) (j, g.0.it) k.1 one in
      let of_type : Contains (input_references s.types t.0) (j, g.0.it) =
      subst (λ (b : Bool). Contains (if b then each_value (λ (z : Given Place Field). field_references s.types z.it) t.0.inputs else []) (j, g.0.it)) (sym (ap (λ x. same_kind x kind.InputObject) kind_of)) each in
      subst (λ o. Contains (targets (option_map_or (λ (e : List ℕ × SchemaType Place). input_references s.types e.1) o [])) j) (sym t.1.0) (target_there (input_references s.types t.0) j g.0.it of_type)

  -- one number has one name
  pub input_one : (a b : ℕ) (x : List ℕ) → name_at a ≡ Some x → name_at b ≡ Some x → a ≡ b
  input_one a b x h k =
      let e : (e : List ℕ × SchemaType Place) × ((slice_get s.types a ≡ Some e) × (x ≡ e.0)) = mapped_some (λ (z : List ℕ × SchemaType Place). z.0) (slice_get s.types a) x h in
      let f : (f : List ℕ × SchemaType Place) × ((slice_get s.types b ≡ Some f) × (x ≡ f.0)) = mapped_some (λ (z : List ℕ × SchemaType Place). z.0) (slice_get s.types b) x k in
      one_number s.types distinct.types a b x e.0.1 f.0.1 (e.1.0 ∙ (λ i. Some (sym e.1.1 i, e.0.1))) (f.1.0 ∙ (λ i. Some (sym f.1.1 i, f.0.1)))
