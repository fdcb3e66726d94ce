-- What directives and types refer to by number is what the rules read.
use Rattle.std.proofs.Common.{◌≡◌, ℕ, ◌<◌, ◌≤◌, ◌+◌, ◌-◌, ◌⊎◌, Bool, true, false, not, if◌then◌else◌, is_some, find, bytes_eq, true≢false, List, [], ◌∷◌, ◌++◌, map, length, slice_get, Option, None, Some, refl, sym, ap, subst, ◌∙◌, inl, inr, arith}
use Rattle.std.specs.Prelude.{Contains, flat_map, nat_lt}
use Rattle.std.specs.Option.{option_map, option_map_or}
use Rattle.std.proofs.lemmas.Bool.{cases_lt, lt-ltb, le-ltb}
use Rattle.std.proofs.lemmas.Option.{same_Some, slice_get_within}
use Rattle.std.proofs.lemmas.List.Elements.{Contains-append_left, Contains-append_right, Contains-append_cases}
use Rattle.graphql_names.specs.Placed.{Placed, Place, unplaced_node}
use Rattle.tree_literals.specs.TypeTree.{TypeTree, unplaced_type}
use Rattle.tree_literals.specs.TypeQueries.{inner_name}
use Rattle.tree_directives.specs.DirectiveTree.{DirectiveTree, Directives, InputValueTree, DirectiveDefinitionTree, unplaced_directive, unplaced_directives, unplaced_input_value}
use Rattle.tree_type_members.specs.TypeSystemTree.{EnumValueTree, unplaced_enum_value}
use Rattle.schema_components.specs.Names.{Entries}
use Rattle.schema_components.specs.Given.{Given, plain_given}
use Rattle.schema_components.specs.Applied.{Applied, unplaced_applied}
use Rattle.schema_types.specs.SchemaTree.{SchemaType, SchemaTree}
use Rattle.schema_types.specs.Plain.{plain_directive_definition}
use Rattle.schema_types.specs.Looks.{TypeLooks}
use Rattle.schema_types.specs.Addresses.{Address, TypeAt, ValueAt, InputAt, ArgumentAt, DirectiveDefinitionAt, DirectiveAt, under, applied, place_at, place_of, directives_at}
use Rattle.fault_data.specs.in_rule_definitions.Diagnostics.{map_place}
use Rattle.fault_data.specs.in_rule_definitions.Spots.{At, spot_place}
use Rattle.fault_data.specs.in_rule_definitions.Words.{Present, Somewhere, AtSomeIndex}
use Rattle.fault_data.specs.in_rule_definitions.Judged.{judged, applied_directives}
use Rattle.schema_types.specs.Distinct.{AreUnder, ArePartsDistinct, AreAllDistinct}
use Rattle.fault_data.specs.in_rule_definitions.Names.{named_in}
use Rattle.fault_data.specs.in_rule_definitions.Things.{Thing, ADirective, AType}
use Rattle.fault_data.specs.in_rule_definitions.Cycles.{Referring, is_a_directive, is_a_type, RefersByUse, RefersByInput, Refers}
use Rattle.rule_cycle_search.proofs.Lists.{found_in, given_in, index_found, index_given, mapped_some, slice_get-map, only, Contains-cons, Contains-first, not_in_nil}
use Rattle.fault_data.proofs.in_rule_definitions.Lookups.{itself, under_found, under_given}
use Rattle.fault_data.proofs.Judgings.{type_seen, type_look, directive_look, value_look, input_look, named_unplaced, value_there, input_there}
use Rattle.rule_cycles.specs.Labels.{Labelled, targets}
use Rattle.rule_cycles.specs.Numbers.{number_of, at_number, each_value}
use Rattle.rule_cycles.specs.UseNumbers.{Use, used, node_of_type, use_references, uses_references, type_reference, input_uses, arguments_uses, definition_uses, part_uses, type_uses, uses_at}
use Rattle.rule_cycles.specs.DirectiveFaults.{plain_use}
use Rattle.rule_cycles.proofs.Transport.{IsSoundView, target_there}
use Rattle.rule_cycles.proofs.Entries.{number_given, number_there, one_number}

abbrev pub By : Type 0
By = Option (Referring (DirectiveTree (Unit {0})))

-- a directive as it is told
abbrev pub says_use : Use → Option (Placed Place (DirectiveTree (Unit {0})))
says_use by = option_map plain_use by

bare_same : (ds : Directives Place) → map (λ (d : Placed Place (DirectiveTree Place)). unplaced_directive d.it) ds ≡ applied_directives (unplaced_directives ds)
bare_same [] = refl
bare_same (d ∷ ds) = ap (λ l. unplaced_directive d.it ∷ l) (bare_same ds)

applied_same : (s : SchemaTree Place) (gs : Applied Place) → map (λ (d : Placed Place (DirectiveTree Place)). unplaced_directive d.it) (applied s gs) ≡ unplaced_applied gs
applied_same s [] = refl
applied_same s (g ∷ gs) = ap (λ l. unplaced_directive g.it.it ∷ l) (applied_same s gs)

number_is : {V : Type 0} (es : Entries V) → AreUnder es → (e : List ℕ × V) (a : ℕ) → slice_get es a ≡ Some e → number_of e.0 es ≡ Some a
number_is {V} es unique e a h =
    let p : (i : ℕ) × (number_of e.0 es ≡ Some i) = number_there es e (index_given es a e h) in
    let g : (v : V) × (slice_get es p.0 ≡ Some (e.0, v)) = number_given e.0 es p.0 p.1 in
    p.1 ∙ ap (λ i. Some i) (one_number es unique p.0 a e.0 g.0 e.1 g.1 h)

some_mapped : {X Y : Type 0} (f : X → Y) (o : Option X) → is_some o ≡ true → is_some (option_map f o) ≡ true
some_mapped f None h = h
some_mapped f (Some x) h = refl

-- an entry is found under its name, or another before it is
there_under : {V : Type 0} (n : List ℕ) (v : V) (es : Entries V) → Contains es (n, v) → is_some (under n es) ≡ true
there_under n v [] c = not_in_nil (n, v) c
there_under {V} n v (e ∷ es) c = by (there_under n v es) (bytes_eq n e.0) refl
  where
    by : (Contains es (n, v) → is_some (under n es) ≡ true) → (b : Bool) → bytes_eq n e.0 ≡ b → is_some (option_map (λ (x : List ℕ × V). x.1) (if b then Some e else find (λ (x : List ℕ × V). bytes_eq n x.0) es)) ≡ true
    by rest true t = refl
    by rest false t = elim (Contains-cons e es (n, v) c) [
      | inl q ↦ absurd (true≢false (sym (itself n) ∙ ap (bytes_eq n) (sym (ap (λ (x : List ℕ × V). x.0) q)) ∙ t))
      | inr r ↦ rest r
    ]

module _ (s : SchemaTree Place) where
  -- the thing of a number: directives come first
  abbrev pub thing_at : ℕ → Option Thing
  thing_at i = if nat_lt i (length s.directives) then option_map (λ e. ADirective e.0) (slice_get s.directives i) else option_map (λ e. AType e.0) (slice_get s.types (i - length s.directives))

  abbrev pub number_in : Thing → Option ℕ
  number_in (ADirective n) = number_of n s.directives
  number_in (AType n) = node_of_type s n

  abbrev pub tells_use : By → Option (Placed Place (DirectiveTree (Unit {0})))
  tells_use by = option_map (map_place (spot_place s)) by

  -- a reference of this kind that is told so
  abbrev pub IsSuch : (By → Thing → Type 0) → ℕ → Use → Type 0
  IsSuch P j l = (y : Thing) × ((by : By) × ((thing_at j ≡ Some y) × (P by y × (tells_use by ≡ says_use l))))

  -- the references of this list are of this kind, and each of this kind is in the list
  abbrev pub IsSoundPart : (By → Thing → Type 0) → Labelled Use → Type 0
  IsSoundPart P rs = (j : ℕ) (l : Use) → Contains rs (j, l) → IsSuch P j l

  abbrev pub IsFullPart : (By → Thing → Type 0) → Labelled Use → Type 0
  IsFullPart P rs = (by : By) (y : Thing) (j : ℕ) → P by y → number_in y ≡ Some j → (l : Use) × Contains rs (j, l)

  -- ---- parts in other words, and one after the other

  such_as : (P Q : By → Thing → Type 0) (j : ℕ) (l : Use) → ((by : By) (y : Thing) → P by y → Q by y) → IsSuch P j l → IsSuch Q j l
  such_as P Q j l to r = (r.0, (r.1.0, (r.1.1.0, (to r.1.0 r.0 r.1.1.1.0, r.1.1.1.1))))

  sound_both : (P Q : By → Thing → Type 0) (rs qs : Labelled Use) → IsSoundPart P rs → IsSoundPart Q qs → IsSoundPart (λ by y. P by y ⊎ Q by y) (rs ++ qs)
  sound_both P Q rs qs a b j l c = elim (Contains-append_cases rs qs (j, l) c) [
    | inl m ↦ such_as P (λ by y. P by y ⊎ Q by y) j l (λ by y p. inl p) (a j l m)
    | inr m ↦ such_as Q (λ by y. P by y ⊎ Q by y) j l (λ by y q. inr q) (b j l m)
  ]

  full_both : (P Q : By → Thing → Type 0) (rs qs : Labelled Use) → IsFullPart P rs → IsFullPart Q qs → IsFullPart (λ by y. P by y ⊎ Q by y) (rs ++ qs)
  full_both P Q rs qs a b by y j (inl p) h = let r : (l : Use) × Contains rs (j, l) = a by y j p h in (r.0, Contains-append_left rs qs (j, r.0) r.1)
  full_both P Q rs qs a b by y j (inr q) h = let r : (l : Use) × Contains qs (j, l) = b by y j q h in (r.0, Contains-append_right rs qs (j, r.0) r.1)

  module _ {X : Type 0} (o : Option X) (x : X) (P : X → By → Thing → Type 0) (rs : Labelled Use) (is : o ≡ Some x) where
    sound_present : IsSoundPart (P x) rs → IsSoundPart (λ by y. Present o (λ z. P z by y)) rs
    sound_present a j l c = such_as (P x) (λ by y. Present o (λ z. P z by y)) j l (λ by y p. (x, (is, p))) (a j l c)

    full_present : IsFullPart (P x) rs → IsFullPart (λ by y. Present o (λ z. P z by y)) rs
    full_present a by y j q h = a by y j (subst (λ z. P z by y) (same_Some q.0 x (sym q.1.0 ∙ is)) q.1.1) h

  -- ---- what is at indices, and under names

  module _ {V X : Type 0} (xs : List V) (f : V → X) (refs : V → Labelled Use) (P : ℕ → X → By → Thing → Type 0) where
    sound_listed : ((i : ℕ) (v : V) → slice_get xs i ≡ Some v → IsSoundPart (P i (f v)) (refs v)) → IsSoundPart (λ by y. AtSomeIndex (map f xs) (λ i x. P i x by y)) (flat_map refs xs)
    sound_listed part j l c =
        let v : (v : V) × (Contains xs v × Contains (refs v) (j, l)) = found_in refs (j, l) xs c in
        let i : (i : ℕ) × (slice_get xs i ≡ Some v.0) = index_found xs v.0 v.1.0 in
        such_as (P i.0 (f v.0)) (λ by y. AtSomeIndex (map f xs) (λ i x. P i x by y)) j l
        (λ by y p. (i.0, (f v.0, (slice_get-map f xs i.0 ∙ ap (option_map f) i.1, p)))) (part i.0 v.0 i.1 j l v.1.1)

    full_listed : ((i : ℕ) (v : V) → slice_get xs i ≡ Some v → IsFullPart (P i (f v)) (refs v)) → IsFullPart (λ by y. AtSomeIndex (map f xs) (λ i x. P i x by y)) (flat_map refs xs)
    full_listed part by y j (i, (x, (at, p))) h =
        let v : (v : V) × ((slice_get xs i ≡ Some v) × (x ≡ f v)) = mapped_some f (slice_get xs i) x (sym (slice_get-map f xs i) ∙ at) in
        let r : (l : Use) × Contains (refs v.0) (j, l) = part i v.0 v.1.0 by y j (subst (λ z. P i z by y) v.1.1 p) h in
        (r.0, given_in refs (j, r.0) xs v.0 (index_given xs i v.0 v.1.0) r.1)

  module _ {V X : Type 0} (es : Entries V) (f : V → X) (look : List ℕ → Option X) (looks : (m : List ℕ) → look m ≡ option_map f (under m es)) (refs : V → Labelled Use) (P : List ℕ → X → By → Thing → Type 0) where
    sound_under : AreUnder es → ((m : List ℕ) (v : V) → under m es ≡ Some v → IsSoundPart (P m (f v)) (refs v)) → IsSoundPart (λ by y. Somewhere look (λ m x. P m x by y)) (each_value refs es)
    sound_under unique part j l c =
        let e : (e : List ℕ × V) × (Contains es e × Contains (refs e.1) (j, l)) = found_in (λ (e : List ℕ × V). refs e.1) (j, l) es c in
        let has : under e.0.0 es ≡ Some e.0.1 = under_found es unique e.0 e.1.0 in
        such_as (P e.0.0 (f e.0.1)) (λ by y. Somewhere look (λ m x. P m x by y)) j l
        (λ by y p. (e.0.0, (f e.0.1, (looks e.0.0 ∙ ap (option_map f) has, p)))) (part e.0.0 e.0.1 has j l e.1.1)

    full_under : ((m : List ℕ) (v : V) → under m es ≡ Some v → IsFullPart (P m (f v)) (refs v)) → IsFullPart (λ by y. Somewhere look (λ m x. P m x by y)) (each_value refs es)
    full_under part by y j (m, (x, (at, p))) h =
        let v : (v : V) × ((under m es ≡ Some v) × (x ≡ f v)) = mapped_some f (under m es) x (sym (looks m) ∙ at) in
        let r : (l : Use) × Contains (refs v.0) (j, l) = part m v.0 v.1.0 by y j (subst (λ z. P m z by y) v.1.1 p) h in
        (r.0, given_in (λ (e : List ℕ × V). refs e.1) (j, r.0) es (m, v.0) (under_given m es v.0 v.1.0) r.1)

  -- ---- the directive, and the type, with a number

  pub thing_of_directive : (n : List ℕ) (d : Placed Place (DirectiveDefinitionTree Place)) (i : ℕ) → slice_get s.directives i ≡ Some (n, d) → thing_at i ≡ Some (ADirective n)
  thing_of_directive n d i h =
      let below : i < length s.directives = slice_get_within s.directives i (n, d) h in
      ap (λ (b : Bool). if b then option_map (λ (e : List ℕ × Placed Place (DirectiveDefinitionTree Place)). ADirective e.0) (slice_get s.directives i) else option_map (λ (e : List ℕ × SchemaType Place). AType e.0) (slice_get s.types (i - length s.directives))) (lt-ltb i (length s.directives) below)
      ∙ ap (option_map (λ (e : List ℕ × Placed Place (DirectiveDefinitionTree Place)). ADirective e.0)) h

  directive_there : (n : List ℕ) (i : ℕ) → number_of n s.directives ≡ Some i → thing_at i ≡ Some (ADirective n)
  directive_there n i h = let r : (d : Placed Place (DirectiveDefinitionTree Place)) × (slice_get s.directives i ≡ Some (n, d)) = number_given n s.directives i h in thing_of_directive n r.0 i r.1

  type_there : (n : List ℕ) (k : ℕ) → node_of_type s n ≡ Some k → thing_at k ≡ Some (AType n)
  type_there n k h =
      let m : (i : ℕ) × ((number_of n s.types ≡ Some i) × (k ≡ length s.directives + i)) = mapped_some (λ i. length s.directives + i) (number_of n s.types) k h in
      let r : (t : SchemaType Place) × (slice_get s.types m.0 ≡ Some (n, t)) = number_given n s.types m.0 m.1.0 in
      let past : length s.directives ≤ k = omega (arith, m.1.1) in
      let less : k - length s.directives ≡ m.0 = omega (arith, m.1.1) in
      ap (λ (b : Bool). if b then option_map (λ (e : List ℕ × Placed Place (DirectiveDefinitionTree Place)). ADirective e.0) (slice_get s.directives k) else option_map (λ (e : List ℕ × SchemaType Place). AType e.0) (slice_get s.types (k - length s.directives))) (le-ltb k (length s.directives) past)
      ∙ ap (λ z. option_map (λ (e : List ℕ × SchemaType Place). AType e.0) (slice_get s.types z)) less
      ∙ ap (option_map (λ (e : List ℕ × SchemaType Place). AType e.0)) r.1

  -- what has a number is defined
  directive_defined : (n : List ℕ) (i : ℕ) → number_of n s.directives ≡ Some i → is_some ((judged s).directive n) ≡ true
  directive_defined n i h =
      let r : (d : Placed Place (DirectiveDefinitionTree Place)) × (slice_get s.directives i ≡ Some (n, d)) = number_given n s.directives i h in
      ap is_some (directive_look s n) ∙ some_mapped plain_directive_definition (under n s.directives) (there_under n r.0 s.directives (index_given s.directives i (n, r.0) r.1))

  type_defined : (n : List ℕ) (k : ℕ) → node_of_type s n ≡ Some k → is_some ((judged s).type_named n) ≡ true
  type_defined n k h =
      let m : (i : ℕ) × ((number_of n s.types ≡ Some i) × (k ≡ length s.directives + i)) = mapped_some (λ i. length s.directives + i) (number_of n s.types) k h in
      let r : (t : SchemaType Place) × (slice_get s.types m.0 ≡ Some (n, t)) = number_given n s.types m.0 m.1.0 in
      ap is_some (type_look s n) ∙ some_mapped type_seen (under n s.types) (there_under n r.0 s.types (index_given s.types m.0 (n, r.0) r.1))

  -- ---- directives that are applied

  module _ (holder : Address) (ds : Directives Place) (here : directives_at s holder ≡ ds) where
    abbrev IsUse : ℕ → DirectiveTree (Unit {0}) → By → Thing → Type 0
    IsUse i x by y = (by ≡ Some (record { it = x; place = At (DirectiveAt holder i) })) × ((y ≡ ADirective x.name.it) × (is_some ((judged s).directive x.name.it) ≡ true))

    sound_use : (i : ℕ) (d : Placed Place (DirectiveTree Place)) → slice_get ds i ≡ Some d → IsSoundPart (IsUse i (unplaced_directive d.it)) (use_references s d)
    sound_use i d at j l c = by (number_of d.it.name.it s.directives) refl c
      where
        placed : place_at s (DirectiveAt holder i) ≡ d.place
        placed = ap (λ (x : Directives Place). place_of (slice_get x i)) here ∙ ap place_of at

        by : (o : Option ℕ) → number_of d.it.name.it s.directives ≡ o → Contains (used o (Some d)) (j, l) → IsSuch (IsUse i (unplaced_directive d.it)) j l
        by None e m = not_in_nil (j, l) m
        by (Some k) e m =
            let same : (j, l) ≡ (k, Some d) = only (k, Some d) (j, l) m in (
              ADirective d.it.name.it,
              (
                Some (record { it = unplaced_directive d.it; place = At (DirectiveAt holder i) }),
                (
                  ap thing_at (ap (λ x. x.0) same) ∙ directive_there d.it.name.it k e,
                  (
                    (refl, (refl, directive_defined d.it.name.it k e)),
                    (λ z. Some (record { it = unplaced_directive d.it; place = placed z })) ∙ ap says_use (sym (ap (λ x. x.1) same)),
                  ),
                ),
              ),
            )

    full_use : (i : ℕ) (d : Placed Place (DirectiveTree Place)) → slice_get ds i ≡ Some d → IsFullPart (IsUse i (unplaced_directive d.it)) (use_references s d)
    full_use i d at by y j p h = (
      Some d,
      subst (λ o. Contains (used o (Some d)) (j, Some d)) (sym (ap number_in (sym p.1.0) ∙ h)) (Contains-first (j, Some d) [] (j, Some d) refl),
    )

    module _ (bs : List (DirectiveTree (Unit {0}))) (same : map (λ (d : Placed Place (DirectiveTree Place)). unplaced_directive d.it) ds ≡ bs) where
      sound_uses : IsSoundPart (RefersByUse (judged s) holder bs) (uses_references s ds)
      sound_uses = subst (λ (l : List (DirectiveTree (Unit {0}))). IsSoundPart (RefersByUse (judged s) holder l) (uses_references s ds)) same
          (sound_listed ds (λ (d : Placed Place (DirectiveTree Place)). unplaced_directive d.it) (use_references s) IsUse sound_use)

      full_uses : IsFullPart (RefersByUse (judged s) holder bs) (uses_references s ds)
      full_uses = subst (λ (l : List (DirectiveTree (Unit {0}))). IsFullPart (RefersByUse (judged s) holder l) (uses_references s ds)) same
          (full_listed ds (λ (d : Placed Place (DirectiveTree Place)). unplaced_directive d.it) (use_references s) IsUse full_use)

  -- ---- references to types

  abbrev IsTyped : TypeTree Place → By → Thing → Type 0
  IsTyped ty by y = (by ≡ None) × ((y ≡ AType (named_in (unplaced_type ty))) × (is_some ((judged s).type_named (named_in (unplaced_type ty))) ≡ true))

  sound_type : (ty : TypeTree Place) → IsSoundPart (IsTyped ty) (type_reference s ty)
  sound_type ty j l c = by (node_of_type s (inner_name ty).it) refl c
    where
      by : (o : Option ℕ) → node_of_type s (inner_name ty).it ≡ o → Contains (used o None) (j, l) → IsSuch (IsTyped ty) j l
      by None e m = not_in_nil (j, l) m
      by (Some k) e m =
          let same : (j, l) ≡ (k, None) = only (k, None) (j, l) m in (
            AType (named_in (unplaced_type ty)),
            (
              None,
              (
                ap thing_at (ap (λ x. x.0) same) ∙ type_there (inner_name ty).it k e ∙ ap (λ n. Some (AType n)) (sym (named_unplaced ty)),
                ((refl, (refl, subst (λ n. is_some ((judged s).type_named n) ≡ true) (sym (named_unplaced ty)) (type_defined (inner_name ty).it k e))), ap says_use (sym (ap (λ x. x.1) same))),
              ),
            ),
          )

  full_type : (ty : TypeTree Place) → IsFullPart (IsTyped ty) (type_reference s ty)
  full_type ty by y j p h = (
    None,
    subst (λ o. Contains (used o None) (j, None)) (sym (ap (node_of_type s) (sym (named_unplaced ty)) ∙ ap number_in (sym p.1.0) ∙ h)) (Contains-first (j, None) [] (j, None) refl),
  )

  -- ---- arguments' definitions and input fields

  module _ (at : Address) (v : InputValueTree Place) (here : directives_at s at ≡ v.directives) where
    sound_input : IsSoundPart (RefersByInput (judged s) at (unplaced_input_value v)) (input_uses s v)
    sound_input =
        sound_both (RefersByUse (judged s) at (applied_directives (unplaced_directives v.directives))) (IsTyped v.ty.it) (uses_references s v.directives) (type_reference s v.ty.it)
        (sound_uses at v.directives here (applied_directives (unplaced_directives v.directives)) (bare_same v.directives)) (sound_type v.ty.it)

    full_input : IsFullPart (RefersByInput (judged s) at (unplaced_input_value v)) (input_uses s v)
    full_input =
        full_both (RefersByUse (judged s) at (applied_directives (unplaced_directives v.directives))) (IsTyped v.ty.it) (uses_references s v.directives) (type_reference s v.ty.it)
        (full_uses at v.directives here (applied_directives (unplaced_directives v.directives)) (bare_same v.directives)) (full_type v.ty.it)

  -- ---- a directive's definition

  module _ (n : List ℕ) (d : Placed Place (DirectiveDefinitionTree Place)) (has : under n s.directives ≡ Some d) where
    abbrev ByArgument : ℕ → Placed (Unit {0}) (InputValueTree (Unit {0})) → By → Thing → Type 0
    ByArgument i v by y = RefersByInput (judged s) (ArgumentAt (DirectiveDefinitionAt n) i) v.it by y

    abbrev ByArguments : DirectiveDefinitionTree (Unit {0}) → By → Thing → Type 0
    ByArguments x by y = AtSomeIndex x.arguments (λ i v. ByArgument i v by y)

    abbrev ByOwn : DirectiveDefinitionTree (Unit {0}) → By → Thing → Type 0
    ByOwn x by y = RefersByUse (judged s) (DirectiveDefinitionAt n) (applied_directives x.directives) by y

    abbrev ByDefinition : DirectiveDefinitionTree (Unit {0}) → By → Thing → Type 0
    ByDefinition x by y = ByArguments x by y ⊎ ByOwn x by y

    argument_here : (i : ℕ) (v : Placed Place (InputValueTree Place)) → slice_get d.it.arguments i ≡ Some v → directives_at s (ArgumentAt (DirectiveDefinitionAt n) i) ≡ v.it.directives
    argument_here i v at =
        ap (λ (o : Option (Placed Place (DirectiveDefinitionTree Place))). option_map_or (λ (x : Placed Place (InputValueTree Place)). x.it.directives) (slice_get (option_map_or (λ (x : Placed Place (DirectiveDefinitionTree Place)). x.it.arguments) o []) i) []) has
        ∙ ap (λ (o : Option (Placed Place (InputValueTree Place))). option_map_or (λ (x : Placed Place (InputValueTree Place)). x.it.directives) o []) at

    own_here : directives_at s (DirectiveDefinitionAt n) ≡ d.it.directives
    own_here = ap (λ (o : Option (Placed Place (DirectiveDefinitionTree Place))). option_map_or (λ (x : Placed Place (DirectiveDefinitionTree Place)). x.it.directives) o []) has

    looks : (judged s).directive n ≡ Some (plain_directive_definition d)
    looks = directive_look s n ∙ ap (option_map plain_directive_definition) has

    pub definition_sound : IsSoundPart (Refers (judged s) (ADirective n)) (definition_uses s d)
    definition_sound =
        sound_present ((judged s).directive n) (plain_directive_definition d) ByDefinition (definition_uses s d) looks
        (
        sound_both (ByArguments (plain_directive_definition d)) (ByOwn (plain_directive_definition d)) (arguments_uses s d.it.arguments) (uses_references s d.it.directives)
        (sound_listed d.it.arguments (unplaced_node unplaced_input_value) (λ (v : Placed Place (InputValueTree Place)). input_uses s v.it) ByArgument (λ i v at. sound_input (ArgumentAt (DirectiveDefinitionAt n) i) v.it (argument_here i v at)))
        (sound_uses (DirectiveDefinitionAt n) d.it.directives own_here (applied_directives (unplaced_directives d.it.directives)) (bare_same d.it.directives))
        )

    pub definition_full : IsFullPart (Refers (judged s) (ADirective n)) (definition_uses s d)
    definition_full =
        full_present ((judged s).directive n) (plain_directive_definition d) ByDefinition (definition_uses s d) looks
        (
        full_both (ByArguments (plain_directive_definition d)) (ByOwn (plain_directive_definition d)) (arguments_uses s d.it.arguments) (uses_references s d.it.directives)
        (full_listed d.it.arguments (unplaced_node unplaced_input_value) (λ (v : Placed Place (InputValueTree Place)). input_uses s v.it) ByArgument (λ i v at. full_input (ArgumentAt (DirectiveDefinitionAt n) i) v.it (argument_here i v at)))
        (full_uses (DirectiveDefinitionAt n) d.it.directives own_here (applied_directives (unplaced_directives d.it.directives)) (bare_same d.it.directives))
        )

  -- ---- a type

  module _ (n : List ℕ) (t : SchemaType Place) (has : under n s.types ≡ Some t) where
    abbrev ByValue : List ℕ → EnumValueTree (Unit {0}) → By → Thing → Type 0
    ByValue m v by y = RefersByUse (judged s) (ValueAt n m) (applied_directives v.directives) by y

    abbrev ByField : List ℕ → InputValueTree (Unit {0}) → By → Thing → Type 0
    ByField m v by y = RefersByInput (judged s) (InputAt n m) v by y

    abbrev ByDirectives : TypeLooks → By → Thing → Type 0
    ByDirectives x by y = RefersByUse (judged s) (TypeAt n) x.directives by y

    abbrev ByValues : TypeLooks → By → Thing → Type 0
    ByValues x by y = Somewhere x.value (λ m v. ByValue m v by y)

    abbrev ByFields : TypeLooks → By → Thing → Type 0
    ByFields x by y = Somewhere x.input (λ m v. ByField m v by y)

    abbrev ByType : TypeLooks → By → Thing → Type 0
    ByType x by y = ByDirectives x by y ⊎ (ByValues x by y ⊎ ByFields x by y)

    abbrev value_uses : Given Place (Placed Place (EnumValueTree Place)) → Labelled Use
    value_uses g = uses_references s g.it.it.directives

    abbrev field_uses : Given Place (Placed Place (InputValueTree Place)) → Labelled Use
    field_uses g = input_uses s g.it.it

    type_here : directives_at s (TypeAt n) ≡ applied s t.directives
    type_here = ap (λ (o : Option (SchemaType Place)). option_map_or (λ (x : SchemaType Place). applied s x.directives) o []) has

    value_here : (m : List ℕ) (g : Given Place (Placed Place (EnumValueTree Place))) → under m t.values ≡ Some g → directives_at s (ValueAt n m) ≡ g.it.it.directives
    value_here m g at = ap (λ (o : Option (Placed Place (EnumValueTree Place))). option_map_or (λ (x : Placed Place (EnumValueTree Place)). x.it.directives) o []) (value_there s n t has m g at)

    field_here : (m : List ℕ) (g : Given Place (Placed Place (InputValueTree Place))) → under m t.inputs ≡ Some g → directives_at s (InputAt n m) ≡ g.it.it.directives
    field_here m g at = ap (λ (o : Option (Placed Place (InputValueTree Place))). option_map_or (λ (x : Placed Place (InputValueTree Place)). x.it.directives) o []) (input_there s n t has m g at)

    seen : (judged s).type_named n ≡ Some (type_seen t)
    seen = type_look s n ∙ ap (option_map type_seen) has

    pub type_sound : ArePartsDistinct t → IsSoundPart (Refers (judged s) (AType n)) (type_uses s t)
    type_sound parts =
        sound_present ((judged s).type_named n) (type_seen t) ByType (type_uses s t) seen
        (
        sound_both (ByDirectives (type_seen t)) (λ by y. ByValues (type_seen t) by y ⊎ ByFields (type_seen t) by y) (uses_references s (applied s t.directives)) (part_uses s t)
        (sound_uses (TypeAt n) (applied s t.directives) type_here (unplaced_applied t.directives) (applied_same s t.directives))
        (
        sound_both (ByValues (type_seen t)) (ByFields (type_seen t)) (each_value value_uses t.values) (each_value field_uses t.inputs)
        (sound_under t.values (plain_given unplaced_enum_value) (type_seen t).value (value_look t) value_uses ByValue parts.values
        (λ m g at. sound_uses (ValueAt n m) g.it.it.directives (value_here m g at) (applied_directives (unplaced_directives g.it.it.directives)) (bare_same g.it.it.directives)))
        (sound_under t.inputs (plain_given unplaced_input_value) (type_seen t).input (input_look t) field_uses ByField parts.inputs (λ m g at. sound_input (InputAt n m) g.it.it (field_here m g at)))
        )
        )

    pub type_full : IsFullPart (Refers (judged s) (AType n)) (type_uses s t)
    type_full =
        full_present ((judged s).type_named n) (type_seen t) ByType (type_uses s t) seen
        (
        full_both (ByDirectives (type_seen t)) (λ by y. ByValues (type_seen t) by y ⊎ ByFields (type_seen t) by y) (uses_references s (applied s t.directives)) (part_uses s t)
        (full_uses (TypeAt n) (applied s t.directives) type_here (unplaced_applied t.directives) (applied_same s t.directives))
        (
        full_both (ByValues (type_seen t)) (ByFields (type_seen t)) (each_value value_uses t.values) (each_value field_uses t.inputs)
        (full_under t.values (plain_given unplaced_enum_value) (type_seen t).value (value_look t) value_uses ByValue
        (λ m g at. full_uses (ValueAt n m) g.it.it.directives (value_here m g at) (applied_directives (unplaced_directives g.it.it.directives)) (bare_same g.it.it.directives)))
        (full_under t.inputs (plain_given unplaced_input_value) (type_seen t).input (input_look t) field_uses ByField (λ m g at. full_input (InputAt n m) g.it.it (field_here m g at)))
        )
        )

  -- ---- by number

  uses_of_directive : (n : List ℕ) (d : Placed Place (DirectiveDefinitionTree Place)) (i : ℕ) → slice_get s.directives i ≡ Some (n, d) → uses_at s i ≡ definition_uses s d
  uses_of_directive n d i h =
      let below : i < length s.directives = slice_get_within s.directives i (n, d) h in
      ap (λ (b : Bool). if b then at_number (definition_uses s) s.directives i else at_number (type_uses s) s.types (i - length s.directives)) (lt-ltb i (length s.directives) below)
      ∙ ap (λ (o : Option (List ℕ × Placed Place (DirectiveDefinitionTree Place))). option_map_or (λ (e : List ℕ × Placed Place (DirectiveDefinitionTree Place)). definition_uses s e.1) o []) h

  uses_of_type : (n : List ℕ) (t : SchemaType Place) (k i : ℕ) → k ≡ length s.directives + i → slice_get s.types i ≡ Some (n, t) → uses_at s k ≡ type_uses s t
  uses_of_type n t k i is h =
      let past : length s.directives ≤ k = omega (arith, is) in
      let less : k - length s.directives ≡ i = omega (arith, is) in
      ap (λ (b : Bool). if b then at_number (definition_uses s) s.directives k else at_number (type_uses s) s.types (k - length s.directives)) (le-ltb k (length s.directives) past)
      ∙ ap (at_number (type_uses s) s.types) less
      ∙ ap (λ (o : Option (List ℕ × SchemaType Place)). option_map_or (λ (e : List ℕ × SchemaType Place). type_uses s e.1) o []) h

  -- what a number has is of one of the two kinds
  module _ (i : ℕ) (x : Thing) where
    abbrev IsDirectiveHere : Type 0
    IsDirectiveHere = (e : List ℕ × Placed Place (DirectiveDefinitionTree Place)) × ((slice_get s.directives i ≡ Some e) × (x ≡ ADirective e.0))

    abbrev IsTypeHere : Type 0
    IsTypeHere = (e : List ℕ × SchemaType Place) × ((i ≡ length s.directives + (i - length s.directives)) × ((slice_get s.types (i - length s.directives) ≡ Some e) × (x ≡ AType e.0)))

    which : thing_at i ≡ Some x → IsDirectiveHere ⊎ IsTypeHere
    which h = elim (cases_lt i (length s.directives)) [
      | inl low ↦ inl (mapped_some (λ (e : List ℕ × Placed Place (DirectiveDefinitionTree Place)). ADirective e.0) (slice_get s.directives i) x (sym (chosen (lt-ltb i (length s.directives) low)) ∙ h))
      | inr high ↦
          let past : length s.directives ≤ i = omega (arith, high) in
          let m : (e : List ℕ × SchemaType Place) × ((slice_get s.types (i - length s.directives) ≡ Some e) × (x ≡ AType e.0)) =
          mapped_some (λ (e : List ℕ × SchemaType Place). AType e.0) (slice_get s.types (i - length s.directives)) x (sym (chosen (le-ltb i (length s.directives) past)) ∙ h) in
          inr (m.0, (omega (arith, past), m.1))
    ]
      where
        chosen : {b : Bool} → nat_lt i (length s.directives) ≡ b → thing_at i ≡ (if b then option_map (λ (e : List ℕ × Placed Place (DirectiveDefinitionTree Place)). ADirective e.0) (slice_get s.directives i) else option_map (λ (e : List ℕ × SchemaType Place). AType e.0) (slice_get s.types (i - length s.directives)))
        chosen e = ap (λ (b : Bool). if b then option_map (λ (e : List ℕ × Placed Place (DirectiveDefinitionTree Place)). ADirective e.0) (slice_get s.directives i) else option_map (λ (e : List ℕ × SchemaType Place). AType e.0) (slice_get s.types (i - length s.directives))) e

  -- the kind of a thing is that of its number
  pub same_directive : (i : ℕ) (x : Thing) → thing_at i ≡ Some x → nat_lt i (length s.directives) ≡ is_a_directive x
  same_directive i x h = elim (which i x h) [
    | inl d ↦ lt-ltb i (length s.directives) (slice_get_within s.directives i d.0 d.1.0) ∙ sym (ap is_a_directive d.1.1)
    | inr t ↦ le-ltb i (length s.directives) (omega (arith, t.1.0)) ∙ sym (ap is_a_directive t.1.1.1)
  ]

  pub same_type : (i : ℕ) (x : Thing) → thing_at i ≡ Some x → not (nat_lt i (length s.directives)) ≡ is_a_type x
  same_type i x h = elim (which i x h) [
    | inl d ↦ ap not (lt-ltb i (length s.directives) (slice_get_within s.directives i d.0 d.1.0)) ∙ sym (ap is_a_type d.1.1)
    | inr t ↦ ap not (le-ltb i (length s.directives) (omega (arith, t.1.0))) ∙ sym (ap is_a_type t.1.1.1)
  ]

  module _ (distinct : AreAllDistinct s) where
    -- what is at a number stands under its name
    pub directive_under : (n : List ℕ) (d : Placed Place (DirectiveDefinitionTree Place)) (i : ℕ) → slice_get s.directives i ≡ Some (n, d) → under n s.directives ≡ Some d
    directive_under n d i h = under_found s.directives distinct.directives (n, d) (index_given s.directives i (n, d) h)

    type_under : (n : List ℕ) (t : SchemaType Place) (i : ℕ) → slice_get s.types i ≡ Some (n, t) → under n s.types ≡ Some t
    type_under n t i h = under_found s.types distinct.types (n, t) (index_given s.types i (n, t) h)

    pub use_sound : IsSoundView (uses_at s) thing_at number_in (Refers (judged s)) tells_use says_use
    use_sound i j l x h c = elim (which i x h) [
      | inl d ↦
          subst (λ (z : Thing). IsSuch (Refers (judged s) z) j l) (sym d.1.1)
          (definition_sound d.0.0 d.0.1 (directive_under d.0.0 d.0.1 i d.1.0) j l (subst (λ (rs : Labelled Use). Contains rs (j, l)) (uses_of_directive d.0.0 d.0.1 i d.1.0) c))
      | inr t ↦
          subst (λ (z : Thing). IsSuch (Refers (judged s) z) j l) (sym t.1.1.1)
          (type_sound t.0.0 t.0.1 (type_under t.0.0 t.0.1 (i - length s.directives) t.1.1.0) (distinct.parts t.0 (index_given s.types (i - length s.directives) t.0 t.1.1.0)) j l
          (subst (λ (rs : Labelled Use). Contains rs (j, l)) (uses_of_type t.0.0 t.0.1 i (i - length s.directives) t.1.0 t.1.1.0) c))
    ]

    pub use_full : (i j : ℕ) (x y : Thing) (by : By) → number_in x ≡ Some i → Refers (judged s) x by y → number_in y ≡ Some j → Contains (targets (uses_at s i)) j
    use_full i j (ADirective n) y by h r k =
        let v : (d : Placed Place (DirectiveDefinitionTree Place)) × (slice_get s.directives i ≡ Some (n, d)) = number_given n s.directives i h in
        let found : (l : Use) × Contains (definition_uses s v.0) (j, l) = definition_full n v.0 (directive_under n v.0 i v.1) by y j r k in
        subst (λ (rs : Labelled Use). Contains (targets rs) j) (sym (uses_of_directive n v.0 i v.1)) (target_there (definition_uses s v.0) j found.0 found.1)
    use_full i j (AType n) y by h r k =
        let m : (z : ℕ) × ((number_of n s.types ≡ Some z) × (i ≡ length s.directives + z)) = mapped_some (λ z. length s.directives + z) (number_of n s.types) i h in
        let v : (t : SchemaType Place) × (slice_get s.types m.0 ≡ Some (n, t)) = number_given n s.types m.0 m.1.0 in
        let found : (l : Use) × Contains (type_uses s v.0) (j, l) = type_full n v.0 (type_under n v.0 m.0 v.1) by y j r k in
        subst (λ (rs : Labelled Use). Contains (targets rs) j) (sym (uses_of_type n v.0 i m.0 m.1.1 v.1)) (target_there (type_uses s v.0) j found.0 found.1)

    pub use_defined : (x y : Thing) (by : By) → Refers (judged s) x by y → (i : ℕ) × (number_in x ≡ Some i)
    use_defined (ADirective n) y by r =
        let d : (d : Placed Place (DirectiveDefinitionTree Place)) × ((under n s.directives ≡ Some d) × (r.0 ≡ plain_directive_definition d)) = mapped_some plain_directive_definition (under n s.directives) r.0 (sym (directive_look s n) ∙ r.1.0) in
        number_there s.directives (n, d.0) (under_given n s.directives d.0 d.1.0)
    use_defined (AType n) y by r =
        let t : (t : SchemaType Place) × ((under n s.types ≡ Some t) × (r.0 ≡ type_seen t)) = mapped_some type_seen (under n s.types) r.0 (sym (type_look s n) ∙ r.1.0) in
        let i : (i : ℕ) × (number_of n s.types ≡ Some i) = number_there s.types (n, t.0) (under_given n s.types t.0 t.1.0) in
        (length s.directives + i.0, ap (option_map (λ z. length s.directives + z)) i.1)

    -- one thing has one number
    numbered : (i : ℕ) (x : Thing) → thing_at i ≡ Some x → number_in x ≡ Some i
    numbered i x h = elim (which i x h) [
      | inl d ↦ ap number_in d.1.1 ∙ number_is s.directives distinct.directives d.0 i d.1.0
      | inr t ↦ ap number_in t.1.1.1 ∙ ap (option_map (λ z. length s.directives + z)) (number_is s.types distinct.types t.0 (i - length s.directives) t.1.1.0) ∙ ap (λ z. Some z) (sym t.1.0)
    ]

    pub use_one : (a b : ℕ) (x : Thing) → thing_at a ≡ Some x → thing_at b ≡ Some x → a ≡ b
    use_one a b x h k = same_Some a b (sym (numbered a x h) ∙ numbered b x k)
