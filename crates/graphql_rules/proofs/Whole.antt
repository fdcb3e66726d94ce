-- The faults of all rules on schemas.
use Rattle.std.proofs.Common.{◌≡◌, List, [], ◌∷◌, ◌++◌, take, refl, ap, subst, ◌∙◌, inl, inr, Contains}
use Rattle.std.proofs.lemmas.List.Elements.{Contains-append_left, Contains-append_right, Contains-append_cases}
use Rattle.graphql_names.specs.Placed.{Place}
use Rattle.rule_definitions.specs.in_schema_types.SchemaTree.{SchemaTree}
use Rattle.rule_definitions.specs.Diagnostics.{map_places}
use Rattle.rule_definitions.specs.Spots.{spot_place}
use Rattle.rule_definitions.specs.Faults.{SchemaFault}
use Rattle.rule_definitions.specs.Judged.{Judged, judged}
use Rattle.rule_definitions.specs.Rules.{InterfacesBreak, SchemaUsesBreak, SchemaRules, extension_places_at}
use Rattle.rule_definitions.specs.PlacedFaults.{PlacedFault, Told}
use Rattle.rule_definitions.proofs.Lists.{not_in_nil, Contains-first}
use Rattle.rule_types.specs.TypesBreak.{TypesBreak}
use Rattle.rule_cycles.specs.SchemaCycles.{CyclesFail, CyclesTold}
use Rattle.rule_definitions.specs.Room.{most_told, ◌⊕◌}
use Rattle.rule_definitions.proofs.Room.{room_both, room_first}
use Rattle.rule_definitions.proofs.Adding.{Gains}
use Rattle.graphql_rules.specs.SchemaTold.{RulesOrBoundFail, BreaksBesideCycles, IsWithinReferenceBound, TellsSchema}
use Rattle.graphql_rules.proofs.Stands.{stands}

told_as : {A B : Judged → SchemaFault → Type 0} → ((j : Judged) (g : SchemaFault) → A j g → B j g) → (s : SchemaTree Place) (f : PlacedFault) → Told s A f → Told s B f
told_as into s f t = (t.0, (into (judged s) t.0 t.1.0, t.1.1))

-- one more check after those that began with nothing told
following : (all added now next : List PlacedFault) → now ≡ [] ⊕ all → next ≡ now ⊕ added → next ≡ [] ⊕ (all ++ added)
following all added now next so_far step = step ∙ ap (λ l. l ⊕ added) so_far ∙ room_both [] all added

-- what each check adds to what the one before it left
module _ (s : SchemaTree Place) (none types interfaces cycles uses : List PlacedFault) (is_none : none ≡ [])
    (types_added : Gains none types (Told s TypesBreak))
    (interfaces_added : Gains types interfaces (Told s InterfacesBreak))
    (by_cycles : CyclesTold s interfaces cycles)
    (uses_added : Gains cycles uses (Told s SchemaUsesBreak)) where
  -- all that they tell where there is room
  abbrev pub all_told : List PlacedFault
  all_told = ((types_added.0 ++ interfaces_added.0) ++ by_cycles.added) ++ uses_added.0

  -- of which the first are told
  pub first_told : uses ≡ take most_told all_told
  first_told =
      let of_types : types ≡ [] ⊕ types_added.0 = types_added.1.0 ∙ ap (λ l. l ⊕ types_added.0) is_none in
      let of_interfaces = following types_added.0 interfaces_added.0 types interfaces of_types interfaces_added.1.0 in
      let of_cycles = following (types_added.0 ++ interfaces_added.0) by_cycles.added interfaces cycles of_interfaces by_cycles.is in
      following ((types_added.0 ++ interfaces_added.0) ++ by_cycles.added) uses_added.0 cycles uses of_cycles uses_added.1.0 ∙ room_first all_told

  -- the list of each check
  in_types : (f : PlacedFault) → Contains types_added.0 f → Contains all_told f
  in_types f h = Contains-append_left _ uses_added.0 f (Contains-append_left _ by_cycles.added f (Contains-append_left types_added.0 interfaces_added.0 f h))

  in_interfaces : (f : PlacedFault) → Contains interfaces_added.0 f → Contains all_told f
  in_interfaces f h = Contains-append_left _ uses_added.0 f (Contains-append_left _ by_cycles.added f (Contains-append_right types_added.0 interfaces_added.0 f h))

  in_cycles : (f : PlacedFault) → Contains by_cycles.added f → Contains all_told f
  in_cycles f h = Contains-append_left _ uses_added.0 f (Contains-append_right (types_added.0 ++ interfaces_added.0) by_cycles.added f h)

  in_uses : (f : PlacedFault) → Contains uses_added.0 f → Contains all_told f
  in_uses f h = Contains-append_right ((types_added.0 ++ interfaces_added.0) ++ by_cycles.added) uses_added.0 f h

  each_right : (f : PlacedFault) → Contains all_told f → Told s RulesOrBoundFail f
  each_right f h = elim (Contains-append_cases ((types_added.0 ++ interfaces_added.0) ++ by_cycles.added) uses_added.0 f h) [
    | inl before ↦ elim (Contains-append_cases (types_added.0 ++ interfaces_added.0) by_cycles.added f before) [
      | inl first ↦ elim (Contains-append_cases types_added.0 interfaces_added.0 f first) [
        | inl t ↦ told_as {A = TypesBreak} {B = RulesOrBoundFail} (λ j g b. inl (elim b [ inl r ↦ inl r | inr e ↦ inr (inl e) ])) s f ((types_added.1.1 f).0 t)
        | inr i ↦ told_as {A = InterfacesBreak} {B = RulesOrBoundFail} (λ j g b. inl (inr (inr (inl b)))) s f ((interfaces_added.1.1 f).0 i)
      ]
      | inr c ↦ told_as {A = CyclesFail} {B = RulesOrBoundFail} (λ j g b. elim b [ inl r ↦ inl (inr (inr (inr (inl r)))) | inr p ↦ inr p ]) s f (by_cycles.right f c)
    ]
    | inr u ↦ told_as {A = SchemaUsesBreak} {B = RulesOrBoundFail} (λ j g b. inl (inr (inr (inr (inr b))))) s f ((uses_added.1.1 f).0 u)
  ]

  each_told : (f : PlacedFault) → Told s BreaksBesideCycles f → Contains all_told f
  each_told f t = elim t.1.0 [
    | inl r ↦ in_types f ((types_added.1.1 f).1 (t.0, (inl r, t.1.1)))
    | inr q ↦ elim q [
      | inl e ↦ in_types f ((types_added.1.1 f).1 (t.0, (inr e, t.1.1)))
      | inr w ↦ elim w [
        | inl i ↦ in_interfaces f ((interfaces_added.1.1 f).1 (t.0, (i, t.1.1)))
        | inr u ↦ in_uses f ((uses_added.1.1 f).1 (t.0, (u, t.1.1)))
      ]
    ]
  ]

  pub tells_schema : TellsSchema s all_told
  tells_schema = record {
    right = each_right;
    full = each_told;
    inputs = λ n c. let r = by_cycles.inputs n c in (r.0, (in_cycles r.0 r.1.0, r.1.1));
    directives = λ n c. let r = by_cycles.directives n c in (r.0, (in_cycles r.0 r.1.0, r.1.1));
  }

module _ (s : SchemaTree Place) (told : List PlacedFault) (tells : TellsSchema s told) where
  -- the broken rule at its place
  abbrev placed : SchemaFault → PlacedFault
  placed g = record { place = (stands s g.place).0; breach = map_places (spot_place s) (extension_places_at s) g.breach }

  told_at : (A : Judged → SchemaFault → Type 0) (g : SchemaFault) → A (judged s) g → Told s A (placed g)
  told_at A g h = (g, (h, ((stands s g.place).1, refl)))

  -- nothing is told, so no rule breaks
  pub silent_keeps : told ≡ [] → SchemaRules (judged s)
  silent_keeps e g breaks = elim breaks [
    | inl r ↦ beside (inl r)
    | inr q ↦ elim q [
      | inl m ↦ beside (inr (inl m))
      | inr w ↦ elim w [
        | inl i ↦ beside (inr (inr (inl i)))
        | inr v ↦ elim v [
          | inl c ↦ elim c [
            | inl input ↦ let r = tells.inputs input.0 (input.1.0, (input.1.1.0, input.1.1.1.0)) in never r.0 r.1.0
            | inr directive ↦ let r = tells.directives directive.0 (directive.1.0, (directive.1.1.0, directive.1.1.1.0)) in never r.0 r.1.0
          ]
          | inr u ↦ beside (inr (inr (inr u)))
        ]
      ]
    ]
  ]
    where
      never : (f : PlacedFault) → Contains told f → ⊥
      never f h = not_in_nil f (subst (λ l. Contains l f) e h)

      beside : BreaksBesideCycles (judged s) g → ⊥
      beside h = never (placed g) (tells.full (placed g) (told_at BreaksBesideCycles g h))

-- where every rule holds and the bound is not passed nothing is told
pub kept_is_silent : (s : SchemaTree Place) (told : List PlacedFault) → TellsSchema s told → SchemaRules (judged s) → IsWithinReferenceBound (judged s) → told ≡ []
kept_is_silent s [] tells rules within = refl
kept_is_silent s (f ∷ fs) tells rules within =
    let t = tells.right f (Contains-first f fs f refl) in
    elim t.1.0 [ inl b ↦ absurd (rules t.0 b) | inr p ↦ absurd (within t.0 p) ]
