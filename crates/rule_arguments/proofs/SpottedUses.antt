-- What rules tell of directives by their addresses in a schema is what they tell of them where they stand.
use Rattle.std.proofs.Common.{◌≡◌, ℕ, ◌+◌, ◌↔◌, List, [], ◌∷◌, map, refl, sym, ap, subst, ◌∙◌, Option, None, Some, zero, suc, slice_get, option_map, option_and_then, arith}
use Rattle.graphql_names.specs.Placed.{Placed, Place, Text, unplaced_node}
use Rattle.tree_literals.specs.ValueTree.{ValueTree, ItemTrees, EntryTrees, NullTree, EnumTree, VariableTree, StringTree, FloatTree, IntTree, BooleanTree, ListTree, ObjectTree, no_items, item_then, no_entries, entry_then, unplaced_value, unplaced_items, unplaced_entries}
use Rattle.tree_literals.specs.ValueQueries.{list_items, object_entries}
use Rattle.tree_directives.specs.DirectiveTree.{ArgumentTree, DirectiveTree, Directives, unplaced_argument, unplaced_directive}
use Rattle.tree_directives.specs.declared.directive_location.DirectiveLocation.{DirectiveLocation}
use Rattle.schema_types.specs.SchemaTree.{SchemaTree}
use Rattle.schema_types.specs.Addresses.{Address, SchemaAt, DirectiveAt, GivenAt, GivenValueAt, place_at, directives_at, given_at, or_nothing}
use Rattle.rule_values.specs.in_rule_definitions.Diagnostics.{Diagnostic, map_places}
use Rattle.rule_values.specs.in_rule_definitions.GivenValues.{entry_list}
use Rattle.rule_values.specs.in_rule_definitions.Spots.{Spot, At, HeadAt, ItemAt, KeyAt, EntryAt, each_from, spotted_value, spotted_items, spotted_entries, spotted_argument, spotted_directive, spotted_directives, item_of, written_at, spot_place, SpotIsAt}
use Rattle.rule_values.specs.in_rule_definitions.Faults.{FaultAt, SchemaFault, wrong}
use Rattle.rule_values.specs.in_rule_definitions.Judged.{Judged}
use Rattle.rule_values.specs.in_rule_definitions.Uses.{UsesBreak}
use Rattle.rule_arguments.specs.Moved.{moved_value, moved_items, moved_entries, moved_argument, moved_directive}
use Rattle.rule_arguments.proofs.MovedValues.{Carries, moved_fault}
use Rattle.rule_arguments.proofs.MovedUses.{uses_moved}

carries_places : {P Q E F : Type 0} (p : P → Q) (e : E → F) → Carries p (map_places p e)
carries_places p e = record {
  unique_input_value = λ n a b. refl;
  undefined_variable = λ n. refl;
  unsupported_value_type = λ v ty a. refl;
  int_coercion_error = λ digits. refl;
  undefined_enum_value = λ v n a. refl;
  undefined_input_value = λ v n a. refl;
  required_field = λ n c ty a. refl;
  unique_argument = λ n a b. refl;
  undefined_argument = λ n c a. refl;
  required_argument = λ n c ty a. refl;
  undefined_directive = λ n. refl;
  unsupported_location = λ n l ls a. refl;
  unique_directive = λ n a. refl;
}

carries_itself : {P E : Type 0} → Carries {P = P} {E = E} {Q = P} {F = E} (λ a. a) (λ b. b)
carries_itself = record {
  unique_input_value = λ n a b. refl;
  undefined_variable = λ n. refl;
  unsupported_value_type = λ v ty a. refl;
  int_coercion_error = λ digits. refl;
  undefined_enum_value = λ v n a. refl;
  undefined_input_value = λ v n a. refl;
  required_field = λ n c ty a. refl;
  unique_argument = λ n a b. refl;
  undefined_argument = λ n c a. refl;
  required_argument = λ n c ty a. refl;
  undefined_directive = λ n. refl;
  unsupported_location = λ n l ls a. refl;
  unique_directive = λ n a. refl;
}

-- the number of the i-th place after k others
abbrev following : ℕ → ℕ → ℕ
following zero k = k
following (suc i) k = following i (suc k)

after_is : (i k : ℕ) → following i k ≡ i + k
after_is zero k = omega arith
after_is (suc i) k = let e : i + suc k ≡ suc i + k = omega arith in after_is i (suc k) ∙ e

add_zero : (i : ℕ) → i + 0 ≡ i
add_zero i = omega arith

after_nothing : (i : ℕ) → following i 0 ≡ i
after_nothing i = after_is i 0 ∙ add_zero i

each_agrees : {W X Y Z : Type 0} (f : ℕ → X → Y) (u : W → X) (g : Y → Z) (h : W → Z) (k : ℕ) (ws : List W) → ((i : ℕ) (w : W) → slice_get ws i ≡ Some w → g (f (following i k) (u w)) ≡ h w) → map g (each_from f k (map u ws)) ≡ map h ws
each_agrees f u g h k [] each = refl
each_agrees f u g h k (w ∷ ws) each = λ i. each zero w refl i ∷ each_agrees f u g h (suc k) ws (λ j x e. each (suc j) x e) i

each_same : {X Y Z : Type 0} (f : ℕ → X → Y) (g h : Y → Z) (k : ℕ) (xs : List X) → ((i : ℕ) (x : X) → g (f i x) ≡ h (f i x)) → map g (each_from f k xs) ≡ map h (each_from f k xs)
each_same f g h k [] same = refl
each_same f g h k (x ∷ xs) same = λ i. same k x i ∷ each_same f g h (suc k) xs same i

-- ---- no spot of a directive is a head

-- a spot that is no head
abbrev settled : Spot → Spot
settled (HeadAt n) = At SchemaAt
settled (At a) = At a
settled (ItemAt list i) = ItemAt list i
settled (KeyAt object i) = KeyAt object i
settled (EntryAt object i) = EntryAt object i

abbrev nowhere : Spot
nowhere = At SchemaAt

abbrev itself : {A : Type 0} → A → A
itself a = a

mutual
  settled_value : (at : Spot) (v : ValueTree (Unit {0})) → moved_value settled nowhere (spotted_value at v) ≡ moved_value itself nowhere (spotted_value at v)
  settled_value at NullTree = refl
  settled_value at (EnumTree n) = refl
  settled_value at (VariableTree n) = refl
  settled_value at (StringTree s) = refl
  settled_value at (FloatTree s) = refl
  settled_value at (IntTree s) = refl
  settled_value at (BooleanTree b) = refl
  settled_value at (ListTree ts) = ap ListTree (settled_items at 0 ts)
  settled_value at (ObjectTree es) = ap ObjectTree (settled_entries at 0 es)

  settled_items : (at : Spot) (i : ℕ) (ts : ItemTrees (Unit {0})) → moved_items settled nowhere (spotted_items at i ts) ≡ moved_items itself nowhere (spotted_items at i ts)
  settled_items at i no_items = refl
  settled_items at i (item_then place v ts) = λ j. item_then (ItemAt at i) (settled_value (ItemAt at i) v j) (settled_items at (suc i) ts j)

  settled_entries : (at : Spot) (i : ℕ) (es : EntryTrees (Unit {0})) → moved_entries settled nowhere (spotted_entries at i es) ≡ moved_entries itself nowhere (spotted_entries at i es)
  settled_entries at i no_entries = refl
  settled_entries at i (entry_then n place v es) = λ j. entry_then (record { it = n.it; place = KeyAt at i }) (EntryAt at i) (settled_value (EntryAt at i) v j) (settled_entries at (suc i) es j)

settled_argument : (at : Address) (a : Placed (Unit {0}) (ArgumentTree (Unit {0}))) → moved_argument settled nowhere (spotted_argument at a) ≡ moved_argument itself nowhere (spotted_argument at a)
settled_argument at a = λ j. record { it = record { name = record { it = a.it.name.it; place = nowhere }; value = record { it = settled_value (At (GivenValueAt at)) a.it.value.it j; place = At (GivenValueAt at) } }; place = At at }

settled_directive : (at : Address) (d : DirectiveTree (Unit {0})) → moved_directive settled nowhere (spotted_directive at d) ≡ moved_directive itself nowhere (spotted_directive at d)
settled_directive at d = λ j. record {
  it = record {
    name = record { it = d.name.it; place = nowhere };
    arguments = each_same (λ i a. spotted_argument (GivenAt at i) a) (moved_argument settled nowhere) (moved_argument itself nowhere) 0 d.arguments (λ i a. settled_argument (GivenAt at i) a) j;
  };
  place = At at;
}

settled_directives : (holder : Address) (ds : List (DirectiveTree (Unit {0}))) → map (moved_directive settled nowhere) (spotted_directives holder ds) ≡ map (moved_directive itself nowhere) (spotted_directives holder ds)
settled_directives holder ds = each_same (λ i d. spotted_directive (DirectiveAt holder i) d) (moved_directive settled nowhere) (moved_directive itself nowhere) 0 ds (λ i d. settled_directive (DirectiveAt holder i) d)

-- ---- a spot is where the thing stands

module _ (s : SchemaTree Place) where
  abbrev spot : Spot → Place
  spot at = spot_place s at

  mutual
    placed_value : (at : Spot) (v : ValueTree Place) (p : Place) → written_at s at ≡ Some (record { it = v; place = p }) → moved_value spot None (spotted_value at (unplaced_value v)) ≡ moved_value itself None v
    placed_value at NullTree p e = refl
    placed_value at (EnumTree n) p e = refl
    placed_value at (VariableTree n) p e = refl
    placed_value at (StringTree x) p e = refl
    placed_value at (FloatTree x) p e = refl
    placed_value at (IntTree x) p e = refl
    placed_value at (BooleanTree b) p e = refl
    placed_value at (ListTree ts) p e =
        ap ListTree (placed_items at 0 ts (λ j. ap (λ (o : Option (Placed Place (ValueTree Place))). option_and_then (λ (v : Placed Place (ValueTree Place)). option_and_then (λ (xs : ItemTrees Place). item_of xs (following j 0)) (list_items v.it)) o) e ∙ ap (item_of ts) (after_nothing j)))
    placed_value at (ObjectTree es) p e =
        ap ObjectTree (placed_entries at 0 es (λ j. ap (λ (o : Option (Placed Place (ValueTree Place))). option_and_then (λ (v : Placed Place (ValueTree Place)). option_and_then (λ (xs : EntryTrees Place). slice_get (entry_list xs) (following j 0)) (object_entries v.it)) o) e ∙ ap (slice_get (entry_list es)) (after_nothing j)))

    placed_items : (at : Spot) (i : ℕ) (ts : ItemTrees Place) → ((j : ℕ) → written_at s (ItemAt at (following j i)) ≡ item_of ts j) → moved_items spot None (spotted_items at i (unplaced_items ts)) ≡ moved_items itself None ts
    placed_items at i no_items there = refl
    placed_items at i (item_then p v ts) there = λ k. item_then
        (ap (λ (o : Option (Placed Place (ValueTree Place))). option_and_then (λ (x : Placed Place (ValueTree Place)). x.place) o) (there zero) k)
        (placed_value (ItemAt at i) v p (there zero) k)
        (placed_items at (suc i) ts (λ j. there (suc j)) k)

    placed_entries : (at : Spot) (i : ℕ) (es : EntryTrees Place) → ((j : ℕ) → option_and_then (λ v. option_and_then (λ xs. slice_get (entry_list xs) (following j i)) (object_entries v.it)) (written_at s at) ≡ slice_get (entry_list es) j) → moved_entries spot None (spotted_entries at i (unplaced_entries es)) ≡ moved_entries itself None es
    placed_entries at i no_entries there = refl
    placed_entries at i (entry_then n p v es) there = λ k. entry_then
        (record { it = n.it; place = ap (λ (o : Option (Text Place × Placed Place (ValueTree Place))). option_and_then (λ (e : Text Place × Placed Place (ValueTree Place)). e.0.place) o) (there zero) k })
        (ap (λ (o : Option (Text Place × Placed Place (ValueTree Place))). option_and_then (λ (x : Placed Place (ValueTree Place)). x.place) (option_map (λ (e : Text Place × Placed Place (ValueTree Place)). e.1) o)) (there zero) k)
        (placed_value (EntryAt at i) v p (ap (λ (o : Option (Text Place × Placed Place (ValueTree Place))). option_map (λ (e : Text Place × Placed Place (ValueTree Place)). e.1) o) (there zero)) k)
        (placed_entries at (suc i) es (λ j. there (suc j)) k)

  placed_argument : (at : Address) (a : Placed Place (ArgumentTree Place)) → given_at s at ≡ Some a → place_at s at ≡ a.place → moved_argument spot None (spotted_argument at (unplaced_node unplaced_argument a)) ≡ moved_argument itself None a
  placed_argument at a e p = λ k. record {
    it = record {
      name = record { it = a.it.name.it; place = None };
      value = record {
        it = placed_value (At (GivenValueAt at)) a.it.value.it a.it.value.place (ap (λ (o : Option (Placed Place (ArgumentTree Place))). option_map (λ (x : Placed Place (ArgumentTree Place)). x.it.value) o) e) k;
        place = ap (λ (o : Option (Placed Place (ArgumentTree Place))). or_nothing (option_map (λ (x : Placed Place (ArgumentTree Place)). x.it.value.place) o)) e k;
      };
    };
    place = p k;
  }

  -- what is found there
  given_found : (holder : Address) (j i : ℕ) (d : Placed Place (DirectiveTree Place)) (a : Placed Place (ArgumentTree Place)) → slice_get (directives_at s holder) j ≡ Some d → slice_get d.it.arguments i ≡ Some a
      → given_at s (GivenAt (DirectiveAt holder j) i) ≡ Some a
  given_found holder j i d a there e = ap (λ (o : Option (Placed Place (DirectiveTree Place))). or_nothing (option_map (λ (x : Placed Place (DirectiveTree Place)). slice_get x.it.arguments i) o)) there ∙ e

  placed_directive : (holder : Address) (j : ℕ) (d : Placed Place (DirectiveTree Place)) → slice_get (directives_at s holder) j ≡ Some d → moved_directive spot None (spotted_directive (DirectiveAt holder j) (unplaced_directive d.it)) ≡ moved_directive itself None d
  placed_directive holder j d there = λ k. record {
    it = record {
      name = record { it = d.it.name.it; place = None };
      arguments =
          each_agrees (λ i a. spotted_argument (GivenAt (DirectiveAt holder j) i) a) (unplaced_node unplaced_argument) (moved_argument spot None) (moved_argument itself None) 0 d.it.arguments
          (λ i a e.
          let found : given_at s (GivenAt (DirectiveAt holder j) (following i 0)) ≡ Some a = given_found holder j (following i 0) d a there (ap (slice_get d.it.arguments) (after_nothing i) ∙ e) in
          placed_argument (GivenAt (DirectiveAt holder j) (following i 0)) a found (ap (λ (o : Option (Placed Place (ArgumentTree Place))). or_nothing (option_map (λ (x : Placed Place (ArgumentTree Place)). x.place) o)) found))
          k;
    };
    place = ap (λ (o : Option (Placed Place (DirectiveTree Place))). or_nothing (option_map (λ (x : Placed Place (DirectiveTree Place)). x.place) o)) there k;
  }

  placed_directives : (holder : Address) (ds : Directives Place) → directives_at s holder ≡ ds → map (moved_directive spot None) (spotted_directives holder (map (λ d. unplaced_directive d.it) ds)) ≡ map (moved_directive itself None) ds
  placed_directives holder ds same =
      each_agrees (λ i d. spotted_directive (DirectiveAt holder i) d) (λ d. unplaced_directive d.it) (moved_directive spot None) (moved_directive itself None) 0 ds
      (λ i d e. placed_directive holder (following i 0) d (ap (λ l. slice_get l (following i 0)) same ∙ ap (slice_get ds) (after_nothing i) ∙ e))

  -- a spot that is no head is where it is found
  stands_settled : (at : Spot) (place : Place) → SpotIsAt s (settled at) place ↔ (place ≡ spot_place s (settled at))
  stands_settled (HeadAt n) place = (λ h. h, λ h. h)
  stands_settled (At a) place = (λ h. h, λ h. h)
  stands_settled (ItemAt list i) place = (λ h. h, λ h. h)
  stands_settled (KeyAt object i) place = (λ h. h, λ h. h)
  stands_settled (EntryAt object i) place = (λ h. h, λ h. h)

  module _ (j : Judged) (e : Address → List Place) (holder : Address) (location : DirectiveLocation) (ds : Directives Place) (same : directives_at s holder ≡ ds) where
    -- the directives by their addresses
    abbrev there : Directives Spot
    there = spotted_directives holder (map (λ d. unplaced_directive d.it) ds)

    abbrev told_place : Diagnostic Spot Address → Diagnostic Place (List Place)
    told_place b = map_places spot e b

    abbrev Broken : SchemaFault → Type 0
    Broken g = UsesBreak At j [] location there g

    -- each place of them, or none
    abbrev Blurred : Directives Place → FaultAt Place (List Place) → Type 0
    Blurred xs f = UsesBreak (place_at s) j [] location xs f

    blurred : (f : FaultAt Place (List Place)) → Blurred (map (moved_directive itself None) ds) f ↔ Blurred ds f
    blurred f =
        let moved = uses_moved itself None itself carries_itself (place_at s) j location ds f in
        (λ h. let r = moved.0 h in subst (Blurred ds) (sym r.1.1) r.1.0, λ h. moved.1 (f, (h, refl)))

    placed : (f : FaultAt Place (List Place)) → Blurred (map (moved_directive itself None) ds) f ↔ ((g : SchemaFault) × (Broken g × (f ≡ moved_fault spot told_place g)))
    placed f =
        subst (λ xs. Blurred xs f ↔ ((g : SchemaFault) × (Broken g × (f ≡ moved_fault spot told_place g)))) (placed_directives holder ds same)
        (uses_moved spot None told_place (carries_places spot e) At j location there f)

    -- where it stands is no head
    no_head : (g : SchemaFault) → Broken g → (at : Spot) × (g.place ≡ settled at)
    no_head g h =
        let blur = uses_moved itself nowhere itself carries_itself At j location there g in
        let head = uses_moved settled nowhere (map_places settled (λ a. a)) (carries_places settled (λ a. a)) At j location there g in
        let r = head.0 (subst (λ xs. UsesBreak At j [] location xs g) (sym (settled_directives holder (map (λ d. unplaced_directive d.it) ds))) (blur.1 (g, (h, refl)))) in
        (r.0.place, ap (λ (x : SchemaFault). x.place) r.1.1)

    stands : (g : SchemaFault) → Broken g → (place : Place) → SpotIsAt s g.place place ↔ (place ≡ spot_place s g.place)
    stands g h place =
        let r = no_head g h in
        subst (λ at. SpotIsAt s at place ↔ (place ≡ spot_place s at)) (sym r.1) (stands_settled r.0 place)

    -- what the rules tell of the directives where they stand is what they tell of them by their addresses, told there
    pub uses_told : (f : FaultAt Place (List Place)) → UsesBreak (place_at s) j [] location ds f
        ↔ ((g : SchemaFault) × (UsesBreak At j [] location there g × (SpotIsAt s g.place f.place × (f.breach ≡ map_places (spot_place s) e g.breach))))
    uses_told f = (
      λ h. let r = (placed f).0 ((blurred f).1 h) in
          (r.0, (r.1.0, ((stands r.0 r.1.0 f.place).1 (ap (λ (x : FaultAt Place (List Place)). x.place) r.1.1), ap (λ (x : FaultAt Place (List Place)). x.breach) r.1.1))),
      λ q. (blurred f).0 ((placed f).1 (q.0, (q.1.0, λ i. wrong ((stands q.0 q.1.0 f.place).0 q.1.1.0 i) (q.1.1.1 i)))),
    )
