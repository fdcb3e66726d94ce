-- What rules tell of what an operation reaches is what they tell of it without places; and all that a document holds is there.
use Rattle.std.proofs.Common.{◌≡◌, ℕ, suc, List, [], ◌∷◌, ◌++◌, map, flat_map, refl, sym, ap, ap₂, subst, ◌∙◌, Option, None, Some, Contains}
use Rattle.std.specs.Option.{option_map}
use Rattle.std.specs.List.{cons_option}
use Rattle.spec_document.specs.MeantTree.{MeantSelection, MeantField, MeantSpread, MeantInline, MeantSet, meant_set, MeantSelections, no_meant, meant_then, MeantOperation, MeantFragment, MeantDocument}
use Rattle.spec_document.specs.Unplaced.{unplaced_meant, unplaced_set, unplaced_members, unplaced_operation, unplaced_fragment, unplaced_document}
use Rattle.rule_definitions.specs.Words.{Present}
use Rattle.rule_definitions.proofs.Lists.{mapped_some}
use Rattle.rule_document_definitions.specs.Selected.{Position, InOperation, InFragment, SelectionAt, Standing, StandingField, all_in, all_from, all_below, all_selections, as_field, spread_name, operations, fragments, fragment_named, operation_name, own}
use Rattle.rule_document_definitions.specs.Reached.{Reached, ReachesFragment, AtOperation, AtReached, AtReachedField, AtReachedFragment, AtRoot}
use Rattle.rule_document_definitions.proofs.Moves.{Moves, moves_among, moves_contained, moves_present}
use Rattle.rule_document_definitions.proofs.Unplaced.{contains_map, contains_unmap, closed_map, closed_unmap, unplaced_standing, unplaced_field, field_same, spread_same, fragment_same, name_same, own_same, fragments_map, fragments_unmap, reached_without_places, reached_with_places}

-- ---- lists

pub map_append : {X Y : Type 0} (f : X → Y) (xs ys : List X) → map f (xs ++ ys) ≡ map f xs ++ map f ys
map_append f [] ys = refl
map_append f (x ∷ xs) ys = ap (λ l. f x ∷ l) (map_append f xs ys)

-- what each gives, where u leaves places out of each and v out of what it gives
pub flat_map_same : {X Y V W : Type 0} (u : X → Y) (v : V → W) (f : X → List V) (g : Y → List W) → ((x : X) → g (u x) ≡ map v (f x)) → (xs : List X) → flat_map g (map u xs) ≡ map v (flat_map f xs)
flat_map_same u v f g each [] = refl
flat_map_same u v f g each (x ∷ xs) = ap₂ (λ a b. a ++ b) (each x) (flat_map_same u v f g each xs) ∙ sym (map_append v (f x) (flat_map f xs))

pub cons_option_same : {X Y : Type 0} (u : X → Y) (o : Option X) (xs : List X) → cons_option (option_map u o) (map u xs) ≡ map u (cons_option o xs)
cons_option_same u None xs = refl
cons_option_same u (Some x) xs = refl

values_same : {X Y : Type 0} (u : X → Y) (es : List (List ℕ × X)) → map (λ (e : List ℕ × Y). e.1) (map (λ (e : List ℕ × X). (e.0, u e.1)) es) ≡ map u (map (λ (e : List ℕ × X). e.1) es)
values_same u [] = refl
values_same u (e ∷ es) = ap (λ l. u e.1 ∷ l) (values_same u es)

-- ---- all that a document holds

module _ {P : Type 0} where
  mutual
    all_in_same : (h : Position) (s : MeantSet P) → all_in h (unplaced_set s) ≡ map unplaced_standing (all_in h s)
    all_in_same h (meant_set t ss) = all_from_same h t 0 ss

    all_from_same : (h : Position) (t : List ℕ) (i : ℕ) (ss : MeantSelections P) → all_from h t i (unplaced_members ss) ≡ map unplaced_standing (all_from h t i ss)
    all_from_same h t i no_meant = refl
    all_from_same h t i (meant_then s ss) =
        ap (λ l. unplaced_standing (record { position = SelectionAt h i; parent = t; it = s }) ∷ l)
        (ap₂ (λ a b. a ++ b) (all_below_same (SelectionAt h i) s) (all_from_same h t (suc i) ss)
        ∙ sym (map_append unplaced_standing (all_below (SelectionAt h i) s) (all_from h t (suc i) ss)))

    all_below_same : (at : Position) (s : MeantSelection P) → all_below at (unplaced_meant s) ≡ map unplaced_standing (all_below at s)
    all_below_same at (MeantField p d h s) = all_in_same at s
    all_below_same at (MeantSpread p n ds) = refl
    all_below_same at (MeantInline p c ds s) = all_in_same at s

  pub all_held_same : (h : Position) (s : MeantSet P) → all_in h (unplaced_set s) ≡ map unplaced_standing (all_in h s)
  all_held_same h s = all_in_same h s

module _ {P : Type 0} (d : MeantDocument P) where
  pub operations_same : operations (unplaced_document d) ≡ map unplaced_operation (operations d)
  operations_same = ap (cons_option (option_map unplaced_operation d.anonymous)) (values_same unplaced_operation d.named)
      ∙ cons_option_same unplaced_operation d.anonymous (map (λ e. e.1) d.named)

  pub fragments_same : fragments (unplaced_document d) ≡ map unplaced_fragment (fragments d)
  fragments_same = values_same unplaced_fragment d.fragments

  pub all_selections_same : all_selections (unplaced_document d) ≡ map unplaced_standing (all_selections d)
  all_selections_same =
      ap₂ (λ a b. a ++ b)
      (ap (flat_map (λ (o : MeantOperation (Unit {0})). all_in (InOperation (operation_name o)) o.set)) operations_same
      ∙ flat_map_same unplaced_operation unplaced_standing (λ o. all_in (InOperation (operation_name o)) o.set) (λ o. all_in (InOperation (operation_name o)) o.set)
      (λ o. ap (λ n. all_in (InOperation n) (unplaced_set o.set)) (name_same o.name) ∙ all_in_same (InOperation (operation_name o)) o.set) (operations d))
      (ap (flat_map (λ (f : MeantFragment (Unit {0})). all_in (InFragment f.name.it) f.set)) fragments_same
      ∙ flat_map_same unplaced_fragment unplaced_standing (λ f. all_in (InFragment f.name.it) f.set) (λ f. all_in (InFragment f.name.it) f.set)
      (λ f. all_in_same (InFragment f.name.it) f.set) (fragments d))
      ∙ sym (map_append unplaced_standing (flat_map (λ o. all_in (InOperation (operation_name o)) o.set) (operations d)) (flat_map (λ f. all_in (InFragment f.name.it) f.set) (fragments d)))

  -- ---- at the root

  module _ (o : MeantOperation P) where
    pub root_without_places : (x : Standing P) → AtRoot d o x → AtRoot (unplaced_document d) (unplaced_operation o) (unplaced_standing x)
    root_without_places x r = closed_map unplaced_standing
        (λ z h. subst (λ l. Contains l (unplaced_standing z)) (sym (own_same o)) (contains_map unplaced_standing (own o) z h)) (fragments_map d) x r

    pub root_with_places : (y : Standing (Unit {0})) → AtRoot (unplaced_document d) (unplaced_operation o) y → (x : Standing P) × (AtRoot d o x × (unplaced_standing x ≡ y))
    root_with_places y r = closed_unmap unplaced_standing
        (λ w h. contains_unmap unplaced_standing (own o) w (subst (λ l. Contains l w) (own_same o) h)) (fragments_unmap d) y r

    -- ---- fragments that are reached

    pub reaches_without_places : (f : MeantFragment P) → ReachesFragment d o f → ReachesFragment (unplaced_document d) (unplaced_operation o) (unplaced_fragment f)
    reaches_without_places f (x, (r, (n, (e, k)))) = (unplaced_standing x, (reached_without_places d o x r, (n, (spread_same x.it ∙ e, fragment_same d n ∙ ap (option_map unplaced_fragment) k))))

    pub reaches_with_places : (g : MeantFragment (Unit {0})) → ReachesFragment (unplaced_document d) (unplaced_operation o) g → (f : MeantFragment P) × (ReachesFragment d o f × (unplaced_fragment f ≡ g))
    reaches_with_places g (y, (r, (n, (e, k)))) =
        let p = reached_with_places d o y r in
        let m = mapped_some unplaced_fragment (fragment_named d n) g (sym (fragment_same d n) ∙ k) in
        (m.0, ((p.0, (p.1.0, (n, (sym (spread_same p.0.it) ∙ subst (λ (v : Standing (Unit {0})). spread_name v.it ≡ Some n) (sym p.1.1) e, m.1.0)))), sym m.1.1))

-- ---- rules

module _ {A B : Type 0} (Is : A → B → Type 0) {P : Type 0} (d : MeantDocument P) where
  pub moves_operation : (R : MeantOperation P → A → Type 0) (S : MeantOperation (Unit {0}) → B → Type 0) → ((o : MeantOperation P) → Moves Is (R o) (S (unplaced_operation o)))
      → Moves Is (λ g. AtOperation d (λ o. R o g)) (λ f. AtOperation (unplaced_document d) (λ o. S o f))
  moves_operation R S each = moves_contained Is unplaced_operation (operations d) (operations (unplaced_document d)) (operations_same d) R S each

  module _ (o : MeantOperation P) where
    pub moves_reached : (R : Standing P → A → Type 0) (S : Standing (Unit {0}) → B → Type 0) → ((x : Standing P) → Moves Is (R x) (S (unplaced_standing x)))
        → Moves Is (λ g. AtReached d o (λ x. R x g)) (λ f. AtReached (unplaced_document d) (unplaced_operation o) (λ x. S x f))
    moves_reached R S each = moves_among Is unplaced_standing (Reached d o) (Reached (unplaced_document d) (unplaced_operation o)) (reached_without_places d o) (reached_with_places d o) R S (λ x r. each x)

    pub moves_reached_field : (R : StandingField P → A → Type 0) (S : StandingField (Unit {0}) → B → Type 0) → ((x : StandingField P) → Moves Is (R x) (S (unplaced_field x)))
        → Moves Is (λ g. AtReachedField d o (λ x. R x g)) (λ f. AtReachedField (unplaced_document d) (unplaced_operation o) (λ x. S x f))
    moves_reached_field R S each = moves_reached (λ x g. Present (as_field x) (λ y. R y g)) (λ x f. Present (as_field x) (λ y. S y f))
        (λ x. moves_present Is unplaced_field (as_field x) (as_field (unplaced_standing x)) (field_same x.position x.parent x.it) R S each)

    pub moves_reached_fragment : (R : MeantFragment P → A → Type 0) (S : MeantFragment (Unit {0}) → B → Type 0) → ((x : MeantFragment P) → Moves Is (R x) (S (unplaced_fragment x)))
        → Moves Is (λ g. AtReachedFragment d o (λ x. R x g)) (λ f. AtReachedFragment (unplaced_document d) (unplaced_operation o) (λ x. S x f))
    moves_reached_fragment R S each = moves_among Is unplaced_fragment (ReachesFragment d o) (ReachesFragment (unplaced_document d) (unplaced_operation o)) (reaches_without_places d o) (reaches_with_places d o) R S (λ x r. each x)

    pub moves_root : (R : Standing P → A → Type 0) (S : Standing (Unit {0}) → B → Type 0) → ((x : Standing P) → Moves Is (R x) (S (unplaced_standing x)))
        → Moves Is (λ g. (x : Standing P) × (AtRoot d o x × R x g)) (λ f. (x : Standing (Unit {0})) × (AtRoot (unplaced_document d) (unplaced_operation o) x × S x f))
    moves_root R S each = moves_among Is unplaced_standing (AtRoot d o) (AtRoot (unplaced_document d) (unplaced_operation o)) (root_without_places d o) (root_with_places d o) R S (λ x r. each x)
