-- What is reached does not depend on places: without them the same is reached, at the same positions.
use Rattle.std.proofs.Common.{◌≡◌, ℕ, suc, Bool, true, false, List, [], ◌∷◌, map, find, bytes_eq, if◌then◌else◌, Option, None, Some, Contains, refl, sym, ap, subst, ◌∙◌, inl, inr}
use Rattle.std.specs.Option.{option_map}
use Rattle.std.proofs.lemmas.List.Elements.{Contains-append_right}
use Rattle.graphql_names.specs.Placed.{Text, unplaced_text}
use Rattle.tree_operations.specs.SelectionTree.{unplaced_head}
use Rattle.spec_document.specs.in_components.Names.{Entries}
use Rattle.rule_definitions.specs.in_schema_types.Addresses.{under}
use Rattle.spec_document.specs.MeantTree.{MeantSelection, MeantField, MeantSpread, MeantInline, MeantSet, meant_set, MeantSelections, no_meant, meant_then, MeantOperation, MeantFragment, MeantDocument}
use Rattle.spec_document.specs.Unplaced.{unplaced_meant, unplaced_set, unplaced_members, unplaced_operation, unplaced_fragment, unplaced_document}
use Rattle.rule_definitions.proofs.Lists.{not_in_nil, Contains-cons, Contains-first, mapped_some}
use Rattle.rule_document_definitions.specs.Selected.{Position, InOperation, InFragment, SelectionAt, Standing, StandingField, stand, standing_in, field_there, as_field, in_inline, spread_name, fragment_named, own, held, operation_name}
use Rattle.rule_document_definitions.specs.Reached.{Closed, first, next, InFragmentOf, LeadsInto, IsFieldOf, Reached}

-- ---- lists and least sets

module _ {X Y : Type 0} (f : X → Y) where
  pub contains_map : (xs : List X) (x : X) → Contains xs x → Contains (map f xs) (f x)
  contains_map [] x h = not_in_nil x h
  contains_map (z ∷ xs) x h = elim (Contains-cons z xs x h) [
    | inl e ↦ Contains-first (f z) (map f xs) (f x) (ap f e)
    | inr r ↦ Contains-append_right (f z ∷ []) (map f xs) (f x) (contains_map xs x r)
  ]

  pub contains_unmap : (xs : List X) (y : Y) → Contains (map f xs) y → (x : X) × (Contains xs x × (f x ≡ y))
  contains_unmap [] y h = not_in_nil y h
  contains_unmap (z ∷ xs) y h = elim (Contains-cons (f z) (map f xs) y h) [
    | inl e ↦ (z, (Contains-first z xs z refl, e))
    | inr r ↦ let p = contains_unmap xs y r in (p.0, (Contains-append_right (z ∷ []) xs p.0 p.1.0, p.1.1))
  ]

  module _ {First : X → Type 0} {Next : X → X → Type 0} {Start : Y → Type 0} {Step : Y → Y → Type 0} where
    pub closed_map : ((x : X) → First x → Start (f x)) → ((x y : X) → Next x y → Step (f x) (f y)) → (x : X) → Closed First Next x → Closed Start Step (f x)
    closed_map s t x (first h) = first (s x h)
    closed_map s t y (next {x} r l) = next (closed_map s t x r) (t x y l)

    pub closed_unmap : ((y : Y) → Start y → (x : X) × (First x × (f x ≡ y))) → ((x : X) (y : Y) → Step (f x) y → (z : X) × (Next x z × (f z ≡ y)))
        → (y : Y) → Closed Start Step y → (x : X) × (Closed First Next x × (f x ≡ y))
    closed_unmap s t y (first h) = let p = s y h in (p.0, (first p.1.0, p.1.1))
    closed_unmap s t y (next {x = w} r l) =
        let p = closed_unmap s t w r in
        let q = t p.0 y (subst (λ v. Step v y) (sym p.1.1) l) in
        (q.0, (next p.1.0 q.1.0, q.1.1))

-- ---- what is in a document

module _ {P : Type 0} where
  abbrev pub unplaced_standing : Standing P → Standing (Unit {0})
  unplaced_standing x = record { position = x.position; parent = x.parent; it = unplaced_meant x.it }

  abbrev pub unplaced_field : StandingField P → StandingField (Unit {0})
  unplaced_field f = record { position = f.position; parent = f.parent; place = tt; definition = f.definition; head = unplaced_head f.head; set = unplaced_set f.set }

  stand_same : (h : Position) (t : List ℕ) (i : ℕ) (ss : MeantSelections P) → stand h t i (unplaced_members ss) ≡ map unplaced_standing (stand h t i ss)
  stand_same h t i no_meant = refl
  stand_same h t i (meant_then s ss) = ap (λ l. unplaced_standing (record { position = SelectionAt h i; parent = t; it = s }) ∷ l) (stand_same h t (suc i) ss)

  pub standing_same : (h : Position) (s : MeantSet P) → standing_in h (unplaced_set s) ≡ map unplaced_standing (standing_in h s)
  standing_same h (meant_set t ss) = stand_same h t 0 ss

  pub field_same : (at : Position) (t : List ℕ) (s : MeantSelection P) → field_there at t (unplaced_meant s) ≡ option_map unplaced_field (field_there at t s)
  field_same at t (MeantField p d h s) = refl
  field_same at t (MeantSpread p n ds) = refl
  field_same at t (MeantInline p c ds s) = refl

  pub inline_same : (at : Position) (s : MeantSelection P) → in_inline at (unplaced_meant s) ≡ map unplaced_standing (in_inline at s)
  inline_same at (MeantField p d h s) = refl
  inline_same at (MeantSpread p n ds) = refl
  inline_same at (MeantInline p c ds s) = standing_same at s

  pub spread_same : (s : MeantSelection P) → spread_name (unplaced_meant s) ≡ spread_name s
  spread_same (MeantField p d h s) = refl
  spread_same (MeantSpread p n ds) = refl
  spread_same (MeantInline p c ds s) = refl

  pub name_same : (n : Option (Text P)) → option_map (λ m. m.it) (option_map unplaced_text n) ≡ option_map (λ m. m.it) n
  name_same None = refl
  name_same (Some n) = refl

  pub own_same : (o : MeantOperation P) → own (unplaced_operation o) ≡ map unplaced_standing (own o)
  own_same o = ap (λ n. standing_in (InOperation n) (unplaced_set o.set)) (name_same o.name) ∙ standing_same (InOperation (operation_name o)) o.set

  pub held_same : (f : MeantFragment P) → held (unplaced_fragment f) ≡ map unplaced_standing (held f)
  held_same f = standing_same (InFragment f.name.it) f.set

pub under_same : {A B : Type 0} (g : A → B) (n : List ℕ) (es : Entries A) → under n (map (λ e. (e.0, g e.1)) es) ≡ option_map g (under n es)
under_same g n [] = refl
under_same {A} {B} g n (e ∷ es) = by (bytes_eq n e.0) (under_same g n es)
  where
    by : (b : Bool) → under n (map (λ e. (e.0, g e.1)) es) ≡ option_map g (under n es)
        → option_map (λ (x : List ℕ × B). x.1) (if b then Some (e.0, g e.1) else find (λ (x : List ℕ × B). bytes_eq n x.0) (map (λ e. (e.0, g e.1)) es))
        ≡ option_map g (option_map (λ (x : List ℕ × A). x.1) (if b then Some e else find (λ (x : List ℕ × A). bytes_eq n x.0) es))
    by true rest = refl
    by false rest = rest

-- ---- what is reached

module _ {P : Type 0} (d : MeantDocument P) where
  pub fragment_same : (n : List ℕ) → fragment_named (unplaced_document d) n ≡ option_map unplaced_fragment (fragment_named d n)
  fragment_same n = under_same unplaced_fragment n d.fragments

  pub fragments_map : (x y : Standing P) → InFragmentOf d x y → InFragmentOf (unplaced_document d) (unplaced_standing x) (unplaced_standing y)
  fragments_map x y (inl h) = inl (subst (λ l. Contains l (unplaced_standing y)) (sym (inline_same x.position x.it)) (contains_map unplaced_standing (in_inline x.position x.it) y h))
  fragments_map x y (inr (n, (e, (g, (k, h))))) = inr (
    n,
    (
      spread_same x.it ∙ e,
      (
        unplaced_fragment g,
        (
          fragment_same n ∙ ap (option_map unplaced_fragment) k,
          subst (λ l. Contains l (unplaced_standing y)) (sym (held_same g)) (contains_map unplaced_standing (held g) y h),
        ),
      ),
    ),
  )

  pub fragments_unmap : (x : Standing P) (y : Standing (Unit {0})) → InFragmentOf (unplaced_document d) (unplaced_standing x) y → (z : Standing P) × (InFragmentOf d x z × (unplaced_standing z ≡ y))
  fragments_unmap x y (inl h) =
      let z = contains_unmap unplaced_standing (in_inline x.position x.it) y (subst (λ l. Contains l y) (inline_same x.position x.it) h) in
      (z.0, (inl z.1.0, z.1.1))
  fragments_unmap x y (inr (n, (e, (g, (k, h))))) =
      let m = mapped_some unplaced_fragment (fragment_named d n) g (sym (fragment_same n) ∙ k) in
      let z = contains_unmap unplaced_standing (held m.0) y (subst (λ l. Contains l y) (held_same m.0) (subst (λ f. Contains (held f) y) m.1.1 h)) in
      (z.0, (inr (n, (sym (spread_same x.it) ∙ e, (m.0, (m.1.0, z.1.0)))), z.1.1))

  pub leads_map : (x y : Standing P) → LeadsInto d x y → LeadsInto (unplaced_document d) (unplaced_standing x) (unplaced_standing y)
  leads_map x y (inl (f, (e, h))) = inl (
    unplaced_field f,
    (
      field_same x.position x.parent x.it ∙ ap (option_map unplaced_field) e,
      subst (λ l. Contains l (unplaced_standing y)) (sym (standing_same f.position f.set)) (contains_map unplaced_standing (standing_in f.position f.set) y h),
    ),
  )
  leads_map x y (inr p) = inr (fragments_map x y p)

  pub leads_unmap : (x : Standing P) (y : Standing (Unit {0})) → LeadsInto (unplaced_document d) (unplaced_standing x) y → (z : Standing P) × (LeadsInto d x z × (unplaced_standing z ≡ y))
  leads_unmap x y (inl (g, (e, h))) =
      let m = mapped_some unplaced_field (as_field x) g (sym (field_same x.position x.parent x.it) ∙ e) in
      let z = contains_unmap unplaced_standing (standing_in m.0.position m.0.set) y
      (subst (λ l. Contains l y) (standing_same m.0.position m.0.set) (subst (λ (k : StandingField (Unit {0})). Contains (standing_in k.position k.set) y) m.1.1 h)) in
      (z.0, (inl (m.0, (m.1.0, z.1.0)), z.1.1))
  leads_unmap x y (inr p) = let z = fragments_unmap x y p in (z.0, (inr z.1.0, z.1.1))

  -- ---- the fields of a set

  pub field_of_map : (at : Position) (s : MeantSet P) (f : StandingField P) → IsFieldOf d at s f → IsFieldOf (unplaced_document d) at (unplaced_set s) (unplaced_field f)
  field_of_map at s f (x, (r, e)) = (
    unplaced_standing x,
    (
      closed_map unplaced_standing (λ z h. subst (λ l. Contains l (unplaced_standing z)) (sym (standing_same at s)) (contains_map unplaced_standing (standing_in at s) z h)) fragments_map x r,
      field_same x.position x.parent x.it ∙ ap (option_map unplaced_field) e,
    ),
  )

  pub field_of_unmap : (at : Position) (s : MeantSet P) (g : StandingField (Unit {0})) → IsFieldOf (unplaced_document d) at (unplaced_set s) g → (f : StandingField P) × (IsFieldOf d at s f × (unplaced_field f ≡ g))
  field_of_unmap at s g (y, (r, e)) =
      let p = closed_unmap unplaced_standing (λ w h. contains_unmap unplaced_standing (standing_in at s) w (subst (λ l. Contains l w) (standing_same at s) h)) fragments_unmap y r in
      let m = mapped_some unplaced_field (as_field p.0) g (sym (field_same p.0.position p.0.parent p.0.it) ∙ subst (λ (v : Standing (Unit {0})). as_field v ≡ Some g) (sym p.1.1) e) in
      (m.0, ((p.0, (p.1.0, m.1.0)), sym m.1.1))

  module _ (o : MeantOperation P) where
    pub reached_without_places : (x : Standing P) → Reached d o x → Reached (unplaced_document d) (unplaced_operation o) (unplaced_standing x)
    reached_without_places x r = closed_map unplaced_standing
        (λ z h. subst (λ l. Contains l (unplaced_standing z)) (sym (own_same o)) (contains_map unplaced_standing (own o) z h)) leads_map x r

    pub reached_with_places : (y : Standing (Unit {0})) → Reached (unplaced_document d) (unplaced_operation o) y → (x : Standing P) × (Reached d o x × (unplaced_standing x ≡ y))
    reached_with_places y r = closed_unmap unplaced_standing
        (λ w h. contains_unmap unplaced_standing (own o) w (subst (λ l. Contains l w) (own_same o) h)) leads_unmap y r
