-- Selections by their members: what is in a set, wherever the set is; and what the rules read of a member.
use Rattle.std.proofs.Common.{◌≡◌, ℕ, suc, List, [], ◌∷◌, refl, sym, ap, subst, inl, inr, Option, None, Some, Contains, true≢false, is_some}
use Rattle.graphql_names.specs.Placed.{Place}
use Rattle.tree_directives.specs.DirectiveTree.{Directives}
use Rattle.tree_directives.specs.declared.directive_location.DirectiveLocation.{DirectiveLocation}
use Rattle.schema_components.proofs.Places.{not_in_nil, Contains-cons, Contains-first, Contains-rest}
use Rattle.rule_selections.proofs.FieldPlaces.{some_is}
use Rattle.spec_document.specs.MeantTree.{MeantSelection, MeantField, MeantSpread, MeantInline, MeantSet, meant_set, MeantSelections, no_meant, meant_then}
use Rattle.rule_definitions.specs.Words.{Present}
use Rattle.rule_document_definitions.specs.Selected.{Position, InOperation, SelectionAt, Standing, StandingField, HasNone, stand, standing_in, field_there, spread_name, inline_condition, selection_place, selection_location, selection_directives}
use Rattle.rule_reach.specs.Reach.{Member}
use Rattle.rule_selections.specs.Settled.{filler}

module _ {P : Type 0} where
  abbrev pub member : Standing P → Member P
  member x = (x.parent, x.it)

  -- a member, there
  abbrev pub at : Position → Member P → Standing P
  at q e = record { position = q; parent = e.0; it = e.1 }

  -- the selections of a set itself, each after the name of its type
  abbrev pub along : List ℕ → MeantSelections P → List (Member P)
  along t no_meant = []
  along t (meant_then s ss) = (t, s) ∷ along t ss

  abbrev pub own_members : MeantSet P → List (Member P)
  own_members (meant_set t ss) = along t ss

  -- ---- what is in a set, and its members

  in_own : (q : Position) (t : List ℕ) (i : ℕ) (ss : MeantSelections P) (x : Standing P) → Contains (stand q t i ss) x → Contains (along t ss) (member x)
  in_own q t i no_meant x c = absurd (not_in_nil x c)
  in_own q t i (meant_then s ss) x c = elim (Contains-cons (at (SelectionAt q i) (t, s)) (stand q t (suc i) ss) x c) [
    | inl e ↦ Contains-first (t, s) (along t ss) (member x) (ap member e)
    | inr k ↦ Contains-rest (t, s) (along t ss) (member x) (in_own q t (suc i) ss x k)
  ]

  stands_own : (q : Position) (t : List ℕ) (i : ℕ) (ss : MeantSelections P) (e : Member P) → Contains (along t ss) e → (x : Standing P) × (Contains (stand q t i ss) x × (member x ≡ e))
  stands_own q t i no_meant e c = absurd (not_in_nil e c)
  stands_own q t i (meant_then s ss) e c = elim (Contains-cons (t, s) (along t ss) e c) [
    | inl is ↦ let x = at (SelectionAt q i) (t, s) in (x, (Contains-first x (stand q t (suc i) ss) x refl, is))
    | inr k ↦ let r = stands_own q t (suc i) ss e k in (r.0, (Contains-rest (at (SelectionAt q i) (t, s)) (stand q t (suc i) ss) r.0 r.1.0, r.1.1))
  ]

  pub to_members : (q : Position) (v : MeantSet P) (x : Standing P) → Contains (standing_in q v) x → Contains (own_members v) (member x)
  to_members q (meant_set t ss) x c = in_own q t 0 ss x c

  pub of_members : (q : Position) (v : MeantSet P) (e : Member P) → Contains (own_members v) e → (x : Standing P) × (Contains (standing_in q v) x × (member x ≡ e))
  of_members q (meant_set t ss) e c = stands_own q t 0 ss e c

-- ---- what the rules read of a member: of its set whether it has selections, and no more

-- a set that says whether this one has selections
abbrev pub hollow : MeantSet Place → MeantSet Place
hollow (meant_set t no_meant) = meant_set [] no_meant
hollow (meant_set t (meant_then x xs)) = meant_set [] (meant_then (filler []) no_meant)

pub has_none : (v : MeantSet Place) → HasNone v ≡ HasNone (hollow v)
has_none (meant_set t no_meant) = refl
has_none (meant_set t (meant_then x xs)) = refl

-- a field with such a set, and nothing told of where it stands
abbrev pub outline : StandingField Place → StandingField Place
outline f = record { position = InOperation None; parent = f.parent; place = f.place; definition = f.definition; head = f.head; set = hollow f.set }

-- the field that a selection is, so
abbrev pub outline_of : Member Place → Option (StandingField Place)
outline_of (t, MeantField p d h v) = Some (record { position = InOperation None; parent = t; place = p; definition = d; head = h; set = hollow v })
outline_of (t, MeantSpread p n ds) = None
outline_of (t, MeantInline p c ds v) = None

pub record Look : Type 0 where
  pub parent : List ℕ
  pub place : Place
  pub location : DirectiveLocation
  pub directives : Directives Place
  pub spread : Option (List ℕ)
  pub condition : Option (List ℕ)
  pub field : Option (StandingField Place)

abbrev pub look : Member Place → Look
look e = record {
  parent = e.0;
  place = selection_place e.1;
  location = selection_location e.1;
  directives = selection_directives e.1;
  spread = spread_name e.1;
  condition = inline_condition e.1;
  field = outline_of e;
}

-- what is said of a field, without looking at where it stands, and at which selections it has
module _ (Q : StandingField Place → Type 0) (blind : (f : StandingField Place) → Q f ≡ Q (outline f)) (q : Position) (n : List ℕ) where
  pub bare : (s : MeantSelection Place) → Present (field_there q n s) Q → Present (outline_of (n, s)) Q
  bare (MeantField p df h v) (f, (is, holds)) =
      let g : StandingField Place = record { position = q; parent = n; place = p; definition = df; head = h; set = v } in
      (outline g, (refl, subst (λ X. X) (blind g) (subst Q (sym (some_is g f is)) holds)))
  bare (MeantSpread p m ds) (f, (is, holds)) = absurd (true≢false (sym (ap is_some is)))
  bare (MeantInline p c ds v) (f, (is, holds)) = absurd (true≢false (sym (ap is_some is)))

  pub placed : (s : MeantSelection Place) → Present (outline_of (n, s)) Q → Present (field_there q n s) Q
  placed (MeantField p df h v) (f, (is, holds)) =
      let g : StandingField Place = record { position = q; parent = n; place = p; definition = df; head = h; set = v } in
      (g, (refl, subst (λ X. X) (sym (blind g)) (subst Q (sym (some_is (outline g) f is)) holds)))
  placed (MeantSpread p m ds) (f, (is, holds)) = absurd (true≢false (sym (ap is_some is)))
  placed (MeantInline p c ds v) (f, (is, holds)) = absurd (true≢false (sym (ap is_some is)))
