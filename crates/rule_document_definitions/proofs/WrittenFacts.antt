-- The fields that a set has through fragments are those that are written in the sets to which spreads lead.
use Rattle.std.proofs.Common.{◌≡◌, ◌↔◌, ◌∙◌, ℕ, suc, List, [], ◌∷◌, Contains, refl, sym, ap, subst, inl, inr}
use Rattle.std.specs.Prelude.{Option, Some, None, option_map, option_to_list}
use Rattle.std.proofs.lemmas.List.Elements.{Contains-append_left, Contains-append_right, Contains-append_cases}
use Rattle.spec_document.specs.MeantTree.{MeantSelection, MeantField, MeantSpread, MeantInline, MeantSet, meant_set, MeantSelections, no_meant, meant_then, MeantFragment, MeantDocument}
use Rattle.rule_definitions.proofs.Lists.{not_in_nil, Contains-cons, Contains-first, only, is_only, found_in, given_in, mapped_some}
use Rattle.rule_document_definitions.specs.Selected.{Position, InOperation, InFragment, SelectionAt, Standing, StandingField, stand, standing_in, field_there, as_field, in_inline, spread_name, fragment_named}
use Rattle.rule_document_definitions.specs.Reached.{Closed, first, next, InFragmentOf}
use Rattle.rule_document_definitions.specs.Contents.{content}
use Rattle.rule_document_definitions.specs.Written.{Written, written_at, written_in, written_along, spread_written}
use Rattle.rule_document_definitions.proofs.FieldsWritten.{field_written, IsSetFrom, IsWrittenFrom, HasContent}

-- what an option has
from_option : {A : Type 0} (o : Option A) (x : A) → Contains (option_to_list o) x → o ≡ Some x
from_option None x c = not_in_nil x c
from_option (Some y) x c = ap (λ z. Some z) (sym (only y x c))

to_option : {A : Type 0} (o : Option A) (x : A) → o ≡ Some x → Contains (option_to_list o) x
to_option o x e = subst (λ p. Contains (option_to_list p) x) (sym e) (is_only x x refl)

module _ {P : Type 0} where
  -- what a selection selects, wherever it stands
  abbrev selecting : Standing P → Written P
  selecting x = (x.parent, x.it)

  -- what is written in an inline fragment
  abbrev inner : MeantSelection P → List (Written P)
  inner (MeantField p d h s) = []
  inner (MeantSpread p n ds) = []
  inner (MeantInline p c ds s) = written_in s

  itself : (t : List ℕ) (m : MeantSelection P) → Contains (written_at t m) (t, m)
  itself t (MeantField p d h s) = Contains-first (t, MeantField p d h s) [] (t, MeantField p d h s) refl
  itself t (MeantSpread p n ds) = Contains-first (t, MeantSpread p n ds) [] (t, MeantSpread p n ds) refl
  itself t (MeantInline p c ds s) = Contains-first (t, MeantInline p c ds s) (written_in s) (t, MeantInline p c ds s) refl

  -- what is in a set is written in it
  stand_written : (h : Position) (t : List ℕ) (i : ℕ) (ss : MeantSelections P) (x : Standing P) → Contains (stand h t i ss) x → Contains (written_along t ss) (selecting x)
  stand_written h t i no_meant x c = not_in_nil x c
  stand_written h t i (meant_then s ss) x c = elim (Contains-cons (record { position = SelectionAt h i; parent = t; it = s }) (stand h t (suc i) ss) x c) [
    | inl e ↦ Contains-append_left (written_at t s) (written_along t ss) (selecting x) (subst (λ (z : Standing P). Contains (written_at t s) (selecting z)) e (itself t s))
    | inr r ↦ Contains-append_right (written_at t s) (written_along t ss) (selecting x) (stand_written h t (suc i) ss x r)
  ]

  pub set_written : (h : Position) (s : MeantSet P) (x : Standing P) → Contains (standing_in h s) x → Contains (written_in s) (selecting x)
  set_written h (meant_set t ss) x c = stand_written h t 0 ss x c

  inline_written : (h : Position) (m : MeantSelection P) (x : Standing P) → Contains (in_inline h m) x → Contains (inner m) (selecting x)
  inline_written h (MeantField p d g s) x c = not_in_nil x c
  inline_written h (MeantSpread p n ds) x c = not_in_nil x c
  inline_written h (MeantInline p n ds s) x c = set_written h s x c

  -- what is written in an inline fragment that is written in a set is written in the set
  no_inner : (m n : MeantSelection P) (e : Written P) {R : Type 0} → m ≡ n → inner m ≡ [] → Contains (inner n) e → R
  no_inner m n e same none c = not_in_nil e (subst (λ l. Contains l e) none (subst (λ k. Contains (inner k) e) (sym same) c))

  mutual
    inner_at : (t : List ℕ) (m : MeantSelection P) (w e : Written P) → Contains (written_at t m) w → Contains (inner w.1) e → Contains (written_at t m) e
    inner_at t (MeantField p d h s) w e c i = no_inner (MeantField p d h s) w.1 e (sym (ap (λ (v : Written P). v.1) (only (t, MeantField p d h s) w c))) refl i
    inner_at t (MeantSpread p n ds) w e c i = no_inner (MeantSpread p n ds) w.1 e (sym (ap (λ (v : Written P). v.1) (only (t, MeantSpread p n ds) w c))) refl i
    inner_at t (MeantInline p k ds s) w e c i = elim (Contains-cons (t, MeantInline p k ds s) (written_in s) w c) [
      | inl same ↦ Contains-append_right ((t, MeantInline p k ds s) ∷ []) (written_in s) e (subst (λ (v : Written P). Contains (inner v.1) e) (sym same) i)
      | inr r ↦ Contains-append_right ((t, MeantInline p k ds s) ∷ []) (written_in s) e (inner_in s w e r i)
    ]

    inner_in : (s : MeantSet P) (w e : Written P) → Contains (written_in s) w → Contains (inner w.1) e → Contains (written_in s) e
    inner_in (meant_set t ss) w e c i = inner_along t ss w e c i

    inner_along : (t : List ℕ) (ss : MeantSelections P) (w e : Written P) → Contains (written_along t ss) w → Contains (inner w.1) e → Contains (written_along t ss) e
    inner_along t no_meant w e c i = not_in_nil w c
    inner_along t (meant_then s ss) w e c i = elim (Contains-append_cases (written_at t s) (written_along t ss) w c) [
      | inl a ↦ Contains-append_left (written_at t s) (written_along t ss) e (inner_at t s w e a i)
      | inr b ↦ Contains-append_right (written_at t s) (written_along t ss) e (inner_along t ss w e b i)
    ]

  -- what holds of all that is in a set, and of what is in an inline fragment of which it holds, holds of all that is written in the set
  module _ (R : Standing P → Type 0) (into : (x y : Standing P) → R x → Contains (in_inline x.position x.it) y → R y) where
    mutual
      so_at : (at : Position) (t : List ℕ) (m : MeantSelection P) → R (record { position = at; parent = t; it = m }) → (e : Written P) → Contains (written_at t m) e → (x : Standing P) × (R x × (selecting x ≡ e))
      so_at at t (MeantField p d h s) r e c = (record { position = at; parent = t; it = MeantField p d h s }, (r, sym (only (t, MeantField p d h s) e c)))
      so_at at t (MeantSpread p n ds) r e c = (record { position = at; parent = t; it = MeantSpread p n ds }, (r, sym (only (t, MeantSpread p n ds) e c)))
      so_at at t (MeantInline p k ds s) r e c = elim (Contains-cons (t, MeantInline p k ds s) (written_in s) e c) [
        | inl same ↦ (record { position = at; parent = t; it = MeantInline p k ds s }, (r, same))
        | inr i ↦ so_in at s (λ x h. into (record { position = at; parent = t; it = MeantInline p k ds s }) x r h) e i
      ]

      so_in : (at : Position) (s : MeantSet P) → ((x : Standing P) → Contains (standing_in at s) x → R x) → (e : Written P) → Contains (written_in s) e → (x : Standing P) × (R x × (selecting x ≡ e))
      so_in at (meant_set t ss) all e c = so_along at t 0 ss all e c

      so_along : (at : Position) (t : List ℕ) (i : ℕ) (ss : MeantSelections P) → ((x : Standing P) → Contains (stand at t i ss) x → R x) → (e : Written P) → Contains (written_along t ss) e
          → (x : Standing P) × (R x × (selecting x ≡ e))
      so_along at t i no_meant all e c = not_in_nil e c
      so_along at t i (meant_then s ss) all e c =
          let y : Standing P = record { position = SelectionAt at i; parent = t; it = s } in
          elim (Contains-append_cases (written_at t s) (written_along t ss) e c) [
            | inl a ↦ so_at (SelectionAt at i) t s (all y (Contains-first y (stand at t (suc i) ss) y refl)) e a
            | inr b ↦ so_along at t (suc i) ss (λ x h. all x (Contains-append_right (y ∷ []) (stand at t (suc i) ss) x h)) e b
          ]

  -- the content of a field, wherever it stands
  content_there : (at : Position) (t : List ℕ) (m : MeantSelection P) → option_map content (field_there at t m) ≡ field_there (InOperation None) t m
  content_there at t (MeantField p d h s) = refl
  content_there at t (MeantSpread p n ds) = refl
  content_there at t (MeantInline p c ds s) = refl

  module _ (d : MeantDocument P) (at : Position) (s : MeantSet P) where
    abbrev IsThere : Standing P → Type 0
    IsThere = Closed (Contains (standing_in at s)) (InFragmentOf d)

    comes : (x : Standing P) → IsThere x → (t : MeantSet P) × (IsSetFrom d.fragments s t × Contains (written_in t) (selecting x))
    comes x (first c) = (s, (first refl, set_written at s x c))
    comes y (next {x} r leads) = on leads (comes x r)
      where
        on : InFragmentOf d x y → (t : MeantSet P) × (IsSetFrom d.fragments s t × Contains (written_in t) (selecting x)) → (t : MeantSet P) × (IsSetFrom d.fragments s t × Contains (written_in t) (selecting y))
        on (inl i) (t, (led, c)) = (t, (led, inner_in t (selecting x) (selecting y) c (inline_written x.position x.it y i)))
        on (inr (n, (is, (f, (named, i))))) (t, (led, c)) = (
          f.set,
          (
            next led (n, (given_in spread_written n (written_in t) (selecting x) c (to_option (spread_name x.it) n is), ap (option_map (λ (g : MeantFragment P). g.set)) named)),
            set_written (InFragment f.name.it) f.set y i,
          ),
        )

    all_there : (t : MeantSet P) → IsSetFrom d.fragments s t → (r : Position) × ((x : Standing P) → Contains (standing_in r t) x → IsThere x)
    all_there t (first e) = (at, λ x c. first (subst (λ v. Contains (standing_in at v) x) e c))
    all_there u (next {x = t} r (n, (c, named))) =
        let before = all_there t r in
        let w = found_in spread_written n (written_in t) c in
        let x = so_in IsThere (λ x y h i. next h (inl i)) before.0 t before.1 w.0 w.1.0 in
        let f = mapped_some (λ (g : MeantFragment P). g.set) (fragment_named d n) u named in
        let spread : spread_name x.0.it ≡ Some n = ap (λ (v : Written P). spread_name v.1) x.1.1 ∙ from_option (spread_name w.0.1) n w.1.1 in
        (InFragment f.0.name.it, λ y k. next x.1.0 (inr (n, (spread, (f.0, (f.1.0, subst (λ v. Contains (standing_in (InFragment f.0.name.it) v) y) f.1.1 k))))))

    -- through fragments the set has what is written in the sets to which spreads lead
    pub written_from : (e : StandingField P) → HasContent d at s e ↔ IsWrittenFrom d.fragments s e
    written_from e = (
      λ h. let x = h.1.0 in
          let t = comes x.0 x.1.0 in
          let there : field_there (InOperation None) x.0.parent x.0.it ≡ Some e =
          sym (content_there x.0.position x.0.parent x.0.it) ∙ (ap (option_map content) x.1.1 ∙ ap (λ z. Some z) h.1.1) in
          (t.0, (t.1.0, given_in field_written e (written_in t.0) (selecting x.0) t.1.1 (to_option (field_there (InOperation None) x.0.parent x.0.it) e there))),
      λ h. let all = all_there h.0 h.1.0 in
          let w = found_in field_written e (written_in h.0) h.1.1 in
          let x = so_in IsThere (λ y z k i. next k (inl i)) all.0 h.0 all.1 w.0 w.1.0 in
          let there : option_map content (as_field x.0) ≡ Some e =
          content_there x.0.position x.0.parent x.0.it
          ∙ (ap (λ (v : Written P). field_there (InOperation None) v.0 v.1) x.1.1 ∙ from_option (field_there (InOperation None) w.0.0 w.0.1) e w.1.1) in
          let f = mapped_some content (as_field x.0) e there in
          (f.0, ((x.0, (x.1.0, f.1.0)), sym f.1.1)),
    )
