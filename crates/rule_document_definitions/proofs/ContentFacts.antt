-- Fields merge exactly if their contents do: what a set selects does not depend on where the set is.
use Rattle.std.proofs.Common.{◌≡◌, ◌↔◌, ℕ, suc, List, [], ◌∷◌, None, Some, Contains, refl, sym, ap, subst, ◌∙◌, inl, inr}
use Rattle.std.specs.Option.{option_map}
use Rattle.std.proofs.lemmas.List.Elements.{Contains-append_right}
use Rattle.spec_document.specs.MeantTree.{MeantSelection, MeantField, MeantSpread, MeantInline, MeantSet, meant_set, MeantSelections, no_meant, meant_then, MeantOperation, MeantDocument}
use Rattle.rule_definitions.specs.Judged.{Judged}
use Rattle.rule_definitions.proofs.Lists.{not_in_nil, Contains-cons, Contains-first, mapped_some}
use Rattle.rule_document_definitions.specs.Selected.{Position, InOperation, SelectionAt, Standing, StandingField, stand, standing_in, field_there, as_field, in_inline, spread_name, operation_name}
use Rattle.rule_document_definitions.specs.Reached.{Closed, first, next, InFragmentOf, IsFieldOf}
use Rattle.rule_document_definitions.specs.Merging.{FieldsMerge, Below, Starts, SameKey, SameShape, MayShare, SameNameAndArguments}
use Rattle.rule_document_definitions.specs.Contents.{content, ContentBelow, ContentStarts, ContentsMerge}
use Rattle.rule_document_definitions.proofs.Along.{merge_back, merge_on}

module _ {P : Type 0} where
  -- the same selection in a set on the same type
  abbrev Alike : Standing P → Standing P → Type 0
  Alike x y = (x.parent ≡ y.parent) × (x.it ≡ y.it)

  stand_elsewhere : (h k : Position) (t : List ℕ) (i : ℕ) (ss : MeantSelections P) (x : Standing P) → Contains (stand h t i ss) x → (y : Standing P) × (Contains (stand k t i ss) y × Alike x y)
  stand_elsewhere h k t i no_meant x c = not_in_nil x c
  stand_elsewhere h k t i (meant_then s ss) x c = elim (Contains-cons (record { position = SelectionAt h i; parent = t; it = s }) (stand h t (suc i) ss) x c) [
    | inl e ↦ (
      record { position = SelectionAt k i; parent = t; it = s },
      (
        Contains-first (record { position = SelectionAt k i; parent = t; it = s }) (stand k t (suc i) ss) (record { position = SelectionAt k i; parent = t; it = s }) refl,
        (ap (λ (v : Standing P). v.parent) (sym e), ap (λ (v : Standing P). v.it) (sym e)),
      ),
    )
    | inr r ↦ let p = stand_elsewhere h k t (suc i) ss x r in
        (p.0, (Contains-append_right (record { position = SelectionAt k i; parent = t; it = s } ∷ []) (stand k t (suc i) ss) p.0 p.1.0, p.1.1))
  ]

  set_elsewhere : (h k : Position) (s : MeantSet P) (x : Standing P) → Contains (standing_in h s) x → (y : Standing P) × (Contains (standing_in k s) y × Alike x y)
  set_elsewhere h k (meant_set t ss) x c = stand_elsewhere h k t 0 ss x c

  inline_elsewhere : (h k : Position) (m : MeantSelection P) (x : Standing P) → Contains (in_inline h m) x → (y : Standing P) × (Contains (in_inline k m) y × Alike x y)
  inline_elsewhere h k (MeantField p d g s) x c = not_in_nil x c
  inline_elsewhere h k (MeantSpread p n ds) x c = not_in_nil x c
  inline_elsewhere h k (MeantInline p n ds s) x c = set_elsewhere h k s x c

  there_same : (h k : Position) (t : List ℕ) (m : MeantSelection P) → option_map content (field_there h t m) ≡ option_map content (field_there k t m)
  there_same h k t (MeantField p d g s) = refl
  there_same h k t (MeantSpread p n ds) = refl
  there_same h k t (MeantInline p n ds s) = refl

module _ {P : Type 0} (d : MeantDocument P) where
  fragment_elsewhere : (x v y : Standing P) → Alike x v → InFragmentOf d x y → (w : Standing P) × (InFragmentOf d v w × Alike y w)
  fragment_elsewhere x v y a (inl h) =
      let p = inline_elsewhere x.position v.position x.it y h in
      (p.0, (inl (subst (λ m. Contains (in_inline v.position m) p.0) a.1 p.1.0), p.1.1))
  fragment_elsewhere x v y a (inr (n, (e, r))) = (y, (inr (n, (subst (λ m. spread_name m ≡ Some n) a.1 e, r)), (refl, refl)))

  closed_elsewhere : (h k : Position) (s : MeantSet P) (x : Standing P) → Closed (Contains (standing_in h s)) (InFragmentOf d) x
      → (y : Standing P) × (Closed (Contains (standing_in k s)) (InFragmentOf d) y × Alike x y)
  closed_elsewhere h k s x (first c) = let p = set_elsewhere h k s x c in (p.0, (first p.1.0, p.1.1))
  closed_elsewhere h k s y (next {x = x} r l) =
      let p = closed_elsewhere h k s x r in
      let q = fragment_elsewhere x p.0 y p.1.1 l in
      (q.0, (next p.1.0 q.1.0, q.1.1))

  -- a set has fields of the same contents elsewhere
  field_elsewhere : (h k : Position) (s : MeantSet P) (f : StandingField P) → IsFieldOf d h s f → (g : StandingField P) × (IsFieldOf d k s g × (content f ≡ content g))
  field_elsewhere h k s f (x, (r, e)) =
      let p = closed_elsewhere h k s x r in
      let there : option_map content (as_field p.0) ≡ Some (content f) =
      subst (λ m. option_map content (field_there p.0.position p.0.parent m) ≡ Some (content f)) p.1.1.1
      (subst (λ t. option_map content (field_there p.0.position t x.it) ≡ Some (content f)) p.1.1.0
      (sym (there_same x.position p.0.position x.parent x.it) ∙ ap (option_map content) e)) in
      let m = mapped_some content (as_field p.0) (content f) there in
      (m.0, ((p.0, (p.1.0, m.1.0)), m.1.1))

  below_down : (f g : StandingField P) → Below d f g → ContentBelow d (content f) (content g)
  below_down f g b = let p = field_elsewhere f.position (InOperation None) f.set g b in (p.0, (p.1.0, sym p.1.1))

  below_up : (f y : StandingField P) → ContentBelow d (content f) y → (g : StandingField P) × (Below d f g × (content g ≡ y))
  below_up f y (k, (b, e)) = let p = field_elsewhere (InOperation None) f.position f.set k b in (p.0, (p.1.0, sym p.1.1 ∙ e))

  module _ (s : Judged) (o : MeantOperation P) where
    starts_down : (f : StandingField P) → Starts d o f → ContentStarts d o (content f)
    starts_down f b = let p = field_elsewhere (InOperation (operation_name o)) (InOperation None) o.set f b in (p.0, (p.1.0, sym p.1.1))

    starts_up : (y : StandingField P) → ContentStarts d o y → (f : StandingField P) × (Starts d o f × (content f ≡ y))
    starts_up y (k, (b, e)) = let p = field_elsewhere (InOperation None) (InOperation (operation_name o)) o.set k b in (p.0, (p.1.0, sym p.1.1 ∙ e))

    pub contents_merge : FieldsMerge s d o ↔ ContentsMerge s d o
    contents_merge = (
      (λ m. record {
        shapes = merge_on content (Below d) (ContentBelow d) SameKey (SameShape s) SameKey (SameShape s) (Starts d o) (ContentStarts d o) below_up starts_up (λ f g t. t) (λ f g a. a) m.shapes;
        selections = merge_on content (Below d) (ContentBelow d) (MayShare s) SameNameAndArguments (MayShare s) SameNameAndArguments (Starts d o) (ContentStarts d o) below_up starts_up (λ f g t. t) (λ f g a. a) m.selections;
      }),
      (λ m. record {
        shapes = merge_back content (Below d) (ContentBelow d) SameKey (SameShape s) SameKey (SameShape s) (Starts d o) (ContentStarts d o) below_down starts_down (λ f g t. t) (λ f g a. a) m.shapes;
        selections = merge_back content (Below d) (ContentBelow d) (MayShare s) SameNameAndArguments (MayShare s) SameNameAndArguments (Starts d o) (ContentStarts d o) below_down starts_down (λ f g t. t) (λ f g a. a) m.selections;
      }),
    )
