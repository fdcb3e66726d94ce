-- What a set selects does not depend on where the set is: its fields have the same contents anywhere.
use Rattle.std.proofs.Common.{◌≡◌, ◌⊎◌, ℕ, suc, List, ◌∷◌, map, None, Contains, refl, sym, ap, subst, ◌∙◌, inl, inr}
use Rattle.std.specs.Option.{option_map}
use Rattle.spec_document.specs.MeantTree.{MeantSelection, MeantField, MeantSpread, MeantInline, MeantSet, meant_set, MeantSelections, no_meant, meant_then, MeantOperation, MeantDocument}
use Rattle.rule_definitions.specs.Words.{Present}
use Rattle.rule_definitions.proofs.Lists.{mapped_some}
use Rattle.rule_document_definitions.specs.Selected.{Position, InOperation, Standing, StandingField, stand, standing_in, field_there, as_field, in_inline, spread_name, fragment_named, held, operation_name}
use Rattle.rule_document_definitions.specs.Reached.{Closed, InFragmentOf, IsFieldOf}
use Rattle.rule_document_definitions.specs.Merging.{Below, Starts}
use Rattle.rule_document_definitions.specs.Contents.{content, ContentBelow, ContentStarts}
use Rattle.rule_document_definitions.proofs.Unplaced.{contains_map, contains_unmap, closed_map, closed_unmap}

-- a selection and the type of its set, wherever it stands
abbrev Selecting : Type 0 → Type 0
Selecting P = List ℕ × MeantSelection P

module _ {P : Type 0} where
  -- what a selection selects
  abbrev selecting : Standing P → Selecting P
  selecting x = (x.parent, x.it)

  -- the selections of a list
  stand_anywhere : (h k : Position) (t : List ℕ) (i : ℕ) (ss : MeantSelections P) → map selecting (stand h t i ss) ≡ map selecting (stand k t i ss)
  stand_anywhere h k t i no_meant = refl
  stand_anywhere h k t i (meant_then s ss) = ap (λ l. (t, s) ∷ l) (stand_anywhere h k t (suc i) ss)

  -- of a set
  set_anywhere : (h k : Position) (s : MeantSet P) → map selecting (standing_in h s) ≡ map selecting (standing_in k s)
  set_anywhere h k (meant_set t ss) = stand_anywhere h k t 0 ss

  -- of an inline fragment
  inline_anywhere : (h k : Position) (m : MeantSelection P) → map selecting (in_inline h m) ≡ map selecting (in_inline k m)
  inline_anywhere h k (MeantField p d g s) = refl
  inline_anywhere h k (MeantSpread p n ds) = refl
  inline_anywhere h k (MeantInline p n ds s) = set_anywhere h k s

  -- the content of a field
  field_anywhere : (h k : Position) (t : List ℕ) (m : MeantSelection P) → option_map content (field_there h t m) ≡ option_map content (field_there k t m)
  field_anywhere h k t (MeantField p d g s) = refl
  field_anywhere h k t (MeantSpread p n ds) = refl
  field_anywhere h k t (MeantInline p n ds s) = refl

module _ {P : Type 0} (d : MeantDocument P) where
  -- the same as `InFragmentOf`, wherever they are
  abbrev Leads : Selecting P → Selecting P → Type 0
  Leads v w = Contains (map selecting (in_inline (InOperation None) v.1)) w
      ⊎ Present (spread_name v.1) (λ n. Present (fragment_named d n) (λ f. Contains (map selecting (held f)) w))

  -- the selection is in the set, wherever the set is
  abbrev Begins : MeantSet P → Selecting P → Type 0
  Begins s v = Contains (map selecting (standing_in (InOperation None) s)) v

  -- what leads to a selection leads to it anywhere
  leads : (x y : Standing P) → InFragmentOf d x y → Leads (selecting x) (selecting y)
  leads x y (inl h) = inl (subst (λ l. Contains l (selecting y)) (inline_anywhere x.position (InOperation None) x.it) (contains_map selecting (in_inline x.position x.it) y h))
  leads x y (inr (n, (e, (f, (i, c))))) = inr (n, (e, (f, (i, contains_map selecting (held f) y c))))

  -- and the other way
  leads_to : (x : Standing P) (w : Selecting P) → Leads (selecting x) w → (y : Standing P) × (InFragmentOf d x y × (selecting y ≡ w))
  leads_to x w (inl h) =
      let y = contains_unmap selecting (in_inline x.position x.it) w (subst (λ l. Contains l w) (inline_anywhere (InOperation None) x.position x.it) h) in
      (y.0, (inl y.1.0, y.1.1))
  leads_to x w (inr (n, (e, (f, (i, c))))) = let y = contains_unmap selecting (held f) w c in (y.0, (inr (n, (e, (f, (i, y.1.0)))), y.1.1))

  -- what a set selects where it stands, it selects anywhere
  begins_somewhere : (h : Position) (s : MeantSet P) (x : Standing P) → Closed (Contains (standing_in h s)) (InFragmentOf d) x → Closed (Begins s) Leads (selecting x)
  begins_somewhere h s x r = closed_map selecting
      (λ y c. subst (λ l. Contains l (selecting y)) (set_anywhere h (InOperation None) s) (contains_map selecting (standing_in h s) y c)) leads x r

  -- and the other way
  begins_anywhere : (k : Position) (s : MeantSet P) (w : Selecting P) → Closed (Begins s) Leads w → (y : Standing P) × (Closed (Contains (standing_in k s)) (InFragmentOf d) y × (selecting y ≡ w))
  begins_anywhere k s w r = closed_unmap selecting
      (λ v c. contains_unmap selecting (standing_in k s) v (subst (λ l. Contains l v) (set_anywhere (InOperation None) k s) c)) leads_to w r

  -- selections that select the same are fields of the same contents
  same_content : (x y : Standing P) → selecting y ≡ selecting x → option_map content (as_field y) ≡ option_map content (as_field x)
  same_content x y e = field_anywhere y.position x.position y.parent y.it ∙ ap (λ (w : Selecting P). option_map content (field_there x.position w.0 w.1)) e

  -- a set has fields of the same contents anywhere
  pub field_of_content : (h k : Position) (s : MeantSet P) (f : StandingField P) → IsFieldOf d h s f → (g : StandingField P) × (IsFieldOf d k s g × (content g ≡ content f))
  field_of_content h k s f (x, (r, e)) =
      let y = begins_anywhere k s (selecting x) (begins_somewhere h s x r) in
      let m = mapped_some content (as_field y.0) (content f) (same_content x y.0 y.1.1 ∙ ap (option_map content) e) in
      (m.0, ((y.0, (y.1.0, m.1.0)), sym m.1.1))

  -- ---- below a field, and first of an operation: of fields that stand somewhere and of contents

  -- the content of a field below lies below the content
  pub below_content : (f g : StandingField P) → Below d f g → ContentBelow d (content f) (content g)
  below_content f g b = field_of_content f.position (InOperation None) f.set g b

  -- what lies below a content is the content of a field below
  pub content_below : (f y : StandingField P) → ContentBelow d (content f) y → (g : StandingField P) × (Below d f g × (content g ≡ y))
  content_below f y (k, (b, e)) = let p = field_of_content (InOperation None) f.position f.set k b in (p.0, (p.1.0, p.1.1 ∙ e))

  -- the content of a first field is a first content
  pub starts_content : (o : MeantOperation P) (f : StandingField P) → Starts d o f → ContentStarts d o (content f)
  starts_content o f b = field_of_content (InOperation (operation_name o)) (InOperation None) o.set f b

  -- a first content is the content of a first field
  pub content_starts : (o : MeantOperation P) (y : StandingField P) → ContentStarts d o y → (f : StandingField P) × (Starts d o f × (content f ≡ y))
  content_starts o y (k, (b, e)) = let p = field_of_content (InOperation None) (InOperation (operation_name o)) o.set k b in (p.0, (p.1.0, p.1.1 ∙ e))
