-- Sets of selections: merged ones, empty ones, and those that chains lead to.
use Rattle.std.proofs.Common.{◌≡◌, ◌⊎◌, List, [], ◌∷◌, ◌++◌, Some, Contains, refl, sym, inl, inr}
use Rattle.std.proofs.lemmas.List.Elements.{Contains-append_left, Contains-append_right, Contains-append_cases}
use Rattle.schema_components.proofs.Places.{not_in_nil}
use Rattle.spec_document.specs.MeantTree.{MeantSet, meant_set, no_meant, meant_then}
use Rattle.rule_definitions.specs.Judged.{Judged}
use Rattle.rule_document_definitions.specs.Selected.{Position, standing_in, as_field, own, HasNone}
use Rattle.rule_document_definitions.specs.Reached.{Closed, first, next, Reached}
use Rattle.rule_document_definitions.specs.Chains.{Meet}
use Rattle.rule_document_definitions.specs.Merging.{Below, Starts, SameKey, MayShare}
use Rattle.rule_document_definitions.proofs.MergingFacts.{chain_ends, closed_within}
use Rattle.rule_document_definitions.proofs.GoingFacts.{chain_on, together_on}
use Rattle.book_validity.specs.Words.{Document, Operation, Selection, Field}
use Rattle.book_validity.specs.FieldSelectionMerging.{selection_set, merged_set, IsIn}

-- ---- members

closed_cases : {X : Type 0} {First Other Start : X → Type 0} {Next : X → X → Type 0} → ((x : X) → First x → Other x ⊎ Start x)
    → (x : X) → Closed First Next x → Closed Other Next x ⊎ Closed Start Next x
closed_cases s x (first h) = elim (s x h) [ inl a ↦ inl (first a) | inr b ↦ inr (first b) ]
closed_cases s y (next {x} r l) = elim (closed_cases s x r) [ inl a ↦ inl (next a l) | inr b ↦ inr (next b l) ]

closed_never : {X : Type 0} {First : X → Type 0} {Next : X → X → Type 0} → ((x : X) → First x → ⊥) → (x : X) → Closed First Next x → ⊥
closed_never n x (first h) = n x h
closed_never n y (next {x} r l) = closed_never n x r

none_stand : (at : Position) (set : MeantSet (Unit {0})) → HasNone set → (x : Selection) → Contains (standing_in at set) x → ⊥
none_stand at (meant_set t no_meant) h x c = not_in_nil x c
none_stand at (meant_set t (meant_then m ms)) h x c = h

module _ (d : Document) where
  -- a field of the merged set is below one of the two
  pub in_merged : (f g x : Field) → IsIn d (merged_set f g) x → Below d f x ⊎ Below d g x
  in_merged f g x (y, (c, e)) = elim (closed_cases (λ z h. Contains-append_cases (selection_set f) (selection_set g) z h) y c) [ inl a ↦ inl (y, (a, e)) | inr b ↦ inr (y, (b, e)) ]

  -- and those below them are in it
  pub merged_left : (f g x : Field) → Below d f x → IsIn d (merged_set f g) x
  merged_left f g x (y, (c, e)) = (y, (closed_within (λ z h. first (Contains-append_left (selection_set f) (selection_set g) z h)) (λ z w l. l) y c, e))

  pub merged_right : (f g x : Field) → Below d g x → IsIn d (merged_set f g) x
  merged_right f g x (y, (c, e)) = (y, (closed_within (λ z h. first (Contains-append_right (selection_set f) (selection_set g) z h)) (λ z w l. l) y c, e))

  -- nothing is below a field that selects nothing
  pub none_below : (f x : Field) → HasNone f.set → Below d f x → ⊥
  none_below f x h (y, (c, e)) = closed_never (none_stand f.position f.set h) y c

  -- ---- reached fields

  module _ (o : Operation) where
    abbrev pub IsReachedField : Field → Type 0
    IsReachedField f = (x : Selection) × (Reached d o x × (as_field x ≡ Some f))

    pub started : (f : Field) → Starts d o f → IsReachedField f
    started f (x, (r, e)) = (x, (closed_within (λ y h. first h) (λ y z l. inr l) x r, e))

    pub handed_down : (f g : Field) → IsReachedField f → Below d f g → IsReachedField g
    handed_down f g (x, (r, e)) (y, (k, i)) = (y, (closed_within (λ z h. next r (inl (f, (e, h)))) (λ v w l. inr l) y k, i))

    -- ---- sets that chains lead to: any two fields that go together meet

    module _ (Together : Field → Field → Type 0) where
      abbrev pub Meets : Field → Field → Type 0
      Meets = Meet (Below d) Together (Starts d o)

      abbrev pub IsGoing : List Selection → Type 0
      IsGoing set = (f g : Field) → IsIn d set f → IsIn d set g → Together f g → Meets f g

      pub meets_reached : (f g : Field) → Meets f g → IsReachedField f
      meets_reached f g (c, (c', (p, (q, r)))) = chain_ends (Below d) IsReachedField handed_down (Starts d o) started c f p

      pub going_own : IsGoing (own o)
      going_own f g in_f in_g t = ([], ([], ((in_f, tt), ((in_g, tt), (t, tt)))))

      meet_on : (f g x y : Field) → Meets f g → Below d f x → Below d g y → Together x y → Meets x y
      meet_on f g x y (c, (c', (p, (q, r)))) b b' t = (
        c ++ f ∷ [],
        (
          c' ++ g ∷ [],
          (
            chain_on (Below d) (Starts d o) c f x p b,
            (chain_on (Below d) (Starts d o) c' g y q b', together_on (Below d) Together (c ++ f ∷ []) (c' ++ g ∷ []) x y r t),
          ),
        ),
      )

      -- the merged set of two fields of such a set that go together
      pub going_merged : ((f : Field) → Together f f) → ((f g : Field) → Together f g → Together g f)
          → (set : List Selection) → IsGoing set → (f g : Field) → IsIn d set f → IsIn d set g → Together f g → IsGoing (merged_set f g)
      going_merged same turned set going f g in_f in_g t x y in_x in_y u = by (in_merged f g x in_x) (in_merged f g y in_y)
        where
          by : Below d f x ⊎ Below d g x → Below d f y ⊎ Below d g y → Meets x y
          by (inl a) (inl b) = meet_on f f x y (going f f in_f in_f (same f)) a b u
          by (inl a) (inr b) = meet_on f g x y (going f g in_f in_g t) a b u
          by (inr a) (inl b) = meet_on g f x y (going g f in_g in_f (turned f g t)) a b u
          by (inr a) (inr b) = meet_on g g x y (going g g in_g in_g (same g)) a b u

-- ---- what goes together

pub key_same : (f : Field) → SameKey f f
key_same f = refl

pub key_turned : (f g : Field) → SameKey f g → SameKey g f
key_turned f g e = sym e

module _ (s : Judged) where
  pub share_same : (f : Field) → MayShare s f f
  share_same f = (refl, inl refl)

  pub share_turned : (f g : Field) → MayShare s f g → MayShare s g f
  share_turned f g (k, inl e) = (sym k, inl (sym e))
  share_turned f g (k, inr (inl a)) = (sym k, inr (inr a))
  share_turned f g (k, inr (inr b)) = (sym k, inr (inl b))
