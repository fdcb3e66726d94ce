-- What is added to a list of faults, piece by piece.
use Rattle.std.proofs.Common.{◌≡◌, ℕ, ◌<◌, ◌+◌, ◌⊎◌, ◌↔◌, true≢false, List, [], ◌∷◌, ◌++◌, get_or, map, take, length, refl, sym, ap, subst, ◌∙◌, Contains, is_some}
use Rattle.schema_types.specs.in_components.Lists.{each_place}
use Rattle.schema_types.proofs.in_components.Places.{each_place-push}
use Rattle.rule_definitions.specs.Words.{AtSomeIndex}
use Rattle.rule_definitions.proofs.Listing.{Lists, lists_same, lists_both, lists_nothing, index_append, mapped_more}
use Rattle.rule_definitions.specs.Room.{◌⊕◌}
use Rattle.rule_definitions.proofs.Room.{room_both}

-- what is told of one element more, with those before it
pub places_more : {A X B : Type 0} (f : A → X) (tells : List X → X → List B) (old now new l : List B) (xs : List A) (i : ℕ) (x : A) → i < length xs → x ≡ get_or xs i x → now ≡ old ⊕ each_place tells (map f (take i xs)) → new ≡ now ⊕ l
    → l ≡ tells (map f (take i xs)) (f x) → new ≡ old ⊕ each_place tells (map f (take (i + 1) xs))
places_more f tells old now new l xs i x h e so_far step this =
    let ys = map f (take i xs) in
    step ∙ (λ k. so_far k ⊕ this k) ∙ room_both old (each_place tells ys) (tells ys (f x))
    ∙ ap (λ r. old ⊕ r) (sym (ap (each_place tells) (mapped_more f xs i x h e) ∙ each_place-push tells ys (f x)))

module _ {B : Type 0} where
  abbrev pub Gains : List B → List B → (B → Type 0) → Type 0
  Gains old new R = (added : List B) × ((new ≡ old ⊕ added) × Lists added R)

  pub gains_list : {R : B → Type 0} (old new l : List B) → new ≡ old ⊕ l → Lists l R → Gains old new R
  gains_list old new l e h = (l, (e, h))

  pub gains_both : {R S : B → Type 0} (a b c : List B) → Gains a b R → Gains b c S → Gains a c (λ f. R f ⊎ S f)
  gains_both a b c (l, (e, h)) (m, (e', h')) = (l ++ m, (e' ∙ ap (λ k. k ⊕ m) e ∙ room_both a l m, lists_both l m h h'))

  pub gains_same : {R S : B → Type 0} (a b : List B) → ((f : B) → R f ↔ S f) → Gains a b R → Gains a b S
  gains_same a b same (l, (e, h)) = (l, (e, lists_same l same h))

  pub gains_nothing : (a : List B) (R : B → Type 0) → ((f : B) → R f → ⊥) → Gains a a R
  gains_nothing a R never = ([], (refl, lists_nothing R never))

  -- no element of a loop yet
  pub gains_none : {X : Type 0} (a : List B) (R : ℕ → X → B → Type 0) → Gains a a (λ f. AtSomeIndex [] (λ k x. R k x f))
  gains_none a R = gains_nothing a (λ f. AtSomeIndex [] (λ k x. R k x f)) (λ f q. true≢false (sym (ap is_some q.1.1.0)))

  -- one element more of a loop
  pub gains_more : {X : Type 0} (a b c : List B) (ys zs : List X) (y : X) (R : ℕ → X → B → Type 0) → zs ≡ ys ++ y ∷ [] → Gains a b (λ f. AtSomeIndex ys (λ k x. R k x f)) → Gains b c (R (length ys) y) → Gains a c (λ f. AtSomeIndex zs (λ k x. R k x f))
  gains_more a b c ys zs y R e r s =
      gains_same a c (λ f. subst (λ l. (AtSomeIndex ys (λ k x. R k x f) ⊎ R (length ys) y f) ↔ AtSomeIndex l (λ k x. R k x f)) (sym e)
      ((index_append ys y (λ k x. R k x f)).1, (index_append ys y (λ k x. R k x f)).0))
      (gains_both a b c r s)
