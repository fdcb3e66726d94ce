-- What is said of the members of the lists is said at all that is reached, and back.
use Rattle.std.proofs.Common.{◌≡◌, ◌↔◌, ◌⊎◌, ℕ, suc, zero, List, [], ◌∷◌, refl, sym, ap, subst, inl, inr, Some, slice_get, Contains, true≢false, is_some}
use Rattle.schema_components.proofs.Places.{not_in_nil, Contains-cons, Contains-first, Contains-rest}
use Rattle.document_typed_operations.proofs.Finding.{some_is}
use Rattle.rule_document_definitions.specs.in_spec_document.MeantTree.{MeantSelection, MeantField, MeantSpread, MeantInline, MeantOperation, MeantFragment, MeantDocument}
use Rattle.rule_definitions.specs.Words.{Present, AtSomeIndex}
use Rattle.rule_document_definitions.specs.Selected.{Position, StandingField, field_there, own}
use Rattle.rule_document_definitions.specs.Reached.{AtReached, AtReachedField, AtReachedFragment}
use Rattle.rule_document_definitions.specs.Contents.{content}
use Rattle.rule_reach.specs.Reach.{Member, IsReach, field_of}

-- at some index stands some element
pub some_index : {X : Type 0} (xs : List X) (Q : X → Type 0) → AtSomeIndex xs (λ i x. Q x) ↔ ((x : X) × (Contains xs x × Q x))
some_index [] Q = (λ h. absurd (true≢false (sym (ap is_some h.1.1.0))), λ h. absurd (not_in_nil h.0 h.1.0))
some_index {X} (x ∷ xs) Q = (λ h. there h.0 h.1.0 h.1.1.0 h.1.1.1 (some_index xs Q).0, λ h. back h.0 h.1.1 (Contains-cons x xs h.0 h.1.0) (some_index xs Q).1)
  where
    there : (i : ℕ) (y : X) → slice_get (x ∷ xs) i ≡ Some y → Q y → (AtSomeIndex xs (λ i x. Q x) → (x : X) × (Contains xs x × Q x)) → (y : X) × (Contains (x ∷ xs) y × Q y)
    there zero y e q rest = (y, (Contains-first x xs y (some_is x y e), q))
    there (suc i) y e q rest = let r = rest (i, (y, (e, q))) in (r.0, (Contains-rest x xs r.0 r.1.0, r.1.1))

    back : (y : X) → Q y → (x ≡ y) ⊎ Contains xs y → (((x : X) × (Contains xs x × Q x)) → AtSomeIndex xs (λ i x. Q x)) → AtSomeIndex (x ∷ xs) (λ i x. Q x)
    back y q (inl e) rest = (0, (y, (ap Some e, q)))
    back y q (inr c) rest = let r = rest (y, (c, q)) in (suc r.0, r.1)

module _ {P : Type 0} (d : MeantDocument P) (o : MeantOperation P) (reached : List (Member P)) (spread : List (MeantFragment P)) (reach : IsReach d (own o) reached spread) where
  -- at a selection
  pub at_reached : (Q : Member P → Type 0) → AtSomeIndex reached (λ i e. Q e) ↔ AtReached d o (λ x. Q (x.parent, x.it))
  at_reached Q = (
    λ h. let m = (some_index reached Q).0 h in
        let x = (reach.selections m.0).0 m.1.0 in
        (x.0, (x.1.0, subst Q (sym x.1.1) m.1.1)),
    λ h. (some_index reached Q).1 ((h.0.parent, h.0.it), ((reach.selections (h.0.parent, h.0.it)).1 (h.0, (h.1.0, refl)), h.1.1)),
  )

  -- at a field, of what does not look at where it is
  pub at_reached_field : (Q : StandingField P → Type 0) → ((f : StandingField P) → Q f ≡ Q (content f)) → AtSomeIndex reached (λ i e. Present (field_of e) Q) ↔ AtReachedField d o Q
  at_reached_field Q blind = (
    λ h. let m = (some_index reached (λ e. Present (field_of e) Q)).0 h in
        let x = (reach.selections m.0).0 m.1.0 in
        (x.0, (x.1.0, placed x.0.position x.0.parent x.0.it (subst (λ e. Present (field_of e) Q) (sym x.1.1) m.1.1))),
    λ h. (some_index reached (λ e. Present (field_of e) Q)).1 ((h.0.parent, h.0.it), ((reach.selections (h.0.parent, h.0.it)).1 (h.0, (h.1.0, refl)), bare h.0.position h.0.parent h.0.it h.1.1)),
  )
    where
      placed : (q : Position) (n : List ℕ) (s : MeantSelection P) → Present (field_of (n, s)) Q → Present (field_there q n s) Q
      placed q n (MeantField p df h v) (f, (is, holds)) =
          let g : StandingField P = record { position = q; parent = n; place = p; definition = df; head = h; set = v } in
          (g, (refl, subst (λ X. X) (sym (blind g)) (subst Q (sym (some_is (content g) f is)) holds)))
      placed q n (MeantSpread p m ds) (f, (is, holds)) = absurd (true≢false (sym (ap is_some is)))
      placed q n (MeantInline p c ds v) (f, (is, holds)) = absurd (true≢false (sym (ap is_some is)))

      bare : (q : Position) (n : List ℕ) (s : MeantSelection P) → Present (field_there q n s) Q → Present (field_of (n, s)) Q
      bare q n (MeantField p df h v) (f, (is, holds)) =
          let g : StandingField P = record { position = q; parent = n; place = p; definition = df; head = h; set = v } in
          (content g, (refl, subst (λ X. X) (blind g) (subst Q (sym (some_is g f is)) holds)))
      bare q n (MeantSpread p m ds) (f, (is, holds)) = absurd (true≢false (sym (ap is_some is)))
      bare q n (MeantInline p c ds v) (f, (is, holds)) = absurd (true≢false (sym (ap is_some is)))

  -- at a fragment
  pub at_reached_fragment : (Q : MeantFragment P → Type 0) → AtSomeIndex spread (λ i f. Q f) ↔ AtReachedFragment d o Q
  at_reached_fragment Q = (
    λ h. let m = (some_index spread Q).0 h in (m.0, ((reach.fragments m.0).0 m.1.0, m.1.1)),
    λ h. (some_index spread Q).1 (h.0, ((reach.fragments h.0).1 h.1.0, h.1.1)),
  )
