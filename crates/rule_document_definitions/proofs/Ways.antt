-- Ways along steps through some of finitely many nodes: by recursion on the list of nodes, so that where steps are decided ways are
-- (Floyd and Warshall). No node need be told from another.
use Rattle.std.proofs.Common.{◌⊎◌, List, [], ◌∷◌, sym, subst, Contains, inl, inr}
use Rattle.rule_definitions.proofs.Lists.{not_in_nil, Contains-cons}
use Rattle.rule_document_definitions.proofs.Decided.{Decided, both, either}

module _ {X : Type 0} (Step : X → X → Type 0) where
  -- a way from one node to another, through nodes of the list
  abbrev pub Via : List X → X → X → Type 0
  Via [] a b = Step a b
  Via (k ∷ ks) a b = Via ks a b ⊎ (Via ks a k × Via ks k b)

  pub direct : (ks : List X) (a b : X) → Step a b → Via ks a b
  direct [] a b h = h
  direct (k ∷ ks) a b h = inl (direct ks a b h)

  to_first : (ks : List X) (k a : X) → Via (k ∷ ks) a k → Via ks a k
  to_first ks k a (inl h) = h
  to_first ks k a (inr h) = h.0

  from_first : (ks : List X) (k b : X) → Via (k ∷ ks) k b → Via ks k b
  from_first ks k b (inl h) = h
  from_first ks k b (inr h) = h.1

  pub through : (ks : List X) (a m b : X) → Contains ks m → Via ks a m → Via ks m b → Via ks a b
  through [] a m b c h g = not_in_nil m c
  through (k ∷ ks) a m b c h g = elim (Contains-cons k ks m c) [
    | inl e ↦ inr (to_first ks k a (subst (λ x. Via (k ∷ ks) a x) (sym e) h), from_first ks k b (subst (λ x. Via (k ∷ ks) x b) (sym e) g))
    | inr c ↦ by h g (through ks a m b c) (through ks a m k c) (through ks k m b c)
  ]
    where
      by : Via (k ∷ ks) a m → Via (k ∷ ks) m b → (Via ks a m → Via ks m b → Via ks a b) → (Via ks a m → Via ks m k → Via ks a k) → (Via ks k m → Via ks m b → Via ks k b) → Via (k ∷ ks) a b
      by (inl h) (inl g) ab ak kb = inl (ab h g)
      by (inl h) (inr g) ab ak kb = inr (ak h g.0, g.1)
      by (inr h) (inl g) ab ak kb = inr (h.0, kb h.1 g)
      by (inr h) (inr g) ab ak kb = inr (h.0, g.1)

  pub decided : ((a b : X) → Decided (Step a b)) → (ks : List X) (a b : X) → Decided (Via ks a b)
  decided step [] a b = step a b
  decided step (k ∷ ks) a b = either (decided step ks a b) (both (decided step ks a k) (decided step ks k b))

  -- what steps keep ways keep
  pub kept : (Q : X → Type 0) → ((a b : X) → Q a → Step a b → Q b) → (ks : List X) (a b : X) → Q a → Via ks a b → Q b
  kept Q step [] a b q h = step a b q h
  kept Q step (k ∷ ks) a b q (inl h) = kept Q step ks a b q h
  kept Q step (k ∷ ks) a b q (inr h) = kept Q step ks k b (kept Q step ks a k q h.0) h.1
