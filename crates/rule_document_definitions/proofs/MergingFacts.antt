-- Where the fields of an operation merge, no rule on merging fails (the converse needs that agreement can be decided); and fields
-- merge where all reached fields that go together agree.
use Rattle.std.proofs.Common.{◌≡◌, List, [], ◌∷◌, ◌++◌, Some, inl, inr}
use Rattle.spec_document.specs.MeantTree.{MeantOperation, MeantDocument}
use Rattle.rule_definitions.specs.Judged.{Judged}
use Rattle.rule_document_definitions.specs.DocumentFaults.{Broken}
use Rattle.rule_document_definitions.specs.Selected.{Standing, StandingField, as_field}
use Rattle.rule_document_definitions.specs.Reached.{Closed, first, next, Reached}
use Rattle.rule_document_definitions.specs.Chains.{Chain, GoTogether, Merge}
use Rattle.rule_document_definitions.specs.Merging.{FieldsMerge, MergingBreaks, Below, Starts}

pub merging_breaks_nothing : {P : Type 0} (s : Judged) (d : MeantDocument P) (o : MeantOperation P) → FieldsMerge s d o → (fault : Broken P) → MergingBreaks s d o fault → ⊥
merging_breaks_nothing s d o m fault (inl (f, (g, (meet, (fails, is))))) = fails (m.shapes f g meet)
merging_breaks_nothing s d o m fault (inr (inl (f, (g, (meet, (fails, is)))))) = fails (m.selections f g meet).0
merging_breaks_nothing s d o m fault (inr (inr (n, (f, (g, (meet, (fails, is))))))) = fails ((m.selections f g meet).1 n)

-- ---- chains

module _ {F : Type 0} where
  -- what holds of the first fields and is handed down holds of the last
  pub chain_ends : (Below : F → F → Type 0) (Good : F → Type 0) → ((f g : F) → Good f → Below f g → Good g)
      → (Starts : F → Type 0) → ((f : F) → Starts f → Good f) → (c : List F) (f : F) → Chain Below Starts (c ++ f ∷ []) → Good f
  chain_ends Below Good down Starts starts [] f (s, rest) = starts f s
  chain_ends Below Good down Starts starts (h ∷ c) f (s, rest) = chain_ends Below Good down (Below h) (λ g b. down h g (starts h s) b) c f rest

  -- the last fields go together
  pub ends_together : (Together : F → F → Type 0) (c d : List F) (f g : F) → GoTogether Together (c ++ f ∷ []) (d ++ g ∷ []) → Together f g
  ends_together Together [] [] f g (t, rest) = t
  ends_together Together [] (y ∷ []) f g (t, rest) = absurd rest
  ends_together Together [] (y ∷ z ∷ d) f g (t, rest) = absurd rest
  ends_together Together (y ∷ []) [] f g (t, rest) = absurd rest
  ends_together Together (y ∷ z ∷ c) [] f g (t, rest) = absurd rest
  ends_together Together (y ∷ c) (z ∷ d) f g (t, rest) = ends_together Together c d f g rest

-- ---- reached fields

pub closed_within : {X : Type 0} {First Start : X → Type 0} {Next Step : X → X → Type 0} → ((x : X) → First x → Closed Start Step x) → ((x y : X) → Next x y → Step x y)
    → (x : X) → Closed First Next x → Closed Start Step x
closed_within s t x (first h) = s x h
closed_within s t y (next {x} r l) = next (closed_within s t x r) (t x y l)

module _ {P : Type 0} (d : MeantDocument P) (o : MeantOperation P) where
  -- a field that the operation reaches
  abbrev pub IsReachedField : StandingField P → Type 0
  IsReachedField f = (x : Standing P) × (Reached d o x × (as_field x ≡ Some f))

  started : (f : StandingField P) → Starts d o f → IsReachedField f
  started f (x, (r, e)) = (x, (closed_within (λ y h. first h) (λ y z l. inr l) x r, e))

  handed_down : (f g : StandingField P) → IsReachedField f → Below d f g → IsReachedField g
  handed_down f g (x, (r, e)) (y, (k, i)) = (y, (closed_within (λ z h. next r (inl (f, (e, h)))) (λ v w l. inr l) y k, i))

  -- fields merge where all reached fields that go together agree
  pub merge_if_all_agree : (Together Agree : StandingField P → StandingField P → Type 0)
      → ((f g : StandingField P) → IsReachedField f → IsReachedField g → Together f g → Agree f g) → Merge (Below d) Together (Starts d o) Agree
  merge_if_all_agree Together Agree agree f g (c, (c', (p, (q, r)))) = agree f g
      (chain_ends (Below d) IsReachedField handed_down (Starts d o) started c f p)
      (chain_ends (Below d) IsReachedField handed_down (Starts d o) started c' g q)
      (ends_together Together c c' f g r)
