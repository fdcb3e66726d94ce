-- What is settled answers what is defined by all pairs of chains; and how an examination keeps it settled, step by step.
use Rattle.std.proofs.Common.{◌⊎◌, List, [], ◌∷◌, ◌++◌, Contains, inl, inr}
use Rattle.std.proofs.lemmas.List.Elements.{All-contains, All-from_recursion}
use Rattle.rule_definitions.proofs.Lists.{not_in_nil}
use Rattle.rule_document_definitions.specs.Chains.{Chain, GoTogether, Merge}
use Rattle.rule_document_definitions.specs.Groups.{AgreeWithHead}
use Rattle.rule_document_definitions.specs.Settled.{AreInOne, HasStart, StartsStand, IsSettledIn, IsUnderWay, IsSettled}

module _ {F : Type 0} (Below Together Agree : F → F → Type 0) where
  -- ---- what is settled merges

  -- of two chains that go together, of which the first fields of the one stand with those of the other, the last fields agree
  standing_agree : (Stand : F → F → Type 0) → IsSettledIn Below Together Agree Stand → (Here There : F → Type 0) → ((x y : F) → Here x → There y → Stand x y) → (c d : List F) (f g : F)
      → Chain Below Here (c ++ f ∷ []) → Chain Below There (d ++ g ∷ []) → GoTogether Together (c ++ f ∷ []) (d ++ g ∷ []) → Agree f g
  standing_agree Stand ok Here There stand [] [] f g p q t = ok.agree f g (stand f g p.0 q.0) t.0
  standing_agree Stand ok Here There stand [] (y ∷ []) f g p q t = absurd t.1
  standing_agree Stand ok Here There stand [] (y ∷ z ∷ d) f g p q t = absurd t.1
  standing_agree Stand ok Here There stand (y ∷ []) [] f g p q t = absurd t.1
  standing_agree Stand ok Here There stand (y ∷ z ∷ c) [] f g p q t = absurd t.1
  standing_agree Stand ok Here There stand (y ∷ c) (z ∷ d) f g p q t =
      standing_agree Stand ok (Below y) (Below z) (λ v w a b. ok.below y z v w (stand y z p.0 q.0) t.0 a b) c d f g p.1 q.1 t.1

  -- where all that Starts stands with all that Starts, the fields merge
  pub standing_merge : (Stand : F → F → Type 0) → IsSettledIn Below Together Agree Stand → (Starts : F → Type 0) → StartsStand Starts Stand → Merge Below Together Starts Agree
  standing_merge Stand ok Starts start f g (c, (d, (p, (q, t)))) = standing_agree Stand ok Starts Starts start c d f g p q t

  -- fields of settled lists are settled
  pub settled_standing : (lists : List (List F)) → IsSettled Below Together Agree lists → IsSettledIn Below Together Agree (AreInOne lists)
  settled_standing lists ok = record {
    agree = λ f g s t. ok.agree s.0 f g s.1.0 s.1.1.0 s.1.1.1 t;
    below = λ f g x y s t a b. let n = ok.below s.0 f g s.1.0 s.1.1.0 s.1.1.1 t in (n.0, (n.1.0, (n.1.1 x (inl a), n.1.1 y (inr b))));
  }

  -- where one of the settled lists has all that Starts, the fields merge
  pub settled_merge : (lists : List (List F)) → IsSettled Below Together Agree lists → (Starts : F → Type 0) → HasStart Starts (Contains lists) → Merge Below Together Starts Agree
  settled_merge lists ok Starts start =
      standing_merge (AreInOne lists) (settled_standing lists ok) Starts (λ f g a b. (start.0, (start.1.0, (start.1.1 f a, start.1.1 g b))))

  -- ---- steps of an examination

  -- where nothing stands together
  pub settled_nothing : (Stand : F → F → Type 0) → ((f g : F) → Stand f g → ⊥) → IsSettledIn Below Together Agree Stand
  settled_nothing Stand none = record { agree = λ f g s t. absurd (none f g s); below = λ f g x y s t a b. absurd (none f g s) }

  -- two fields that agree with one head agree
  pub by_head : ((f g : F) → Agree f g → Agree g f) → ((f g h : F) → Agree f g → Agree g h → Agree f h)
      → (group : List F) (f g : F) → AgreeWithHead Agree group → Contains group f → Contains group g → Agree f g
  by_head agree_sym agree_trans [] f g all in_f in_g = not_in_nil f in_f
  by_head agree_sym agree_trans (head ∷ fs) f g all in_f in_g =
      let whole = All-from_recursion (Agree head) (head ∷ fs) all in
      agree_trans f head g (agree_sym head f (All-contains (Agree head) (head ∷ fs) f whole in_f)) (All-contains (Agree head) (head ∷ fs) g whole in_g)

  module _ (Starts : F → Type 0) where
    -- what starts is left
    pub begun : (Left Stand : F → F → Type 0) → StartsStand Starts Left → IsSettledIn Below Together Agree Stand → IsUnderWay Below Together Agree Starts Left Stand
    begun Left Stand start ok = record {
      start = λ f g a b. inr (start f g a b);
      agree = ok.agree;
      below = λ f g x y s t a b. inl (ok.below f g x y s t a b);
    }

    -- what was left stands now, or it or something else is left later; and what stands now stood before, or agrees, and what lies below
    -- it stands or is left
    pub moved : (Left Later Stand Now : F → F → Type 0) → ((f g : F) → Stand f g → Now f g) → ((f g : F) → Left f g → Now f g ⊎ Later f g)
        → ((f g : F) → Now f g → Stand f g ⊎ ((Together f g → Agree f g) × (Together f g → (x y : F) → Below f x → Below g y → Now x y ⊎ Later x y)))
        → IsUnderWay Below Together Agree Starts Left Stand → IsUnderWay Below Together Agree Starts Later Now
    moved Left Later Stand Now keeps left new ok = record {
      start = λ f g a b. on f g (ok.start f g a b);
      agree = λ f g s t. elim (new f g s) [ inl h ↦ ok.agree f g h t | inr h ↦ h.0 t ];
      below = λ f g x y s t a b. elim (new f g s) [ inl h ↦ on x y (ok.below f g x y h t a b) | inr h ↦ h.1 t x y a b ];
    }
      where
        on : (f g : F) → Stand f g ⊎ Left f g → Now f g ⊎ Later f g
        on f g (inl h) = inl (keeps f g h)
        on f g (inr h) = left f g h

    -- nothing is left
    pub ended : (Left Stand : F → F → Type 0) → ((f g : F) → Left f g → ⊥) → IsUnderWay Below Together Agree Starts Left Stand → IsSettledIn Below Together Agree Stand × StartsStand Starts Stand
    ended Left Stand none ok = (
      record { agree = ok.agree; below = λ f g x y s t a b. stands x y (ok.below f g x y s t a b) },
      λ f g a b. stands f g (ok.start f g a b),
    )
      where
        stands : (f g : F) → Stand f g ⊎ Left f g → Stand f g
        stands f g (inl h) = h
        stands f g (inr h) = absurd (none f g h)
