-- Chains lead to what starts, and from a list to what lies below its groups.
use Rattle.std.proofs.Common.{◌+◌, ℕ, List, [], ◌∷◌, ◌++◌, Contains, refl, ap, ◌∙◌, length-append}
use Rattle.rule_document_definitions.specs.Chains.{Chain, GoTogether, Merge}
use Rattle.rule_document_definitions.specs.Going.{LiesBelow, IsEndOf, IsGoing}

module _ {F : Type 0} (Below : F → F → Type 0) where
  -- a chain goes on
  pub chain_on : (Starts : F → Type 0) (c : List F) (f g : F) → Chain Below Starts (c ++ f ∷ []) → Below f g → Chain Below Starts ((c ++ f ∷ []) ++ g ∷ [])
  chain_on Starts [] f g p b = (p.0, (b, tt))
  chain_on Starts (e ∷ c) f g p b = (p.0, chain_on (Below e) c f g p.1 b)

  -- with another that goes together with it
  pub together_on : (Together : F → F → Type 0) (c d : List F) (f g : F) → GoTogether Together c d → Together f g → GoTogether Together (c ++ f ∷ []) (d ++ g ∷ [])
  together_on Together [] [] f g p t = (t, tt)
  together_on Together [] (h ∷ d) f g p t = absurd p
  together_on Together (e ∷ c) [] f g p t = absurd p
  together_on Together (e ∷ c) (h ∷ d) f g p t = (p.0, together_on Together c d f g p.1 t)

  module _ (Starts : F → Type 0) where
    -- ---- fields that meet

    module _ (Together : F → F → Type 0) where
      -- fields that start
      pub going_start : (list : List F) → ((f : F) → Contains list f → Starts f) → IsGoing Below Starts Together list
      going_start list all f g in_f in_g t = ([], ([], ((all f in_f, tt), ((all g in_g, tt), (t, tt)))))

      -- what lies below a group of a list
      pub going_below : (list group next : List F) → IsGoing Below Starts Together list
          → ((f g : F) → Contains group f → Contains group g → Contains list f × Together f g) → LiesBelow Below group next → IsGoing Below Starts Together next
      going_below list group next going within below f g in_f in_g t =
          let up_f = below f in_f in
          let up_g = below g in_g in
          let w = within up_f.0 up_g.0 up_f.1.0 up_g.1.0 in
          let v = within up_g.0 up_f.0 up_g.1.0 up_f.1.0 in
          let m = going up_f.0 up_g.0 w.0 v.0 w.1 in (
            m.0 ++ up_f.0 ∷ [],
            (
              m.1.0 ++ up_g.0 ∷ [],
              (
                chain_on Starts m.0 up_f.0 f m.1.1.0 up_f.1.1,
                (
                  chain_on Starts m.1.0 up_g.0 g m.1.1.1.0 up_g.1.1,
                  together_on Together (m.0 ++ up_f.0 ∷ []) (m.1.0 ++ up_g.0 ∷ []) f g m.1.1.1.1 t,
                ),
              ),
            ),
          )

      -- where fields merge, those of such a list that go together agree
      pub going_agree : (Agree : F → F → Type 0) → Merge Below Together Starts Agree → (list : List F) → IsGoing Below Starts Together list
          → (f g : F) → Contains list f → Contains list g → Together f g → Agree f g
      going_agree Agree merge list going f g in_f in_g t = merge f g (going f g in_f in_g t)

    -- ---- lengths of chains

    -- fields that start
    pub end_start : (list : List F) → ((f : F) → Contains list f → Starts f) → IsEndOf Below Starts 1 list
    end_start list all f in_f = ([], ((all f in_f, tt), refl))

    -- what lies below a list
    pub end_below : (k : ℕ) (list next : List F) → IsEndOf Below Starts k list → LiesBelow Below list next → IsEndOf Below Starts (k + 1) next
    end_below k list next ends below g in_g =
        let up = below g in_g in
        let c = ends up.0 up.1.0 in
        (c.0 ++ up.0 ∷ [], (chain_on Starts c.0 up.0 g c.1.0 up.1.1, length-append (c.0 ++ up.0 ∷ []) (g ∷ []) ∙ ap (λ n. n + 1) c.1.1))

    -- of fewer fields it holds too
    pub end_within : (k : ℕ) (list part : List F) → ((f : F) → Contains part f → Contains list f) → IsEndOf Below Starts k list → IsEndOf Below Starts k part
    end_within k list part within ends f in_f = ends f (within f in_f)
