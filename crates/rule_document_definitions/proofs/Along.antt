-- Merging along a map of fields, such as one that leaves places out: where chains and what is asked of fields correspond, the
-- fields merge on one side exactly if they merge on the other.
use Rattle.std.proofs.Common.{◌≡◌, List, [], ◌∷◌, ◌++◌, map, refl, sym, ap, subst, ◌∙◌}
use Rattle.rule_document_definitions.specs.Chains.{Chain, GoTogether, Meet, Merge}

module _ {F G : Type 0} (h : F → G) where
  -- ---- what goes together

  together_down : (Together : F → F → Type 0) (With : G → G → Type 0) → ((f g : F) → Together f g → With (h f) (h g))
      → (c d : List F) → GoTogether Together c d → GoTogether With (map h c) (map h d)
  together_down Together With down [] [] t = tt
  together_down Together With down [] (y ∷ d) t = absurd t
  together_down Together With down (y ∷ c) [] t = absurd t
  together_down Together With down (y ∷ c) (z ∷ d) t = (down y z t.0, together_down Together With down c d t.1)

  together_up : (Together : F → F → Type 0) (With : G → G → Type 0) → ((f g : F) → With (h f) (h g) → Together f g)
      → (c d : List F) → GoTogether With (map h c) (map h d) → GoTogether Together c d
  together_up Together With up [] [] t = tt
  together_up Together With up [] (y ∷ d) t = absurd t
  together_up Together With up (y ∷ c) [] t = absurd t
  together_up Together With up (y ∷ c) (z ∷ d) t = (up y z t.0, together_up Together With up c d t.1)

  -- ---- the last of a list

  last_of : (c : List F) (f : F) → map h (c ++ f ∷ []) ≡ map h c ++ h f ∷ []
  last_of [] f = refl
  last_of (x ∷ c) f = ap (λ l. h x ∷ l) (last_of c f)

  -- what is mapped to a list with a last one has a last one
  comes_from : (c : List F) (e : List G) (y : G) → map h c ≡ e ++ y ∷ [] → (d : List F) × ((f : F) × ((c ≡ d ++ f ∷ []) × ((map h d ≡ e) × (h f ≡ y))))
  comes_from [] [] y i = cc
  comes_from [] (z ∷ e) y i = cc
  comes_from (x ∷ []) [] y i = ([], (x, (refl, (refl, cc))))
  comes_from (x ∷ w ∷ c) [] y i = cc
  comes_from (x ∷ c) (z ∷ e) y i =
      let rest : map h c ≡ e ++ y ∷ [] = cc in
      let same : h x ≡ z = cc in
      let p = comes_from c e y rest in
      (x ∷ p.0, (p.1.0, (ap (λ l. x ∷ l) p.1.1.0, (subst (λ w. h x ∷ map h p.0 ≡ w ∷ e) same (ap (λ l. h x ∷ l) p.1.1.1.0), p.1.1.1.1))))

  -- ---- chains

  module _ (Below : F → F → Type 0) (Under : G → G → Type 0) where
    pub chain_down : ((f g : F) → Below f g → Under (h f) (h g)) → (Starts : F → Type 0) (Begins : G → Type 0) → ((f : F) → Starts f → Begins (h f))
        → (c : List F) → Chain Below Starts c → Chain Under Begins (map h c)
    chain_down down Starts Begins starts [] p = tt
    chain_down down Starts Begins starts (f ∷ c) p = (starts f p.0, chain_down down (Below f) (Under (h f)) (down f) c p.1)

    pub chain_up : ((f : F) (y : G) → Under (h f) y → (g : F) × (Below f g × (h g ≡ y))) → (Starts : F → Type 0) (Begins : G → Type 0)
        → ((y : G) → Begins y → (f : F) × (Starts f × (h f ≡ y))) → (e : List G) → Chain Under Begins e → (c : List F) × (Chain Below Starts c × (map h c ≡ e))
    chain_up up Starts Begins starts [] p = ([], (tt, refl))
    chain_up up Starts Begins starts (y ∷ e) p =
        let f = starts y p.0 in
        let q = chain_up up (Below f.0) (Under (h f.0)) (up f.0) e (subst (λ w. Chain Under (Under w) e) (sym f.1.1) p.1) in
        (f.0 ∷ q.0, ((f.1.0, q.1.0), ap (λ w. w ∷ map h q.0) f.1.1 ∙ ap (λ l. y ∷ l) q.1.1))

    -- ---- fields that meet

    module _ (Together : F → F → Type 0) (With : G → G → Type 0) (Starts : F → Type 0) (Begins : G → Type 0) where
      pub meet_down : ((f g : F) → Below f g → Under (h f) (h g)) → ((f : F) → Starts f → Begins (h f)) → ((f g : F) → Together f g → With (h f) (h g))
          → (f g : F) → Meet Below Together Starts f g → Meet Under With Begins (h f) (h g)
      meet_down down starts together f g (c, (d, (p, (q, t)))) = (
        map h c,
        (
          map h d,
          (
            subst (Chain Under Begins) (last_of c f) (chain_down down Starts Begins starts (c ++ f ∷ []) p),
            (
              subst (Chain Under Begins) (last_of d g) (chain_down down Starts Begins starts (d ++ g ∷ []) q),
              subst (λ l. GoTogether With (map h c ++ h f ∷ []) l) (last_of d g) (subst (λ l. GoTogether With l (map h (d ++ g ∷ []))) (last_of c f)
                  (together_down Together With together (c ++ f ∷ []) (d ++ g ∷ []) t)),
            ),
          ),
        ),
      )

      pub meet_up : ((f : F) (y : G) → Under (h f) y → (g : F) × (Below f g × (h g ≡ y))) → ((y : G) → Begins y → (f : F) × (Starts f × (h f ≡ y)))
          → ((f g : F) → With (h f) (h g) → Together f g) → (y z : G) → Meet Under With Begins y z
          → (f : F) × ((g : F) × (Meet Below Together Starts f g × ((h f ≡ y) × (h g ≡ z))))
      meet_up up starts together y z (e, (e', (p, (q, t)))) =
          let a = chain_up up Starts Begins starts (e ++ y ∷ []) p in
          let b = chain_up up Starts Begins starts (e' ++ z ∷ []) q in
          let v = comes_from a.0 e y a.1.1 in
          let w = comes_from b.0 e' z b.1.1 in
          let goes : GoTogether Together a.0 b.0 = together_up Together With together a.0 b.0
          (subst (λ l. GoTogether With (map h a.0) l) (sym b.1.1) (subst (λ l. GoTogether With l (e' ++ z ∷ [])) (sym a.1.1) t)) in (
            v.1.0,
            (
              w.1.0,
              (
                (
                  v.0,
                  (
                    w.0,
                    (
                      subst (Chain Below Starts) v.1.1.0 a.1.0,
                      (
                        subst (Chain Below Starts) w.1.1.0 b.1.0,
                        subst (λ l. GoTogether Together (v.0 ++ v.1.0 ∷ []) l) w.1.1.0 (subst (λ l. GoTogether Together l b.0) v.1.1.0 goes),
                      ),
                    ),
                  ),
                ),
                (v.1.1.1.1, w.1.1.1.1),
              ),
            ),
          )

    -- ---- all that meet

    module _ (Together Agree : F → F → Type 0) (With Match : G → G → Type 0) (Starts : F → Type 0) (Begins : G → Type 0) where
      -- what merges there merges here
      pub merge_back : ((f g : F) → Below f g → Under (h f) (h g)) → ((f : F) → Starts f → Begins (h f))
          → ((f g : F) → Together f g → With (h f) (h g)) → ((f g : F) → Match (h f) (h g) → Agree f g)
          → Merge Under With Begins Match → Merge Below Together Starts Agree
      merge_back down starts together agree merge f g meet = agree f g (merge (h f) (h g) (meet_down Together With Starts Begins down starts together f g meet))

      -- what merges here merges there
      pub merge_on : ((f : F) (y : G) → Under (h f) y → (g : F) × (Below f g × (h g ≡ y))) → ((y : G) → Begins y → (f : F) × (Starts f × (h f ≡ y)))
          → ((f g : F) → With (h f) (h g) → Together f g) → ((f g : F) → Agree f g → Match (h f) (h g))
          → Merge Below Together Starts Agree → Merge Under With Begins Match
      merge_on up starts together agree merge y z meet =
          let m = meet_up Together With Starts Begins up starts together y z meet in
          subst (λ u. Match y u) m.1.1.1.1 (subst (λ u. Match u (h m.1.0)) m.1.1.1.0 (agree m.0 m.1.0 (merge m.0 m.1.0 m.1.1.0)))
