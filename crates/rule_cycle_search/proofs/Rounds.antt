-- The way round from a root.
use Rattle.std.proofs.Common.{◌≡◌, ℕ, ◌≤◌, ◌+◌, List, [], ◌∷◌, ◌++◌, length, reverse, refl, sym, ap, subst, ◌∙◌, inl, inr, arith, append_assoc}
use Rattle.std.specs.Prelude.{Contains, count_by, Vec, Some, None}
use Rattle.std.specs.Global.{Global}
use Rattle.std.proofs.lemmas.Bool.{cases_lt}
use Rattle.std.proofs.lemmas.List.{length-append, length-reverse, reverse-append}
use Rattle.std.proofs.lemmas.List.Elements.{Contains-append_left, Contains-append_right, Contains-append_cases, Contains-push}
use Rattle.rule_cycle_search.proofs.Lists.{only, Contains-first}
use Rattle.rule_cycle_search.specs.declared.graph.Graph.{Graph}
use Rattle.rule_cycle_search.specs.declared.steps.Step.{Step}
use Rattle.rule_cycle_search.specs.Graph.{references, is_first, AreTooMany, IsCycleThrough, IsDeep}
use Rattle.rule_cycle_search.specs.Spread.{IsTree}
use Rattle.rule_cycle_search.specs.Ways.{Goes, Follows, Joins}
use Rattle.rule_cycle_search.proofs.Members.{reverse-cons, in_reverse, split_at}
use Rattle.rule_cycle_search.specs.Depths.{Chain, Apart}
use Rattle.rule_cycle_search.proofs.Chains.{Chain-front, Chain-drop, Chain-join, Chain-reverse, Refers, IsWay-chain, LeadsTo-chain, HasNoRepeat-apart, Apart-front, Apart-not, Apart-append, Apart-reverse, Goes-out, Goes-head, Goes-chain, Goes-in, Goes-apart, Goes-meets, count_both}

module _ (g : Graph) (root : ℕ) where
  pub deep_count : (way rest : List ℕ) → way ≡ root ∷ rest → Chain (Refers g) way → Apart way → AreTooMany g way → IsDeep g root
  deep_count way rest is chain apart many = (
    rest,
    (
      IsWay-chain g (root ∷ rest) (subst (Chain (Refers g)) is chain),
      (HasNoRepeat-apart (root ∷ rest) (subst Apart is apart), subst (AreTooMany g) is many),
    ),
  )

  pub deep_long : (way rest : List ℕ) → way ≡ root ∷ rest → Chain (Refers g) way → Apart way → g.bound + g.bound + 1 ≤ length way → IsDeep g root
  deep_long way rest is chain apart long = deep_count way rest is chain apart (elim (cases_lt g.bound (count_by (is_first g) way)) [
    | inl many ↦ inl many
    | inr few ↦ inr (omega (arith, count_both (is_first g) way, few, long))
  ])

  pub cycle_through_of : (rest : List ℕ) → Chain (Refers g) (root ∷ (rest ++ root ∷ [])) → IsCycleThrough g root (rest ++ root ∷ [])
  cycle_through_of [] c = (root, ([], (refl, LeadsTo-chain g root [] root c)))
  cycle_through_of (x ∷ rest) c = (x, (rest ++ root ∷ [], (refl, LeadsTo-chain g root (x ∷ rest) root c)))

  -- a way round, its first node once
  pub record IsRound (way : List ℕ) : Type 0 where
    pub rest : List ℕ
    pub is : way ≡ root ∷ rest
    pub chain : Chain (Refers g) (way ++ root ∷ [])
    pub apart : Apart way

  module _ (In : ℕ → Type 0) (toward from : List Step) (c : ℕ) (onward : IsTree In (λ n v. Contains (references g n) v) c toward) (back : IsTree In (λ n v. Contains (references g v) n) c from)
      (last : ℕ) (root_in : In root) (last_in : In last) (refers : Contains (references g last) root) where
    pub no_ahead : (way : List ℕ) (m : ℕ) → Goes toward (c ∷ []) root way m → length way ≡ g.bound + g.bound + 1 → IsDeep g root
    no_ahead way m goes long =
        let stop : Contains (c ∷ []) c = Contains-first c [] c refl in
        let head : (rest : List ℕ) × (way ++ m ∷ [] ≡ root ∷ rest) = Goes-head toward (c ∷ []) root way m goes in
        deep_long (way ++ m ∷ []) head.0 head.1 (Goes-chain toward (c ∷ []) In (λ n v. Contains (references g n) v) c onward stop root way m root_in goes)
        (Goes-apart toward (c ∷ []) In (λ n v. Contains (references g n) v) c onward stop root way m root_in goes) (omega (arith, long, length-append way (m ∷ [])))

    module _ (a : List ℕ) (e : ℕ) (goes : Goes toward (c ∷ []) root a e) (ends : Contains (c ∷ []) e) (ahead : List ℕ) (is_ahead : ahead ≡ a ++ e ∷ []) where
      stop : Contains ahead c
      stop = subst (λ l. Contains l c) (sym is_ahead) (subst (Contains (a ++ e ∷ [])) (only c e ends) (Contains-push a e))

      chain_ahead : Chain (Refers g) ahead
      chain_ahead = subst (Chain (Refers g)) (sym is_ahead) (Goes-chain toward (c ∷ []) In (λ n v. Contains (references g n) v) c onward (Contains-first c [] c refl) root a e root_in goes)

      apart_ahead : Apart ahead
      apart_ahead = subst Apart (sym is_ahead) (Goes-apart toward (c ∷ []) In (λ n v. Contains (references g n) v) c onward (Contains-first c [] c refl) root a e root_in goes)

      head_ahead : (rest : List ℕ) × (ahead ≡ root ∷ rest)
      head_ahead = let h = Goes-head toward (c ∷ []) root a e goes in (h.0, is_ahead ∙ h.1)

      module _ (b : List ℕ) (m : ℕ) (returns : Goes from ahead last b m) (meets : Contains ahead m) (following : List ℕ) (is_after : following ≡ b ++ m ∷ []) (front : List ℕ) (n : ℕ) (rest : List ℕ) (cut : ahead ≡ front ++ n ∷ rest) (met : Contains following n) where
        same : n ≡ m
        same = elim (Contains-append_cases b (m ∷ []) n (subst (λ l. Contains l n) is_after met)) [
          | inl i ↦ absurd (Goes-out from ahead last b m returns n i (subst (λ l. Contains l n) (sym cut) (Contains-append_right front (n ∷ rest) n (Contains-first n rest n refl))))
          | inr i ↦ only m n i
        ]

        reversed : reverse following ≡ n ∷ reverse b
        reversed = ap reverse is_after ∙ reverse-append b (m ∷ []) ∙ ap (λ x. x ∷ reverse b) (sym same)

        chain_back : Chain (Refers g) (n ∷ (reverse b ++ root ∷ []))
        chain_back =
            let h : (r : List ℕ) × (b ++ m ∷ [] ≡ last ∷ r) = Goes-head from ahead last b m returns in
            let steps : Chain (λ x y. Refers g y x) (b ++ m ∷ []) = Goes-chain from ahead In (λ x v. Contains (references g v) x) c back stop last b m last_in returns in
            let all : Chain (λ x y. Refers g y x) (root ∷ following) = subst (λ l. Chain (λ x y. Refers g y x) (root ∷ l)) (sym (is_after ∙ h.1)) (refers, subst (Chain (λ x y. Refers g y x)) h.1 steps) in
            subst (Chain (Refers g)) (reverse-cons root following ∙ ap (λ l. l ++ root ∷ []) reversed) (Chain-reverse (Refers g) (root ∷ following) all)

        opened : front ++ reverse following ≡ front ++ n ∷ reverse b
        opened = ap (λ l. front ++ l) reversed

        begins : (f : List ℕ) → ahead ≡ f ++ n ∷ rest → (r : List ℕ) × (f ++ n ∷ reverse b ≡ root ∷ r)
        begins [] i = let e' : n ≡ root = let k = sym i ∙ head_ahead.1 in cc in (reverse b, ap (λ x. x ∷ reverse b) e')
        begins (x ∷ f) i = let e' : x ≡ root = let k = sym i ∙ head_ahead.1 in cc in (f ++ n ∷ reverse b, ap (λ y. y ∷ (f ++ n ∷ reverse b)) e')

        pub round : IsRound (front ++ reverse following)
        round = record {
          rest = (begins front cut).0;
          is = opened ∙ (begins front cut).1;
          chain = subst (Chain (Refers g)) (sym (ap (λ l. l ++ root ∷ []) opened ∙ append_assoc front (n ∷ reverse b) (root ∷ [])))
              (Chain-join (Refers g) front n (reverse b ++ root ∷ []) (Chain-front (Refers g) front n rest (subst (Chain (Refers g)) cut chain_ahead)) chain_back);
          apart = Apart-append front (reverse following) (Apart-front front (n ∷ rest) (subst Apart cut apart_ahead))
              (Apart-reverse following (subst Apart (sym is_after) (Goes-apart from ahead In (λ x v. Contains (references g v) x) c back stop last b m last_in returns)))
              (λ x i j. elim (Contains-append_cases b (m ∷ []) x (subst (λ l. Contains l x) is_after (in_reverse following x j))) [
                | inl k ↦ Goes-out from ahead last b m returns x k (subst (λ l. Contains l x) (sym cut) (Contains-append_left front (n ∷ rest) x i))
                | inr k ↦ Apart-not front n rest (subst Apart cut apart_ahead) (subst (Contains front) (only m x k ∙ sym same) i)
              ]);
        }

      pub no_after : (b : List ℕ) (m : ℕ) → Goes from ahead last b m → length b ≡ g.bound + g.bound + 1 → IsDeep g root
      no_after b m returns long =
          let inside : In m = Goes-in from ahead In (λ x v. Contains (references g v) x) c back stop last b m last_in returns in
          let on = Goes-meets from ahead In (λ x v. Contains (references g v) x) c back stop (back.rank m + 1) last b m (omega arith) inside returns in
          let s = split_at ahead on.1.0 on.1.1.1 in
          let r = round (b ++ on.0) on.1.0 on.1.1.0 on.1.1.1 ((b ++ on.0) ++ on.1.0 ∷ []) refl s.0 on.1.0 s.1.0 s.1.1 (Contains-push (b ++ on.0) on.1.0) in
          deep_long (s.0 ++ reverse ((b ++ on.0) ++ on.1.0 ∷ [])) r.rest r.is (Chain-drop (Refers g) (s.0 ++ reverse ((b ++ on.0) ++ on.1.0 ∷ [])) root r.chain) r.apart
          (omega (arith, long, length-append s.0 (reverse ((b ++ on.0) ++ on.1.0 ∷ [])), length-reverse ((b ++ on.0) ++ on.1.0 ∷ []), length-append (b ++ on.0) (on.1.0 ∷ []), length-append b on.0))

    -- what is joined is a way round
    pub joined : (ahead following : Vec ℕ Global) → Follows toward (c ∷ []) g.bound root (Some ahead) → Follows from ahead.items g.bound last (Some following) → (w : List ℕ) → Joins ahead.items following.items w → IsRound w
    joined ahead following f h w j =
        subst IsRound (sym j.1.1.1.1.1)
        (round f.0 f.1.0 f.1.1.0 f.1.1.1.0 ahead.items f.1.1.1.1 h.0 h.1.0 h.1.1.0 h.1.1.1.0 following.items h.1.1.1.1 j.0 j.1.0 j.1.1.0 j.1.1.1.0 j.1.1.1.1.0)

    pub not_after : (ahead : Vec ℕ Global) → Follows toward (c ∷ []) g.bound root (Some ahead) → Follows from ahead.items g.bound last None → IsDeep g root
    not_after ahead f h = no_after f.0 f.1.0 f.1.1.0 f.1.1.1.0 ahead.items f.1.1.1.1 h.0 h.1.0 h.1.1.0 h.1.1.1
