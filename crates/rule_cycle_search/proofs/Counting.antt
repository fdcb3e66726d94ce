-- How deep nodes are.
use Rattle.std.proofs.Common.{◌≡◌, ℕ, ◌<◌, ◌≤◌, ◌+◌, ◌⊎◌, Bool, true, false, not, cond, List, [], ◌∷◌, ◌++◌, length, get_or, set, Some, refl, sym, subst, ◌∙◌, inl, inr, zero, suc, true≢false, arith}
use Rattle.std.specs.Prelude.{slice_get, Contains, count_by}
use Rattle.std.proofs.lemmas.Option.{slice_get-get_or, same_Some}
use Rattle.std.proofs.lemmas.List.Sums.{sum_by-append}
use Rattle.rule_cycle_search.proofs.Lists.{Contains-cons, not_in_nil}
use Rattle.rule_cycle_search.specs.declared.graph.Graph.{Graph}
use Rattle.rule_cycle_search.specs.declared.steps.Step.{Step}
use Rattle.rule_cycle_search.specs.Graph.{references, LeadsTo, is_first, is_of, IsDeep}
use Rattle.rule_cycle_search.specs.NodeSteps.{is_in, IsIn}
use Rattle.rule_cycle_search.specs.Parts.{IsWhole}
use Rattle.rule_cycle_search.specs.Depths.{Chain, HasWay, AreCounted}
use Rattle.rule_cycle_search.proofs.Sets.{slice_get-set_cases}
use Rattle.rule_cycle_search.proofs.Parting.{part_of}
use Rattle.rule_cycle_search.proofs.Chains.{Refers}
use Rattle.rule_cycle_search.proofs.Rounds.{deep_count}
use mathlib.Core.Bool.{beq}

-- one more
count_cons : (kind : ℕ → Bool) (x : ℕ) (xs : List ℕ) → count_by kind (x ∷ xs) ≡ cond (kind x) 1 0 + count_by kind xs
count_cons kind x xs = omega (arith, sum_by-append (λ y. cond (kind y) 1 0) (x ∷ []) xs)

module _ (g : Graph) where
  -- a way leads to each of its nodes
  leads_along : (x : ℕ) (xs : List ℕ) (y : ℕ) → Chain (Refers g) (x ∷ xs) → Contains (x ∷ xs) y → (p : List ℕ) × LeadsTo g x p y
  leads_along x [] y c h = elim (Contains-cons x [] y h) [ inl e ↦ ([], e) | inr n ↦ not_in_nil y n ]
  leads_along x (z ∷ xs) y c h = elim (Contains-cons x (z ∷ xs) y h) [
    | inl e ↦ ([], e)
    | inr n ↦ let more = leads_along z xs y c.1 n in (z ∷ more.0, (z, ((c.0, refl), more.1)))
  ]

  module _ (kind : ℕ → Bool) where
    pub way_alone : (n : ℕ) → HasWay g kind n 0
    way_alone n = ([], (tt, (((λ c. not_in_nil n c), tt), omega arith)))

    -- what the ways onward come to
    abbrev pub HasMost : ℕ → List Step → ℕ → ℕ → Type 0
    HasMost node from c most = (most ≡ 0) ⊎ ((e : ℕ) × (Contains (references g node) e × ((is_in from c e ≡ false) × HasWay g kind e most)))

    counted_at : (depths : List ℕ) → AreCounted g kind depths → (e : ℕ) → e < length depths → HasWay g kind e (get_or depths e 0)
    counted_at depths all e h = all e (get_or depths e 0) (slice_get-get_or depths e 0 h)

    pub most_at : (depths : List ℕ) (node : ℕ) (from : List Step) (c e : ℕ) → AreCounted g kind depths → Contains (references g node) e → e < length depths → is_in from c e ≡ false → HasMost node from c (get_or depths e 0)
    most_at depths node from c e all m h out = inr (e, (m, (out, counted_at depths all e h)))

    module _ (toward from : List Step) (whole : IsWhole g toward from) (node c : ℕ) (here : IsIn from c node) where
      off : (e : ℕ) (rest : List ℕ) → Contains (references g node) e → is_in from c e ≡ false → Chain (Refers g) (e ∷ rest) → Contains (e ∷ rest) node → ⊥
      off e rest m out chain h =
          let p : (p : List ℕ) × LeadsTo g e p node = leads_along e rest node chain h in
          true≢false (sym ((part_of g toward from c node whole here).whole node e (e ∷ []) p.0 here (e, ((m, refl), refl)) p.1) ∙ out)

      pub way_more : (many own : ℕ) → HasMost node from c many → own ≡ cond (kind node) 1 0 → HasWay g kind node (own + many)
      way_more many own (inl e) is = ([], (tt, (((λ h. not_in_nil node h), tt), omega (arith, count_cons kind node [], is, e))))
      way_more many own (inr w) is =
          let e : ℕ = w.0 in
          let way : HasWay g kind e many = w.1.1.1 in
          (e ∷ way.0, ((w.1.0, way.1.0), (((λ h. off e way.0 w.1.0 w.1.1.0 way.1.0 h), way.1.1.0), omega (arith, count_cons kind node (e ∷ way.0), way.1.1.1, is))))

    pub way_less : (n many less : ℕ) → less ≤ many → HasWay g kind n many → HasWay g kind n less
    way_less n many less h w = (w.0, (w.1.0, (w.1.1.0, omega (arith, h, w.1.1.1))))

    pub counted_set : (depths : List ℕ) (n many : ℕ) → n < length depths → AreCounted g kind depths → HasWay g kind n many → AreCounted g kind (set depths n many)
    counted_set depths n many h all w m k is = elim (slice_get-set_cases depths n many m h) [
      | inl s ↦ subst (λ x. HasWay g kind x k) (sym s.0) (subst (HasWay g kind n) (same_Some many k (sym s.1 ∙ is)) w)
      | inr s ↦ all m k (sym s.1 ∙ is)
    ]

    pub counted_none : (depths : List ℕ) → ((n many : ℕ) → slice_get depths n ≡ Some many → many ≡ 0) → AreCounted g kind depths
    counted_none depths none n many h = subst (HasWay g kind n) (sym (none n many h)) (way_alone n)

-- a push of nothing
pub zeros_more : (depths : List ℕ) → ((n many : ℕ) → slice_get depths n ≡ Some many → many ≡ 0) → (n many : ℕ) → slice_get (depths ++ 0 ∷ []) n ≡ Some many → many ≡ 0
zeros_more [] before zero many h = cc
zeros_more [] before (suc n) many h = absurd cc
zeros_more (d ∷ ds) before zero many h = before zero many h
zeros_more (d ∷ ds) before (suc n) many h = zeros_more ds (λ k m e. before (suc k) m e) n many h

-- the test of a node's kind
pub of_same : (g : Graph) (b : Bool) (n : ℕ) → is_of g b n ≡ beq (is_first g n) b
of_same g true n = by (is_first g n)
  where
    by : (d : Bool) → d ≡ beq d true
    by true = refl
    by false = refl
of_same g false n = by (is_first g n)
  where
    by : (d : Bool) → not d ≡ beq d false
    by true = refl
    by false = refl

-- counted beyond the bound
pub counted_deep : (g : Graph) (b : Bool) (depths : List ℕ) → AreCounted g (is_of g b) depths → (root many : ℕ) → slice_get depths root ≡ Some many → g.bound < many → IsDeep g root
counted_deep g true depths all root many is more = let w = all root many is in deep_count g root (root ∷ w.0) w.0 refl w.1.0 w.1.1.0 (inl (omega (arith, w.1.1.1, more)))
counted_deep g false depths all root many is more = let w = all root many is in deep_count g root (root ∷ w.0) w.0 refl w.1.0 w.1.1.0 (inr (omega (arith, w.1.1.1, more)))

-- one more at the end
pub push_each : {X : Type 0} (P : ℕ → X → Type 0) (xs : List X) (x : X) → ((r : ℕ) (f : X) → slice_get xs r ≡ Some f → P r f) → P (length xs) x → (r : ℕ) (f : X) → slice_get (xs ++ x ∷ []) r ≡ Some f → P r f
push_each P [] x before last zero f h = subst (P 0) (same_Some x f h) last
push_each P [] x before last (suc r) f h = absurd cc
push_each P (y ∷ ys) x before last zero f h = before zero f h
push_each P (y ∷ ys) x before last (suc r) f h = push_each (λ k. P (suc k)) ys x (λ k. before (suc k)) last r f h
