-- The bounds, by documents of any depth: `{ p { p { .. a } } }` passes the bound on chains exactly when it holds more fields than the
-- bound, and the bound on paths if it holds more than that; and fragments that spread one another are on one path.
use Rattle.std.proofs.Common.{◌≡◌, ℕ, ◌<◌, ◌≤◌, zero, suc, List, [], ◌∷◌, length, codes, refl, sym, ap, subst, ◌∙◌, None, Some, Contains, inl, inr, is_some, true≢false, arith}
use Rattle.std.proofs.lemmas.Option.{same_Some}
use Rattle.spec_document.specs.MeantTree.{MeantSelection, set_on, MeantOperation, MeantFragment, MeantDocument}
use Rattle.graphql_names.specs.Placed.{Placed}
use Rattle.rule_definitions.specs.Diagnostics.{SpreadTree}
use Rattle.rule_cycle_search.specs.Paths.{IsWay, HasNoRepeat}
use Rattle.rule_definitions.proofs.Lists.{not_in_nil, Contains-first, only}
use Rattle.rule_document_definitions.specs.Selected.{Position, InFragment, SelectionAt, Standing, StandingField, all_in, standing_in, as_field, field_there}
use Rattle.rule_document_definitions.specs.Reached.{Closed, first, next, InFragmentOf, IsFieldOf}
use Rattle.rule_document_definitions.specs.Chains.{Chain}
use Rattle.rule_document_definitions.specs.Merging.{Below, Starts}
use Rattle.rule_document_definitions.specs.Fragments.{as_spread, RefersBySpread}
use Rattle.rule_document_definitions.specs.Limits.{path_bound, chain_bound, entered, Enters, PassesPathBound, PassesChainBound}
use Rattle.rule_document_definitions.proofs.RowParts.{of_type, headed, nothing_on, query_name, int_name, a_name, f_name, leaf, p_field, spread, query_of, fragment_of, alone, stand_at, root}

-- ---- `{ p { p { .. a } } }`, with so many p

abbrev p_name : List ℕ
p_name = codes "P"

abbrev deep : ℕ → MeantSelection ℕ
deep zero = leaf 2 a_name
deep (suc n) = p_field 2 (deep n ∷ [])

abbrev deep_query : ℕ → MeantOperation ℕ
deep_query n = query_of (deep n ∷ [])

abbrev deep_field : Position → List ℕ → ℕ → StandingField ℕ
deep_field at t zero = record { position = at; parent = t; place = 2; definition = of_type a_name int_name; head = headed 2 None a_name [] []; set = nothing_on int_name }
deep_field at t (suc n) = record { position = at; parent = t; place = 2; definition = of_type (codes "p") p_name; head = headed 2 None (codes "p") [] []; set = set_on p_name (deep n ∷ []) }

is_field : (at : Position) (t : List ℕ) (n : ℕ) → field_there at t (deep n) ≡ Some (deep_field at t n)
is_field at t zero = refl
is_field at t (suc n) = refl

-- no selection is in it through a fragment
no_fragment_in : {R : Type 0} (d : MeantDocument ℕ) (at : Position) (t : List ℕ) (n : ℕ) (y : Standing ℕ) → InFragmentOf d (record { position = at; parent = t; it = deep n }) y → R
no_fragment_in d at t zero y (inl c) = not_in_nil y c
no_fragment_in d at t (suc n) y (inl c) = not_in_nil y c
no_fragment_in d at t zero y (inr (m, (e, r))) = absurd (true≢false (sym (ap is_some e)))
no_fragment_in d at t (suc n) y (inr (m, (e, r))) = absurd (true≢false (sym (ap is_some e)))

-- nothing is reached from nothing
nothing_closed : {R : Type 0} (d : MeantDocument ℕ) (y : Standing ℕ) → Closed (Contains []) (InFragmentOf d) y → R
nothing_closed d y (first k) = not_in_nil y k
nothing_closed d y (next {x = x} r l) = nothing_closed d x r

module _ (d : MeantDocument ℕ) where
  alone_there : (h : Position) (t : List ℕ) (n : ℕ) (x : Standing ℕ) → Closed (Contains (standing_in h (set_on t (deep n ∷ [])))) (InFragmentOf d) x → x ≡ stand_at h 0 t (deep n)
  alone_there h t n x (first c) = only (stand_at h 0 t (deep n)) x c
  alone_there h t n y (next {x = x} r l) = no_fragment_in d (SelectionAt h 0) t n y (subst (λ v. InFragmentOf d v y) (alone_there h t n x r) l)

  -- the only field of such a set
  is_field_of : (h : Position) (t : List ℕ) (n : ℕ) → IsFieldOf d h (set_on t (deep n ∷ [])) (deep_field (SelectionAt h 0) t n)
  is_field_of h t n = (stand_at h 0 t (deep n), (first (Contains-first (stand_at h 0 t (deep n)) [] (stand_at h 0 t (deep n)) refl), is_field (SelectionAt h 0) t n))

  only_field_of : (h : Position) (t : List ℕ) (n : ℕ) (f : StandingField ℕ) → IsFieldOf d h (set_on t (deep n ∷ [])) f → deep_field (SelectionAt h 0) t n ≡ f
  only_field_of h t n f (x, (r, e)) = same_Some _ _ (sym (is_field (SelectionAt h 0) t n) ∙ subst (λ (v : Standing ℕ). as_field v ≡ Some f) (alone_there h t n x r) e)

  -- ---- chains

  abbrev chain_from : Position → List ℕ → ℕ → List (StandingField ℕ)
  chain_from at t zero = deep_field at t zero ∷ []
  chain_from at t (suc n) = deep_field at t (suc n) ∷ chain_from (SelectionAt at 0) p_name n

  is_chain : (First : StandingField ℕ → Type 0) (at : Position) (t : List ℕ) (n : ℕ) → First (deep_field at t n) → Chain (Below d) First (chain_from at t n)
  is_chain First at t zero s = (s, tt)
  is_chain First at t (suc n) s = (s, is_chain (Below d (deep_field at t (suc n))) (SelectionAt at 0) p_name n (is_field_of at p_name n))

  long : (at : Position) (t : List ℕ) (n : ℕ) → length (chain_from at t n) ≡ suc n
  long at t zero = omega arith
  long at t (suc n) = let rest : length (chain_from (SelectionAt at 0) p_name n) ≡ suc n = long (SelectionAt at 0) p_name n in omega (arith, rest)

  -- no chain is longer
  no_longer : (at : Position) (t : List ℕ) (n : ℕ) (First : StandingField ℕ → Type 0) → ((f : StandingField ℕ) → First f → deep_field at t n ≡ f) → (c : List (StandingField ℕ)) → Chain (Below d) First c → length c ≤ suc n
  no_longer at t n First one [] p = omega arith
  no_longer at t zero First one (f ∷ []) p = omega arith
  no_longer at t zero First one (f ∷ g ∷ c) p = nothing_closed d _ (subst (λ v. Below d v g) (sym (one f p.0)) p.1.0).1.0
  no_longer at t (suc n) First one (f ∷ c) p =
      let rest : length c ≤ suc n = no_longer (SelectionAt at 0) p_name n (Below d f) (λ g b. only_field_of at p_name n g (subst (λ v. Below d v g) (sym (one f p.0)) b)) c p.1 in
      omega (arith, rest)

-- it holds n + 1 fields: one more than the bound passes it, as many do not
chain_is_passed : (n : ℕ) → chain_bound < suc n → PassesChainBound (alone (deep_query n)) (deep_query n)
chain_is_passed n more = (
  chain_from (alone (deep_query n)) (SelectionAt root 0) query_name n,
  (
    is_chain (alone (deep_query n)) (Starts (alone (deep_query n)) (deep_query n)) (SelectionAt root 0) query_name n (is_field_of (alone (deep_query n)) root query_name n),
    subst (λ k. chain_bound < k) (sym (long (alone (deep_query n)) (SelectionAt root 0) query_name n)) more,
  ),
)

chain_is_not_passed : (n : ℕ) → suc n ≤ chain_bound → PassesChainBound (alone (deep_query n)) (deep_query n) → ⊥
chain_is_not_passed n few (c, (p, more)) =
    let short : length c ≤ suc n = no_longer (alone (deep_query n)) (SelectionAt root 0) query_name n (Starts (alone (deep_query n)) (deep_query n)) (only_field_of (alone (deep_query n)) root query_name n) c p in
    omega (arith, short, few, more)

-- ---- paths

module _ (d : MeantDocument ℕ) where
  -- what stands below `deep n` there
  abbrev below_it : Position → ℕ → List (Standing ℕ)
  below_it at zero = []
  below_it at (suc n) = stand_at at 0 p_name (deep n) ∷ below_it (SelectionAt at 0) n

  is_path : (at : Position) (t : List ℕ) (n : ℕ) → IsWay (Enters d) (record { position = at; parent = t; it = deep n } ∷ below_it at n)
  is_path at t zero = tt
  is_path at t (suc n) = ((tt, inl (deep_field at t (suc n), (refl, Contains-first (stand_at at 0 p_name (deep n)) [] (stand_at at 0 p_name (deep n)) refl))), is_path (SelectionAt at 0) p_name n)

  -- it enters no fragment
  enters_none : (at : Position) (t : List ℕ) (n : ℕ) → entered (record { position = at; parent = t; it = deep n } ∷ below_it at n) ≡ []
  enters_none at t zero = refl
  enters_none at t (suc n) = enters_none (SelectionAt at 0) p_name n

  path_is_long : (at : Position) (n : ℕ) → length (below_it at n) ≡ n
  path_is_long at zero = refl
  path_is_long at (suc n) = let rest : length (below_it (SelectionAt at 0) n) ≡ n = path_is_long (SelectionAt at 0) n in omega (arith, rest)

nothing_repeats : HasNoRepeat {X = List ℕ} []
nothing_repeats i j x e k = absurd (true≢false (sym (ap is_some e)))

path_is_passed : (n : ℕ) → path_bound < suc n → PassesPathBound (alone (deep_query n))
path_is_passed n more = (
  stand_at root 0 query_name (deep n),
  (
    below_it (alone (deep_query n)) (SelectionAt root 0) n,
    (
      Contains-first (stand_at root 0 query_name (deep n)) _ (stand_at root 0 query_name (deep n)) refl,
      (
        is_path (alone (deep_query n)) (SelectionAt root 0) query_name n,
        (
          subst HasNoRepeat (sym (enters_none (alone (deep_query n)) (SelectionAt root 0) query_name n)) nothing_repeats,
          passed,
        ),
      ),
    ),
  ),
)
  where
    passed : path_bound < length (stand_at root 0 query_name (deep n) ∷ below_it (alone (deep_query n)) (SelectionAt root 0) n)
    passed = let size : length (below_it (alone (deep_query n)) (SelectionAt root 0) n) ≡ n = path_is_long (alone (deep_query n)) (SelectionAt root 0) n in omega (arith, size, more)

-- ---- ways of spreads: `{ ...F } fragment F on Q { ...G } fragment G on Q { a }`

abbrev g_name : List ℕ
g_name = codes "G"

abbrev f_to_g : MeantFragment ℕ
f_to_g = fragment_of 5 f_name query_name (spread 8 g_name ∷ [])

abbrev plain_g : MeantFragment ℕ
plain_g = fragment_of 10 g_name query_name (leaf 12 a_name ∷ [])

abbrev f_and_g : MeantDocument ℕ
f_and_g = record { anonymous = Some (query_of (spread 2 f_name ∷ [])); named = []; fragments = (f_name, f_to_g) ∷ (g_name, plain_g) ∷ [] }

abbrev by_g : Placed ℕ SpreadTree
by_g = record { it = record { fragment_name = g_name; directives = [] }; place = 8 }

way_of_two : IsWay (RefersBySpread f_and_g) (f_name ∷ g_name ∷ [])
way_of_two = ((by_g, (f_to_g, (refl, (stand_at (InFragment f_name) 0 query_name (spread 8 g_name), ((0, omega arith, refl), (refl, (refl, (plain_g, (refl, tt))))))))), tt)

ends_there : (n : List ℕ) → IsWay (RefersBySpread f_and_g) (f_name ∷ g_name ∷ n ∷ []) → ⊥
ends_there n (first_step, ((by, (f, (e, (x, (c, (is, more)))))), rest)) =
    true≢false (ap is_some (sym is ∙ none_spread))
  where
    set_is : plain_g ≡ f
    set_is = same_Some _ _ e

    leaf_is : x ≡ stand_at (InFragment g_name) 0 query_name (leaf 12 a_name)
    leaf_is = only (stand_at (InFragment g_name) 0 query_name (leaf 12 a_name)) x (subst (λ (h : MeantFragment ℕ). Contains (all_in (InFragment g_name) h.set) x) (sym set_is) c)

    none_spread : as_spread x.it ≡ None
    none_spread = ap (λ (v : Standing ℕ). as_spread v.it) leaf_is
