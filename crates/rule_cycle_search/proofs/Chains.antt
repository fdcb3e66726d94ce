-- Ways as lists of nodes.
use Rattle.std.proofs.Common.{◌≡◌, ℕ, ◌<◌, ◌≤◌, ◌+◌, Bool, true, false, not, cond, List, [], ◌∷◌, ◌++◌, length, reverse, refl, sym, ap, subst, ◌∙◌, inl, inr, zero, suc, arith, append_assoc}
use Rattle.std.specs.Prelude.{Contains, count_by}
use Rattle.std.proofs.lemmas.List.{append-nil}
use Rattle.std.proofs.lemmas.List.Elements.{Contains-append_left, Contains-append_right, Contains-append_cases}
use Rattle.std.proofs.lemmas.List.Sums.{sum_by-append}
use Rattle.rule_cycle_search.specs.Paths.{IsWay, HasNoRepeat}
use Rattle.rule_cycle_search.proofs.Lists.{Contains-cons, Contains-first, not_in_nil, only, index_given}
use Rattle.rule_cycle_search.specs.declared.graph.Graph.{Graph}
use Rattle.rule_cycle_search.specs.declared.steps.Step.{Step}
use Rattle.rule_cycle_search.specs.Graph.{references, RefersTo, LeadsTo}
use Rattle.rule_cycle_search.specs.NodeSteps.{via_at}
use Rattle.rule_cycle_search.specs.Spread.{IsTree}
use Rattle.rule_cycle_search.specs.Ways.{Goes}
use Rattle.rule_cycle_search.specs.Depths.{Chain, Apart}
use Rattle.rule_cycle_search.proofs.Members.{reverse-cons, in_reverse, contains_or_not}

-- ---- each leads to the next

module _ (R : ℕ → ℕ → Type 0) where
  pub Chain-front : (front : List ℕ) (m : ℕ) (rest : List ℕ) → Chain R (front ++ m ∷ rest) → Chain R (front ++ m ∷ [])
  Chain-front [] m rest c = tt
  Chain-front (x ∷ []) m rest c = (c.0, tt)
  Chain-front (x ∷ y ∷ front) m rest c = (c.0, Chain-front (y ∷ front) m rest c.1)

  pub Chain-drop : (front : List ℕ) (m : ℕ) → Chain R (front ++ m ∷ []) → Chain R front
  Chain-drop [] m c = tt
  Chain-drop (x ∷ []) m c = tt
  Chain-drop (x ∷ y ∷ front) m c = (c.0, Chain-drop (y ∷ front) m c.1)

  pub Chain-join : (front : List ℕ) (m : ℕ) (rest : List ℕ) → Chain R (front ++ m ∷ []) → Chain R (m ∷ rest) → Chain R (front ++ m ∷ rest)
  Chain-join [] m rest c d = d
  Chain-join (x ∷ []) m rest c d = (c.0, d)
  Chain-join (x ∷ y ∷ front) m rest c d = (c.0, Chain-join (y ∷ front) m rest c.1 d)

pub Chain-reverse : (R : ℕ → ℕ → Type 0) (xs : List ℕ) → Chain (λ x y. R y x) xs → Chain R (reverse xs)
Chain-reverse R [] c = tt
Chain-reverse R (x ∷ []) c = tt
Chain-reverse R (x ∷ y ∷ xs) c =
    let before : Chain R (reverse xs ++ y ∷ []) = subst (Chain R) (reverse-cons y xs) (Chain-reverse R (y ∷ xs) c.1) in
    subst (Chain R) (sym (reverse-cons x (y ∷ xs) ∙ ap (λ l. l ++ x ∷ []) (reverse-cons y xs) ∙ append_assoc (reverse xs) (y ∷ []) (x ∷ [])))
    (Chain-join R (reverse xs) y (x ∷ []) before (c.0, tt))

module _ (g : Graph) where
  abbrev pub Refers : ℕ → ℕ → Type 0
  Refers x y = Contains (references g x) y

  pub IsWay-chain : (xs : List ℕ) → Chain Refers xs → IsWay (RefersTo g) xs
  IsWay-chain [] c = tt
  IsWay-chain (x ∷ []) c = tt
  IsWay-chain (x ∷ y ∷ xs) c = ((y, (c.0, refl)), IsWay-chain (y ∷ xs) c.1)

  -- a way round, from its first node on
  pub LeadsTo-chain : (x : ℕ) (xs : List ℕ) (y : ℕ) → Chain Refers (x ∷ (xs ++ y ∷ [])) → LeadsTo g x (xs ++ y ∷ []) y
  LeadsTo-chain x [] y c = (y, ((c.0, refl), refl))
  LeadsTo-chain x (z ∷ xs) y c = (z, ((c.0, refl), LeadsTo-chain z xs y c.1))

-- ---- no repetition

pub HasNoRepeat-apart : (xs : List ℕ) → Apart xs → HasNoRepeat xs
HasNoRepeat-apart [] a i j x h k = absurd cc
HasNoRepeat-apart (y ∷ ys) a zero zero x h k = refl
HasNoRepeat-apart (y ∷ ys) a zero (suc j) x h k = let e : y ≡ x = cc in absurd (a.0 (subst (Contains ys) (sym e) (index_given ys j x k)))
HasNoRepeat-apart (y ∷ ys) a (suc i) zero x h k = let e : y ≡ x = cc in absurd (a.0 (subst (Contains ys) (sym e) (index_given ys i x h)))
HasNoRepeat-apart (y ∷ ys) a (suc i) (suc j) x h k = ap suc (HasNoRepeat-apart ys a.1 i j x h k)

pub Apart-front : (front : List ℕ) (rest : List ℕ) → Apart (front ++ rest) → Apart front
Apart-front [] rest a = tt
Apart-front (x ∷ front) rest a = ((λ c. a.0 (Contains-append_left front rest x c)), Apart-front front rest a.1)

pub Apart-not : (front : List ℕ) (m : ℕ) (rest : List ℕ) → Apart (front ++ m ∷ rest) → Contains front m → ⊥
Apart-not [] m rest a c = not_in_nil m c
Apart-not (x ∷ front) m rest a c = elim (Contains-cons x front m c) [
  | inl e ↦ a.0 (Contains-append_right front (m ∷ rest) x (Contains-first m rest x (sym e)))
  | inr d ↦ Apart-not front m rest a.1 d
]

pub Apart-append : (xs ys : List ℕ) → Apart xs → Apart ys → ((x : ℕ) → Contains xs x → Contains ys x → ⊥) → Apart (xs ++ ys)
Apart-append [] ys a b never = b
Apart-append (x ∷ xs) ys a b never = (
  (λ c. elim (Contains-append_cases xs ys x c) [ inl d ↦ a.0 d | inr d ↦ never x (Contains-first x xs x refl) d ]),
  Apart-append xs ys a.1 b (λ y c d. never y (Contains-append_right (x ∷ []) xs y c) d),
)

pub Apart-reverse : (xs : List ℕ) → Apart xs → Apart (reverse xs)
Apart-reverse [] a = tt
Apart-reverse (x ∷ xs) a =
    subst Apart (sym (reverse-cons x xs))
    (Apart-append (reverse xs) (x ∷ []) (Apart-reverse xs a.1) ((λ c. not_in_nil x c), tt) (λ y c d. a.0 (subst (Contains xs) (only x y d) (in_reverse xs y c))))

-- ---- steps that are followed

module _ (steps : List Step) (stops : List ℕ) where
  pub Goes-push : (n : ℕ) (way : List ℕ) (m : ℕ) → Goes steps stops n way m → (Contains stops m → ⊥) → Goes steps stops n (way ++ m ∷ []) (via_at steps m)
  Goes-push n [] m e out = (sym e, (out, refl))
  Goes-push n (x ∷ way) m l out = (l.0, (l.1.0, Goes-push (via_at steps x) way m l.1.1 out))

  pub Goes-out : (n : ℕ) (way : List ℕ) (m : ℕ) → Goes steps stops n way m → (x : ℕ) → Contains way x → Contains stops x → ⊥
  Goes-out n [] m l x c s = not_in_nil x c
  Goes-out n (y ∷ way) m l x c s = elim (Contains-cons y way x c) [
    | inl e ↦ l.1.0 (subst (Contains stops) (sym e) s)
    | inr d ↦ Goes-out (via_at steps y) way m l.1.1 x d s
  ]

  -- the way begins there
  pub Goes-head : (n : ℕ) (way : List ℕ) (m : ℕ) → Goes steps stops n way m → (rest : List ℕ) × (way ++ m ∷ [] ≡ n ∷ rest)
  Goes-head n [] m e = ([], ap (λ x. x ∷ []) (sym e))
  Goes-head n (x ∷ way) m l = (way ++ m ∷ [], ap (λ y. y ∷ (way ++ m ∷ [])) l.0)

  module _ (In : ℕ → Type 0) (Linked : ℕ → ℕ → Type 0) (c : ℕ) (t : IsTree In Linked c steps) (stop : Contains stops c) where
    step_on : (x : ℕ) → In x → (Contains stops x → ⊥) → In (via_at steps x) × (Linked x (via_at steps x) × (t.rank (via_at steps x) < t.rank x))
    step_on x i out = elim (t.links x i) [ inl e ↦ absurd (out (subst (Contains stops) (sym e) stop)) | inr l ↦ l ]

    pub Goes-chain : (n : ℕ) (way : List ℕ) (m : ℕ) → In n → Goes steps stops n way m → Chain Linked (way ++ m ∷ [])
    Goes-chain n [] m i l = tt
    Goes-chain n (x ∷ []) m i l =
        let on = step_on x (subst In (sym l.0) i) l.1.0 in (subst (Linked x) l.1.1 on.1.0, tt)
    Goes-chain n (x ∷ y ∷ way) m i l =
        let on = step_on x (subst In (sym l.0) i) l.1.0 in (subst (Linked x) (sym l.1.1.0) on.1.0, Goes-chain (via_at steps x) (y ∷ way) m on.0 l.1.1)

    pub Goes-in : (n : ℕ) (way : List ℕ) (m : ℕ) → In n → Goes steps stops n way m → In m
    Goes-in n [] m i l = subst In l i
    Goes-in n (x ∷ way) m i l = Goes-in (via_at steps x) way m (step_on x (subst In (sym l.0) i) l.1.0).0 l.1.1

    Goes-falls : (n : ℕ) (way : List ℕ) (m : ℕ) → In n → Goes steps stops n way m → (z : ℕ) → Contains (way ++ m ∷ []) z → t.rank z ≤ t.rank n
    Goes-falls n [] m i l z h = let e : z ≡ n = only m z h ∙ sym l in omega (arith, ap t.rank e)
    Goes-falls n (x ∷ way) m i l z h =
        let on = step_on x (subst In (sym l.0) i) l.1.0 in
        elim (Contains-cons x (way ++ m ∷ []) z h) [
          | inl e ↦ omega (arith, ap t.rank e, ap t.rank l.0)
          | inr d ↦ omega (arith, Goes-falls (via_at steps x) way m on.0 l.1.1 z d, on.1.1, ap t.rank l.0)
        ]

    pub Goes-apart : (n : ℕ) (way : List ℕ) (m : ℕ) → In n → Goes steps stops n way m → Apart (way ++ m ∷ [])
    Goes-apart n [] m i l = ((λ c. not_in_nil m c), tt)
    Goes-apart n (x ∷ way) m i l =
        let on = step_on x (subst In (sym l.0) i) l.1.0 in
        ((λ c. absurd (omega (arith, Goes-falls (via_at steps x) way m on.0 l.1.1 x c, on.1.1))), Goes-apart (via_at steps x) way m on.0 l.1.1)

    -- a stop comes
    pub Goes-meets : (k : ℕ) (n : ℕ) (way : List ℕ) (m : ℕ) → t.rank m < k → In m → Goes steps stops n way m
        → (more : List ℕ) × ((e : ℕ) × (Goes steps stops n (way ++ more) e × Contains stops e))
    Goes-meets zero n way m h i l = absurd (omega arith)
    Goes-meets (suc k) n way m h i l = elim (contains_or_not stops m) [
      | inl s ↦ ([], (m, (subst (λ w. Goes steps stops n w m) (sym (append-nil way)) l, s)))
      | inr out ↦
          let on = step_on m i out in
          let r = Goes-meets k n (way ++ m ∷ []) (via_at steps m) (omega (arith, on.1.1)) on.0 (Goes-push n way m l out) in
          (m ∷ r.0, (r.1.0, (subst (λ w. Goes steps stops n w r.1.0) (append_assoc way (m ∷ []) r.0) r.1.1.0, r.1.1.1)))
    ]

-- ---- more than so many

pub count_both : (p : ℕ → Bool) (xs : List ℕ) → count_by p xs + count_by (λ x. not (p x)) xs ≡ length xs
count_both p [] = refl
count_both p (x ∷ xs) =
    omega (arith, count_both p xs, sum_by-append (λ x. cond (p x) 1 0) (x ∷ []) xs, sum_by-append (λ x. cond (not (p x)) 1 0) (x ∷ []) xs, one (p x))
  where
    one : (b : Bool) → cond b 1 0 + cond (not b) 1 0 ≡ 1
    one true = refl
    one false = refl
