-- From references among numbers to references among what they number, and back.
use Rattle.std.proofs.Common.{◌≡◌, ℕ, ◌==◌, ◌+◌, Bool, true, false, cond, if◌then◌else◌, List, [], ◌∷◌, ◌++◌, map, slice_get, Option, Some, refl, sym, ap, subst, ◌∙◌, inl, inr, zero, suc, true≢false, arith}
use Rattle.std.specs.Prelude.{Contains, count_by, find, option_to_list}
use Rattle.std.specs.Option.{option_map}
use Rattle.std.proofs.lemmas.Bool.{eqb-true, eq-eqb}
use Rattle.std.proofs.lemmas.List.Elements.{Contains-append_right}
use Rattle.std.proofs.lemmas.List.Sums.{sum_by-append}
use Rattle.rule_cycle_search.specs.Paths.{Leads, IsWay, HasNoRepeat}
use Rattle.rule_cycles.specs.Labels.{Labelled, targets, label, labels}
use Rattle.rule_cycle_search.proofs.Lists.{Contains-cons, Contains-first, not_in_nil}

-- ---- the first label

module _ {L : Type 0} where
  pub label_there : (rs : Labelled L) (to : ℕ) → Contains (targets rs) to → (l : L) × ((label rs to ≡ Some l) × Contains rs (to, l))
  label_there [] to c = not_in_nil to c
  label_there (r ∷ rs) to c = by (r.0 == to) refl (label_there rs to)
    where
      by : (b : Bool) → (r.0 == to) ≡ b → (Contains (targets rs) to → (l : L) × ((label rs to ≡ Some l) × Contains rs (to, l))) → (l : L) × ((label (r ∷ rs) to ≡ Some l) × Contains (r ∷ rs) (to, l))
      by true e later = (
        r.1,
        (
          ap (λ b. option_map (λ (x : ℕ × L). x.1) (if b then Some r else find (λ (x : ℕ × L). x.0 == to) rs)) e,
          Contains-first r rs (to, r.1) (λ i. (eqb-true r.0 to e i, r.1)),
        ),
      )
      by false e later = elim (Contains-cons r.0 (targets rs) to c) [
        | inl q ↦ absurd (true≢false (sym (eq-eqb r.0 to q) ∙ e))
        | inr q ↦ let t : (l : L) × ((label rs to ≡ Some l) × Contains rs (to, l)) = later q in (
          t.0,
          (
            ap (λ b. option_map (λ (x : ℕ × L). x.1) (if b then Some r else find (λ (x : ℕ × L). x.0 == to) rs)) e ∙ t.1.0,
            Contains-append_right (r ∷ []) rs (to, t.0) t.1.1,
          ),
        )
      ]

  pub target_there : (rs : Labelled L) (to : ℕ) (l : L) → Contains rs (to, l) → Contains (targets rs) to
  target_there [] to l c = not_in_nil (to, l) c
  target_there (r ∷ rs) to l c = elim (Contains-cons r rs (to, l) c) [
    | inl e ↦ Contains-first r.0 (targets rs) to (ap (λ x. x.0) e)
    | inr m ↦ Contains-append_right (r.0 ∷ []) (targets rs) to (target_there rs to l m)
  ]

module _ {L X R M : Type 0} (refs : ℕ → Labelled L) (name : ℕ → Option X) (number : X → Option ℕ) (Refers : X → R → X → Type 0) (tells : R → M) (says : L → M) where
  abbrev pub Goes : ℕ → ℕ → ℕ → Type 0
  Goes i e j = Contains (targets (refs i)) e × (e ≡ j)

  -- what is found by number is so by name
  abbrev pub IsSoundView : Type 0
  IsSoundView = (i j : ℕ) (l : L) (x : X) → name i ≡ Some x → Contains (refs i) (j, l) → (y : X) × ((by : R) × ((name j ≡ Some y) × (Refers x by y × (tells by ≡ says l))))

  -- each of these numbers is that of the thing at the same place
  abbrev pub AreNamed : List ℕ → List X → Type 0
  AreNamed [] [] = Unit {0}
  AreNamed [] (x ∷ xs) = ⊥
  AreNamed (n ∷ ns) [] = ⊥
  AreNamed (n ∷ ns) (x ∷ xs) = (name n ≡ Some x) × AreNamed ns xs

  -- a way by number is one by name, and tells the same
  module _ (sound : IsSoundView) where
    pub Leads-named : (i : ℕ) (path : List ℕ) (k : ℕ) (x : X) → name i ≡ Some x → Leads Goes i path k
        → (y : X) × ((bys : List R) × ((name k ≡ Some y) × (Leads Refers x bys y × (map tells bys ≡ map says (labels refs i path)))))
    Leads-named i [] k x h l = (x, ([], (ap name (sym l) ∙ h, (refl, refl))))
    Leads-named i (to ∷ rest) k x h l =
        let there : (m : L) × ((label (refs i) to ≡ Some m) × Contains (refs i) (to, m)) = label_there (refs i) to l.1.0.0 in
        let one : (y : X) × ((by : R) × ((name to ≡ Some y) × (Refers x by y × (tells by ≡ says there.0)))) = sound i to there.0 x h there.1.1 in
        let more : (y : X) × ((bys : List R) × ((name k ≡ Some y) × (Leads Refers one.0 bys y × (map tells bys ≡ map says (labels refs to rest))))) =
        Leads-named to rest k one.0 one.1.1.0 (subst (λ z. Leads Goes z rest k) (sym l.1.0.1) l.1.1) in (
          more.0,
          (
            one.1.0 ∷ more.1.0,
            (
              more.1.1.0,
              (
                (one.0, (one.1.1.1.0, more.1.1.1.0)),
                (λ j. one.1.1.1.1 j ∷ more.1.1.1.1 j) ∙ ap (λ o. map says (option_to_list o ++ labels refs to rest)) (sym there.1.0),
              ),
            ),
          ),
        )

    -- the same of a way that is not empty
    pub Leads-named-on : (i to : ℕ) (rest : List ℕ) (k : ℕ) (x : X) → name i ≡ Some x → Leads Goes i (to ∷ rest) k
        → (y : X) × ((by : R) × ((bys : List R) × ((name k ≡ Some y) × (Leads Refers x (by ∷ bys) y × (map tells (by ∷ bys) ≡ map says (labels refs i (to ∷ rest)))))))
    Leads-named-on i to rest k x h l =
        let there : (m : L) × ((label (refs i) to ≡ Some m) × Contains (refs i) (to, m)) = label_there (refs i) to l.1.0.0 in
        let one : (y : X) × ((by : R) × ((name to ≡ Some y) × (Refers x by y × (tells by ≡ says there.0)))) = sound i to there.0 x h there.1.1 in
        let more : (y : X) × ((bys : List R) × ((name k ≡ Some y) × (Leads Refers one.0 bys y × (map tells bys ≡ map says (labels refs to rest))))) =
        Leads-named to rest k one.0 one.1.1.0 (subst (λ z. Leads Goes z rest k) (sym l.1.0.1) l.1.1) in (
          more.0,
          (
            one.1.0,
            (
              more.1.0,
              (
                more.1.1.0,
                (
                  (one.0, (one.1.1.1.0, more.1.1.1.0)),
                  (λ j. one.1.1.1.1 j ∷ more.1.1.1.1 j) ∙ ap (λ o. map says (option_to_list o ++ labels refs to rest)) (sym there.1.0),
                ),
              ),
            ),
          ),
        )

    -- a way of numbers is a way of names
    pub IsWay-named : (n : ℕ) (ns : List ℕ) (x : X) → name n ≡ Some x → IsWay Goes (n ∷ ns) → (xs : List X) × (AreNamed ns xs × IsWay Refers (x ∷ xs))
    IsWay-named n [] x h w = ([], (tt, tt))
    IsWay-named n (m ∷ ns) x h w =
        let there : (l : L) × ((label (refs n) m ≡ Some l) × Contains (refs n) (m, l)) = label_there (refs n) m (subst (Contains (targets (refs n))) w.0.1.1 w.0.1.0) in
        let one : (y : X) × ((by : R) × ((name m ≡ Some y) × (Refers x by y × (tells by ≡ says there.0)))) = sound n m there.0 x h there.1.1 in
        let more : (xs : List X) × (AreNamed ns xs × IsWay Refers (one.0 ∷ xs)) = IsWay-named m ns one.0 one.1.1.0 w.1 in
        (one.0 ∷ more.0, ((one.1.1.0, more.1.0), ((one.1.0, one.1.1.1.0), more.1.1)))

  named_at : (ns : List ℕ) (xs : List X) (i : ℕ) (x : X) → AreNamed ns xs → slice_get xs i ≡ Some x → (n : ℕ) × ((slice_get ns i ≡ Some n) × (name n ≡ Some x))
  named_at [] [] i x a h = cc
  named_at [] (y ∷ xs) i x a h = absurd a
  named_at (n ∷ ns) [] i x a h = absurd a
  named_at (n ∷ ns) (y ∷ xs) zero x a h = (n, (refl, a.0 ∙ h))
  named_at (n ∷ ns) (y ∷ xs) (suc i) x a h = named_at ns xs i x a.1 h

  -- without repetition of numbers there is none of names
  pub HasNoRepeat-named : ((a b : ℕ) (x : X) → name a ≡ Some x → name b ≡ Some x → a ≡ b) → (ns : List ℕ) (xs : List X) → AreNamed ns xs → HasNoRepeat ns → HasNoRepeat xs
  HasNoRepeat-named one ns xs named apart i j x h k =
      let a : (n : ℕ) × ((slice_get ns i ≡ Some n) × (name n ≡ Some x)) = named_at ns xs i x named h in
      let b : (n : ℕ) × ((slice_get ns j ≡ Some n) × (name n ≡ Some x)) = named_at ns xs j x named k in
      apart i j a.0 a.1.0 (b.1.0 ∙ ap (λ n. Some n) (one b.0 a.0 x b.1.1 a.1.1))

  count_cons : {Y : Type 0} (p : Y → Bool) (y : Y) (ys : List Y) → count_by p (y ∷ ys) ≡ cond (p y) 1 0 + count_by p ys
  count_cons p y ys = omega (arith, sum_by-append (λ x. cond (p x) 1 0) (y ∷ []) ys)

  pub count-named : (p : ℕ → Bool) (q : X → Bool) → ((n : ℕ) (x : X) → name n ≡ Some x → p n ≡ q x) → (ns : List ℕ) (xs : List X) → AreNamed ns xs → count_by p ns ≡ count_by q xs
  count-named p q same [] [] a = refl
  count-named p q same [] (x ∷ xs) a = absurd a
  count-named p q same (n ∷ ns) [] a = absurd a
  count-named p q same (n ∷ ns) (x ∷ xs) a =
      count_cons p n ns ∙ (λ i. cond (same n x a.0 i) 1 0 + count-named p q same ns xs a.1 i) ∙ sym (count_cons q x xs)

  -- what is referred to by name is so by number
  module _ (full : (i j : ℕ) (x y : X) (by : R) → number x ≡ Some i → Refers x by y → number y ≡ Some j → Contains (targets (refs i)) j)
      (defined : (x y : X) (by : R) → Refers x by y → (i : ℕ) × (number x ≡ Some i)) where
    pub Leads-numbered : (x : X) (by : R) (bys : List R) (y : X) (i k : ℕ) → number x ≡ Some i → number y ≡ Some k → Leads Refers x (by ∷ bys) y → (n : ℕ) × ((path : List ℕ) × Leads Goes i (n ∷ path) k)
    Leads-numbered x by [] y i k h e l = (k, ([], (k, ((full i k x l.0 by h l.1.0 (ap number l.1.1 ∙ e), refl), refl))))
    Leads-numbered x by (b ∷ bys) y i k h e l =
        let j : (j : ℕ) × (number l.0 ≡ Some j) = defined l.0 l.1.1.0 b l.1.1.1.0 in
        let more : (n : ℕ) × ((path : List ℕ) × Leads Goes j.0 (n ∷ path) k) = Leads-numbered l.0 b bys y j.0 k j.1 e l.1.1 in
        (j.0, (more.0 ∷ more.1.0, (j.0, ((full i j.0 x l.0 by h l.1.0 j.1, refl), more.1.1))))

-- ---- the same references

module _ {X R : Type 0} (A B : X → R → X → Type 0) (same : (x : X) (by : R) (y : X) → A x by y → B x by y) where
  pub Leads-same : (x : X) (bys : List R) (y : X) → Leads A x bys y → Leads B x bys y
  Leads-same x [] y l = l
  Leads-same x (by ∷ bys) y l = (l.0, (same x by l.0 l.1.0, Leads-same l.0 bys y l.1.1))

  pub IsWay-same : (xs : List X) → IsWay A xs → IsWay B xs
  IsWay-same [] w = tt
  IsWay-same (x ∷ []) w = tt
  IsWay-same (x ∷ y ∷ xs) w = ((w.0.0, same x w.0.0 y w.0.1), IsWay-same (y ∷ xs) w.1)

-- ---- counts

pub count_by-none : {Y : Type 0} (p : Y → Bool) → ((y : Y) → p y ≡ false) → (ys : List Y) → count_by p ys ≡ 0
count_by-none p none [] = refl
count_by-none p none (y ∷ ys) = omega (arith, sum_by-append (λ x. cond (p x) 1 0) (y ∷ []) ys, ap {B = ℕ} (λ (b : Bool). cond b 1 0) (none y), count_by-none p none ys)
