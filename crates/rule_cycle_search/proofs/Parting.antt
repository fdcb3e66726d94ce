-- A part more.
use Rattle.std.proofs.Common.{◌≡◌, ℕ, ◌<◌, ◌≤◌, ◌+◌, ◌⊎◌, false, List, [], ◌∷◌, ◌++◌, length, get_or, ◌==◌, Some, refl, sym, ap, subst, ◌∙◌, inl, inr, zero, suc, true≢false, arith}
use Rattle.std.specs.Prelude.{Contains, Vec, replicate}
use Rattle.std.proofs.lemmas.List.{length-replicate}
use Rattle.std.specs.Global.{Global}
use Rattle.std.specs.Option.{option_map_or}
use Rattle.std.proofs.lemmas.Bool.{cases_lt, cases_eq, eqb-true, eq-eqb}
use Rattle.std.proofs.lemmas.Option.{slice_get-get_or}
use Rattle.rule_cycle_search.specs.Paths.{Leads}
use Rattle.rule_cycle_search.proofs.Lists.{not_in_nil}
use Rattle.rule_cycle_search.specs.declared.graph.Graph.{Graph}
use Rattle.rule_cycle_search.specs.declared.steps.Step.{Step}
use Rattle.rule_cycle_search.specs.Graph.{listed, references, RefersTo, LeadsTo, IsCycleThrough}
use Rattle.rule_cycle_search.specs.NodeSteps.{is_in, IsIn, via_at}
use Rattle.rule_cycle_search.specs.Spread.{IsTree, Spreads}
use Rattle.rule_cycle_search.specs.Referrers.{AreReferrers}
use Rattle.rule_cycle_search.specs.Parts.{nowhere, IsPart, IsParted, IsWhole, Settles}
use Rattle.rule_cycle_search.proofs.Sets.{in_same, via_same, in_within}
use Rattle.rule_cycle_search.proofs.Spreading.{cases_bool}
use Rattle.rule_cycle_search.proofs.Referring.{listed_past}

-- ---- centers

-- a step has one center
pub in_one : (steps : List Step) (c d n : ℕ) → IsIn steps c n → IsIn steps d n → c ≡ d
in_one [] c d n h k = absurd (true≢false (sym h))
in_one (s ∷ steps) c d zero h k = sym (eqb-true s.center c h) ∙ eqb-true s.center d k
in_one (s ∷ steps) c d (suc n) h k = in_one steps c d n h k

-- and each node has a step
pub in_some : (steps : List Step) (n : ℕ) → n < length steps → (c : ℕ) × IsIn steps c n
in_some [] n h = absurd (omega arith)
in_some (s ∷ steps) zero h = (s.center, eq-eqb s.center s.center refl)
in_some (s ∷ steps) (suc n) h = in_some steps n (omega arith)

-- the center of a step that is read
pub in_center : (steps : List Step) (i : ℕ) (s : Step) → i < length steps → s ≡ get_or steps i s → IsIn steps s.center i
in_center steps i s h e = ap (λ o. option_map_or (λ (x : Step). x.center == s.center) o false) (slice_get-get_or steps i s h ∙ ap (λ x. Some x) (sym e)) ∙ eq-eqb s.center s.center refl

-- ---- ways

module _ {X R : Type 0} (Refers : X → R → X → Type 0) where
  pub Leads-append : (x : X) (bys : List R) (y : X) (more : List R) (z : X) → Leads Refers x bys y → Leads Refers y more z → Leads Refers x (bys ++ more) z
  Leads-append x [] y more z e w = subst (λ a. Leads Refers a more z) (sym e) w
  Leads-append x (by ∷ bys) y more z l w = (l.0, (l.1.0, Leads-append l.0 bys y more z l.1.1 w))

module _ (g : Graph) where
  pub Leads-push : (x : ℕ) (p : List ℕ) (y z : ℕ) → LeadsTo g x p y → Contains (references g y) z → LeadsTo g x (p ++ z ∷ []) z
  Leads-push x p y z l r = Leads-append (RefersTo g) x p y (z ∷ []) z l (z, ((r, refl), refl))

  -- what refers is a node
  pub refers_within : (n e : ℕ) → Contains (references g n) e → n < nowhere g
  refers_within n e h = elim (cases_lt n (nowhere g)) [
    | inl low ↦ low
    | inr high ↦ absurd (not_in_nil e (subst (λ l. Contains l e) (listed_past g.references.items n high) h))
  ]

  -- steps to the center, and back
  module _ (In : ℕ → Type 0) (c : ℕ) (steps : List Step) where
    onward_below : (t : IsTree In (λ n v. Contains (references g n) v) c steps) (k n : ℕ) → t.rank n < k → In n → (p : List ℕ) × LeadsTo g n p c
    onward_below t zero n h i = absurd (omega arith)
    onward_below t (suc k) n h i = elim (t.links n i) [
      | inl e ↦ ([], e)
      | inr l ↦ let more = onward_below t k (via_at steps n) (omega (arith, l.1.1)) l.0 in (via_at steps n ∷ more.0, (via_at steps n, ((l.1.0, refl), more.1)))
    ]

    pub leads_onward : IsTree In (λ n v. Contains (references g n) v) c steps → (n : ℕ) → In n → (p : List ℕ) × LeadsTo g n p c
    leads_onward t n i = onward_below t (t.rank n + 1) n (omega arith) i

    back_below : (t : IsTree In (λ n v. Contains (references g v) n) c steps) (k n : ℕ) → t.rank n < k → In n → (p : List ℕ) × LeadsTo g c p n
    back_below t zero n h i = absurd (omega arith)
    back_below t (suc k) n h i = elim (t.links n i) [
      | inl e ↦ ([], sym e)
      | inr l ↦ let more = back_below t k (via_at steps n) (omega (arith, l.1.1)) l.0 in (more.0 ++ n ∷ [], Leads-push c more.0 (via_at steps n) n more.1 l.1.0)
    ]

    pub leads_back : IsTree In (λ n v. Contains (references g v) n) c steps → (n : ℕ) → In n → (p : List ℕ) × LeadsTo g c p n
    leads_back t n i = back_below t (t.rank n + 1) n (omega arith) i

-- the same steps
tree_same : (In In' : ℕ → Type 0) (Linked : ℕ → ℕ → Type 0) (c : ℕ) (old new : List Step) → ((n : ℕ) → In n → In' n) → ((n : ℕ) → In' n → In n) → ((n : ℕ) → In n → via_at new n ≡ via_at old n)
    → IsTree In Linked c old → IsTree In' Linked c new
tree_same In In' Linked c old new to fro same t = record {
  rank = t.rank;
  links = λ n h. elim (t.links n (fro n h)) [
    | inl e ↦ inl e
    | inr l ↦ inr (subst (λ v. In' v × (Linked n v × (t.rank v < t.rank n))) (sym (same n (fro n h))) (to (via_at old n) l.0, l.1))
  ];
}

-- ---- a node is settled

module _ (g : Graph) (r : List (Vec ℕ Global)) (are : AreReferrers g.references.items r) (toward from : List Step) (parted : IsParted g toward from) (x : ℕ) (live : IsIn from (nowhere g) x) where
  there : x < nowhere g
  there = omega (arith, in_within from (nowhere g) x live, parted.from_long)

  pub is_node : x ≡ nowhere g → ⊥
  is_node e = omega (arith, there, e)

  no_center : IsIn from x x → ⊥
  no_center h = is_node (in_one from x (nowhere g) x h live)

  pub fresh_toward : (n : ℕ) → is_in toward x n ≡ false
  fresh_toward n = elim (cases_bool (is_in toward x n)) [
    | inl t ↦ elim (parted.toward_center n x t) [ inl e ↦ absurd (is_node e) | inr h ↦ absurd (no_center h) ]
    | inr f ↦ f
  ]

  pub fresh_from : (n : ℕ) → is_in from x n ≡ false
  fresh_from n = elim (cases_bool (is_in from x n)) [
    | inl t ↦ elim (parted.from_center n x t) [ inl e ↦ absurd (is_node e) | inr h ↦ absurd (no_center h) ]
    | inr f ↦ f
  ]

  module _ (toward' from' : List Step) (first : Spreads r from (nowhere g) x toward toward') (second : Spreads g.references.items toward' x x from from') where
    led : (n : ℕ) → IsIn from' x n → IsIn toward' x n
    led n h = elim (second.inside n h) [ inl e ↦ subst (IsIn toward' x) (sym e) first.begins | inr t ↦ t ]

    was_live : (n : ℕ) → IsIn toward' x n → IsIn from (nowhere g) n
    was_live n h = elim (first.inside n h) [ inl e ↦ subst (IsIn from (nowhere g)) (sym e) live | inr t ↦ t ]

    -- what was in a part
    module _ (c : ℕ) (some : c ≡ nowhere g → ⊥) where
      not_toward : (n : ℕ) → IsIn from c n → is_in toward' x n ≡ false
      not_toward n h = elim (cases_bool (is_in toward' x n)) [ inl t ↦ absurd (some (in_one from c (nowhere g) n h (was_live n t))) | inr f ↦ f ]

      not_from : (n : ℕ) → IsIn from c n → is_in from' x n ≡ false
      not_from n h = elim (cases_bool (is_in from' x n)) [ inl t ↦ absurd (true≢false (sym (led n t) ∙ not_toward n h)) | inr f ↦ f ]

      stays : (n : ℕ) → IsIn from c n → IsIn from' c n
      stays n h = in_same from' from c n (second.others n (not_from n h)) ∙ h

    stayed : (c : ℕ) → (c ≡ x → ⊥) → (n : ℕ) → IsIn from' c n → IsIn from c n
    stayed c other n h = elim (cases_bool (is_in from' x n)) [
      | inl t ↦ absurd (other (in_one from' c x n h t))
      | inr f ↦ sym (in_same from' from c n (second.others n f)) ∙ h
    ]

    old_part : (c : ℕ) → (c ≡ nowhere g → ⊥) → (c ≡ x → ⊥) → IsPart g toward from c → IsPart g toward' from' c
    old_part c some other part = record {
      onward = tree_same (IsIn from c) (IsIn from' c) (λ n v. Contains (references g n) v) c toward toward' (stays c some) (stayed c other) (λ n h. via_same toward' toward n (first.others n (not_toward c some n h))) part.onward;
      back = tree_same (IsIn from c) (IsIn from' c) (λ n v. Contains (references g v) n) c from from' (stays c some) (stayed c other) (λ n h. via_same from' from n (second.others n (not_from c some n h))) part.back;
      whole = λ n m p q h l k. stays c some m (part.whole n m p q (stayed c other n h) l k);
    }

    -- what leads to the node and back was in no part
    mutual_live : (z : ℕ) (p q : List ℕ) → z < nowhere g → LeadsTo g z p x → LeadsTo g x q z → IsIn from (nowhere g) z
    mutual_live z p q h l k =
        let s : (c : ℕ) × IsIn from c z = in_some from z (omega (arith, h, parted.from_long)) in
        elim (cases_eq s.0 (nowhere g)) [
          | inl e ↦ subst (λ c. IsIn from c z) e s.1
          | inr some ↦ elim (parted.from_center z s.0 s.1) [
            | inl e ↦ absurd (some e)
            | inr c ↦ absurd (some (in_one from s.0 (nowhere g) x ((parted.part s.0 some c).whole z x p q s.1 l k) live))
          ]
        ]

    leads_in : (m : ℕ) (p q : List ℕ) → LeadsTo g m p x → LeadsTo g x q m → IsIn toward' x m
    leads_in m [] q l k = subst (IsIn toward' x) (sym l) first.begins
    leads_in m (by ∷ rest) q l k =
        let refers : Contains (references g m) by = l.1.0.0 in
        let onward : LeadsTo g by rest x = subst (λ z. LeadsTo g z rest x) (sym l.1.0.1) l.1.1 in
        let next : IsIn toward' x by = leads_in by rest (q ++ by ∷ []) onward (Leads-push g x q m by k refers) in
        let node : m < nowhere g = refers_within g m by refers in
        let far : by < length toward' = in_within toward' x by next in
        first.closed by m next (are.full by m (omega (arith, far, first.long, parted.toward_long)) refers) (mutual_live m (by ∷ rest) q node l k)

    reached_in : (z : ℕ) (w p q : List ℕ) (m : ℕ) → IsIn from' x z → LeadsTo g x w z → LeadsTo g z p m → LeadsTo g m q x → IsIn from' x m
    reached_in z w [] q m h i l k = subst (IsIn from' x) l h
    reached_in z w (by ∷ rest) q m h i l k =
        let refers : Contains (references g z) by = l.1.0.0 in
        let onward : LeadsTo g by rest m = subst (λ y. LeadsTo g y rest m) (sym l.1.0.1) l.1.1 in
        let reach : LeadsTo g x (w ++ by ∷ []) by = Leads-push g x w z by i refers in
        let near : IsIn toward' x by = leads_in by (rest ++ q) (w ++ by ∷ []) (Leads-append (RefersTo g) by rest m q x onward k) reach in
        reached_in by (w ++ by ∷ []) rest q m (second.closed z by h refers near) reach onward k

    onward_link : (n : ℕ) → IsIn from' x n → (n ≡ x) ⊎ (IsIn from' x (via_at toward' n) × (Contains (references g n) (via_at toward' n) × (first.tree.rank (via_at toward' n) < first.tree.rank n)))
    onward_link n h = elim (first.tree.links n (led n h)) [
      | inl e ↦ inl e
      | inr l ↦ let refers : Contains (references g n) (via_at toward' n) = are.sound (via_at toward' n) n l.1.0 in inr (second.closed n (via_at toward' n) h refers l.0, (refers, l.1.1))
    ]

    new_onward : IsTree (IsIn from' x) (λ n v. Contains (references g n) v) x toward'
    new_onward = record { rank = first.tree.rank; links = onward_link }

    new_part : IsPart g toward' from' x
    new_part = record {
      onward = new_onward;
      back = second.tree;
      whole = λ n m p q h l k.
          let out : (w : List ℕ) × LeadsTo g n w x = leads_onward g (IsIn from' x) x toward' new_onward n h in
          let into : (w : List ℕ) × LeadsTo g x w n = leads_back g (IsIn from' x) x from' second.tree n h in
          reached_in n into.0 p (q ++ out.0) m h into.1 l (Leads-append (RefersTo g) m q n out.0 x k out.1);
    }

    center_after : (c : ℕ) → (c ≡ nowhere g) ⊎ IsIn from c c → (c ≡ nowhere g) ⊎ IsIn from' c c
    center_after c (inl e) = inl e
    center_after c (inr h) = elim (cases_eq c (nowhere g)) [ inl e ↦ inl e | inr some ↦ inr (stays c some c h) ]

    pub settles : IsParted g toward' from'
    settles = record {
      toward_long = first.long ∙ parted.toward_long;
      from_long = second.long ∙ parted.from_long;
      toward_center = λ n c h. elim (cases_bool (is_in toward' x n)) [
        | inl t ↦ inr (subst (λ d. IsIn from' d d) (in_one toward' x c n t h) second.begins)
        | inr f ↦ center_after c (parted.toward_center n c (sym (in_same toward' toward c n (first.others n f)) ∙ h))
      ];
      from_center = λ n c h. elim (cases_bool (is_in from' x n)) [
        | inl t ↦ inr (subst (λ d. IsIn from' d d) (in_one from' x c n t h) second.begins)
        | inr f ↦ center_after c (parted.from_center n c (sym (in_same from' from c n (second.others n f)) ∙ h))
      ];
      part = λ c some h. elim (cases_eq c x) [
        | inl e ↦ subst (IsPart g toward' from') (sym e) new_part
        | inr other ↦ old_part c some other (parted.part c some (stayed c other c h))
      ];
    }

    pub settled_now : is_in from' (nowhere g) x ≡ false
    settled_now = elim (cases_bool (is_in from' (nowhere g) x)) [ inl t ↦ absurd (is_node (in_one from' x (nowhere g) x second.begins t)) | inr f ↦ f ]

    pub settled_still : (n : ℕ) → is_in from (nowhere g) n ≡ false → is_in from' (nowhere g) n ≡ false
    settled_still n h = elim (cases_bool (is_in from' (nowhere g) n)) [
      | inl t ↦ absurd (true≢false (sym (stayed (nowhere g) (λ e. is_node (sym e)) n t) ∙ h))
      | inr f ↦ f
    ]

-- the same of lists that are equal
pub Settles-of : (g : Graph) (node : ℕ) (before : List Step) {toward toward' from from' : List Step} → toward ≡ toward' → from ≡ from' → Settles g node before toward from → Settles g node before toward' from'
Settles-of g node before {toward} {toward'} {from} {from'} same also s = subst (λ (l : List Step). Settles g node before l from') same (subst (λ (l : List Step). Settles g node before toward l) also s)

-- ---- the begin and the end

in_replicate : (k : ℕ) (s : Step) (c n : ℕ) → IsIn (replicate k s) c n → c ≡ s.center
in_replicate zero s c n h = absurd (true≢false (sym h))
in_replicate (suc k) s c zero h = sym (eqb-true s.center c h)
in_replicate (suc k) s c (suc n) h = in_replicate k s c n h

module _ (g : Graph) where
  pub parted_none : (toward from : List Step) → toward ≡ replicate (nowhere g) (record { center = nowhere g; via = nowhere g }) → from ≡ replicate (nowhere g) (record { center = nowhere g; via = nowhere g }) → IsParted g toward from
  parted_none toward from is is' = record {
    toward_long = ap length is ∙ length-replicate (nowhere g) _;
    from_long = ap length is' ∙ length-replicate (nowhere g) _;
    toward_center = λ n c h. inl (in_replicate (nowhere g) (record { center = nowhere g; via = nowhere g }) c n (subst (λ (l : List Step). IsIn l c n) is h));
    from_center = λ n c h. inl (in_replicate (nowhere g) (record { center = nowhere g; via = nowhere g }) c n (subst (λ (l : List Step). IsIn l c n) is' h));
    part = λ c some h. absurd (some (in_replicate (nowhere g) (record { center = nowhere g; via = nowhere g }) c c (subst (λ (l : List Step). IsIn l c c) is' h)));
  }

  pub is_whole : (toward from : List Step) → IsParted g toward from → ((n : ℕ) → n < nowhere g → is_in from (nowhere g) n ≡ false) → IsWhole g toward from
  is_whole toward from parted below = record {
    parted = parted;
    settled = λ n. elim (cases_bool (is_in from (nowhere g) n)) [
      | inl t ↦ below n (omega (arith, in_within from (nowhere g) n t, parted.from_long))
      | inr f ↦ f
    ];
  }

  -- the part of a node
  pub part_of : (toward from : List Step) (c n : ℕ) → IsWhole g toward from → IsIn from c n → IsPart g toward from c
  part_of toward from c n whole h =
      let some : c ≡ nowhere g → ⊥ = λ e. true≢false (sym (subst (λ k. IsIn from k n) e h) ∙ whole.settled n) in
      elim (whole.parted.from_center n c h) [ inl e ↦ absurd (some e) | inr k ↦ whole.parted.part c some k ]

  -- who leads on last
  Leads-last : (x : ℕ) (by : ℕ) (rest : List ℕ) (y : ℕ) → LeadsTo g x (by ∷ rest) y → (z : ℕ) × ((p : List ℕ) × (LeadsTo g x p z × Contains (references g z) y))
  Leads-last x by [] y l = (x, ([], (refl, subst (Contains (references g x)) (l.1.0.1 ∙ l.1.1) l.1.0.0)))
  Leads-last x by (b ∷ rest) y l =
      let more : (z : ℕ) × ((p : List ℕ) × (LeadsTo g l.0 p z × Contains (references g z) y)) = Leads-last l.0 b rest y l.1.1 in
      (more.0, (by ∷ more.1.0, ((l.0, (l.1.0, more.1.1.0)), more.1.1.1)))

  -- no node of its part refers to it: none leads it back
  pub none_back : (r : List (Vec ℕ Global)) → AreReferrers g.references.items r → (toward from : List Step) (c n : ℕ) → IsWhole g toward from → IsIn from c n
      → ((z : ℕ) → Contains (listed r n) z → is_in from c z ≡ false) → (path : List ℕ) → IsCycleThrough g n path → ⊥
  none_back r are toward from c n whole h none path way =
      let last : (z : ℕ) × ((p : List ℕ) × (LeadsTo g n p z × Contains (references g z) n)) = Leads-last n way.0 way.1.0 n way.1.1.1 in
      let inside : IsIn from c last.0 = (part_of toward from c n whole h).whole n last.0 last.1.0 (n ∷ []) h last.1.1.0 (n, ((last.1.1.1, refl), refl)) in
      let far : n < nowhere g = omega (arith, in_within from c n h, whole.parted.from_long) in
      true≢false (sym inside ∙ none last.0 (are.full n last.0 far last.1.1.1))

  pub no_node_back : (n : ℕ) → nowhere g ≤ n → (path : List ℕ) → IsCycleThrough g n path → ⊥
  no_node_back n far path way = let near : n < nowhere g = refers_within g n way.0 way.1.1.1.1.0.0 in omega arith
