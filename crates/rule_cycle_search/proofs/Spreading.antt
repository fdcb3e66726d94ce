-- Spreading from a center.
use Rattle.std.proofs.Common.{◌≡◌, ℕ, ◌<◌, ◌≤◌, ◌+◌, ◌⊎◌, Bool, true, false, cond, List, [], ◌∷◌, ◌++◌, length, get_or, set, drop, refl, sym, ap, subst, ◌∙◌, inl, inr, suc, true≢false, arith, append_assoc}
use Rattle.std.specs.Prelude.{slice_get, Contains, Vec}
use Rattle.std.specs.Global.{Global}
use Rattle.std.proofs.lemmas.List.{length_push, length-set, length-append, drop_more, drop-append-le, drop_all}
use Rattle.std.proofs.lemmas.List.Elements.{Contains-append_cases, Contains-append_left, Contains-append_right, Contains-push_cases, Contains-push, Contains-get_or}
use Rattle.rule_cycle_search.proofs.Lists.{Contains-cons, not_in_nil, only}
use Rattle.rule_cycle_search.specs.Graph.{listed}
use Rattle.rule_cycle_search.specs.declared.steps.Step.{Step}
use Rattle.rule_cycle_search.specs.NodeSteps.{is_in, IsIn, via_at, left}
use Rattle.rule_cycle_search.specs.Spread.{Reaches, Spreads, Spreading}
use Rattle.rule_cycle_search.proofs.Sets.{set_cases, in_same, via_same, left_set}

pub cases_bool : (b : Bool) → (b ≡ true) ⊎ (b ≡ false)
cases_bool true = inl refl
cases_bool false = inr refl

module _ (area : List Step) (key c node : ℕ) (ts ts' : List ℕ) (next : ℕ) (more : ts' ≡ ts ++ next ∷ []) (old mid : List Step) (before during : List ℕ) (r : Reaches area key c node ts old mid before during) where
  in_more : (n : ℕ) → Contains ts n → Contains ts' n
  in_more n m = subst (λ l. Contains l n) (sym more) (Contains-append_left ts (next ∷ []) n m)

  more_cases : (n : ℕ) → Contains ts' n → Contains ts n ⊎ (next ≡ n)
  more_cases n m = Contains-push_cases ts next n (subst (λ l. Contains l n) more m)

  -- the next one is passed over
  pub Reaches-pass : (IsIn area key next → IsIn mid c next) → Reaches area key c node ts' old mid before during
  Reaches-pass passed = record {
    long = r.long;
    kept = r.kept;
    others = r.others;
    only = λ n h. elim (r.only n h) [ inl o ↦ inl o | inr o ↦ inr (o.0, (in_more n o.1.0, o.1.1)) ];
    full = λ e m o. elim (more_cases e m) [ inl s ↦ r.full e s o | inr s ↦ subst (IsIn mid c) s (passed (subst (IsIn area key) (sym s) o)) ];
    added = r.added;
    is = r.is;
    listed = r.listed;
    marked = r.marked;
    shorter = r.shorter;
  }

  -- the next one is reached
  module _ (inside : IsIn area key next) (fresh : is_in mid c next ≡ false) (within : next < length mid) (new : List Step) (written : new ≡ set mid next (record { center = c; via = node })) (after : List ℕ) (pushed : after ≡ during ++ next ∷ []) where
    cases : (n : ℕ) → ((n ≡ next) × (IsIn new c n × (via_at new n ≡ node))) ⊎ ((n ≡ next → ⊥) × (slice_get new n ≡ slice_get mid n))
    cases n = subst (λ (l : List Step). ((n ≡ next) × (IsIn l c n × (via_at l n ≡ node))) ⊎ ((n ≡ next → ⊥) × (slice_get l n ≡ slice_get mid n))) (sym written) (set_cases mid next c node n within)

    still : (n : ℕ) → IsIn mid c n → IsIn new c n
    still n h = elim (cases n) [ inl s ↦ s.1.0 | inr s ↦ in_same new mid c n s.1 ∙ h ]

    mid_kept : (n : ℕ) → IsIn old c n → IsIn mid c n
    mid_kept n h = in_same mid old c n (r.kept n h) ∙ h

    pub Reaches-mark : Reaches area key c node ts' old new before after
    Reaches-mark = record {
      long = ap length written ∙ length-set mid next _ ∙ r.long;
      kept = λ n h. elim (cases n) [
        | inl s ↦ absurd (true≢false (sym (subst (IsIn mid c) s.0 (mid_kept n h)) ∙ fresh))
        | inr s ↦ s.1 ∙ r.kept n h
      ];
      others = λ n h. elim (cases n) [
        | inl s ↦ absurd (true≢false (sym s.1.0 ∙ h))
        | inr s ↦ s.1 ∙ r.others n (sym (in_same new mid c n s.1) ∙ h)
      ];
      only = λ n h. elim (cases n) [
        | inl s ↦ inr (subst (IsIn area key) (sym s.0) inside, (subst (λ k. Contains ts' k) (sym s.0) (subst (λ l. Contains l next) (sym more) (Contains-push ts next)), s.1.1))
        | inr s ↦ elim (r.only n (sym (in_same new mid c n s.1) ∙ h)) [ inl o ↦ inl o | inr o ↦ inr (o.0, (in_more n o.1.0, via_same new mid n s.1 ∙ o.1.1)) ]
      ];
      full = λ e m o. elim (more_cases e m) [
        | inl s ↦ still e (r.full e s o)
        | inr s ↦ elim (cases e) [ inl t ↦ t.1.0 | inr t ↦ absurd (t.0 (sym s)) ]
      ];
      added = r.added ++ next ∷ [];
      is = pushed ∙ ap (λ l. l ++ next ∷ []) r.is ∙ append_assoc before r.added (next ∷ []);
      listed = λ n h. elim (cases n) [
        | inl s ↦ inr (subst (Contains (r.added ++ next ∷ [])) (sym s.0) (Contains-push r.added next))
        | inr s ↦ elim (r.listed n (sym (in_same new mid c n s.1) ∙ h)) [ inl o ↦ inl o | inr o ↦ inr (Contains-append_left r.added (next ∷ []) n o) ]
      ];
      marked = λ n m. elim (Contains-push_cases r.added next n m) [
        | inl a ↦ still n (r.marked n a)
        | inr a ↦ elim (cases n) [ inl s ↦ s.1.0 | inr s ↦ absurd (s.0 (sym a)) ]
      ];
      shorter = omega (arith, r.shorter, left_set mid next c node within fresh, ap (left c) written, ap length pushed, length_push during next);
    }

-- ---- the whole

module _ (lists : List (Vec ℕ Global)) (area : List Step) (key c : ℕ) (old : List Step) where
  pub Spreading-begin : c < length old → ((n : ℕ) → is_in old c n ≡ false) → (new : List Step) → new ≡ set old c (record { center = c; via = c }) → (reached : List ℕ) → reached ≡ c ∷ [] → Spreading lists area key c 0 old new reached
  Spreading-begin within fresh new written reached one =
      let cases = λ (n : ℕ). set_cases old c c c n within in
      let alone = λ (n : ℕ) (h : IsIn (set old c (record { center = c; via = c })) c n). elim (cases n) as (λ (_ : _). n ≡ c) [ inl s ↦ s.0 | inr s ↦ absurd (true≢false (sym h ∙ in_same (set old c (record { center = c; via = c })) old c n s.1 ∙ fresh n)) ] in
      let first : IsIn (set old c (record { center = c; via = c })) c c = elim (cases c) [ inl s ↦ s.1.0 | inr s ↦ absurd (s.0 refl) ] in
      subst (λ (l : List Step). Spreading lists area key c 0 old l reached) (sym written) (subst (Spreading lists area key c 0 old (set old c (record { center = c; via = c }))) (sym one) (record {
        long = length-set old c _;
        within = omega arith;
        others = λ n h. elim (cases n) [ inl s ↦ absurd (true≢false (sym s.1.0 ∙ h)) | inr s ↦ s.1 ];
        begins = first;
        inside = λ n h. inl (alone n h);
        marked = λ n m. subst (IsIn (set old c (record { center = c; via = c })) c) (sym (only c n m)) first;
        tree = record { rank = λ n. 0; links = λ n h. inl (alone n h) };
        closed = λ n h. inl (subst (Contains (c ∷ [])) (sym (alone n h)) (0, omega arith, refl));
      }))

  -- the center leads to nothing
  pub Spreads-alone : c < length old → ((n : ℕ) → is_in old c n ≡ false) → (new : List Step) → new ≡ set old c (record { center = c; via = c }) → listed lists c ≡ [] → Spreads lists area key c old new
  Spreads-alone within fresh new written none =
      let s = Spreading-begin within fresh new written (c ∷ []) refl in
      record {
        long = s.long;
        others = s.others;
        begins = s.begins;
        inside = s.inside;
        tree = s.tree;
        closed = λ n e h m a. elim (s.closed n h) [
          | inl d ↦ absurd (not_in_nil e (subst (λ l. Contains l e) (ap (listed lists) (only c n d) ∙ none) m))
          | inr all ↦ all e m a
        ];
      }

  module _ (at : ℕ) (mid : List Step) (reached : List ℕ) (s : Spreading lists area key c at old mid reached) (here : at < length reached) (node : ℕ) (is : node ≡ get_or reached at 0) (new : List Step) (after : List ℕ) (r : Reaches area key c node (listed lists node) mid new reached after) where
    goes_on : (n : ℕ) → IsIn mid c n → IsIn new c n
    goes_on n h = in_same new mid c n (r.kept n h) ∙ h

    at_node : IsIn mid c node
    at_node = subst (IsIn mid c) (sym is) (s.marked (get_or reached at 0) (Contains-get_or reached at 0 here))

    abbrev rank : ℕ → ℕ
    rank n = cond (is_in mid c n) (s.tree.rank n) (suc (s.tree.rank node))

    rank_old : (n : ℕ) → IsIn mid c n → rank n ≡ s.tree.rank n
    rank_old n h = ap (λ b. cond b (s.tree.rank n) (suc (s.tree.rank node))) h

    rank_new : (n : ℕ) → is_in mid c n ≡ false → rank n ≡ suc (s.tree.rank node)
    rank_new n h = ap (λ b. cond b (s.tree.rank n) (suc (s.tree.rank node))) h

    abbrev Linked : ℕ → Type 0
    Linked n = (n ≡ c) ⊎ (IsIn new c (via_at new n) × (Contains (listed lists (via_at new n)) n × (rank (via_at new n) < rank n)))

    links_old : (n : ℕ) → IsIn mid c n → Linked n
    links_old n h = elim (s.tree.links n h) [
      | inl e ↦ inl e
      | inr l ↦ inr (subst (λ v. IsIn new c v × (Contains (listed lists v) n × (rank v < rank n))) (sym (via_same new mid n (r.kept n h)))
          (goes_on (via_at mid n) l.0, (l.1.0, (omega (arith, l.1.1, rank_old n h, rank_old (via_at mid n) l.0)))))
    ]

    links_new : (n : ℕ) → is_in mid c n ≡ false → IsIn new c n → Linked n
    links_new n f h = elim (r.only n h) [
      | inl o ↦ absurd (true≢false (sym o ∙ f))
      | inr o ↦ inr (subst (λ v. IsIn new c v × (Contains (listed lists v) n × (rank v < rank n))) (sym o.1.1)
          (goes_on node at_node, (o.1.0, (omega (arith, rank_new n f, rank_old node at_node)))))
    ]

    rest : drop (at + 1) after ≡ drop (at + 1) reached ++ r.added
    rest = ap (drop (at + 1)) r.is ∙ drop-append-le (at + 1) reached r.added (omega arith)

    pub Spreading-more : Spreading lists area key c (at + 1) old new after
    Spreading-more = record {
      long = r.long ∙ s.long;
      within = omega (arith, ap length r.is, length-append reached r.added);
      others = λ n h. r.others n h ∙ s.others n (elim (cases_bool (is_in mid c n)) [ inl t ↦ absurd (true≢false (sym (goes_on n t) ∙ h)) | inr t ↦ t ]);
      begins = goes_on c s.begins;
      inside = λ n h. elim (r.only n h) [ inl o ↦ s.inside n o | inr o ↦ inr o.0 ];
      marked = λ n m. elim (Contains-append_cases reached r.added n (subst (λ l. Contains l n) r.is m)) [ inl a ↦ goes_on n (s.marked n a) | inr a ↦ r.marked n a ];
      tree = record { rank = rank; links = λ n h. elim (cases_bool (is_in mid c n)) [ inl t ↦ links_old n t | inr t ↦ links_new n t h ] };
      closed = λ n h. elim (r.listed n h) [
        | inl o ↦ elim (s.closed n o) [
          | inl d ↦ elim (Contains-cons (get_or reached at 0) (drop (at + 1) reached) n (subst (λ l. Contains l n) (drop_more reached at 0 here) d)) [
            | inl e ↦ inr (λ x m a. r.full x (subst (λ k. Contains (listed lists k) x) (sym (is ∙ e)) m) a)
            | inr t ↦ inl (subst (λ l. Contains l n) (sym rest) (Contains-append_left (drop (at + 1) reached) r.added n t))
          ]
          | inr all ↦ inr (λ x m a. goes_on x (all x m a))
        ]
        | inr a ↦ inl (subst (λ l. Contains l n) (sym rest) (Contains-append_right (drop (at + 1) reached) r.added n a))
      ];
    }

  pub Spreading-end : (at : ℕ) (new : List Step) (reached : List ℕ) → Spreading lists area key c at old new reached → length reached ≤ at → Spreads lists area key c old new
  Spreading-end at new reached s over = record {
    long = s.long;
    others = s.others;
    begins = s.begins;
    inside = s.inside;
    tree = s.tree;
    closed = λ n e h m a. elim (s.closed n h) [
      | inl d ↦ absurd (not_in_nil n (subst (λ l. Contains l n) (drop_all at reached over) d))
      | inr all ↦ all e m a
    ];
  }

-- the same of lists that are equal
pub Spreads-of : (lists : List (Vec ℕ Global)) (area area' : List Step) → area ≡ area' → (key c : ℕ) (old old' : List Step) → old ≡ old' → (new : List Step) → Spreads lists area key c old new → Spreads lists area' key c old' new
Spreads-of lists area area' same key c old old' also new s = subst (λ (l : List Step). Spreads lists area' key c l new) also (subst (λ (l : List Step). Spreads lists l key c old new) same s)
