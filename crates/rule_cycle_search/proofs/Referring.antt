-- References the other way round.
use Rattle.std.proofs.Common.{◌≡◌, ℕ, ◌<◌, ◌≤◌, ◌+◌, ◌⊎◌, List, [], ◌∷◌, ◌++◌, length, get_or, set, take, drop, sym, ap, subst, ◌∙◌, inl, inr, zero, suc, arith}
use Rattle.std.specs.Prelude.{Contains, Vec}
use Rattle.std.specs.Global.{Global}
use Rattle.std.specs.Option.{option_map_or}
use Rattle.std.proofs.lemmas.Bool.{cases_lt}
use Rattle.std.proofs.lemmas.List.{length-set, take_all, drop_all, append-nil}
use Rattle.std.proofs.lemmas.List.Elements.{Contains-append_left, Contains-push_cases, Contains-push}
use Rattle.std.proofs.lemmas.Option.{slice_get-get_or, slice_get_past}
use Rattle.rule_cycle_search.proofs.Lists.{not_in_nil}
use Rattle.rule_cycle_search.specs.Graph.{listed}
use Rattle.rule_cycle_search.specs.Referrers.{AddsReferrer, AreReferrersBelow, AreReferrers}
use Rattle.rule_cycle_search.proofs.Sets.{slice_get-set_cases}

pub listed_at : (lists : List (Vec ℕ Global)) (i : ℕ) (d : Vec ℕ Global) → i < length lists → listed lists i ≡ (get_or lists i d).items
listed_at lists i d h = ap (λ o. option_map_or (λ (x : Vec ℕ Global). x.items) o []) (slice_get-get_or lists i d h)

pub listed_past : (lists : List (Vec ℕ Global)) (i : ℕ) → length lists ≤ i → listed lists i ≡ []
listed_past lists i h = ap (λ o. option_map_or (λ (x : Vec ℕ Global). x.items) o []) (slice_get_past lists i h)

pub listed_none : (lists : List (Vec ℕ Global)) (v : Vec ℕ Global) → ((e n : ℕ) → Contains (listed lists e) n → ⊥) → v.items ≡ [] → (e n : ℕ) → Contains (listed (lists ++ v ∷ []) e) n → ⊥
listed_none [] v none empty zero n h = not_in_nil n (subst (λ l. Contains l n) empty h)
listed_none [] v none empty (suc e) n h = not_in_nil n h
listed_none (l ∷ ls) v none empty zero n h = none zero n h
listed_none (l ∷ ls) v none empty (suc e) n h = listed_none ls v (λ e n. none (suc e) n) empty e n h

pub back_again : {X : Type 0} (new old : List X) (len : ℕ) → len ≡ length old → length new ≡ length old → take len (new ++ drop (length new) old) ≡ new
back_again new old len e same = ap (λ l. take len (new ++ l)) (drop_all (length new) old (omega arith)) ∙ ap (take len) (append-nil new) ∙ take_all len new (omega arith)

module _ (node : ℕ) (ts ts' : List ℕ) (target : ℕ) (more : ts' ≡ ts ++ target ∷ []) (old mid : List (Vec ℕ Global)) (r : AddsReferrer node ts old mid) where
  in_more : (n : ℕ) → Contains ts n → Contains ts' n
  in_more n m = subst (λ l. Contains l n) (sym more) (Contains-append_left ts (target ∷ []) n m)

  more_cases : (n : ℕ) → Contains ts' n → Contains ts n ⊎ (target ≡ n)
  more_cases n m = Contains-push_cases ts target n (subst (λ l. Contains l n) more m)

  -- this one is no node
  pub AddsReferrer-pass : length mid ≤ target → AddsReferrer node ts' old mid
  AddsReferrer-pass past = record {
    long = r.long;
    sound = λ e n h. elim (r.sound e n h) [ inl o ↦ inl o | inr o ↦ inr (o.0, in_more e o.1) ];
    kept = r.kept;
    full = λ e m h. elim (more_cases e m) [ inl o ↦ r.full e o h | inr o ↦ absurd (omega (arith, past, o, h, r.long)) ];
  }

  -- the node is listed there
  module _ (within : target < length mid) (v : Vec ℕ Global) (pushed : v.items ≡ listed mid target ++ node ∷ []) (new : List (Vec ℕ Global)) (written : new ≡ set mid target v) where
    cases : (e : ℕ) → ((e ≡ target) × (listed new e ≡ listed mid e ++ node ∷ [])) ⊎ ((e ≡ target → ⊥) × (listed new e ≡ listed mid e))
    cases e = elim (slice_get-set_cases mid target v e within) [
      | inl s ↦ inl (s.0, ap (λ l. listed l e) written ∙ ap (λ o. option_map_or (λ (x : Vec ℕ Global). x.items) o []) s.1 ∙ pushed ∙ ap (λ k. listed mid k ++ node ∷ []) (sym s.0))
      | inr s ↦ inr (s.0, ap (λ l. listed l e) written ∙ ap (λ o. option_map_or (λ (x : Vec ℕ Global). x.items) o []) s.1)
    ]

    still : (e n : ℕ) → Contains (listed mid e) n → Contains (listed new e) n
    still e n h = elim (cases e) [
      | inl s ↦ subst (λ l. Contains l n) (sym s.1) (Contains-append_left (listed mid e) (node ∷ []) n h)
      | inr s ↦ subst (λ l. Contains l n) (sym s.1) h
    ]

    before : (e n : ℕ) → Contains (listed mid e) n → Contains (listed old e) n ⊎ ((n ≡ node) × Contains ts' e)
    before e n h = elim (r.sound e n h) [ inl o ↦ inl o | inr o ↦ inr (o.0, in_more e o.1) ]

    pub AddsReferrer-mark : AddsReferrer node ts' old new
    AddsReferrer-mark = record {
      long = ap length written ∙ length-set mid target v ∙ r.long;
      sound = λ e n h. elim (cases e) [
        | inl s ↦ elim (Contains-push_cases (listed mid e) node n (subst (λ l. Contains l n) s.1 h)) [
          | inl o ↦ before e n o
          | inr o ↦ inr (sym o, subst (Contains ts') (sym s.0) (subst (λ l. Contains l target) (sym more) (Contains-push ts target)))
        ]
        | inr s ↦ before e n (subst (λ l. Contains l n) s.1 h)
      ];
      kept = λ e n h. still e n (r.kept e n h);
      full = λ e m h. elim (more_cases e m) [
        | inl o ↦ still e node (r.full e o h)
        | inr o ↦ elim (cases e) [ inl s ↦ subst (λ l. Contains l node) (sym s.1) (Contains-push (listed mid e) node) | inr s ↦ absurd (s.0 (sym o)) ]
      ];
    }

pub AreReferrers-none : (references r : List (Vec ℕ Global)) → length r ≡ length references → ((e n : ℕ) → Contains (listed r e) n → ⊥) → AreReferrersBelow 0 references r
AreReferrers-none references r long none = record {
  long = long;
  sound = λ e n h. absurd (none e n h);
  full = λ e n h. absurd (omega arith);
}

pub AreReferrers-more : (references r : List (Vec ℕ Global)) (node : ℕ) → AreReferrersBelow node references r → (new : List (Vec ℕ Global)) → AddsReferrer node (listed references node) r new → AreReferrersBelow (node + 1) references new
AreReferrers-more references r node a new m = record {
  long = m.long ∙ a.long;
  sound = λ e n h. elim (m.sound e n h) [ inl o ↦ a.sound e n o | inr o ↦ subst (λ k. Contains (listed references k) e) (sym o.0) o.1 ];
  full = λ e n h k c. elim (cases_lt n node) [
    | inl low ↦ m.kept e n (a.full e n low k c)
    | inr high ↦ let here : n ≡ node = omega arith in subst (Contains (listed new e)) (sym here) (m.full e (subst (λ j. Contains (listed references j) e) here c) (omega (arith, k, a.long)))
  ];
}

pub AreReferrers-all : (references r : List (Vec ℕ Global)) (node : ℕ) → AreReferrersBelow node references r → length references ≤ node → AreReferrers references r
AreReferrers-all references r node a past = record {
  long = a.long;
  sound = a.sound;
  full = λ e n h c. elim (cases_lt n node) [
    | inl low ↦ a.full e n low h c
    | inr high ↦ absurd (not_in_nil e (subst (λ l. Contains l e) (listed_past references n (omega arith)) c))
  ];
}
