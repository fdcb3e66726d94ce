-- A walk over the sets of nodes in which no fragment is walked twice: what it passes, and what it has found.
use Rattle.std.proofs.Common.{◌≡◌, ◌∙◌, ◌++◌, ◌+◌, ◌<◌, ◌≤◌, ℕ, Bool, true, false, List, [], ◌∷◌, take, length, get_or, slice_get, Some, Contains, refl, sym, ap, subst, inl, inr, append-nil, append_assoc, arith, true≢false, if◌then◌else◌}
use Rattle.std.specs.Prelude.{nat_eq, option_map, Result, Ok, Err, OnOk}
use Rattle.std.specs.List.{list_any}
use Rattle.std.proofs.lemmas.List.{map-append, take-append-le, take_all, take_more}
use Rattle.std.proofs.lemmas.List.Elements.{Contains-append_left, Contains-append_right, Contains-append_cases}
use Rattle.std.proofs.lemmas.List.Sorted.{IsPermutation-sym, Contains-permutation}
use Rattle.std.proofs.lemmas.Map.Views.{Contains-from_any, exact_unsigned_eq}
use Rattle.std.proofs.lemmas.Option.{slice_get_within, get_or_from_slice_get}
use Rattle.indexmap.specs.IndexSet.{insert_key}
use Rattle.graphql_names.specs.Placed.{Place}
use Rattle.rule_selection_queries.specs.in_spec_document.MeantTree.{MeantDocument}
use Rattle.rule_selection_queries.proofs.in_definitions.Lists.{not_in_nil, Contains-first, Contains-cons, only, mapped_some, slice_get-map}
use Rattle.rule_cycle_search.specs.Paths.{HasNoRepeat}
use Rattle.rule_selection_queries.specs.in_document_definitions.Selected.{StandingField}
use Rattle.rule_selection_queries.specs.in_document_definitions.Reached.{first, next}
use Rattle.rule_selection_queries.specs.in_document_definitions.PlainFields.{IsSelected}
use Rattle.rule_selection_queries.specs.in_document_definitions.ReadFields.{ReadField, field_read}
use Rattle.rule_selection_queries.proofs.in_document_definitions.Unplaced.{contains_map, contains_unmap}
use Rattle.rule_field_sets.specs.in_reach.Fields.{meant_fragments}
use Rattle.list_interner.specs.NumberSet.{PutsIn}
use Rattle.rule_field_sets.specs.declared.field_sets.FieldSets.{FieldSets}
use Rattle.rule_field_sets.specs.declared.member.Member.{Member}
use Rattle.rule_field_sets.specs.declared.member.SetNode.{SetNode}
use Rattle.rule_field_sets.specs.Nodes.{AreSets, HasMember, HasAllStarts, set_nodes}
use Rattle.rule_field_sets.specs.Read.{set_at}
use Rattle.rule_field_sets.proofs.Among.{one_number}
use Rattle.rule_field_sets.proofs.Growing.{contains_at, none_twice, apart_more}
use Rattle.rule_field_sets.proofs.Members.{in_last, taken_more}
use Rattle.rule_field_sets.proofs.Once.{inside}
use Rattle.rule_field_groups.specs.Members.{field_of, fields_of, content_of, contents_of, AreMembersOf, meant_sets}
use Rattle.rule_field_groups.specs.Below.{IsMergedIn, IsPartOfMergedIn}
use Rattle.rule_field_groups.specs.NodeWalk.{WalkState, numbers_of, AreNumbered, with_paid, Passes, PassesNode, IsPassed, IsStartOf, SpreadsNode, IsNodeFrom, IsReached, IsWalkOver, IsWalk, WalksOver}
use Rattle.rule_field_groups.proofs.NodeFacts.{selected_from, selected_among, selects_from}

-- what follows where a call went well
pub ok_so : {T E A B : Type 0} (r : Result T E) → (A → B) → OnOk r A → OnOk r B
ok_so (Ok t) f a = f a
ok_so (Err e) f a = tt

-- ---- nothing is passed, or one thing after the other

pub passes_none : (s : WalkState) → Passes [] [] s s
passes_none s = record {
  numbered = λ h. h;
  more = λ m c. c;
  from = λ m c. inl c;
  spread = ([], (sym (append-nil s.spread), λ p c. c));
  was_whole = λ h. h;
  all_members = λ h n m c. not_in_nil m c;
  all_spreads = λ h p c. not_in_nil p c;
}

pub numbers_more : (ms ns : List Member) → ((m : Member) → Contains ms m → Contains ns m) → (n : ℕ) → Contains (numbers_of ms) n → Contains (numbers_of ns) n
numbers_more ms ns more n c =
    let m = contains_unmap (λ (m : Member). m.number) ms n c in
    subst (Contains (numbers_of ns)) m.1.1 (contains_map (λ (m : Member). m.number) ns m.0 (more m.0 m.1.0))

spreads_stay : (ms : List Member) (ps : List ℕ) (old new : WalkState) → Passes ms ps old new → (p : ℕ) → Contains old.spread p → Contains new.spread p
spreads_stay ms ps old new passes p c = subst (λ l. Contains l p) (sym passes.spread.1.0) (Contains-append_left old.spread passes.spread.0 p c)

pub passes_on : (ms ns : List Member) (ps qs : List ℕ) (a b c : WalkState) → Passes ms ps a b → Passes ns qs b c → Passes (ms ++ ns) (ps ++ qs) a c
passes_on ms ns ps qs a b c one two = record {
  numbered = λ h. two.numbered (one.numbered h);
  more = λ m i. two.more m (one.more m i);
  from = λ m i. elim (two.from m i) [
    | inl j ↦ elim (one.from m j) [
      | inl k ↦ inl k
      | inr k ↦ inr (Contains-append_left ms ns m k)
    ]
    | inr j ↦ inr (Contains-append_right ms ns m j)
  ];
  spread = (
    one.spread.0 ++ two.spread.0,
    (
      two.spread.1.0 ∙ (ap (λ l. l ++ two.spread.0) one.spread.1.0 ∙ append_assoc a.spread one.spread.0 two.spread.0),
      λ p i. elim (Contains-append_cases one.spread.0 two.spread.0 p i) [
        | inl j ↦ Contains-append_left ps qs p (one.spread.1.1 p j)
        | inr j ↦ Contains-append_right ps qs p (two.spread.1.1 p j)
      ],
    ),
  );
  was_whole = λ h. one.was_whole (two.was_whole h);
  all_members = λ h n m i. elim (Contains-append_cases ms ns m i) [
    | inl j ↦ numbers_more b.members c.members two.more m.number (one.all_members (two.was_whole h) n m j)
    | inr j ↦ two.all_members h (one.numbered n) m j
  ];
  all_spreads = λ h p i. elim (Contains-append_cases ps qs p i) [
    | inl j ↦ spreads_stay ns qs b c two p (one.all_spreads (two.was_whole h) p j)
    | inr j ↦ two.all_spreads h p j
  ];
}

-- where it is not paid
pub passes_unpaid : (ms : List Member) (ps : List ℕ) (old new : WalkState) → new ≡ with_paid false old → Passes ms ps old new
passes_unpaid ms ps old new is = subst (Passes ms ps old) (sym is) (record {
  numbered = λ h. record { within = h.within; covers = h.covers; apart = h.apart };
  more = λ m c. c;
  from = λ m c. inl c;
  spread = ([], (sym (append-nil old.spread), λ p c. not_in_nil p c));
  was_whole = λ h. absurd (true≢false (sym h));
  all_members = λ h n m c. absurd (true≢false (sym h));
  all_spreads = λ h p c. absurd (true≢false (sym h));
})

-- ---- a field

-- one whose number is there
pub member_there : (m : Member) (old new : WalkState) → PutsIn old.numbers m.number false new.numbers → new.members ≡ old.members → new.spread ≡ old.spread → new.is_whole ≡ old.is_whole → Passes (m ∷ []) [] old new
member_there m old new put members spread whole = record {
  numbered = λ h. record {
    within = λ n c. subst (λ l. Contains (numbers_of l) n) (sym members) (h.within n (subst (λ l. Contains l n) put.1 c));
    covers = λ n c. subst (λ l. Contains l n) (sym put.1) (h.covers n (subst (λ l. Contains (numbers_of l) n) members c));
    apart = subst (λ l. HasNoRepeat (numbers_of l)) (sym members) h.apart;
  };
  more = λ n c. subst (λ l. Contains l n) (sym members) c;
  from = λ n c. inl (subst (λ l. Contains l n) members c);
  spread = ([], (spread ∙ sym (append-nil old.spread), λ p c. c));
  was_whole = λ h. sym whole ∙ h;
  all_members = λ h k n c. subst (λ (x : Member). Contains (numbers_of new.members) x.number) (sym (only m n c)) (subst (λ l. Contains (numbers_of l) m.number) (sym members) (k.within m.number put.0));
  all_spreads = λ h p c. not_in_nil p c;
}

-- one whose number is new
pub member_new : (m : Member) (old new : WalkState) → PutsIn old.numbers m.number true new.numbers → new.members ≡ old.members ++ m ∷ [] → new.spread ≡ old.spread → new.is_whole ≡ old.is_whole → Passes (m ∷ []) [] old new
member_new m old new put members spread whole = record {
  numbered = λ h. record {
    within = λ n c. subst (λ l. Contains l n) (sym numbers) (elim (Contains-cons m.number old.numbers n (Contains-permutation new.numbers (m.number ∷ old.numbers) n (IsPermutation-sym (m.number ∷ old.numbers) new.numbers put.1) c)) [
      | inl e ↦ subst (Contains (numbers_of old.members ++ m.number ∷ [])) e (in_last (numbers_of old.members) m.number)
      | inr r ↦ Contains-append_left (numbers_of old.members) (m.number ∷ []) n (h.within n r)
    ]);
    covers = λ n c. Contains-permutation (m.number ∷ old.numbers) new.numbers n put.1 (elim (Contains-append_cases (numbers_of old.members) (m.number ∷ []) n (subst (λ l. Contains l n) numbers c)) [
      | inl a ↦ Contains-append_right (m.number ∷ []) old.numbers n (h.covers n a)
      | inr b ↦ Contains-first m.number old.numbers n (sym (only m.number n b))
    ]);
    apart = subst HasNoRepeat (sym numbers) (apart_more (numbers_of old.members) m.number h.apart (λ c. put.0 (h.covers m.number c)));
  };
  more = λ n c. subst (λ l. Contains l n) (sym members) (Contains-append_left old.members (m ∷ []) n c);
  from = λ n c. Contains-append_cases old.members (m ∷ []) n (subst (λ l. Contains l n) members c);
  spread = ([], (spread ∙ sym (append-nil old.spread), λ p c. c));
  was_whole = λ h. sym whole ∙ h;
  all_members = λ h k n c. subst (λ l. Contains l n.number) (sym numbers) (subst (λ (x : Member). Contains (numbers_of old.members ++ m.number ∷ []) x.number) (sym (only m n c)) (in_last (numbers_of old.members) m.number));
  all_spreads = λ h p c. not_in_nil p c;
}
  where
    numbers : numbers_of new.members ≡ numbers_of old.members ++ m.number ∷ []
    numbers = ap numbers_of members ∙ map-append (λ (x : Member). x.number) old.members (m ∷ [])

-- the same where what is counted beside it is no part of the state
pub member_added : (m : Member) (old mid counted new : WalkState) → PutsIn old.numbers m.number true mid.numbers → mid.members ≡ old.members → mid.spread ≡ old.spread → mid.is_whole ≡ old.is_whole
    → counted ≡ mid → new.members ≡ counted.members ++ m ∷ [] → new.numbers ≡ counted.numbers → new.spread ≡ counted.spread → new.is_whole ≡ counted.is_whole → Passes (m ∷ []) [] old new
member_added m old mid counted new put members spread whole same added numbers spread_too whole_too = member_new m old new
    (subst (PutsIn old.numbers m.number true) (sym (numbers ∙ ap (λ (s : WalkState). s.numbers) same)) put)
    (added ∙ ap (λ l. l ++ m ∷ []) (ap (λ (s : WalkState). s.members) same ∙ members))
    (spread_too ∙ (ap (λ (s : WalkState). s.spread) same ∙ spread))
    (whole_too ∙ (ap (λ (s : WalkState). s.is_whole) same ∙ whole))

pub members_step : (ms : List Member) (i : ℕ) (m : Member) (a b c : WalkState) → i < length ms → m ≡ get_or ms i m → Passes (m ∷ []) [] b c → Passes (take i ms) [] a b → Passes (take (i + 1) ms) [] a c
members_step ms i m a b c within is one so_far = subst (λ l. Passes l [] a c) (sym (taken_more ms i m within is)) (passes_on (take i ms) (m ∷ []) [] [] a b c so_far one)

-- ---- a spread

pub spread_noted : (p : ℕ) (old new : WalkState) → new ≡ record old { spread = insert_key nat_eq old.spread p } → Passes [] (p ∷ []) old new
spread_noted p old new is = subst (Passes [] (p ∷ []) old) (sym is) (by (list_any (nat_eq p) old.spread) refl)
  where
    by : (b : Bool) → list_any (nat_eq p) old.spread ≡ b → Passes [] (p ∷ []) old (record old { spread = if b then old.spread else old.spread ++ p ∷ [] })
    by true there = record {
      numbered = λ h. record { within = h.within; covers = h.covers; apart = h.apart };
      more = λ m c. c;
      from = λ m c. inl c;
      spread = ([], (sym (append-nil old.spread), λ q c. not_in_nil q c));
      was_whole = λ h. h;
      all_members = λ h n m c. not_in_nil m c;
      all_spreads = λ h q c. subst (Contains old.spread) (sym (only p q c)) (Contains-from_any exact_unsigned_eq p old.spread there);
    }
    by false there = record {
      numbered = λ h. record { within = h.within; covers = h.covers; apart = h.apart };
      more = λ m c. c;
      from = λ m c. inl c;
      spread = (p ∷ [], (refl, λ q c. c));
      was_whole = λ h. h;
      all_members = λ h n m c. not_in_nil m c;
      all_spreads = λ h q c. subst (Contains (old.spread ++ p ∷ [])) (sym (only p q c)) (in_last old.spread p);
    }

pub spreads_step : (ps : List ℕ) (i : ℕ) (a b c : WalkState) → i < length ps → Passes [] (get_or ps i 0 ∷ []) b c → Passes [] (take i ps) a b → Passes [] (take (i + 1) ps) a c
spreads_step ps i a b c within one so_far = subst (λ l. Passes [] l a c) (sym (take_more ps i 0 within)) (passes_on [] [] (take i ps) (get_or ps i 0 ∷ []) a b c so_far one)

-- ---- a node

pub node_passed : (ms : List Member) (ps : List ℕ) (old paid mid new : WalkState) → paid ≡ with_paid true old → Passes ms [] paid mid → Passes [] ps mid new → Passes ms ps old new
node_passed ms ps old paid mid new is one two = subst (λ l. Passes l ps old new) (append-nil ms) (passes_on ms [] [] ps old mid new (subst (λ s. Passes ms [] s mid) is one) two)

still_passed : (v u : SetNode) (old new : WalkState) → PassesNode v old new → IsPassed old u → IsPassed new u
still_passed v u old new passes p = record {
  members = λ m c. numbers_more old.members new.members passes.more m.number (p.members m c);
  spreads = λ q c. spreads_stay v.members.items v.spreads.items old new passes q (p.spreads q c);
}

now_passed : (v : SetNode) (old new : WalkState) → PassesNode v old new → new.is_whole ≡ true → AreNumbered old → IsPassed new v
now_passed v old new passes whole numbered = record { members = passes.all_members whole numbered; spreads = passes.all_spreads whole }

module _ (w : FieldSets) where
  -- nothing is walked yet
  pub walk_begun : (s : WalkState) → s.members ≡ [] → s.numbers ≡ [] → s.spread ≡ [] → IsWalk w [] s
  walk_begun s no_members no_numbers none = record {
    numbered = record {
      within = λ n c. not_in_nil n (subst (λ l. Contains l n) no_numbers c);
      covers = λ n c. not_in_nil n (subst (λ l. Contains (numbers_of l) n) no_members c);
      apart = subst (λ l. HasNoRepeat (numbers_of l)) (sym no_members) none_twice;
    };
    members = λ m c. not_in_nil m (subst (λ l. Contains l m) no_members c);
    spread = λ p c. not_in_nil p (subst (λ l. Contains l p) none c);
    over_nodes = λ h n c. not_in_nil n c;
    over_fragments = λ h p c. not_in_nil p (subst (λ l. Contains l p) none c);
  }

  more_reached : (nodes : List ℕ) (n : ℕ) (v : SetNode) → IsReached w nodes v → IsReached w (nodes ++ n ∷ []) v
  more_reached nodes n v (k, (c, r)) = (k, (Contains-append_left nodes (n ∷ []) k c, r))

  -- a node is passed to which these lead
  module _ (nodes entered : List ℕ) (v : SetNode) (old new : WalkState) (passes : PassesNode v old new) (walk : IsWalkOver w nodes entered old) where
    found_members : IsReached w nodes v → (m : Member) → Contains new.members m → (u : SetNode) × (IsReached w nodes u × Contains u.members.items m)
    found_members reached m c = elim (passes.from m c) [
      | inl a ↦ walk.members m a
      | inr b ↦ (v, (reached, b))
    ]

    found_spread : IsReached w nodes v → (p : ℕ) → Contains new.spread p → (u : SetNode) × (IsReached w nodes u × Contains u.spreads.items p)
    found_spread reached p c = elim (Contains-append_cases old.spread passes.spread.0 p (subst (λ l. Contains l p) passes.spread.1.0 c)) [
      | inl a ↦ walk.spread p a
      | inr b ↦ (v, (reached, passes.spread.1.1 p b))
    ]

    kept_nodes : new.is_whole ≡ true → (n : ℕ) → Contains nodes n → (u : SetNode) × ((slice_get (set_nodes w) n ≡ Some u) × IsPassed new u)
    kept_nodes whole n c = let u = walk.over_nodes (passes.was_whole whole) n c in (u.0, (u.1.0, still_passed v u.0 old new passes u.1.1))

    kept_fragments : new.is_whole ≡ true → (p : ℕ) → Contains entered p → (u : SetNode) × (IsStartOf w p u × IsPassed new u)
    kept_fragments whole p c = let u = walk.over_fragments (passes.was_whole whole) p c in (u.0, (u.1.0, still_passed v u.0 old new passes u.1.1))

  -- the node of a fragment that was spread
  fragment_over : (nodes entered : List ℕ) (p : ℕ) (v : SetNode) (old new : WalkState) → Contains old.spread p → IsStartOf w p v → PassesNode v old new → IsWalkOver w nodes entered old → IsWalkOver w nodes (entered ++ p ∷ []) new
  fragment_over nodes entered p v old new c start passes walk =
      let u = walk.spread p c in
      let from = u.1.0 in
      let leads : SpreadsNode w from.1.1.0 start.0 = (u.0, (from.1.1.1.1, (p, (u.1.1, start.1.0)))) in
      let reached : IsReached w nodes v = (from.0, (from.1.0, (start.0, (next from.1.1.1.0 leads, start.1.1)))) in
      record {
        numbered = passes.numbered walk.numbered;
        members = found_members nodes entered v old new passes walk reached;
        spread = found_spread nodes entered v old new passes walk reached;
        over_nodes = kept_nodes nodes entered v old new passes walk;
        over_fragments = λ whole q i. elim (Contains-append_cases entered (p ∷ []) q i) [
          | inl a ↦ kept_fragments nodes entered v old new passes walk whole q a
          | inr b ↦ (v, (subst (λ z. IsStartOf w z v) (sym (only p q b)) start, now_passed v old new passes whole walk.numbered))
        ];
      }

  pub fragment_passed : (nodes : List ℕ) (k : ℕ) (p : ℕ) (v : SetNode) (old new : WalkState) → slice_get old.spread k ≡ Some p → IsStartOf w p v → PassesNode v old new
      → IsWalkOver w nodes (take k old.spread) old → IsWalkOver w nodes (take (k + 1) new.spread) new
  fragment_passed nodes k p v old new at start passes walk =
      let within : k < length old.spread = slice_get_within old.spread k p at in
      subst (λ l. IsWalkOver w nodes l new)
      (sym (ap (take (k + 1)) passes.spread.1.0 ∙ (take-append-le (k + 1) old.spread passes.spread.0 (omega (arith, within)) ∙ taken_more old.spread k p within (sym (get_or_from_slice_get old.spread k p p at)))))
      (fragment_over nodes (take k old.spread) p v old new (contains_at old.spread k p at) start passes walk)

  -- a node itself
  pub node_over : (nodes : List ℕ) (n k : ℕ) (v : SetNode) (old new : WalkState) → k ≡ length old.spread → slice_get (set_nodes w) n ≡ Some v → PassesNode v old new
      → IsWalk w nodes old → IsWalkOver w (nodes ++ n ∷ []) (take k new.spread) new
  node_over nodes n k v old new count at passes walk =
      let reached : IsReached w (nodes ++ n ∷ []) v = (n, (in_last nodes n, (n, (first refl, at)))) in
      subst (λ l. IsWalkOver w (nodes ++ n ∷ []) l new)
      (sym (ap (take k) passes.spread.1.0 ∙ (take-append-le k old.spread passes.spread.0 (omega (arith, count)) ∙ take_all k old.spread (omega (arith, count)))))
      (record {
        numbered = passes.numbered walk.numbered;
        members = λ m c. elim (passes.from m c) [
          | inl a ↦ let u = walk.members m a in (u.0, (more_reached nodes n u.0 u.1.0, u.1.1))
          | inr b ↦ (v, (reached, b))
        ];
        spread = λ p c. elim (Contains-append_cases old.spread passes.spread.0 p (subst (λ l. Contains l p) passes.spread.1.0 c)) [
          | inl a ↦ let u = walk.spread p a in (u.0, (more_reached nodes n u.0 u.1.0, u.1.1))
          | inr b ↦ (v, (reached, passes.spread.1.1 p b))
        ];
        over_nodes = λ whole m c. elim (Contains-append_cases nodes (n ∷ []) m c) [
          | inl a ↦ kept_nodes nodes old.spread v old new passes walk whole m a
          | inr b ↦ (v, (subst (λ z. slice_get (set_nodes w) z ≡ Some v) (sym (only n m b)) at, now_passed v old new passes whole walk.numbered))
        ];
        over_fragments = kept_fragments nodes old.spread v old new passes walk;
      })

  -- ---- its end

  -- all fragments are passed, or the walk is not whole
  pub ended : (nodes : List ℕ) (k : ℕ) (s : WalkState) → (s.is_whole ≡ true → length s.spread ≤ k) → IsWalkOver w nodes (take k s.spread) s → IsWalk w nodes s
  ended nodes k s done walk = record {
    numbered = walk.numbered;
    members = walk.members;
    spread = walk.spread;
    over_nodes = walk.over_nodes;
    over_fragments = λ whole p c. walk.over_fragments whole p (subst (λ l. Contains l p) (sym (take_all k s.spread (done whole))) c);
  }

  pub one_more : (nodes : List ℕ) (i : ℕ) (old new : WalkState) → i < length nodes → WalksOver w (get_or nodes i 0) old new → IsWalk w (take i nodes) old → IsWalk w (take (i + 1) nodes) new
  one_more nodes i old new within walks so_far = subst (λ l. IsWalk w l new) (sym (take_more nodes i 0 within)) (walks (take i nodes) so_far)

  -- ---- what it has found

  module _ (are : AreSets w) (nodes : List ℕ) (s : WalkState) (walk : IsWalk w nodes s) where
    pub found_are_members : AreMembersOf w s.members
    found_are_members m c =
        let u = walk.members m c in
        let from = u.1.0.1.1 in
        (from.0, (u.0, (from.1.1, u.1.1)))

    content_there : (i : ℕ) (c : ReadField) → slice_get (contents_of s.members) i ≡ Some c → (m : Member) × ((slice_get s.members i ≡ Some m) × (content_of m ≡ c))
    content_there i c at =
        let f = mapped_some field_read (slice_get (fields_of s.members) i) c (sym (slice_get-map field_read (fields_of s.members) i) ∙ at) in
        let m = mapped_some field_of (slice_get s.members i) f.0 (sym (slice_get-map field_of s.members i) ∙ f.1.0) in
        (m.0, (m.1.0, ap field_read (sym m.1.1) ∙ sym f.1.1))

    number_there : (i : ℕ) (m : Member) → slice_get s.members i ≡ Some m → slice_get (numbers_of s.members) i ≡ Some m.number
    number_there i m at = slice_get-map (λ (x : Member). x.number) s.members i ∙ ap (option_map (λ (x : Member). x.number)) at

    pub contents_apart : HasNoRepeat (contents_of s.members)
    contents_apart i j c one two =
        let m = content_there i c one in
        let n = content_there j c two in
        let same : m.0.number ≡ n.0.number =
        (one_number w are m.0 n.0 (found_are_members m.0 (contains_at s.members i m.0 m.1.0)) (found_are_members n.0 (contains_at s.members j n.0 n.1.0))).1 (m.1.1 ∙ sym n.1.1) in
        walk.numbered.apart i j m.0.number (number_there i m.0 m.1.0) (number_there j n.0 n.1.0 ∙ ap (λ z. Some z) (sym same))

    -- every node to which these lead is passed
    all_passed : s.is_whole ≡ true → (n m : ℕ) → Contains nodes n → IsNodeFrom w n m → (u : SetNode) × ((slice_get (set_nodes w) m ≡ Some u) × IsPassed s u)
    all_passed whole n m c (first e) = let u = walk.over_nodes whole n c in (u.0, (subst (λ z. slice_get (set_nodes w) z ≡ Some u.0) (sym e) u.1.0, u.1.1))
    all_passed whole n m c (next {x} r (v, (at, (p, (i, start))))) =
        let before = all_passed whole n x c r in
        let same : before.0 ≡ v = inside before.0 v (sym before.1.0 ∙ at) in
        let u = walk.over_fragments whole p (before.1.1.spreads p (subst (λ (z : SetNode). Contains z.spreads.items p) (sym same) i)) in
        let k : u.1.0.0 ≡ m = inside u.1.0.0 m (sym u.1.0.1.0 ∙ start) in
        (u.0, (subst (λ z. slice_get (set_nodes w) z ≡ Some u.0) k u.1.0.1.1, u.1.1))

    module _ (starts : HasAllStarts w) (d : MeantDocument Place) (same : d.fragments ≡ meant_fragments w.fragments.now) where
      found_within : (x : StandingField Place) → Contains (fields_of s.members) x → IsSelected d (meant_sets w nodes) x
      found_within x c =
          let m = contains_unmap field_of s.members x c in
          let u = walk.members m.0 m.1.0 in
          let from = u.1.0 in
          let one = selected_from w are starts d (sym same) from.0 from.1.1.0 u.0 m.0 from.1.1.1.0 from.1.1.1.1 u.1.1 in
          subst (IsSelected d (meant_sets w nodes)) m.1.1
          (selected_among w are starts d (sym same) (meant_sets w nodes) from.0 (field_of m.0) (contains_map (set_at w) nodes from.0 from.1.0) one)

      found_covers : s.is_whole ≡ true → (x : StandingField Place) → IsSelected d (meant_sets w nodes) x → Contains (contents_of s.members) (field_read x)
      found_covers whole x (t, (c, has)) =
          let n = contains_unmap (set_at w) nodes t c in
          let from = selects_from w are starts d (sym same) n.0 x (t, (Contains-first (set_at w n.0) [] t n.1.1, has)) in
          let y = from.1.1.0 in
          let u = all_passed whole n.0 from.0 n.1.0 from.1.1.1.0 in
          let same_node : u.0 ≡ from.1.0 = inside u.0 from.1.0 (sym u.1.0 ∙ from.1.1.1.1.0) in
          let there = contains_unmap (λ (z : Member). z.number) s.members y.number (u.1.1.members y (subst (λ (z : SetNode). Contains z.members.items y) (sym same_node) from.1.1.1.1.1.0)) in
          let z = there.0 in
          let is_member : HasMember w y = (from.0, (from.1.0, (from.1.1.1.1.0, from.1.1.1.1.1.0))) in
          let read : content_of z ≡ content_of y = (one_number w are z y (found_are_members z there.1.0) is_member).0 there.1.1 in
          subst (Contains (contents_of s.members)) (read ∙ from.1.1.1.1.1.1)
          (contains_map field_read (fields_of s.members) (field_of z) (contains_map field_of s.members z there.1.0))

      pub part_found : IsPartOfMergedIn d (meant_sets w nodes) s.members
      part_found = record { within = found_within; apart = contents_apart }

      pub all_found : s.is_whole ≡ true → IsMergedIn d (meant_sets w nodes) s.members
      all_found whole = record { within = found_within; covers = found_covers whole; apart = contents_apart }
