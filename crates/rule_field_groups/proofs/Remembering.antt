-- What is remembered: what is read of the numbers that are kept.
use Rattle.std.proofs.Common.{◌≡◌, ◌⊎◌, ◌∙◌, ℕ, ◌+◌, ◌<◌, ◌≤◌, min, max, Bool, true, false, ◌==◌, cond, List, [], ◌∷◌, map, length, Contains, refl, sym, ap, ap₂, subst, arith, inl, inr}
use Rattle.std.specs.Prelude.{Result, Ok, Err, OnErr}
use Rattle.std.proofs.lemmas.List.{length-map}
use Rattle.graphql_names.specs.Placed.{Place}
use Rattle.rule_selection_queries.specs.in_spec_document.MeantTree.{MeantSet}
use Rattle.rule_cycle_search.specs.Paths.{HasNoRepeat}
use Rattle.rule_cycle_search.proofs.Lists.{Contains-first}
use Rattle.list_interner.specs.NumberLists.{Keeps, list_of, lists_kept}
use Rattle.list_interner.specs.declared.lists.NumberLists.{NumberLists}
use Rattle.list_interner.specs.NumberPairs.{KeepsPair, pairs_kept}
use Rattle.list_interner.specs.NumberSet.{numbers_in, PutsIn}
use Rattle.list_interner.specs.declared.set.NumberSet.{NumberSet}
use Rattle.list_interner.proofs.Standing.{in_map, of_map}
use Rattle.list_interner.proofs.Few.{in_rest}
use Rattle.list_interner.proofs.Sets.{numbers_once, was_there}
use Rattle.list_interner.proofs.Said.{list_said, unlike_said, apart_said, say_both, pair_said}
use Rattle.rule_selection_queries.specs.in_document_definitions.ReadFields.{ReadField, ReadSet, field_read, list_read}
use Rattle.rule_field_sets.specs.Nodes.{AreSets, HasMember}
use Rattle.rule_field_sets.specs.Read.{content_at, set_content_at}
use Rattle.rule_field_sets.specs.declared.member.Member.{Member}
use Rattle.rule_field_sets.specs.declared.field_sets.FieldSets.{FieldSets}
use Rattle.rule_field_sets.proofs.Meaning.{content_of_member, content_injective}
use Rattle.rule_field_groups.specs.Members.{field_of, fields_of, content_of, contents_of, read_sets, AreMembersOf, contents_of_two}
use Rattle.rule_field_groups.specs.Paid.{Account, IsWithin, most_members, Meets, OnlyMeets, Pays}
use Rattle.rule_field_groups.specs.Under.{sets_in}
use Rattle.rule_field_groups.specs.MergeState.{Kept, kept_of, account_of, Remembers, LooksAt, Expands, IsKnown}
use Rattle.rule_field_groups.specs.declared.merge_state.MergeState.{MergeState}

abbrev pub number_of : Member → ℕ
number_of m = m.number

abbrev pub numbers_of : List Member → List ℕ
numbers_of ms = map number_of ms

module _ (w : FieldSets) (are : AreSets w) where
  -- what is read of members by their numbers
  pub numbers_read : (ms : List Member) → AreMembersOf w ms → map (content_at w) (numbers_of ms) ≡ contents_of ms
  numbers_read [] all = refl
  numbers_read (m ∷ ms) all = ap₂ (λ c cs. c ∷ cs) (content_of_member w are m (all m (Contains-first m ms m refl))) (numbers_read ms (λ n c. all n (in_rest m ms n c)))

  -- of two as a list
  pub two_read : (one other : Member) → HasMember w one → HasMember w other → map (content_at w) (list_of (one.number, other.number)) ≡ contents_of_two one other
  two_read one other has so = by (one.number == other.number)
    where
      by : (b : Bool) → map (content_at w) (cond b (one.number ∷ []) (one.number ∷ other.number ∷ [])) ≡ cond b (content_of one ∷ []) (content_of one ∷ content_of other ∷ [])
      by true = ap (λ c. c ∷ []) (content_of_member w are one has)
      by false = ap₂ (λ c e. c ∷ e ∷ []) (content_of_member w are one has) (content_of_member w are other so)

  -- ---- lists of fields

  module _ (base : Kept) where
    abbrev kept_with : List (List ℕ) → Kept
    kept_with ls = record base { lists = map (map (content_at w)) ls }

    pub remembers : (old new : List (List ℕ)) (numbers : List ℕ) (list : List ReadField) (is_new : Bool) → map (content_at w) numbers ≡ list → Keeps old numbers is_new new
        → Remembers (kept_with old) list is_new (kept_with new)
    remembers old new numbers list is_new is keeps = subst (λ l. Remembers (kept_with old) l is_new (kept_with new)) is (by is_new keeps)
      where
        by : (b : Bool) → Keeps old numbers b new → Remembers (kept_with old) (map (content_at w) numbers) b (kept_with new)
        by true h = let k = list_said (content_at w) old new numbers true h in (unlike_said (content_at w) (content_injective w are) old new numbers h, (k.0, (k.1.0, (k.1.1.0, (k.1.1.1, refl)))))
        by false h = let k = list_said (content_at w) old new numbers false h in (k.0, ap kept_with (h.1))

  -- ---- fields that are met

  pub are_met : (old new : NumberSet) (list : List Member) (before after : Account) → AreMembersOf w list → before.met ≡ map (content_at w) (numbers_in old) → after.met ≡ map (content_at w) (numbers_in new)
      → ((n : ℕ) → Contains (numbers_in new) n → Contains (numbers_in old) n ⊎ Contains (numbers_of list) n) → length (numbers_in old) ≤ length (numbers_in new) → after.comparisons ≡ before.comparisons
      → Meets (contents_of list) before after
  are_met old new list before after all was now only more same = record {
    only = λ x c.
        let n = of_map (content_at w) (numbers_in new) x (subst (λ l. Contains l x) now c) in
        elim (only n.0 n.1.0) [
          | inl a ↦ inl (subst (λ l. Contains l x) (sym was) (subst (Contains (map (content_at w) (numbers_in old))) n.1.1 (in_map (content_at w) (numbers_in old) n.0 a)))
          | inr b ↦ inr (subst (λ l. Contains l x) (numbers_read list all) (subst (Contains (map (content_at w) (numbers_of list))) n.1.1 (in_map (content_at w) (numbers_of list) n.0 b)))
        ];
    once = subst HasNoRepeat (sym now) (apart_said (content_at w) (content_injective w are) (numbers_in new) (numbers_once new));
    more = omega (arith, more, ap length was, ap length now, length-map (numbers_in old) (content_at w), length-map (numbers_in new) (content_at w));
    same = same;
  }

module _ (w : FieldSets) where
  -- how many were met
  pub count_met : (s : NumberSet) → length (map (content_at w) (numbers_in s)) ≡ length (numbers_in s)
  count_met s = length-map (numbers_in s) (content_at w)

  -- ---- lists of sets, and pairs

  pub expands : (old new : List (List ℕ)) (numbers : List ℕ) (list : List ReadSet) (is_new : Bool) → map (set_content_at w) numbers ≡ list → Keeps old numbers is_new new
      → Expands (map (map (set_content_at w)) old) list is_new (map (map (set_content_at w)) new)
  expands old new numbers list is_new is keeps = subst (λ l. Expands (map (map (set_content_at w)) old) l is_new (map (map (set_content_at w)) new)) is (by is_new keeps)
    where
      by : (b : Bool) → Keeps old numbers b new → Expands (map (map (set_content_at w)) old) (map (set_content_at w) numbers) b (map (map (set_content_at w)) new)
      by true h = let k = list_said (set_content_at w) old new numbers true h in (k.0, (k.1.0, k.1.1.1))
      by false h = list_said (set_content_at w) old new numbers false h

  module _ (base : Kept) where
    abbrev looked_with : List (ℕ × ℕ) → Kept
    looked_with ps = record base { looked = map (say_both (set_content_at w)) ps }

    pub looks : (old new : List (ℕ × ℕ)) (a b : ℕ) (one other : MeantSet Place) (is_new : Bool) → set_content_at w a ≡ list_read one → set_content_at w b ≡ list_read other
        → KeepsPair old (max a b, min a b) is_new new → LooksAt (looked_with old) (read_sets (one ∷ other ∷ [])) is_new (looked_with new)
    looks old new a b one other is_new first second keeps =
        subst (λ two. LooksAt (looked_with old) two is_new (looked_with new)) (ap₂ (λ x y. x ∷ y ∷ []) first second) (by is_new keeps)
      where
        by : (t : Bool) → KeepsPair old (max a b, min a b) t new → LooksAt (looked_with old) (say_both (set_content_at w) (a, b)) t (looked_with new)
        by true h = let k = pair_said (set_content_at w) old new a b true h in (k.0, (k.1.0, (k.1.1, refl)))
        by false h = let k = pair_said (set_content_at w) old new a b false h in (k.0, ap looked_with (h.1))

-- ---- what is asked to be paid

-- what was met is met by what has the same fields
pub meets_as : (list : List ReadField) (old mid new : Account) → new.met ≡ mid.met → new.comparisons ≡ mid.comparisons → Meets list old mid → Meets list old new
meets_as list old mid new met same m = record {
  only = λ x c. m.only x (subst (λ l. Contains l x) met c);
  once = subst HasNoRepeat (sym met) m.once;
  more = omega (arith, m.more, ap length met);
  same = omega (arith, m.same, same);
}

-- nothing is spent
pub asks_nothing : (list : List ReadField) (old new : Account) → Meets list old new → new.spent ≡ old.spent → Pays list old new
asks_nothing list old new m e = record { meets = m; spends = omega (arith, e); within = still }
  where
    still : IsWithin old → IsWithin new
    still within = omega (arith, e, within, m.more)

-- so many steps are
pub asks_steps : (list : List ReadField) (old new : Account) (steps : ℕ) → Meets list old new → new.spent ≡ old.spent + steps → new.spent ≤ most_members (length new.met) → Pays list old new
asks_steps list old new steps m e within = record { meets = m; spends = omega (arith, e); within = λ h. within }

-- what is so is so where a call fails
pub where_err : {T E X : Type 0} (r : Result T E) → X → OnErr r X
where_err (Ok y) h = tt
where_err (Err y) h = h

-- fields of a list are met, and nothing else changes
pub meets_only : (old mid : MergeState) (met : NumberSet) (list : List Member) → mid ≡ record old { met = mid.met }
    → ((n : ℕ) → Contains (numbers_in met) n → Contains (numbers_in old.met) n ⊎ Contains (numbers_of list) n) → length (numbers_in old.met) ≤ length (numbers_in met)
    → (w : FieldSets) → AreSets w → AreMembersOf w list → OnlyMeets (contents_of list) (account_of w old) (account_of w (record mid { met = met }))
meets_only old mid met list same only more w are all = (
  are_met w are old.met met list (account_of w old) (account_of w (record mid { met = met })) all refl refl only more (ap (λ (r : MergeState). r.comparisons) same),
  ap (λ (r : MergeState). r.spent) same,
)

-- one more of them is met
pub one_more_met : (old mid new : List ℕ) (list : List Member) (m : Member) (is_new : Bool) → Contains list m → PutsIn mid m.number is_new new
    → ((n : ℕ) → Contains mid n → Contains old n ⊎ Contains (numbers_of list) n) → (n : ℕ) → Contains new n → Contains old n ⊎ Contains (numbers_of list) n
one_more_met old mid new list m is_new among puts only n c = elim (was_there mid new m.number is_new puts n c) [
  | inl a ↦ only n a
  | inr e ↦ inr (subst (Contains (numbers_of list)) e (in_map number_of list m among))
]

-- where fields of a list were met, and nothing else changed
module _ (old mid : MergeState) (list slice : List Member) (same : mid ≡ record old { met = mid.met }) (is : slice ≡ list)
    (meets : (w : FieldSets) → AreSets w → AreMembersOf w slice → OnlyMeets (contents_of slice) (account_of w old) (account_of w mid)) where
  pub kept_same : (w : FieldSets) → kept_of w mid ≡ kept_of w old
  kept_same w = ap (kept_of w) same

  pub next_same : (w : FieldSets) → sets_in w mid.next ≡ sets_in w old.next
  next_same w = ap (λ (r : MergeState). sets_in w r.next) same

  spent_same : mid.spent ≡ old.spent
  spent_same = ap (λ (r : MergeState). r.spent) same

  met_so : (w : FieldSets) → AreSets w → AreMembersOf w list → OnlyMeets (contents_of list) (account_of w old) (account_of w mid)
  met_so w are all = subst (λ l. OnlyMeets (contents_of l) (account_of w old) (account_of w mid)) is (meets w are (subst (AreMembersOf w) (sym is) all))

  -- nothing is paid
  pub pays_none : (w : FieldSets) → AreSets w → AreMembersOf w list → Pays (contents_of list) (account_of w old) (account_of w mid)
  pays_none w are all = let m = met_so w are all in asks_nothing (contents_of list) (account_of w old) (account_of w mid) (m.0) (m.1)

  -- so many steps are, whatever is remembered then
  module _ (spent steps fields : ℕ) (is_sum : spent ≡ mid.spent + steps) (count : fields ≡ length (numbers_in mid.met)) (within : spent ≤ most_members fields) where
    abbrev paid_account : FieldSets → NumberLists → Account
    paid_account w lists = record { lists = map (map (content_at w)) (lists_kept lists); met = map (content_at w) (numbers_in mid.met); spent = spent; comparisons = mid.comparisons }

    pub pays_so : (lists : NumberLists) (w : FieldSets) → AreSets w → AreMembersOf w list → Pays (contents_of list) (account_of w old) (paid_account w lists)
    pays_so lists w are all =
        let m = met_so w are all in
        let enough : spent ≤ most_members (length (map (content_at w) (numbers_in mid.met))) = subst (λ n. spent ≤ most_members n) (count ∙ sym (count_met w mid.met)) within in
        asks_steps (contents_of list) (account_of w old) (paid_account w lists) steps
        (meets_as (contents_of list) (account_of w old) (account_of w mid) (paid_account w lists) refl refl (m.0)) (omega (arith, is_sum, spent_same)) enough

    pub paid_so : length list ≤ steps → old.spent + length (contents_of list) ≤ spent
    paid_so long = omega (arith, is_sum, spent_same, long, length-map (fields_of list) (field_read {P = Place}), length-map list field_of)

  -- a list is remembered
  pub remembers_so : (lists : NumberLists) (numbers : List ℕ) (is_new : Bool) → numbers ≡ numbers_of slice → Keeps (lists_kept mid.lists) numbers is_new (lists_kept lists)
      → (w : FieldSets) → AreSets w → AreMembersOf w list → Remembers (kept_of w old) (contents_of list) is_new (record (kept_of w mid) { lists = map (map (content_at w)) (lists_kept lists) })
  remembers_so lists numbers is_new they keeps w are all =
      subst (λ k. Remembers k (contents_of list) is_new (record (kept_of w mid) { lists = map (map (content_at w)) (lists_kept lists) })) (kept_same w)
      (remembers w are (kept_of w mid) (lists_kept mid.lists) (lists_kept lists) numbers (contents_of list) is_new
      (ap (map (content_at w)) (they ∙ ap numbers_of is) ∙ numbers_read w are list all) keeps)

-- ---- numbers above all that stand there

pub known_so : (fields sets : ℕ) (r : MergeState) (a b c d : ℕ)
    → ((l : List ℕ) → Contains (lists_kept r.lists) l → (n : ℕ) → Contains l n → n < a) → ((n : ℕ) → Contains (numbers_in r.met) n → n < b)
    → ((l : List ℕ) → Contains (lists_kept r.expanded) l → (n : ℕ) → Contains l n → n < c) → ((p : ℕ × ℕ) → Contains (pairs_kept r.looked) p → (p.0 < d) × (p.1 < d))
    → a ≤ fields → b ≤ fields → c ≤ sets → d ≤ sets → IsKnown fields sets r
known_so fields sets r a b c d lists met expanded looked ha hb hc hd = record {
  lists = λ l k n m. omega (arith, lists l k n m, ha);
  met = λ n k. omega (arith, met n k, hb);
  expanded = λ l k n m. omega (arith, expanded l k n m, hc);
  looked = λ p k. let q = looked p k in (omega (arith, q.0, hd), omega (arith, q.1, hd));
}
