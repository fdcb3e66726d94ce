-- Pairs of sets that are looked at.
use Rattle.std.proofs.Common.{◌≡◌, ◌∙◌, ◌<◌, ◌+◌, ℕ, true, false, List, [], ◌∷◌, ◌++◌, map, length, get_or, take, Contains, refl, sym, ap, subst, append_assoc, append-nil, arith, inl, inr}
use Rattle.std.proofs.lemmas.List.{length-append, map-append, take_more}
use Rattle.std.proofs.lemmas.List.Elements.{Contains-append_left, Contains-append_right, Contains-append_cases}
use Rattle.std.proofs.lemmas.List.Sorted.{length_permutation, IsPermutation-sym, Contains-permutation}
use Rattle.graphql_names.specs.Placed.{Place}
use Rattle.rule_selection_queries.specs.in_spec_document.MeantTree.{MeantSet}
use Rattle.rule_cycle_search.proofs.Lists.{not_in_nil, only, Contains-cons, Contains-first}
use Rattle.list_interner.specs.NumberLists.{HaveSame}
use Rattle.list_interner.proofs.Standing.{in_map, of_map, same_order}
use Rattle.list_interner.proofs.Few.{in_rest}
use Rattle.list_interner.proofs.Rows.{exchanged_two}
use Rattle.rule_selection_queries.specs.in_document_definitions.ReadFields.{ReadSet}
use Rattle.rule_field_sets.specs.Read.{set_at}
use Rattle.rule_field_sets.specs.declared.field_sets.FieldSets.{FieldSets}
use Rattle.rule_field_groups.specs.declared.merge_state.Pair.{Pair}
use Rattle.rule_field_groups.specs.Members.{read_sets}
use Rattle.rule_field_groups.specs.MergeState.{Kept, HasLooked, LooksAt, two_of}
use Rattle.rule_field_groups.specs.Under.{Sets}
use Rattle.rule_field_groups.specs.Pairs.{AreTwosOf}
use Rattle.rule_field_groups.specs.Pairs.{Looks, each_with}

-- nothing is looked at
pub looks_none : (old : Kept) → Looks [] old old
looks_none old = record {
  lists = refl;
  expanded = refl;
  pairs = [];
  is_pairs = sym (append-nil old.pairs);
  count = omega arith;
  within = λ two c. c;
  keeps = λ k c. c;
  fresh = λ k c. inl c;
  has = λ two c. absurd (not_in_nil two c);
}

-- two that were not looked at before
pub looks_new : (two : Sets) (old mid new : Kept) → LooksAt old (read_sets two) true mid → new ≡ record mid { pairs = mid.pairs ++ two ∷ [] } → Looks (two ∷ []) old new
looks_new two old mid new (kept, (same, (order, at))) is = subst (Looks (two ∷ []) old) (sym (is ∙ ap (λ (k : Kept). record k { pairs = k.pairs ++ two ∷ [] }) at)) (record {
  lists = refl;
  expanded = refl;
  pairs = two ∷ [];
  is_pairs = refl;
  count = omega (arith, length_permutation (kept ∷ old.looked) mid.looked order);
  within = λ t c. c;
  keeps = λ k c. Contains-permutation (kept ∷ old.looked) mid.looked k order (in_rest kept old.looked k c);
  fresh = λ k c. elim (Contains-cons kept old.looked k (Contains-permutation mid.looked (kept ∷ old.looked) k (IsPermutation-sym (kept ∷ old.looked) mid.looked order) c)) [
    | inl e ↦ inr (two, (Contains-first two [] two refl, subst (λ (l : List ReadSet). HaveSame l (read_sets two)) e same))
    | inr r ↦ inl r
  ];
  has = λ t c. (
    kept,
    (Contains-permutation (kept ∷ old.looked) mid.looked kept order (Contains-first kept old.looked kept refl), subst (λ (l : Sets). HaveSame kept (read_sets l)) (sym (only two t c)) same),
  );
})

-- or were
pub looks_known : (two : Sets) (old new : Kept) → LooksAt old (read_sets two) false new → Looks (two ∷ []) old new
looks_known two old new (has, is) = subst (Looks (two ∷ []) old) (sym is) (record {
  lists = refl;
  expanded = refl;
  pairs = [];
  is_pairs = sym (append-nil old.pairs);
  count = omega arith;
  within = λ t c. absurd (not_in_nil t c);
  keeps = λ k c. c;
  fresh = λ k c. inl c;
  has = λ t c. subst (λ (l : Sets). HasLooked old.looked (read_sets l)) (sym (only two t c)) has;
})

-- one after the other
pub looks_both : (w w' : List Sets) (old mid new : Kept) → Looks w old mid → Looks w' mid new → Looks (w ++ w') old new
looks_both w w' old mid new first then' = record {
  lists = then'.lists ∙ first.lists;
  expanded = then'.expanded ∙ first.expanded;
  pairs = first.pairs ++ then'.pairs;
  is_pairs = then'.is_pairs ∙ ap (λ l. l ++ then'.pairs) first.is_pairs ∙ append_assoc old.pairs first.pairs then'.pairs;
  count = omega (arith, first.count, then'.count, length-append first.pairs then'.pairs);
  within = λ two c. elim (Contains-append_cases first.pairs then'.pairs two c) [
    | inl p ↦ Contains-append_left w w' two (first.within two p)
    | inr p ↦ Contains-append_right w w' two (then'.within two p)
  ];
  keeps = λ k c. then'.keeps k (first.keeps k c);
  fresh = λ k c. elim (then'.fresh k c) [
    | inl was ↦ elim (first.fresh k was) [
      | inl before ↦ inl before
      | inr (two, (there, same)) ↦ inr (two, (Contains-append_left first.pairs then'.pairs two there, same))
    ]
    | inr (two, (there, same)) ↦ inr (two, (Contains-append_right first.pairs then'.pairs two there, same))
  ];
  has = λ two c. elim (Contains-append_cases w w' two c) [
    | inl p ↦ let k = first.has two p in (k.0, (then'.keeps k.0 k.1.0, k.1.1))
    | inr p ↦ then'.has two p
  ];
}

-- the pair of two nodes as it is put last
pub pushed : (w : FieldSets) (old new : List Pair) (pair : Pair) (one other : ℕ) → (pair.one ≡ one) × (pair.other ≡ other) → new ≡ old ++ pair ∷ []
    → map (two_of w) new ≡ map (two_of w) old ++ (set_at w one ∷ set_at w other ∷ []) ∷ []
pushed w old new pair one other (e, f) is =
    ap (map (two_of w)) is ∙ map-append (two_of w) old (pair ∷ []) ∙ ap (λ (t : Sets). map (two_of w) old ++ t ∷ []) (ap (λ n. set_at w n ∷ set_at w pair.other ∷ []) e ∙ ap (λ n. set_at w one ∷ set_at w n ∷ []) f)

-- ---- each two of some sets

-- the first ones with the next
pub one_more_of : {X Y : Type 0} (f : X → Y) (xs : List X) (i : ℕ) (x : X) → i < length xs → x ≡ get_or xs i x → map f (take (i + 1) xs) ≡ map f (take i xs) ++ f x ∷ []
one_more_of f xs i x h e = ap (map f) (take_more xs i x h ∙ ap (λ y. take i xs ++ y ∷ []) (sym e)) ∙ map-append f (take i xs) (x ∷ [])

pub no_twos : AreTwosOf [] []
no_twos = record { within = λ two c. not_in_nil two c; covers = λ v w a. not_in_nil v a }

pub twos_more : (front : Sets) (v : MeantSet Place) (twos : List Sets) → AreTwosOf front twos → AreTwosOf (front ++ v ∷ []) (twos ++ each_with (front ++ v ∷ []) v)
twos_more front v twos are = record {
  within = λ two c w k. elim (Contains-append_cases twos (each_with (front ++ v ∷ []) v) two c) [
    | inl a ↦ Contains-append_left front (v ∷ []) w (are.within two a w k)
    | inr b ↦
        let u = of_map (λ (x : MeantSet Place). x ∷ v ∷ []) (front ++ v ∷ []) two b in
        elim (Contains-cons u.0 (v ∷ []) w (subst (λ (l : Sets). Contains l w) (sym u.1.1) k)) [
          | inl e ↦ subst (Contains (front ++ v ∷ [])) e u.1.0
          | inr r ↦ subst (Contains (front ++ v ∷ [])) (sym (only v w r)) last
        ]
  ];
  covers = λ x y a b. elim (Contains-append_cases front (v ∷ []) x a) [
    | inl i ↦ elim (Contains-append_cases front (v ∷ []) y b) [
      | inl j ↦ let two = are.covers x y i j in (two.0, (Contains-append_left twos (each_with (front ++ v ∷ []) v) two.0 two.1.0, two.1.1))
      | inr j ↦ (x ∷ v ∷ [], (with_last x a, subst (λ (z : MeantSet Place). HaveSame (x ∷ v ∷ []) (x ∷ z ∷ [])) (sym (only v y j)) (λ z. (λ c. c, λ c. c))))
    ]
    | inr i ↦ (y ∷ v ∷ [], (with_last y b, subst (λ (z : MeantSet Place). HaveSame (y ∷ v ∷ []) (z ∷ y ∷ [])) (sym (only v x i)) (same_order (y ∷ v ∷ []) (v ∷ y ∷ []) (exchanged_two y v []))))
  ];
}
  where
    last : Contains (front ++ v ∷ []) v
    last = Contains-append_right front (v ∷ []) v (Contains-first v [] v refl)

    with_last : (x : MeantSet Place) → Contains (front ++ v ∷ []) x → Contains (twos ++ each_with (front ++ v ∷ []) v) (x ∷ v ∷ [])
    with_last x a = Contains-append_right twos (each_with (front ++ v ∷ []) v) (x ∷ v ∷ []) (in_map (λ (x : MeantSet Place). x ∷ v ∷ []) (front ++ v ∷ []) x a)
