-- How often shapes are compared, and that the members of each list that is examined are last fields of chains.
use Rattle.std.proofs.Common.{◌≡◌, ◌⊎◌, ◌∙◌, ℕ, ◌+◌, ◌*◌, ◌^◌, ◌<◌, ◌≤◌, None, List, [], ◌∷◌, ◌++◌, map, length, Contains, refl, sym, ap, subst, append_assoc, arith, inl, inr}
use Rattle.std.specs.List.{sum}
use Rattle.std.specs.List.Sorted.{IsPermutation}
use Rattle.std.proofs.lemmas.List.{length-map}
use Rattle.std.proofs.lemmas.List.Sorted.{length_permutation, IsPermutation-refl, IsPermutation-sym, IsPermutation-trans, IsPermutation-append_right, Contains-permutation}
use Rattle.std.proofs.lemmas.Option.{slice_get_within}
use Rattle.std.proofs.lemmas.List.Elements.{Contains-append_right, Contains-append_cases}
use Rattle.graphql_names.specs.Placed.{Place}
use Rattle.rule_field_groups.proofs.in_definitions.Lists.{not_in_nil, only, Contains-cons, Contains-first}
use Rattle.rule_cycle_search.specs.Paths.{HasNoRepeat}
use Rattle.rule_field_groups.specs.in_spec_document.MeantTree.{MeantSet, MeantOperation, MeantDocument}
use Rattle.rule_field_groups.specs.in_definitions.Judged.{Judged}
use Rattle.rule_field_groups.specs.in_document_definitions.DocumentFaults.{Broken}
use Rattle.rule_field_groups.specs.in_document_definitions.Selected.{StandingField, InOperation}
use Rattle.rule_field_groups.specs.in_document_definitions.Reached.{IsFieldOf}
use Rattle.rule_field_groups.specs.in_document_definitions.Chains.{Chain}
use Rattle.rule_field_groups.specs.in_document_definitions.Contents.{content, ContentBelow}
use Rattle.rule_field_groups.specs.in_document_definitions.Merging.{Below, Starts}
use Rattle.rule_field_groups.specs.in_document_definitions.ReadFields.{ReadField, ReadSet, field_read, ReadBelow}
use Rattle.rule_field_groups.proofs.in_document_definitions.Unplaced.{contains_unmap}
use Rattle.rule_field_groups.proofs.in_document_definitions.Elsewhere.{content_below, content_starts}
use Rattle.rule_field_groups.proofs.in_document_definitions.ReadFacts.{read_below, below_read}
use Rattle.list_interner.specs.NumberLists.{HaveSame, length_above_two}
use Rattle.list_interner.specs.NumberPairs.{pairs_kept}
use Rattle.list_interner.specs.declared.pairs.NumberPairs.{NumberPairs}
use Rattle.list_interner.proofs.Standing.{same_order, same_trans, same_sym, no_repeat_order}
use Rattle.list_interner.proofs.Few.{squares, no_longer, few, above_two_length, above_two_le, differ_cons, differ_order, from_apart}
use Rattle.list_interner.proofs.Rows.{kept_once, rows_below, few_in_any_order, kept_few}
use Rattle.rule_field_groups.specs.in_sets.declared.member.Member.{Member}
use Rattle.rule_field_groups.specs.in_sets.declared.field_sets.FieldSets.{FieldSets}
use Rattle.rule_field_groups.specs.Members.{field_of, fields_of, content_of, contents_of}
use Rattle.rule_field_groups.specs.declared.pass.Pass.{Pass}
use Rattle.rule_field_groups.specs.declared.pass.Pass.TheVariants.{Shapes, Selections}
use Rattle.rule_field_groups.specs.Below.{IsMergedIn, IsPartOfMergedIn}
use Rattle.rule_field_groups.specs.declared.merge_state.MergeState.{MergeState}
use Rattle.rule_field_groups.specs.MergeState.{Kept, looked_in, both_in, IsKnown}
use Rattle.rule_field_groups.specs.in_sets.Read.{set_content_at}
use Rattle.rule_merging.specs.Examined.{SelectsAsMuch, SetsExamined}
use Rattle.rule_merging.specs.Twos.{IsListOf, are_two}
use Rattle.rule_merging.specs.Verdict.{OnlyGrow, IsCountedIn}
use Rattle.rule_field_groups.specs.Compared.{compared}
use Rattle.rule_field_groups.specs.Paid.{Account, no_account, most_members, IsWithin, Meets, Pays}
use Rattle.rule_merging.specs.Counted.{most_comparisons, DifferInMembers, AreApart, IsLast, AreLast, AreListed, Grows, IsCountedBy, IsPaidBy}
use Rattle.rule_field_groups.proofs.Counts.{sums, sums_order}

-- ---- sums

-- a list is as long as its contents, in whatever order
pub compared_contents : (pass : Pass) (list : List Member) → compared pass (contents_of list) ≡ compared pass list
compared_contents Shapes list = length-map (fields_of list) field_read ∙ length-map list field_of
compared_contents Selections list = refl

compared_order : (pass : Pass) (xs ys : List ReadField) → IsPermutation xs ys → compared pass ys ≡ compared pass xs
compared_order Shapes xs ys p = length_permutation xs ys p
compared_order Selections xs ys p = refl

-- ---- lists that differ

none_differ : DifferInMembers []
none_differ i j a b h k same = absurd (omega (arith, slice_get_within [] i a h))

-- one more, whose members are not those of one that was there, and in another order
differ_more : (lists more : List (List ReadField)) (list : List ReadField) → IsPermutation (list ∷ lists) more → DifferInMembers lists → ((known : List ReadField) → Contains lists known → HaveSame known list → ⊥) → DifferInMembers more
differ_more lists more list order differ none = differ_order (list ∷ lists) more order (differ_cons list lists differ none)

apart_order : (xs ys : List (List ReadField)) → IsPermutation xs ys → AreApart xs → AreApart ys
apart_order xs ys order apart list c = apart list (Contains-permutation ys xs list (IsPermutation-sym xs ys order) c)

-- ---- what is paid

-- nothing is spent, and the fields that were met stay
still_within : (old new : Account) → new.spent ≡ old.spent → length old.met ≤ length new.met → IsWithin old → IsWithin new
still_within old new e more within = omega (arith, e, more, within)

pub pays_nothing : (list : List ReadField) (old new : Account) → Meets list old new → new.spent ≡ old.spent → Pays list old new
pays_nothing list old new m e = record { meets = m; spends = omega (arith, e); within = still_within old new e m.more }

-- at least as much is spent, and not too much
pub pays_all : (list : List ReadField) (old new : Account) → Meets list old new → old.spent ≤ new.spent → new.spent ≤ most_members (length new.met) → Pays list old new
pays_all list old new m more within = record { meets = m; spends = more; within = λ h. within }

-- ---- last fields of chains

chain_on : {F : Type 0} (Under : F → F → Type 0) (First : F → Type 0) (c : List F) (f g : F) → Chain Under First (c ++ f ∷ []) → Under f g → Chain Under First ((c ++ f ∷ []) ++ g ∷ [])
chain_on Under First [] f g p b = (p.0, (b, tt))
chain_on Under First (e ∷ c) f g p b = (p.0, chain_on Under (Under e) c f g p.1 b)

module _ (d : MeantDocument Place) where
  module _ (os : List (MeantOperation Place)) where
    -- what lies below one
    last_below : (f y : StandingField Place) → IsLast d os (field_read f) → ContentBelow d f y → IsLast d os (field_read y)
    last_below f y (o, (c, (e, (there, (chain, same))))) b =
        let g = content_below d f y b in
        let h = below_read d e (field_read g.0) (subst (λ x. ReadBelow d x (field_read g.0)) (sym same) (read_below d f g.0 g.1.0)) in
        (o, (c ++ e ∷ [], (h.0, (there, (chain_on (Below d) (Starts d o) c e h.0 chain h.1.0, h.1.1 ∙ ap field_read g.1.1)))))

    -- what starts
    pub starting_listed : (o : MeantOperation Place) (start : MeantSet Place) → Contains os o → o.set ≡ start → AreListed d os ((start ∷ []) ∷ [])
    starting_listed o start there is sets c x h =
        let v = subst (λ (l : List (MeantSet Place)). Contains l h.0) (only (start ∷ []) sets c) h.1.0 in
        let f = content_starts d o x (subst (λ w. (f : StandingField Place) × (IsFieldOf d (InOperation None) w f × (content f ≡ x))) (only start h.0 v ∙ sym is) h.1.1) in
        (o, ([], (f.0, (there, ((f.1.0, tt), ap field_read f.1.1)))))

    -- lists of sets below groups of what such lists select
    pub listed_next : (pass : Pass) (s : Judged) (lists : List (List (MeantSet Place))) (old new : Kept) (added : List (Broken Place)) (next : List (List (MeantSet Place)))
        → AreListed d os lists → SetsExamined pass s d lists old new added next → AreListed d os next
    listed_next pass s lists old new added next listed h sets c x selected =
        let u = h.under sets c in
        let f = u.1.1.1.1 selected.0 selected.1.0 in
        last_below f.0 x (listed u.0 u.1.0 f.0 (u.1.1.1.0 f.0 f.0 f.1.0 f.1.0).0)
        (subst (λ w. (g : StandingField Place) × (IsFieldOf d (InOperation None) w g × (content g ≡ x))) (sym f.1.1) selected.1.1)

    -- one of such lists, some of its sets
    pub one_listed : (lists : List (List (MeantSet Place))) (sets : List (MeantSet Place)) → AreListed d os lists → Contains lists sets → AreListed d os (sets ∷ [])
    one_listed lists sets listed c l k = listed l (subst (Contains lists) (sym (only sets l k)) c)

    pub part_listed : (sets : List (MeantSet Place)) (lists : List (List (MeantSet Place))) → AreListed d os (sets ∷ [])
        → ((l : List (MeantSet Place)) → Contains lists l → (v : MeantSet Place) → Contains l v → Contains sets v) → AreListed d os lists
    part_listed sets lists listed within l c x h = listed sets (Contains-first sets [] sets refl) x (h.0, (within l c h.0 h.1.0, h.1.1))

    -- lists of sets of which each selects no more than one of these
    pub listed_wider : (lists parts : List (List (MeantSet Place))) → AreListed d os lists
        → ((part : List (MeantSet Place)) → Contains parts part → (sets : List (MeantSet Place)) × (Contains lists sets × SelectsAsMuch d sets part)) → AreListed d os parts
    listed_wider lists parts listed wide part c x h = let w = wide part c in listed w.0 w.1.0 x (w.1.1 x h)

    -- some of the fields that such sets select, and all of them
    pub part_listed_fields : (sets : List (MeantSet Place)) (list : List Member) → IsPartOfMergedIn d sets list → AreListed d os (sets ∷ []) → AreLast d os (contents_of list)
    part_listed_fields sets list part listed x c =
        let y = contains_unmap field_read (fields_of list) x c in
        subst (IsLast d os) y.1.1 (listed sets (Contains-first sets [] sets refl) y.0 (part.within y.0 y.1.0))

    pub fields_listed : (sets : List (MeantSet Place)) (list : List Member) → IsMergedIn d sets list → AreListed d os (sets ∷ []) → AreLast d os (contents_of list)
    fields_listed sets list merged = part_listed_fields sets list (record { within = merged.within; apart = merged.apart })

  -- ---- lists that come to those that were examined

  -- what is given of operations
  abbrev pub Premise : Type 1
  Premise = List (MeantOperation Place) → Type 0

  -- none
  pub grows_not : (Given : Premise) (pass : Pass) (a : Account) → Grows d Given pass a a
  grows_not Given pass a = record {
    added = [];
    is = IsPermutation-refl a.lists;
    more = omega arith;
    count = omega arith;
    apart = λ list c. not_in_nil list c;
    different = λ apart differ. differ;
    last = λ os given list c. not_in_nil list c;
    paid = omega arith;
    within = λ h. h;
    once = λ h. h;
    meets = λ os given x c. inl c;
  }

  -- the same under another name
  pub grows_same : (Given : Premise) (pass : Pass) (old new : Account) → new ≡ old → Grows d Given pass old new
  grows_same Given pass old new e = subst (Grows d Given pass old) (sym e) (grows_not Given pass old)

  -- where less is given
  pub grows_given : (Given Other : Premise) → ((os : List (MeantOperation Place)) → Other os → Given os) → (pass : Pass) (old new : Account) → Grows d Given pass old new → Grows d Other pass old new
  grows_given Given Other less pass old new g = record {
    added = g.added;
    is = g.is;
    more = g.more;
    count = g.count;
    apart = g.apart;
    different = g.different;
    last = λ os given. g.last os (less os given);
    paid = g.paid;
    within = g.within;
    once = g.once;
    meets = λ os given. g.meets os (less os given);
  }

  -- what is met of a list
  met_so : (list : List ReadField) (old new : Account) → ((x : ReadField) → Contains new.met x → Contains old.met x ⊎ Contains list x) → (os : List (MeantOperation Place)) → AreLast d os list
      → (x : ReadField) → Contains new.met x → Contains old.met x ⊎ IsLast d os x
  met_so list old new met os given x c = elim (met x c) [ inl a ↦ inl a | inr b ↦ inr (given x b) ]

  -- a list is asked for, and paid or not: no list comes, but fields are met
  pub grows_paying : (pass : Pass) (list : List ReadField) (old new : Account) → new.lists ≡ old.lists → Pays list old new → Grows d (λ os. AreLast d os list) pass old new
  grows_paying pass list old new is p = record {
    added = [];
    is = subst (IsPermutation old.lists) (sym is) (IsPermutation-refl old.lists);
    more = omega (arith, p.meets.same);
    count = omega (arith, p.meets.same);
    apart = λ l c. not_in_nil l c;
    different = λ apart differ. subst DifferInMembers (sym is) differ;
    last = λ os given l c. not_in_nil l c;
    paid = omega (arith, p.spends);
    within = p.within;
    once = λ h. p.meets.once;
    meets = met_so list old new p.meets.only;
  }

  -- one list, in some order
  grows_one : (pass : Pass) (list : List Member) (kept : List ReadField) (old mid new : Account) → HasNoRepeat (contents_of list) → IsPermutation (contents_of list) kept
      → ((known : List ReadField) → Contains old.lists known → HasNoRepeat known → HasNoRepeat (contents_of list) → HaveSame known (contents_of list) → ⊥) → IsPermutation (kept ∷ old.lists) mid.lists
      → mid.comparisons ≡ old.comparisons → (HasNoRepeat old.met → HasNoRepeat mid.met) → ((x : ReadField) → Contains mid.met x → Contains old.met x ⊎ Contains (contents_of list) x)
      → old.spent + length_above_two (contents_of list) ≤ mid.spent → (IsWithin old → IsWithin mid)
      → mid.comparisons ≤ new.comparisons → new.comparisons ≤ mid.comparisons + compared pass list → new ≡ record mid { comparisons = new.comparisons }
      → Grows d (λ os. AreLast d os (contents_of list)) pass old new
  grows_one pass list kept old mid new apart order none is same once met paid within more count e = subst (Grows d (λ os. AreLast d os (contents_of list)) pass old) (sym e) (record {
    added = kept ∷ [];
    is = is;
    more = omega (arith, more, same);
    count = omega (arith, count, same, compared_contents pass list, compared_order pass (contents_of list) kept order);
    apart = λ l c. subst HasNoRepeat (sym (only kept l c)) (no_repeat_order (contents_of list) kept order apart);
    different = λ each differ. differ_more old.lists mid.lists kept is differ (λ known c same.
        none known c (each known c) apart (same_trans known kept (contents_of list) same (same_sym (contents_of list) kept (same_order (contents_of list) kept order))));
    last = λ os given l c x k. given x ((same_order (contents_of list) kept order x).1 (subst (λ m. Contains m x) (only kept l c) k));
    paid = omega (arith, paid, above_two_length kept (contents_of list) (length_permutation (contents_of list) kept order));
    within = within;
    once = once;
    meets = met_so (contents_of list) old mid met;
  })

  -- a list that was paid before
  pub grows_paid : (pass : Pass) (list : List Member) (kept : List ReadField) (old mid new : Account) → Pays (contents_of list) old mid → old.spent + length (contents_of list) ≤ mid.spent
      → HasNoRepeat (contents_of list) → IsPermutation (contents_of list) kept
      → ((known : List ReadField) → Contains old.lists known → HasNoRepeat known → HasNoRepeat (contents_of list) → HaveSame known (contents_of list) → ⊥) → IsPermutation (kept ∷ old.lists) mid.lists
      → mid.comparisons ≤ new.comparisons → new.comparisons ≤ mid.comparisons + compared pass list → new ≡ record mid { comparisons = new.comparisons }
      → Grows d (λ os. AreLast d os (contents_of list)) pass old new
  grows_paid pass list kept old mid new p enough apart order none is more count e =
      grows_one pass list kept old mid new apart order none is p.meets.same (λ h. p.meets.once) p.meets.only (omega (arith, enough, above_two_le (contents_of list))) p.within more count e

  -- fields of one of two
  abbrev pub LastOfTwo : Member → Member → Premise
  LastOfTwo one other os = (p q : Member) → are_two one other p q → IsLast d os (content_of p) × IsLast d os (content_of q)

  lasts : (one other : Member) (list : List Member) → IsListOf one other list → (os : List (MeantOperation Place)) → LastOfTwo one other os → AreLast d os (contents_of list)
  lasts one other list two os given = by two
    where
      by : IsListOf one other list → AreLast d os (contents_of list)
      by (inl (e, l)) x c = subst (IsLast d os) (sym (only (content_of one) x (subst (λ (m : List Member). Contains (contents_of m) x) l c))) (given one other (refl, refl)).0
      by (inr (e, l)) x c = elim (Contains-cons (content_of one) (content_of other ∷ []) x (subst (λ (m : List Member). Contains (contents_of m) x) l c)) [
        | inl i ↦ subst (IsLast d os) i (given one other (refl, refl)).0
        | inr r ↦ subst (IsLast d os) (sym (only (content_of other) x r)) (given one other (refl, refl)).1
      ]

  two_apart : (one other : Member) (list : List Member) → IsListOf one other list → HasNoRepeat (contents_of list)
  two_apart one other list (inl (e, l)) = subst (λ (m : List Member). HasNoRepeat (contents_of m)) (sym l) (from_apart (content_of one ∷ []) (λ c. not_in_nil (content_of one) c, tt))
  two_apart one other list (inr (e, l)) = subst (λ (m : List Member). HasNoRepeat (contents_of m)) (sym l)
      (from_apart (content_of one ∷ content_of other ∷ []) (λ c. e (only (content_of other) (content_of one) c), (λ c. not_in_nil (content_of other) c, tt)))

  -- two are not many
  two_short : (one other : Member) (list : List Member) → IsListOf one other list → length_above_two (contents_of list) ≡ 0
  two_short one other list (inl (e, l)) = ap (λ (m : List Member). length_above_two (contents_of m)) l
  two_short one other list (inr (e, l)) = ap (λ (m : List Member). length_above_two (contents_of m)) l

  -- a list of two fields; none is met
  pub grows_two : (pass : Pass) (one other : Member) (list : List Member) (kept : List ReadField) (old mid new : Account) → IsListOf one other list → (HasNoRepeat (contents_of list) → IsPermutation (contents_of list) kept)
      → ((known : List ReadField) → Contains old.lists known → HasNoRepeat known → HasNoRepeat (contents_of list) → HaveSame known (contents_of list) → ⊥) → IsPermutation (kept ∷ old.lists) mid.lists
      → mid ≡ record old { lists = mid.lists } → mid.comparisons ≤ new.comparisons → new.comparisons ≤ mid.comparisons + compared pass list → new ≡ record mid { comparisons = new.comparisons }
      → Grows d (LastOfTwo one other) pass old new
  grows_two pass one other list kept old mid new two order none is same more count e =
      let met : mid.met ≡ old.met = ap (λ (a : Account). a.met) same in
      let spent : mid.spent ≡ old.spent = ap (λ (a : Account). a.spent) same in
      let compares : mid.comparisons ≡ old.comparisons = ap (λ (a : Account). a.comparisons) same in
      grows_given (λ os. AreLast d os (contents_of list)) (LastOfTwo one other) (lasts one other list two) pass old new
      (grows_one pass list kept old mid new (two_apart one other list two) (order (two_apart one other list two)) none is compares
      (subst HasNoRepeat (sym met)) (λ x c. inl (subst (λ m. Contains m x) met c))
      (omega (arith, spent, two_short one other list two)) (still_within old mid spent (omega (arith, ap length met))) more count e)

  both_apart : (xs ys : List (List ReadField)) → AreApart xs → AreApart ys → AreApart (xs ++ ys)
  both_apart xs ys a b list c = elim (Contains-append_cases xs ys list c) [ inl h ↦ a list h | inr h ↦ b list h ]

  -- some and then others
  pub grows_on : (Given : Premise) (pass : Pass) (old mid new : Account) → Grows d Given pass old mid → Grows d Given pass mid new → Grows d Given pass old new
  grows_on Given pass old mid new first later = record {
    added = later.added ++ first.added;
    is = subst (λ l. IsPermutation l new.lists) (sym (append_assoc later.added first.added old.lists))
        (IsPermutation-trans (later.added ++ (first.added ++ old.lists)) (later.added ++ mid.lists) new.lists
        (IsPermutation-append_right later.added (first.added ++ old.lists) mid.lists first.is) later.is);
    more = omega (arith, first.more, later.more);
    count = omega (arith, first.count, later.count, sums (compared pass) later.added first.added);
    apart = both_apart later.added first.added later.apart first.apart;
    different = λ apart differ. later.different (apart_order (first.added ++ old.lists) mid.lists first.is (both_apart first.added old.lists first.apart apart)) (first.different apart differ);
    last = λ os given list c. elim (Contains-append_cases later.added first.added list c) [ inl a ↦ later.last os given list a | inr b ↦ first.last os given list b ];
    paid = omega (arith, first.paid, later.paid, sums length_above_two later.added first.added);
    within = λ h. later.within (first.within h);
    once = λ h. later.once (first.once h);
    meets = λ os given x c. elim (later.meets os given x c) [ inl a ↦ first.meets os given x a | inr b ↦ inr b ];
  }

  -- the others where less is given
  pub grows_with : (Given Other : Premise) (pass : Pass) (old mid new : Account) → Grows d Given pass old mid → ((os : List (MeantOperation Place)) → Given os → Other os) → Grows d Other pass mid new
      → Grows d Given pass old new
  grows_with Given Other pass old mid new first less later = grows_on Given pass old mid new first (grows_given Other Given less pass mid new later)

  -- lists stay and the count never falls
  pub only_grow : (Given : Premise) (pass : Pass) (old new : Account) → Grows d Given pass old new → OnlyGrow old.lists old.comparisons new.lists new.comparisons
  only_grow Given pass old new g = (λ list c. Contains-permutation (g.added ++ old.lists) new.lists list g.is (Contains-append_right g.added old.lists list c), g.more)

  -- ---- the count

  module _ (os : List (MeantOperation Place)) where
    pub none_counted : IsCountedIn d os no_account
    none_counted = (
      record { bound = omega arith; different = none_differ; listed = λ list c. not_in_nil list c },
      record { paid = omega arith; within = omega arith; once = from_apart [] tt; last = λ x c. not_in_nil x c },
    )

    -- lists that were examined for shapes
    pub shapes_counted : (Given : Premise) → Given os → (old new : Account) → IsCountedIn d os old → Grows d Given Shapes old new → IsCountedIn d os new
    shapes_counted Given given old new (so_far, paid) more = (
      record {
        bound = omega (arith, so_far.bound, more.count, sums length more.added old.lists, sums_order length (more.added ++ old.lists) new.lists more.is);
        different = more.different (λ list c. (so_far.listed list c).apart) so_far.different;
        listed = λ list c. elim (Contains-append_cases more.added old.lists list (Contains-permutation new.lists (more.added ++ old.lists) list (IsPermutation-sym (more.added ++ old.lists) new.lists more.is) c)) [
          | inl a ↦ record { apart = more.apart list a; last = more.last os given list a }
          | inr b ↦ so_far.listed list b
        ];
      },
      record {
        paid = omega (arith, paid.paid, more.paid, sums length_above_two more.added old.lists, sums_order length_above_two (more.added ++ old.lists) new.lists more.is);
        within = more.within paid.within;
        once = more.once paid.once;
        last = λ x c. elim (more.meets os given x c) [ inl a ↦ paid.last x a | inr b ↦ b ];
      },
    )

    -- few fields are compared few times
    module _ (all : List ReadField) (has : (x : ReadField) → IsLast d os x → Contains all x) (lists : List (List ReadField)) (met : List ReadField) (spent : ℕ) (paid : IsPaidBy d os lists met spent) where
      pub members_few : sum (map length_above_two lists) ≤ most_members (length all)
      members_few =
          let less : length met ≤ length all = no_longer met all paid.once (λ x c. has x (paid.last x c)) in
          omega (arith, paid.paid, paid.within, less)

      pub comparisons_few : (count : ℕ) → IsCountedBy d os lists count → count ≤ most_comparisons (length all)
      comparisons_few count counted =
          omega (arith, counted.bound, members_few, few lists all counted.different (λ l c. (counted.listed l c).apart) (λ l c x k. has x ((counted.listed l c).last x k)))

-- ---- pairs

-- so many pairs of numbers below one are remembered, at most
pub few_pairs : (p : NumberPairs) (m : ℕ) → ((q : ℕ × ℕ) → Contains (pairs_kept p) q → (q.0 < m) × (q.1 < m)) → 2 * length (pairs_kept p) ≤ m * (m + 1)
few_pairs p m below = kept_few p m below

-- so many pairs of sets were looked at, at most, where so many sets have numbers
pub few_looked : (w : FieldSets) (r : MergeState) (fields sets : ℕ) → IsKnown fields sets r → 2 * length (looked_in w r) ≤ sets * (sets + 1)
few_looked w r fields sets known = omega (arith, few_pairs r.looked sets known.looked, length-map {B = List ReadSet} (pairs_kept r.looked) (λ p. map (set_content_at w) (both_in p)))

-- and so many at most, whatever their numbers are
pub looked_bounded : (r : MergeState) → length (pairs_kept r.looked) ≤ 2 ^ 126
looked_bounded r =
    let rows = r.looked.rows in
    let n = length rows.items in
    let small : n ≤ 2 ^ 63 = omega (arith, rows.small, rows.ok.0, rows.ok.1) in
    omega (arith, few_in_any_order (pairs_kept r.looked) n (kept_once r.looked) (rows_below rows.items n refl), squares n (2 ^ 63) small)
