-- The steps of an examination, from one group to all levels.
use Rattle.std.proofs.Common.{◌≡◌, ◌⊎◌, ◌∙◌, ℕ, ◌+◌, ◌<◌, ◌≤◌, ◌==◌, Bool, true, false, List, [], ◌∷◌, ◌++◌, map, take, length, get_or, Contains, true≢false, refl, sym, ap, subst, append_assoc, append-nil, arith, inl, inr}
use Rattle.std.specs.List.{flat_map}
use Rattle.std.specs.List.Sorted.{IsPermutation}
use Rattle.std.proofs.lemmas.Bool.Decides.{Decides-eqb}
use Rattle.std.proofs.lemmas.List.{map-append}
use Rattle.std.proofs.lemmas.List.Elements.{Contains-append_left, Contains-append_right, Contains-append_cases}
use Rattle.graphql_names.specs.Placed.{Place}
use Rattle.rule_field_groups.proofs.in_components.Places.{Contains-rest}
use Rattle.rule_field_groups.specs.in_spec_document.MeantTree.{MeantSet, MeantOperation, MeantDocument}
use Rattle.rule_field_groups.specs.in_definitions.Judged.{Judged}
use Rattle.rule_field_groups.proofs.in_definitions.Lists.{not_in_nil, only, Contains-cons, Contains-first, given_in}
use Rattle.rule_field_groups.specs.in_document_definitions.DocumentFaults.{Broken}
use Rattle.rule_field_groups.specs.in_document_definitions.Selected.{StandingField}
use Rattle.rule_field_groups.specs.in_document_definitions.Contents.{ContentBelow, ContentStarts}
use Rattle.rule_field_groups.specs.in_document_definitions.Limits.{chain_bound}
use Rattle.rule_field_groups.specs.in_document_definitions.PlainFields.{IsSelected}
use Rattle.rule_field_groups.specs.in_document_definitions.ReadFields.{ReadField, ReadSet, list_read, field_read, fragments_read, ReadBelow, ReadStarts}
use Rattle.rule_field_groups.specs.in_document_definitions.Settled.{AreInOne, StartsStand, IsUnderWay}
use Rattle.rule_field_groups.specs.in_document_definitions.Going.{IsEndOf, IsGoing}
use Rattle.rule_field_groups.proofs.in_document_definitions.Equivalences.{shape_sym, shape_trans, selection_sym, selection_trans}
use Rattle.rule_field_groups.proofs.in_document_definitions.Unplaced.{contains_map, contains_unmap}
use Rattle.rule_field_groups.proofs.in_document_definitions.SettledFacts.{by_head, begun, moved, ended}
use Rattle.rule_field_groups.proofs.in_document_definitions.GoingFacts.{going_start, going_below, end_start, end_below}
use Rattle.rule_field_groups.proofs.in_document_definitions.Merges.{going_breaks, bound_passed}
use Rattle.list_interner.specs.NumberLists.{HaveSame}
use Rattle.list_interner.proofs.Standing.{same_sym, same_order}
use Rattle.rule_field_groups.specs.in_sets.declared.member.Member.{Member}
use Rattle.rule_field_groups.specs.in_sets.declared.field_sets.FieldSets.{FieldSets}
use Rattle.rule_field_groups.specs.declared.pass.Pass.{Pass}
use Rattle.rule_field_groups.specs.declared.pass.Pass.TheVariants.{Shapes, Selections}
use Rattle.rule_field_groups.specs.Members.{field_of, fields_of, contents_of, read_sets, AreMembersOf}
use Rattle.rule_field_groups.specs.LaterField.{BreaksAtLater}
use Rattle.rule_field_groups.specs.Passes.{Together, Agree, Conflict, ReadTogether, ReadAgree, TellsEach}
use Rattle.rule_merging.specs.Paired.{IsPairDone}
use Rattle.rule_field_groups.specs.Under.{Sets, AreOf, HaveBoth, AreListsBelow, IsGroupOf}
use Rattle.rule_field_groups.specs.Below.{IsMergedIn, IsPartOfMergedIn}
use Rattle.rule_field_groups.specs.declared.groups.KeyGroup.{KeyGroup}
use Rattle.rule_field_groups.specs.Grouped.{ArePartsOf}
use Rattle.rule_field_groups.specs.KeyGroups.{parts_of, parts_in, lists_in_group}
use Rattle.rule_field_groups.specs.MergeState.{Kept, nothing_kept, HasLooked, Remembers, Expands}
use Rattle.rule_field_groups.specs.Pairs.{each_with, AreTwosOf}
use Rattle.rule_merging.specs.Examined.{all_read, StandTogether, ReadOwn, ReadSelected, ReadSpreads, AreLookedAt, IsLeft, AllStand, PairsAreDone, AreSettled, AreUnderWay, HaveFields, IsFresh, GroupsExamined, ListExamined, SetsExamined, AllExamined}
use Rattle.rule_field_groups.proofs.Counts.{flat_push}
use Rattle.rule_field_groups.proofs.Filing.{of_filter}
use Rattle.rule_field_groups.proofs.Lists.{taken_more}
use Rattle.rule_merging.proofs.Bare.{IsIn, bare_reads}
use Rattle.rule_merging.proofs.Passing.{together_read, agree_read, selects_listed, reads_selected}

-- ---- lists

-- a whole is empty where both parts are
pub left_empty : {X : Type 0} (xs ys : List X) → xs ++ ys ≡ [] → xs ≡ []
left_empty [] ys e = refl
left_empty (x ∷ xs) ys e = cc

pub right_empty : {X : Type 0} (xs ys : List X) → xs ++ ys ≡ [] → ys ≡ []
right_empty [] ys e = e
right_empty (x ∷ xs) ys e = cc

pub in_last : {X : Type 0} (xs : List X) (x : X) → Contains (xs ++ x ∷ []) x
in_last xs x = Contains-append_right xs (x ∷ []) x (Contains-first x [] x refl)

-- the front with the next one
pub front_more : {X Y : Type 0} (f : X → Y) (xs : List X) (i : ℕ) (x : X) → i < length xs → x ≡ get_or xs i x → map f (take (i + 1) xs) ≡ map f (take i xs) ++ f x ∷ []
front_more f xs i x h e = ap (map f) (taken_more xs i x h e) ∙ map-append f (take i xs) (x ∷ [])

-- the parts of the groups in front with those of the next one
pub parts_more : (xs : List KeyGroup) (i : ℕ) (x : KeyGroup) → i < length xs → x ≡ get_or xs i x → map fields_of (parts_in (take (i + 1) xs)) ≡ map fields_of (parts_in (take i xs)) ++ map fields_of (parts_of x)
parts_more xs i x h e =
    ap (λ l. map fields_of (parts_in l)) (taken_more xs i x h e) ∙ ap (map fields_of) (flat_push parts_of (take i xs) x) ∙ map-append fields_of (parts_in (take i xs)) (parts_of x)

-- what is in a group is in the list
pub group_members : (w : FieldSets) (list : List Member) (groups : List KeyGroup) (group : KeyGroup) → AreMembersOf w list → ArePartsOf list (flat_map lists_in_group groups) → Contains groups group → IsGroupOf w group
group_members w list groups group are parts there part c m k =
    let p = parts part (given_in lists_in_group part groups group there c) in
    are m (of_filter p.0 list m (subst (λ l. Contains l m) p.1 k)).0

pub no_items : {X : Type 0} (xs : List X) → length xs ≡ 0 → xs ≡ []
no_items [] e = refl
no_items (x ∷ xs) e = absurd (omega (arith, e))

some_item : {X : Type 0} (xs : List X) → (length xs ≡ 0 → ⊥) → (x : X) × Contains xs x
some_item [] some = absurd (some refl)
some_item (x ∷ xs) some = (x, Contains-first x xs x refl)

-- whether there is an item
pub emptied : {X : Type 0} (xs : List X) (n : ℕ) → n ≡ length xs → (n == 0) ≡ true → xs ≡ []
emptied xs n e is = no_items xs (sym e ∙ (Decides-eqb n 0).0 is)

pub filled : {X : Type 0} (xs : List X) (n : ℕ) → n ≡ length xs → (n == 0) ≡ false → (x : X) × Contains xs x
filled xs n e is = some_item xs (λ none. true≢false (sym ((Decides-eqb n 0).1 (e ∙ none)) ∙ is))

-- ---- the passes

agree_sym : {P : Type 0} (pass : Pass) (s : Judged) (f g : StandingField P) → Agree pass s f g → Agree pass s g f
agree_sym Shapes s = shape_sym s
agree_sym Selections s = selection_sym

agree_trans : {P : Type 0} (pass : Pass) (s : Judged) (f g k : StandingField P) → Agree pass s f g → Agree pass s g k → Agree pass s f k
agree_trans Shapes s = shape_trans s
agree_trans Selections s = selection_trans

-- before the first operation
pub nothing_settled : (pass : Pass) (s : Judged) (d : MeantDocument Place) (kept : Kept) → kept ≡ nothing_kept → AreSettled d pass s kept
nothing_settled pass s d kept e = subst (AreSettled d pass s) (sym e) (record {
  fields = record { agree = λ f g h t. none f g (h t); below = λ f g x y h t. none f g (h t) };
  sets = λ sets c. not_in_nil sets c;
  pairs = λ a b h. not_in_nil h.0 h.1.0;
})
  where
    none : {X : Type 0} (f g : ReadField) → AreInOne [] f g → X
    none f g h = not_in_nil h.0 h.1.0

-- ---- two sets in one list

both_on : (next later : List Sets) (f g : StandingField Place) → ((sets : Sets) → Contains next sets → Contains later sets) → HaveBoth next f g → HaveBoth later f g
both_on next later f g on (inl h) = inl h
both_on next later f g on (inr (inl h)) = inr (inl h)
both_on next later f g on (inr (inr (sets, (c, both)))) = inr (inr (sets, (on sets c, both)))

-- ---- more of a list

abbrev pub HasMore : {X : Type 0} → List X → List X → Type 0
HasMore {X} old new = (x : X) → Contains old x → Contains new x

-- one more is there, in whatever order
pub more_there : {X : Type 0} (x : X) (old new : List X) → IsPermutation (x ∷ old) new → HasMore old new
more_there x old new order l c = (same_order (x ∷ old) new order l).0 (Contains-rest x old l c)

pub one_there : {X : Type 0} (x : X) (old new : List X) → IsPermutation (x ∷ old) new → Contains new x
one_there x old new order = (same_order (x ∷ old) new order x).0 (Contains-first x old x refl)

pub there_before : {X : Type 0} (x : X) (old new : List X) → IsPermutation (x ∷ old) new → (y : X) → Contains new y → (x ≡ y) ⊎ Contains old y
there_before x old new order y c = Contains-cons x old y ((same_order (x ∷ old) new order y).1 c)

-- ---- two by two

pub swapped : {X : Type 0} (a b : X) → HaveSame (a ∷ b ∷ []) (b ∷ a ∷ [])
swapped {X} a b x = (turn a b, turn b a)
  where
    turn : (c d : X) → Contains (c ∷ d ∷ []) x → Contains (d ∷ c ∷ []) x
    turn c d h = elim (Contains-cons c (d ∷ []) x h) [
      | inl e ↦ Contains-rest d (c ∷ []) x (Contains-first c [] x e)
      | inr r ↦ Contains-first d (c ∷ []) x (sym (only d x r))
    ]

-- what is read of them too
pub same_read : (xs ys : Sets) → HaveSame xs ys → HaveSame (read_sets xs) (read_sets ys)
same_read xs ys same x = (
  λ c. let v = contains_unmap list_read xs x c in subst (Contains (read_sets ys)) v.1.1 (contains_map list_read ys v.0 ((same v.0).0 v.1.0)),
  λ c. let v = contains_unmap list_read ys x c in subst (Contains (read_sets xs)) v.1.1 (contains_map list_read xs v.0 ((same v.0).1 v.1.0)),
)

-- a list of what is nowhere
pub none_in : {X : Type 0} (xs : List X) → ((x : X) → Contains xs x → Contains [] x) → xs ≡ []
none_in [] none = refl
none_in (x ∷ xs) none = absurd (not_in_nil x (none x (Contains-first x xs x refl)))

pub no_twos : AreTwosOf [] []
no_twos = record { within = λ two c. not_in_nil two c; covers = λ v w a. not_in_nil v a }

pub twos_more : (front : Sets) (v : MeantSet Place) (twos : List Sets) → AreTwosOf front twos → AreTwosOf (front ++ v ∷ []) (twos ++ each_with (front ++ v ∷ []) v)
twos_more front v twos are = record {
  within = λ two c w k. elim (Contains-append_cases twos (each_with (front ++ v ∷ []) v) two c) [
    | inl a ↦ Contains-append_left front (v ∷ []) w (are.within two a w k)
    | inr b ↦
        let u = contains_unmap (λ (x : MeantSet Place). x ∷ v ∷ []) (front ++ v ∷ []) two b in
        elim (Contains-cons u.0 (v ∷ []) w (subst (λ (l : Sets). Contains l w) (sym u.1.1) k)) [
          | inl e ↦ subst (Contains (front ++ v ∷ [])) e u.1.0
          | inr r ↦ subst (Contains (front ++ v ∷ [])) (sym (only v w r)) (in_last front v)
        ]
  ];
  covers = λ x y a b. elim (Contains-append_cases front (v ∷ []) x a) [
    | inl i ↦ elim (Contains-append_cases front (v ∷ []) y b) [
      | inl j ↦ let two = are.covers x y i j in (two.0, (Contains-append_left twos (each_with (front ++ v ∷ []) v) two.0 two.1.0, two.1.1))
      | inr j ↦ (x ∷ v ∷ [], (with_last x a, subst (λ (z : MeantSet Place). HaveSame (x ∷ v ∷ []) (x ∷ z ∷ [])) (sym (only v y j)) (λ z. (λ c. c, λ c. c))))
    ]
    | inr i ↦ (y ∷ v ∷ [], (with_last y b, subst (λ (z : MeantSet Place). HaveSame (y ∷ v ∷ []) (z ∷ y ∷ [])) (sym (only v x i)) (swapped y v)))
  ];
}
  where
    with_last : (x : MeantSet Place) → Contains (front ++ v ∷ []) x → Contains (twos ++ each_with (front ++ v ∷ []) v) (x ∷ v ∷ [])
    with_last x a = Contains-append_right twos (each_with (front ++ v ∷ []) v) (x ∷ v ∷ []) (contains_map (λ (w : MeantSet Place). w ∷ v ∷ []) (front ++ v ∷ []) x a)

module _ (pass : Pass) (s : Judged) (d : MeantDocument Place) where
  -- ---- groups

  pub key_examined : (groups : List (List (StandingField Place))) (added : List (Broken Place)) (lists : List Sets) → TellsEach pass s groups added → AreListsBelow groups lists → GroupsExamined pass s d groups added lists
  key_examined groups added lists tells are = record { right = tells.right; under = are.under; agree = tells.agree; below = are.below }

  pub no_groups : GroupsExamined pass s d [] [] []
  no_groups = record {
    right = λ fault c. not_in_nil fault c;
    under = λ sets c. not_in_nil sets c;
    agree = λ e group c. not_in_nil group c;
    below = λ group c. not_in_nil group c;
  }

  -- more groups
  groups_more : (groups : List (List (StandingField Place))) (added : List (Broken Place)) (next : List Sets) (others : List (List (StandingField Place))) (more : List (Broken Place)) (below : List Sets)
      → GroupsExamined pass s d groups added next → GroupsExamined pass s d others more below → GroupsExamined pass s d (groups ++ others) (added ++ more) (next ++ below)
  groups_more groups added next others more below so_far here = record {
    right = λ fault c. elim (Contains-append_cases added more fault c) [
      | inl a ↦ let t = so_far.right fault a in (t.0, (Contains-append_left groups others t.0 t.1.0, t.1.1))
      | inr b ↦ let t = here.right fault b in (t.0, (Contains-append_right groups others t.0 t.1.0, t.1.1))
    ];
    under = λ sets c. elim (Contains-append_cases next below sets c) [
      | inl a ↦ let u = so_far.under sets a in (u.0, (Contains-append_left groups others u.0 u.1.0, u.1.1))
      | inr b ↦ let u = here.under sets b in (u.0, (Contains-append_right groups others u.0 u.1.0, u.1.1))
    ];
    agree = λ e g c. elim (Contains-append_cases groups others g c) [
      | inl a ↦ so_far.agree (left_empty added more e) g a
      | inr b ↦ here.agree (right_empty added more e) g b
    ];
    below = λ g c f h in_f in_h. elim (Contains-append_cases groups others g c) [
      | inl a ↦ both_on next (next ++ below) f h (λ sets k. Contains-append_left next below sets k) (so_far.below g a f h in_f in_h)
      | inr b ↦ both_on below (next ++ below) f h (λ sets k. Contains-append_right next below sets k) (here.below g b f h in_f in_h)
    ];
  }

  -- the same of breaches and lists as they stand before and after
  abbrev pub GroupsTold : List (Broken Place) → List (Broken Place) → List Sets → List Sets → List (List (StandingField Place)) → Type 0
  GroupsTold told later next last groups = (added : List (Broken Place)) × ((below : List Sets) × ((later ≡ told ++ added) × ((last ≡ next ++ below) × GroupsExamined pass s d groups added below)))

  pub groups_step : (told mid later : List (Broken Place)) (next between last : List Sets) (groups others : List (List (StandingField Place)))
      → GroupsTold told mid next between groups → GroupsTold mid later between last others → GroupsTold told later next last (groups ++ others)
  groups_step told mid later next between last groups others (a, (n, (is, (lies, so_far)))) (b, (m, (is_too, (lies_too, here)))) = (
    a ++ b,
    (
      n ++ m,
      (
        is_too ∙ ap (λ l. l ++ b) is ∙ append_assoc told a b,
        (lies_too ∙ ap (λ l. l ++ m) lies ∙ append_assoc next n m, groups_more groups a n others b m so_far here),
      ),
    ),
  )

  -- ---- what sets select

  -- what was in lists still is with more of them
  pub stand_more : (old new : List (List ReadField)) → HasMore old new → (x y : ReadField) → AreInOne old x y → AreInOne new x y
  stand_more old new more x y h = (h.0, (more h.0 h.1.0, h.1.1))

  pub together_more : (old new : List (List ReadField)) → HasMore old new → (x y : ReadField) → StandTogether pass s old x y → StandTogether pass s new x y
  together_more old new more x y h t = stand_more old new more x y (h t)

  -- two fields that are in one of the new lists were in one of the old ones, or are fresh
  pub moved_lists : (o : MeantOperation Place) (Left Later : ReadField → ReadField → Type 0) (old new : List (List ReadField)) → HasMore old new
      → ((f g : ReadField) → Left f g → StandTogether pass s new f g ⊎ Later f g)
      → ((f g : ReadField) → AreInOne new f g → AreInOne old f g ⊎ (ReadTogether pass s f g → ReadAgree pass s f g × ((x y : ReadField) → ReadBelow d f x → ReadBelow d g y → Later x y)))
      → IsUnderWay (ReadBelow d) (ReadTogether pass s) (ReadAgree pass s) (ReadStarts d o) Left (StandTogether pass s old)
      → IsUnderWay (ReadBelow d) (ReadTogether pass s) (ReadAgree pass s) (ReadStarts d o) Later (StandTogether pass s new)
  moved_lists o Left Later old new keeps left fresh ok = record {
    start = λ f g a b. on f g (ok.start f g a b);
    agree = λ f g h t. elim (fresh f g (h t)) [ inl was ↦ ok.agree f g (λ u. was) t | inr now ↦ (now t).0 ];
    below = λ f g x y h t a b. elim (fresh f g (h t)) [ inl was ↦ on x y (ok.below f g x y (λ u. was) t a b) | inr now ↦ inr ((now t).1 x y a b) ];
  }
    where
      on : (f g : ReadField) → StandTogether pass s old f g ⊎ Left f g → StandTogether pass s new f g ⊎ Later f g
      on f g (inl h) = inl (together_more old new keeps f g h)
      on f g (inr h) = left f g h

  -- what is read as selected by the sets is in the list
  pub in_merged : (sets : Sets) (list : List Member) → IsMergedIn d sets list → (x : ReadField) → ReadSelected d (read_sets sets) x → Contains (contents_of list) x
  in_merged sets list merged x h = let e = reads_selected d sets x h in subst (Contains (contents_of list)) e.1.1 (merged.covers e.0 e.1.0)

  -- any two that the sets select are in one of the lists, if they go together
  abbrev pub SetsStand : Sets → List (List ReadField) → Type 0
  SetsStand sets lists = (x y : ReadField) → ReadSelected d (read_sets sets) x → ReadSelected d (read_sets sets) y → StandTogether pass s lists x y

  -- a list of sets is left no more, whose fields stand
  abbrev Settles : Kept → Kept → List Sets → List Sets → Type 0
  Settles old new lists next = (o : MeantOperation Place) (left : List (List ReadSet))
      → AreUnderWay d pass s o [] (all_read lists ++ left) old → AreUnderWay d pass s o [] (left ++ all_read next) new × AllStand d pass s (all_read lists) new.lists

  pub all_of_one : (sets : Sets) (lists : List (List ReadField)) → SetsStand sets lists → AllStand d pass s (all_read (sets ∷ [])) lists
  all_of_one sets lists stand vs c x y a b =
      let same = only (read_sets sets) vs c in
      stand x y (subst (λ (l : List ReadSet). ReadSelected d l x) same a) (subst (λ (l : List ReadSet). ReadSelected d l y) same b)

  -- the first list is left no more, and what is left later has all others
  pub left_on : (sets : Sets) (left later : List (List ReadSet)) (lists : List (List ReadField)) → SetsStand sets lists → HasMore left later
      → (x y : ReadField) → IsLeft d (read_sets sets ∷ left) x y → StandTogether pass s lists x y ⊎ IsLeft d later x y
  left_on sets left later lists stand on x y h = elim (Contains-cons (read_sets sets) left h.0 h.1.0) [
    | inl e ↦ inl (stand x y (subst (λ (l : List ReadSet). ReadSelected d l x) (sym e) h.1.1.0) (subst (λ (l : List ReadSet). ReadSelected d l y) (sym e) h.1.1.1))
    | inr r ↦ inr (h.0, (on h.0 r, h.1.1))
  ]

  pub left_wider : (left later : List (List ReadSet)) → HasMore left later → (x y : ReadField) → IsLeft d left x y → IsLeft d later x y
  left_wider left later on x y h = (h.0, (on h.0 h.1.0, h.1.1))

  pub dropped : (sets : Sets) (kept : Kept) → SetsStand sets kept.lists → (o : MeantOperation Place) (left : List (List ReadSet)) → AreUnderWay d pass s o [] (read_sets sets ∷ left) kept → AreUnderWay d pass s o [] left kept
  dropped sets kept stand o left under = record {
    fields = moved (ReadBelow d) (ReadTogether pass s) (ReadAgree pass s) (ReadStarts d o) (IsLeft d (read_sets sets ∷ left)) (IsLeft d left) (StandTogether pass s kept.lists) (StandTogether pass s kept.lists)
        (λ f g h. h) (left_on sets left left kept.lists stand (λ l c. c)) (λ f g h. inl h) under.fields;
    sets = under.sets;
    pairs = under.pairs;
  }

  dropped_last : (sets : Sets) (kept : Kept) → SetsStand sets kept.lists → (o : MeantOperation Place) (left : List (List ReadSet)) → AreUnderWay d pass s o [] (read_sets sets ∷ left) kept → AreUnderWay d pass s o [] (left ++ []) kept
  dropped_last sets kept stand o left under = subst (λ l. AreUnderWay d pass s o [] l kept) (sym (append-nil left)) (dropped sets kept stand o left under)

  -- ---- pairs that are done

  abbrev pub DoneIn : Kept → ReadSet → ReadSet → Type 0
  DoneIn kept a b = IsPairDone (ReadOwn d) (ReadSpreads d) (ReadTogether pass s) (AreInOne kept.lists) (AreLookedAt kept.looked) a b

  pub looked_more : (old new : List (List ReadSet)) → HasMore old new → (a b : ReadSet) → AreLookedAt old a b → AreLookedAt new a b
  looked_more old new more a b h = (h.0, (more h.0 h.1.0, h.1.1))

  pub done_more : (old new : Kept) → HasMore old.lists new.lists → HasMore old.looked new.looked → (a b : ReadSet) → DoneIn old a b → DoneIn new a b
  done_more old new lists looked a b h = record {
    own = λ x y p q t. stand_more old.lists new.lists lists x y (h.own x y p q t);
    one = λ c k. looked_more old.looked new.looked looked c b (h.one c k);
    other = λ c k. looked_more old.looked new.looked looked a c (h.other c k);
  }

  -- with more lists
  pub pairs_stay : (twos : List (List ReadSet)) (old : Kept) (lists : List (List ReadField)) → HasMore old.lists lists → PairsAreDone d pass s twos old → PairsAreDone d pass s twos (record old { lists = lists })
  pairs_stay twos old lists more ok a b h = elim (ok a b h) [ inl left ↦ inl left | inr done ↦ inr (done_more old (record old { lists = lists }) more (λ l c. c) a b done) ]

  -- ---- a list of fields

  module _ (list : List Member) (next : List Sets) (h : ListExamined pass s d list [] next) where
    -- their sets are in one of the next lists
    below_both : (f g : StandingField Place) → HaveBoth next f g → (x y : ReadField) → ReadBelow d (field_read f) x → ReadBelow d (field_read g) y → IsLeft d (all_read next) x y
    below_both f g (inl bare) x y a b = absurd (bare_reads (fragments_read d) f.set bare x a)
    below_both f g (inr (inl bare)) x y a b = absurd (bare_reads (fragments_read d) g.set bare y b)
    below_both f g (inr (inr (vs, (c, (v, w))))) x y a b = (
      read_sets vs,
      (
        contains_map read_sets next vs c,
        ((list_read f.set, (v, (selects_listed (fragments_read d) f.set x).0 a)), (list_read g.set, (w, (selects_listed (fragments_read d) g.set y).0 b))),
      ),
    )

    -- what is told of two of its fields that go together
    abbrev IsTwoFresh : ReadField → ReadField → Type 0
    IsTwoFresh x y = ReadTogether pass s x y → ReadAgree pass s x y × ((u v : ReadField) → ReadBelow d x u → ReadBelow d y v → IsLeft d (all_read next) u v)

    fresh_fields : (f g : StandingField Place) → Contains (fields_of list) f → Contains (fields_of list) g → IsTwoFresh (field_read f) (field_read g)
    fresh_fields f g in_f in_g t =
        let shared = h.are.covered f g in_f in_g ((together_read pass s f g).1 t) in (
          (agree_read pass s f g).0 (by_head (ContentBelow d) (Together pass s) (Agree pass s) (agree_sym pass s) (agree_trans pass s) shared.0 f g (h.examined.agree refl shared.0 shared.1.0) shared.1.1.0 shared.1.1.1),
          below_both f g (h.examined.below shared.0 shared.1.0 f g shared.1.1.0 shared.1.1.1),
        )

    -- where nothing is told, it is fresh, in whatever order it is kept
    pub list_fresh : (kept : List ReadField) → HaveSame (contents_of list) kept → IsFresh pass s d (all_read next) kept
    list_fresh kept same x y a b =
        let f = contains_unmap field_read (fields_of list) x ((same x).1 a) in
        let g = contains_unmap field_read (fields_of list) y ((same y).1 b) in
        subst (λ v. IsTwoFresh v y) f.1.1 (subst (IsTwoFresh (field_read f.0)) g.1.1 (fresh_fields f.0 g.0 f.1.0 g.1.0))

  -- ---- a list of fields that is new

  module _ (sets : Sets) (list : List Member) (kept : List ReadField) (next : List Sets) (old : Kept) (now : List (List ReadField)) (merged : IsMergedIn d sets list) (same : HaveSame (contents_of list) kept)
      (order : IsPermutation (kept ∷ old.lists) now) (h : ListExamined pass s d list [] next) where
    stand_selected : SetsStand sets now
    stand_selected x y a b t = (
      kept,
      (
        one_there kept old.lists now order,
        ((same x).0 (in_merged sets list merged x a), (same y).0 (in_merged sets list merged y b)),
      ),
    )

    new_settles : Settles old (record old { lists = now }) (sets ∷ []) next
    new_settles o left under = (
      record {
        fields = moved_lists o (IsLeft d (read_sets sets ∷ left)) (IsLeft d (left ++ all_read next)) old.lists now (more_there kept old.lists now order)
            (left_on sets left (left ++ all_read next) now stand_selected (λ l c. Contains-append_left left (all_read next) l c))
            (λ f g k. elim (there_before kept old.lists now order k.0 k.1.0) [
              | inl e ↦ inr (λ t.
                  let fresh = list_fresh list next h kept same f g (subst (λ (l : List ReadField). Contains l f) (sym e) k.1.1.0) (subst (λ (l : List ReadField). Contains l g) (sym e) k.1.1.1) t in
                  (fresh.0, λ x y p q. left_wider (all_read next) (left ++ all_read next) (λ l c. Contains-append_right left (all_read next) l c) x y (fresh.1 x y p q)))
              | inr r ↦ inl (k.0, (r, k.1.1))
            ])
            under.fields;
        sets = λ vs c x y a b. together_more old.lists now (more_there kept old.lists now order) x y (under.sets vs c x y a b);
        pairs = pairs_stay [] old now (more_there kept old.lists now order) under.pairs;
      },
      all_of_one sets now stand_selected,
    )

  pub new_fields : (sets : Sets) (list : List Member) (kept : List ReadField) (added : List (Broken Place)) (next : List Sets) (old new : Kept) → IsMergedIn d sets list → HaveSame (contents_of list) kept
      → ListExamined pass s d list added next → IsPermutation (kept ∷ old.lists) new.lists → new ≡ record old { lists = new.lists } → SetsExamined pass s d (sets ∷ []) old new added next
  new_fields sets list kept added next old new merged same h order is = record {
    right = λ fault c.
        let t = h.examined.right fault c in
        let w = h.are.within t.0 t.1.1.0 t.1.1.1.0 t.1.0 t.1.1.1.1.0 t.1.1.1.1.1.0 in
        let v = h.are.within t.0 t.1.1.1.0 t.1.1.0 t.1.0 t.1.1.1.1.1.0 t.1.1.1.1.0 in
        (sets, (Contains-first sets [] sets refl, (t.1.1.0, (t.1.1.1.0, (merged.within t.1.1.0 w.0, (merged.within t.1.1.1.0 v.0, (w.1, t.1.1.1.1.1.1)))))));
    under = λ vs c.
        let u = h.examined.under vs c in
        (sets, (Contains-first sets [] sets refl, (u.0, ((λ f g a b. let w = h.are.within u.0 f g u.1.0 a b in (merged.within f w.0, w.1)), u.1.1))));
    more = more_there kept old.lists new.lists order;
    settled = λ e o left under.
        let whole : ListExamined pass s d list [] next = subst (λ a. ListExamined pass s d list a next) e h in
        subst (λ (k : Kept). AreUnderWay d pass s o [] (left ++ all_read next) k × AllStand d pass s (all_read (sets ∷ [])) k.lists) (sym is) (new_settles sets list kept next old new.lists merged same order whole o left under);
  }

  -- a list of fields of which one with the same members is known, or that has none
  pub known_fields : (sets : Sets) (list : List Member) (old new : Kept) → IsMergedIn d sets list → Remembers old (contents_of list) false new → SetsExamined pass s d (sets ∷ []) old new [] []
  known_fields sets list old new merged (known, is) = record {
    right = λ fault c. not_in_nil fault c;
    under = λ vs c. not_in_nil vs c;
    more = λ l c. subst (λ (k : Kept). Contains k.lists l) (sym is) c;
    settled = λ e o left under.
        subst (λ (k : Kept). AreUnderWay d pass s o [] (left ++ []) k × AllStand d pass s (all_read (sets ∷ [])) k.lists) (sym is)
        (dropped_last sets old (stand known) o left under, all_of_one sets old.lists (stand known));
  }
    where
      stand : (contents_of list ≡ []) ⊎ ((l : List ReadField) × (Contains old.lists l × HaveSame l (contents_of list))) → SetsStand sets old.lists
      stand (inl none) x y a b t = not_in_nil x (subst (λ l. Contains l x) none (in_merged sets list merged x a))
      stand (inr (l, (there, same))) x y a b t = (l, (there, ((same x).1 (in_merged sets list merged x a), (same y).1 (in_merged sets list merged y b))))

  -- sets with the same members select the same
  selected_same : (vs ws : List ReadSet) → HaveSame vs ws → (x : ReadField) → ReadSelected d vs x → ReadSelected d ws x
  selected_same vs ws same x h = (h.0, ((same h.0).0 h.1.0, h.1.1))

  -- sets that were looked at, or none
  pub known_sets : (sets : Sets) (old new : Kept) → (read_sets sets ≡ []) ⊎ HasLooked old.expanded (read_sets sets) → new ≡ old → SetsExamined pass s d (sets ∷ []) old new [] []
  known_sets sets old new known is = record {
    right = λ fault c. not_in_nil fault c;
    under = λ vs c. not_in_nil vs c;
    more = λ l c. subst (λ (k : Kept). Contains k.lists l) (sym is) c;
    settled = λ e o left under.
        subst (λ (k : Kept). AreUnderWay d pass s o [] (left ++ []) k × AllStand d pass s (all_read (sets ∷ [])) k.lists) (sym is)
        (dropped_last sets old (stand known under.sets) o left under, all_of_one sets old.lists (stand known under.sets));
  }
    where
      stand : (read_sets sets ≡ []) ⊎ HasLooked old.expanded (read_sets sets) → AllStand d pass s old.expanded old.lists → SetsStand sets old.lists
      stand (inl none) all x y a b = not_in_nil a.0 (subst (λ l. Contains l a.0) none a.1.0)
      stand (inr (l, (there, same))) all x y a b =
          let back = same_sym l (read_sets sets) same in
          all l there x y (selected_same (read_sets sets) l back x a) (selected_same (read_sets sets) l back y b)

  -- sets that were examined apart from those that were looked at before come to these
  then_looked : (sets : Sets) (kept : List ReadSet) (old mid new : Kept) (now : List (List ReadSet)) (added : List (Broken Place)) (next : List Sets) → HaveSame (read_sets sets) kept
      → IsPermutation (kept ∷ old.expanded) now → SetsExamined pass s d (sets ∷ []) (record old { expanded = [] }) mid added next → new ≡ record mid { expanded = now } → SetsExamined pass s d (sets ∷ []) old new added next
  then_looked sets kept old mid new now added next same order h is = record {
    right = h.right;
    under = h.under;
    more = λ l c. subst (λ (k : Kept). Contains k.lists l) (sym is) (h.more l c);
    settled = λ e o left under.
        let apart : AreUnderWay d pass s o [] (read_sets sets ∷ left) (record old { expanded = [] }) = record { fields = under.fields; sets = λ vs c. not_in_nil vs c; pairs = under.pairs } in
        let r = h.settled e o left apart in
        let back = same_sym (read_sets sets) kept same in
        subst (λ (k : Kept). AreUnderWay d pass s o [] (left ++ all_read next) k × AllStand d pass s (all_read (sets ∷ [])) k.lists) (sym is) (
          record {
            fields = r.0.fields;
            sets = λ vs c. elim (there_before kept old.expanded now order vs c) [
              | inl e ↦ subst (λ (l : List ReadSet). (x y : ReadField) → ReadSelected d l x → ReadSelected d l y → StandTogether pass s mid.lists x y) e
                  (λ x y i j. r.1 (read_sets sets) (Contains-first (read_sets sets) [] (read_sets sets) refl) x y (selected_same kept (read_sets sets) back x i) (selected_same kept (read_sets sets) back y j))
              | inr b ↦ λ x y i j. together_more old.lists mid.lists h.more x y (under.sets vs b x y i j)
            ];
            pairs = r.0.pairs;
          },
          r.1,
        );
  }

  -- ---- lists, one after the other

  pub no_lists : (old : Kept) → SetsExamined pass s d [] old old [] []
  no_lists old = record {
    right = λ fault c. not_in_nil fault c;
    under = λ vs c. not_in_nil vs c;
    more = λ l c. c;
    settled = λ e o left under. (subst (λ l. AreUnderWay d pass s o [] l old) (sym (append-nil left)) under, λ vs c. not_in_nil vs c);
  }

  lists_more : (lists others : List Sets) (old mid new : Kept) (added more : List (Broken Place)) (next below : List Sets)
      → SetsExamined pass s d lists old mid added next → SetsExamined pass s d others mid new more below → SetsExamined pass s d (lists ++ others) old new (added ++ more) (next ++ below)
  lists_more lists others old mid new added more next below first then' = record {
    right = λ fault c. elim (Contains-append_cases added more fault c) [
      | inl a ↦ let t = first.right fault a in (t.0, (Contains-append_left lists others t.0 t.1.0, t.1.1))
      | inr b ↦ let t = then'.right fault b in (t.0, (Contains-append_right lists others t.0 t.1.0, t.1.1))
    ];
    under = λ l c. elim (Contains-append_cases next below l c) [
      | inl a ↦ let u = first.under l a in (u.0, (Contains-append_left lists others u.0 u.1.0, u.1.1))
      | inr b ↦ let u = then'.under l b in (u.0, (Contains-append_right lists others u.0 u.1.0, u.1.1))
    ];
    more = λ l c. then'.more l (first.more l c);
    settled = λ e o left under.
        let begin : AreUnderWay d pass s o [] (all_read lists ++ (all_read others ++ left)) old =
        subst (λ l. AreUnderWay d pass s o [] l old) (ap (λ l. l ++ left) (map-append read_sets lists others) ∙ append_assoc (all_read lists) (all_read others) left) under in
        let half = first.settled (left_empty added more e) o (all_read others ++ left) begin in
        let last = then'.settled (right_empty added more e) o (left ++ all_read next)
        (subst (λ l. AreUnderWay d pass s o [] l mid) (append_assoc (all_read others) left (all_read next)) half.0) in (
          subst (λ l. AreUnderWay d pass s o [] l new) (append_assoc left (all_read next) (all_read below) ∙ ap (λ l. left ++ l) (sym (map-append read_sets next below))) last.0,
          λ vs c. elim (Contains-append_cases (all_read lists) (all_read others) vs (subst (λ l. Contains l vs) (map-append read_sets lists others) c)) [
            | inl a ↦ λ x y i j. together_more mid.lists new.lists then'.more x y (half.1 vs a x y i j)
            | inr b ↦ last.1 vs b
          ],
        );
  }

  -- the same of breaches and lists as they stand before and after
  abbrev pub SetsTold : List (Broken Place) → List (Broken Place) → Kept → Kept → List Sets → List Sets → List Sets → Type 0
  SetsTold told later old new next last lists = (added : List (Broken Place)) × ((below : List Sets) × ((later ≡ told ++ added) × ((last ≡ next ++ below) × SetsExamined pass s d lists old new added below)))

  pub none_told : (told : List (Broken Place)) (old : Kept) (next : List Sets) → SetsTold told told old old next next []
  none_told told old next = ([], ([], (sym (append-nil told), (sym (append-nil next), no_lists old))))

  pub lists_step : (told mid later : List (Broken Place)) (next between last : List Sets) (lists others : List Sets) (old half new : Kept)
      → SetsTold told mid old half next between lists → SetsTold mid later half new between last others → SetsTold told later old new next last (lists ++ others)
  lists_step told mid later next between last lists others old half new (a, (n, (is, (lies, so_far)))) (b, (m, (is_too, (lies_too, here)))) = (
    a ++ b,
    (
      n ++ m,
      (
        is_too ∙ ap (λ l. l ++ b) is ∙ append_assoc told a b,
        (lies_too ∙ ap (λ l. l ++ m) lies ∙ append_assoc next n m, lists_more lists others old half new a b n m so_far here),
      ),
    ),
  )

  -- the same lists told of otherwise
  pub told_so : (told later : List (Broken Place)) (old new : Kept) (next last : List Sets) (lists others : List Sets) (former later' : Kept)
      → ((added : List (Broken Place)) (below : List Sets) → SetsExamined pass s d lists former later' added below → SetsExamined pass s d others old new added below)
      → SetsTold told later former later' next last lists → SetsTold told later old new next last others
  told_so told later old new next last lists others former later' so (a, (n, (is, (lies, h)))) = (a, (n, (is, (lies, so a n h))))

  -- ---- steps of the program

  -- sets that are new are remembered, once they are examined
  pub looked_then : (sets : Sets) (old mid : Kept) (now : List (List ReadSet)) (told later : List (Broken Place)) (next last : List Sets) → Expands old.expanded (read_sets sets) true now
      → SetsTold told later (record old { expanded = [] }) mid next last (sets ∷ []) → SetsTold told later old (record mid { expanded = now }) next last (sets ∷ [])
  looked_then sets old mid now told later next last (kept, (same, order)) h = told_so told later old (record mid { expanded = now }) next last (sets ∷ []) (sets ∷ []) (record old { expanded = [] }) mid
      (λ added below k. then_looked sets kept old mid (record mid { expanded = now }) now added below same order k refl) h

  -- sets that are known stay as they are
  pub looked_before : (sets : Sets) (old : Kept) (now : List (List ReadSet)) (told : List (Broken Place)) (next : List Sets) → Expands old.expanded (read_sets sets) false now
      → SetsTold told told old (record old { expanded = now }) next next (sets ∷ [])
  looked_before sets old now told next (known, is) = ([], ([], (sym (append-nil told), (sym (append-nil next), known_sets sets old (record old { expanded = now }) known (ap (λ l. record old { expanded = l }) is)))))

  -- ---- sets with no fields

  pub none_here : (sets : Sets) (list : List Member) → IsMergedIn d sets list → list ≡ [] → HaveFields d false (sets ∷ [])
  none_here sets list merged empty vs c x h =
      not_in_nil (field_read x) (subst (λ l. Contains (contents_of l) (field_read x)) empty (merged.covers x (subst (λ (l : Sets). IsSelected d l x) (only sets vs c) h)))

  pub some_here : (sets : Sets) (list : List Member) → IsPartOfMergedIn d sets list → (x : Member) × Contains list x → HaveFields d true (sets ∷ [])
  some_here sets list part (x, c) = (sets, (Contains-first sets [] sets refl, (field_of x, part.within (field_of x) (contains_map field_of list x c))))

  pub none_more : (front : List Sets) (sets : Sets) → HaveFields d false front → HaveFields d false (sets ∷ []) → HaveFields d false (front ++ sets ∷ [])
  none_more front sets none here vs c x h = elim (Contains-append_cases front (sets ∷ []) vs c) [ inl a ↦ none vs a x h | inr b ↦ here vs b x h ]

  pub some_there : (lists : List Sets) (sets : Sets) → Contains lists sets → HaveFields d true (sets ∷ []) → HaveFields d true lists
  some_there lists sets there (vs, (c, has)) = (vs, (subst (Contains lists) (sym (only sets vs c)) there, has))

  -- ---- levels

  module _ (o : MeantOperation Place) where
    -- fields that sets select
    abbrev IsWithin : Sets → List (StandingField Place) → Type 0
    IsWithin sets list = (x : StandingField Place) → Contains list x → IsSelected d sets x

    -- chains of this length lead to what each list of a level selects
    pub record AtLevel (k : ℕ) (level : List Sets) : Type 0 where
      pub going : (sets : Sets) → Contains level sets → (list : List (StandingField Place)) → IsWithin sets list → IsGoing (ContentBelow d) (ContentStarts d o) (Together pass s) list
      pub ends : (sets : Sets) → Contains level sets → (list : List (StandingField Place)) → IsWithin sets list → IsEndOf (ContentBelow d) (ContentStarts d o) k list

    below_of : (group list : List (StandingField Place)) (sets : Sets) → AreOf group sets → IsWithin sets list → (x : StandingField Place) → Contains list x → (f : StandingField Place) × (Contains group f × ContentBelow d f x)
    below_of group list sets of within x c =
        let v = within x c in
        let f = of v.0 v.1.0 in
        (f.0, (f.1.0, subst (λ w. IsIn d w x) (sym f.1.1) v.1.1))

    level_next : (k : ℕ) (level : List Sets) (old new : Kept) (added : List (Broken Place)) (next : List Sets)
        → AtLevel k level → SetsExamined pass s d level old new added next → AtLevel (k + 1) next
    level_next k level old new added next at h = record {
      going = λ sets c list within.
          let u = h.under sets c in
          let group = u.1.1.0 in
          let together = u.1.1.1.0 in
          going_below (ContentBelow d) (ContentStarts d o) (Together pass s) group group list (at.going u.0 u.1.0 group (λ f a. (together f f a a).0))
          (λ f g a b. (a, (together f g a b).1)) (below_of group list sets u.1.1.1.1 within);
      ends = λ sets c list within.
          let u = h.under sets c in
          let group = u.1.1.0 in
          end_below (ContentBelow d) (ContentStarts d o) k group list (at.ends u.0 u.1.0 group (λ f a. (u.1.1.1.0 f f a a).0)) (below_of group list sets u.1.1.1.1 within);
    }

    breaks : (p : Pass) (list : List (StandingField Place)) (f g : StandingField Place) (fault : Broken Place) → IsGoing (ContentBelow d) (ContentStarts d o) (Together p s) list
        → Contains list f → Contains list g → Together p s f g → Conflict p s fault f g → BreaksAtLater s d o fault
    breaks Shapes list f g fault going a b t (differ, (is, later)) = subst (BreaksAtLater s d o) (sym is) ((going_breaks s d o list f g a b).0 going t differ, later)
    breaks Selections list f g fault going a b t (inl (differ, (is, later))) = subst (BreaksAtLater s d o) (sym is) ((going_breaks s d o list f g a b).1.0 going t differ, later)
    breaks Selections list f g fault going a b t (inr (n, (differ, (is, later)))) = subst (BreaksAtLater s d o) (sym is) ((going_breaks s d o list f g a b).1.1 going t n differ, later)

    -- as far as levels were examined
    pub record SoFar (start now : Kept) (length : ℕ) (added : List (Broken Place)) (level : List Sets) : Type 0 where
      pub at : AtLevel (length + 1) level
      pub right : (fault : Broken Place) → Contains added fault → BreaksAtLater s d o fault
      pub settled : added ≡ [] → AreSettled d pass s start → AreUnderWay d pass s o [] (all_read level) now

    -- what starts is what the first set selects
    starting : (start : MeantSet Place) → o.set ≡ start → (sets : Sets) → Contains ((start ∷ []) ∷ []) sets → (x : StandingField Place) → IsSelected d sets x → ContentStarts d o x
    starting start is sets c x h =
        let v = subst (λ (l : Sets). Contains l h.0) (only (start ∷ []) sets c) h.1.0 in
        subst (λ w. IsIn d w x) (only start h.0 v ∙ sym is) h.1.1

    start_left : (start : MeantSet Place) → o.set ≡ start → StartsStand (ReadStarts d o) (IsLeft d (all_read ((start ∷ []) ∷ [])))
    start_left start is f g a b = (read_sets (start ∷ []), (Contains-first (read_sets (start ∷ [])) [] (read_sets (start ∷ [])) refl, (selects f a, selects g b)))
      where
        selects : (y : ReadField) → ReadStarts d o y → ReadSelected d (read_sets (start ∷ [])) y
        selects y p = (list_read o.set, (Contains-first (list_read start) [] (list_read o.set) (sym (ap list_read is)), (selects_listed (fragments_read d) o.set y).0 p))

    pub first_level : (start : MeantSet Place) (old : Kept) → o.set ≡ start → SoFar old old 0 [] ((start ∷ []) ∷ [])
    first_level start old is = record {
      at = record {
        going = λ sets c list within. going_start (ContentBelow d) (ContentStarts d o) (Together pass s) list (λ f a. starting start is sets c f (within f a));
        ends = λ sets c list within. end_start (ContentBelow d) (ContentStarts d o) list (λ f a. starting start is sets c f (within f a));
      };
      right = λ fault c. not_in_nil fault c;
      settled = λ e ok. record {
        fields = begun (ReadBelow d) (ReadTogether pass s) (ReadAgree pass s) (ReadStarts d o) (IsLeft d (all_read ((start ∷ []) ∷ []))) (StandTogether pass s old.lists) (start_left start is) ok.fields;
        sets = ok.sets;
        pairs = ok.pairs;
      };
    }

    within_two : (sets : Sets) (f g : StandingField Place) → IsSelected d sets f → IsSelected d sets g → IsWithin sets (f ∷ g ∷ [])
    within_two sets f g a b x c = elim (Contains-cons f (g ∷ []) x c) [
      | inl e ↦ subst (IsSelected d sets) e a
      | inr r ↦ subst (IsSelected d sets) (sym (only g x r)) b
    ]

    next_level : (start old new : Kept) (length : ℕ) (added more : List (Broken Place)) (level next : List Sets)
        → SoFar start old length added level → SetsExamined pass s d level old new more next → SoFar start new (length + 1) (added ++ more) next
    next_level start old new length added more level next so_far h = record {
      at = level_next (length + 1) level old new more next so_far.at h;
      right = λ fault c. elim (Contains-append_cases added more fault c) [
        | inl a ↦ so_far.right fault a
        | inr b ↦
            let t = h.right fault b in
            let f = t.1.1.0 in
            let g = t.1.1.1.0 in
            breaks pass (f ∷ g ∷ []) f g fault (so_far.at.going t.0 t.1.0 (f ∷ g ∷ []) (within_two t.0 f g t.1.1.1.1.0 t.1.1.1.1.1.0))
            (Contains-first f (g ∷ []) f refl) (Contains-rest f (g ∷ []) g (Contains-first g [] g refl)) t.1.1.1.1.1.1.0 t.1.1.1.1.1.1.1
      ];
      settled = λ e ok.
          (h.settled (right_empty added more e) o []
          (subst (λ l. AreUnderWay d pass s o [] l old) (sym (append-nil (all_read level))) (so_far.settled (left_empty added more e) ok))).0;
    }

    pub level_step : (told mid later : List (Broken Place)) (start old new : Kept) (length : ℕ) (level next : List Sets)
        → ((added : List (Broken Place)) × ((mid ≡ told ++ added) × SoFar start old length added level))
        → ((added : List (Broken Place)) × ((below : List Sets) × ((later ≡ mid ++ added) × ((next ≡ [] ++ below) × SetsExamined pass s d level old new added below))))
        → (added : List (Broken Place)) × ((later ≡ told ++ added) × SoFar start new (length + 1) added next)
    level_step told mid later start old new length level next (a, (is, so_far)) (b, (m, (is_too, (lies, here)))) = (
      a ++ b,
      (
        is_too ∙ ap (λ l. l ++ b) is ∙ append_assoc told a b,
        subst (SoFar start new (length + 1) (a ++ b)) (sym lies) (next_level start old new length a b level m so_far here),
      ),
    )

    -- where no list of sets selects a field, none is left to look at
    none_left : (level : List Sets) → HaveFields d false level → (x y : ReadField) → IsLeft d (all_read level) x y → ⊥
    none_left level none x y h =
        let sets = contains_unmap read_sets level h.0 h.1.0 in
        let e = reads_selected d sets.0 x (subst (λ (l : List ReadSet). ReadSelected d l x) (sym sets.1.1) h.1.1.0) in
        none sets.0 sets.1.0 e.0 e.1.0

    pub no_more_levels : (start now : Kept) (length : ℕ) (added : List (Broken Place)) (level : List Sets) (left : Bool)
        → SoFar start now length added level → HaveFields d left level → ((sets : Sets) → Contains level sets → chain_bound ≤ length) → AllExamined pass s d o start now added left
    no_more_levels start now length added level true so_far some long = record {
      right = so_far.right;
      settled = λ e is. absurd (true≢false is);
      bound = λ is.
          let x = some.1.1.0 in
          let within : IsWithin some.0 (x ∷ []) = λ y c. subst (IsSelected d some.0) (sym (only x y c)) some.1.1.1 in
          bound_passed d o (length + 1) (x ∷ []) x (so_far.at.ends some.0 some.1.0 (x ∷ []) within) (Contains-first x [] x refl) (omega (arith, long some.0 some.1.0));
    }
    no_more_levels start now length added level false so_far none long = record {
      right = so_far.right;
      settled = λ e is ok.
          let under = so_far.settled e ok in
          let all = ended (ReadBelow d) (ReadTogether pass s) (ReadAgree pass s) (ReadStarts d o) (IsLeft d (all_read level)) (StandTogether pass s now.lists) (none_left level none) under.fields in
          (record { fields = all.0; sets = under.sets; pairs = under.pairs }, all.1);
      bound = λ is. absurd (true≢false (sym is));
    }
