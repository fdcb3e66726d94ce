-- Fields of two sets that are looked at together: two by two they are compared.
use Rattle.std.proofs.Common.{◌≡◌, ◌⊎◌, ◌∙◌, ℕ, ◌+◌, ◌<◌, ◌==◌, Bool, true, false, cond, List, [], ◌∷◌, ◌++◌, take, length, get_or, Contains, true≢false, refl, sym, ap, subst, append_assoc, append-nil, arith, inl, inr}
use Rattle.std.proofs.lemmas.Bool.Decides.{Decides-eqb}
use Rattle.std.proofs.lemmas.List.{length-append, length-map, map-append}
use Rattle.std.proofs.lemmas.List.Elements.{Contains-append_left, Contains-append_right, Contains-append_cases}
use Rattle.graphql_names.specs.Placed.{Place}
use Rattle.rule_field_groups.proofs.in_components.Places.{Contains-rest}
use Rattle.rule_field_groups.proofs.in_definitions.Lists.{not_in_nil, only, Contains-cons, Contains-first}
use Rattle.rule_field_groups.specs.in_spec_document.MeantTree.{MeantDocument}
use Rattle.rule_field_groups.specs.in_definitions.Judged.{Judged}
use Rattle.rule_field_groups.specs.in_document_definitions.DocumentFaults.{Broken}
use Rattle.rule_field_groups.specs.in_document_definitions.Selected.{StandingField}
use Rattle.rule_field_groups.specs.in_sets.in_reach.Broken.{broken_of, brokens_of}
use Rattle.rule_field_groups.specs.Members.{field_of, fields_of, content_of, contents_of_two, contents_of, read_sets, AreMembersOf}
use Rattle.rule_field_groups.specs.in_sets.declared.member.Member.{Member}
use Rattle.rule_field_groups.specs.in_sets.declared.field_sets.FieldSets.{FieldSets}
use Rattle.rule_field_groups.specs.in_sets.Nodes.{HasMember}
use Rattle.rule_field_groups.specs.declared.pass.Pass.{Pass}
use Rattle.rule_field_groups.specs.Passes.{Together}
use Rattle.rule_field_groups.proofs.Lists.{taken_more}
use Rattle.list_interner.specs.NumberLists.{HaveSame}
use Rattle.rule_field_groups.specs.in_document_definitions.ReadFields.{ReadField, ReadSet}
use Rattle.rule_field_groups.specs.in_document_definitions.Settled.{AreInOne}
use Rattle.rule_field_groups.specs.MergeState.{Kept, Remembers}
use Rattle.rule_merging.specs.Examined.{Sets, Breaches, all_read, IsFresh, ListExamined}
use Rattle.rule_merging.specs.Twos.{TwoFields, are_two, IsListOf, IsListOfTwo, both_of, GoTogether, FieldsPaired}
use Rattle.rule_merging.proofs.Examining.{left_empty, right_empty, more_there, one_there, there_before, stand_more, left_wider, list_fresh, HasMore}

-- where more is told, something is added
pub more_told : {X : Type 0} (told later added : List X) → later ≡ told ++ added → added ≡ [] → length told < length later → ⊥
more_told told later added is none longer = omega (arith, ap length is, length-append told added, ap length none, longer)

-- so it is of breaches
pub brokens_long : (old new : Breaches) → length old.items < length new.items → length (brokens_of old) < length (brokens_of new)
brokens_long old new longer = omega (arith, longer, length-map old.items broken_of, length-map new.items broken_of)

module _ (pass : Pass) (s : Judged) (d : MeantDocument Place) where
  plain_left : (left more : List Sets) → HasMore (all_read left) (all_read (left ++ more))
  plain_left left more l c = subst (λ (k : List (List ReadSet)). Contains k l) (sym (map-append read_sets left more)) (Contains-append_left (all_read left) (all_read more) l c)

  plain_right : (left more : List Sets) → HasMore (all_read more) (all_read (left ++ more))
  plain_right left more l c = subst (λ (k : List (List ReadSet)). Contains k l) (sym (map-append read_sets left more)) (Contains-append_right (all_read left) (all_read more) l c)

  -- ---- several, one after the other

  -- where all are in lists that were examined before
  abbrev pub AllStand : TwoFields → Kept → Type 0
  AllStand Wanted old = (p q : Member) → GoTogether pass s d Wanted p q → AreInOne old.lists (content_of p) (content_of q)

  paired_standing : (Wanted : TwoFields) (old : Kept) → AllStand Wanted old → FieldsPaired pass s d Wanted old old [] []
  paired_standing Wanted old all = record {
    right = λ fault c. not_in_nil fault c;
    under = λ sets c. not_in_nil sets c;
    same = refl;
    more = λ l c. c;
    stand = λ e. all;
    fresh = λ e l c. inl c;
  }

  -- said otherwise
  paired_as : (W W' : TwoFields) → ((p q : Member) → W p q → W' p q) → ((p q : Member) → W' p q → W p q) → (old new : Kept) (added : List (Broken Place)) (next : List Sets)
      → FieldsPaired pass s d W old new added next → FieldsPaired pass s d W' old new added next
  paired_as W W' to back old new added next h = record {
    right = λ fault c. let t = h.right fault c in (t.0, (t.1.0, (to t.0 t.1.0 t.1.1.0, t.1.1.1)));
    under = λ sets c. let u = h.under sets c in (u.0, (u.1.0, (to u.0 u.1.0 u.1.1.0, u.1.1.1)));
    same = h.same;
    more = h.more;
    stand = λ e p q w. h.stand e p q (back p q w.0, w.1);
    fresh = h.fresh;
  }

  -- up to the first that is told of
  paired_early : (W W' : TwoFields) → ((p q : Member) → W p q → W' p q) → (old new : Kept) (added : List (Broken Place)) (next : List Sets) → (added ≡ [] → ⊥)
      → FieldsPaired pass s d W old new added next → FieldsPaired pass s d W' old new added next
  paired_early W W' to old new added next some h = record {
    right = λ fault c. let t = h.right fault c in (t.0, (t.1.0, (to t.0 t.1.0 t.1.1.0, t.1.1.1)));
    under = λ sets c. let u = h.under sets c in (u.0, (u.1.0, (to u.0 u.1.0 u.1.1.0, u.1.1.1)));
    same = h.same;
    more = h.more;
    stand = λ e. absurd (some e);
    fresh = h.fresh;
  }

  paired_both : (W W' : TwoFields) (old mid new : Kept) (added more : List (Broken Place)) (next below : List Sets) → FieldsPaired pass s d W old mid added next → FieldsPaired pass s d W' mid new more below
      → FieldsPaired pass s d (λ p q. W p q ⊎ W' p q) old new (added ++ more) (next ++ below)
  paired_both W W' old mid new added more next below first then' = record {
    right = λ fault c. elim (Contains-append_cases added more fault c) [
      | inl a ↦ let t = first.right fault a in (t.0, (t.1.0, (inl t.1.1.0, t.1.1.1)))
      | inr b ↦ let t = then'.right fault b in (t.0, (t.1.0, (inr t.1.1.0, t.1.1.1)))
    ];
    under = λ sets c. elim (Contains-append_cases next below sets c) [
      | inl a ↦ let u = first.under sets a in (u.0, (u.1.0, (inl u.1.1.0, u.1.1.1)))
      | inr b ↦ let u = then'.under sets b in (u.0, (u.1.0, (inr u.1.1.0, u.1.1.1)))
    ];
    same = then'.same ∙ ap (λ (k : Kept). record k { lists = new.lists }) first.same;
    more = λ l c. then'.more l (first.more l c);
    stand = λ e p q w. elim w.0 [
      | inl v ↦ stand_more pass s d mid.lists new.lists then'.more (content_of p) (content_of q) (first.stand (left_empty added more e) p q (v, w.1))
      | inr v ↦ then'.stand (right_empty added more e) p q (v, w.1)
    ];
    fresh = λ e l c. elim (then'.fresh (right_empty added more e) l c) [
      | inl was ↦ elim (first.fresh (left_empty added more e) l was) [
        | inl before ↦ inl before
        | inr now ↦ inr (λ x y a b t. let f = now x y a b t in (f.0, λ u v p q. left_wider pass s d (all_read next) (all_read (next ++ below)) (plain_left next below) u v (f.1 u v p q)))
      ]
      | inr now ↦ inr (λ x y a b t. let f = now x y a b t in (f.0, λ u v p q. left_wider pass s d (all_read below) (all_read (next ++ below)) (plain_right next below) u v (f.1 u v p q)))
    ];
  }

  -- the same of breaches and lists as they stand before and after
  abbrev pub PairedTold : TwoFields → Kept → Kept → List (Broken Place) → List (Broken Place) → List Sets → List Sets → Type 0
  PairedTold Wanted old new told later next last = (added : List (Broken Place)) × ((below : List Sets) × ((later ≡ told ++ added) × ((last ≡ next ++ below) × FieldsPaired pass s d Wanted old new added below)))

  pub told_standing : (Wanted : TwoFields) (old : Kept) → AllStand Wanted old → (told : List (Broken Place)) (next : List Sets) → PairedTold Wanted old old told told next next
  told_standing Wanted old all told next = ([], ([], (sym (append-nil told), (sym (append-nil next), paired_standing Wanted old all))))

  pub told_none : (Wanted : TwoFields) → ((p q : Member) → GoTogether pass s d Wanted p q → ⊥) → (old : Kept) (told : List (Broken Place)) (next : List Sets) → PairedTold Wanted old old told told next next
  told_none Wanted none old told next = told_standing Wanted old (λ p q w. absurd (none p q w)) told next

  pub told_both : (W W' W'' : TwoFields) → ((p q : Member) → W p q ⊎ W' p q → W'' p q) → ((p q : Member) → W'' p q → W p q ⊎ W' p q)
      → (old mid new : Kept) (told half later : List (Broken Place)) (next between last : List Sets)
      → PairedTold W old mid told half next between → PairedTold W' mid new half later between last → PairedTold W'' old new told later next last
  told_both W W' W'' to back old mid new told half later next between last (a, (n, (is, (lies, first)))) (b, (m, (is_too, (lies_too, then')))) = (
    a ++ b,
    (
      n ++ m,
      (
        is_too ∙ ap (λ l. l ++ b) is ∙ append_assoc told a b,
        (
          lies_too ∙ ap (λ l. l ++ m) lies ∙ append_assoc next n m,
          paired_as (λ p q. W p q ⊎ W' p q) W'' to back old new (a ++ b) (n ++ m) (paired_both W W' old mid new a b n m first then'),
        ),
      ),
    ),
  )

  pub told_early : (W W' : TwoFields) → ((p q : Member) → W p q → W' p q) → (old new : Kept) (told later : List (Broken Place)) (next last : List Sets) → length told < length later
      → PairedTold W old new told later next last → PairedTold W' old new told later next last
  told_early W W' to old new told later next last longer (a, (n, (is, (lies, h)))) = (a, (n, (is, (lies, paired_early W W' to old new a n (λ none. more_told told later a is none longer) h))))

  -- ---- two fields

  module _ (one other : Member) where
    -- that do not go together
    pub paired_apart : (old : Kept) (told : List (Broken Place)) (next : List Sets) → (Together pass s (field_of one) (field_of other) → ⊥) → PairedTold (are_two one other) old old told told next next
    paired_apart old told next apart =
        told_none (are_two one other) (λ p q w. apart
        (subst (λ (x : Member). Together pass s (field_of x) (field_of other)) w.0.0 (subst (λ (y : Member). Together pass s (field_of p) (field_of y)) w.0.1 w.1))) old told next

    -- the list has both, and no more
    has_one : (list : List Member) → IsListOf one other list → Contains (contents_of list) (content_of one)
    has_one list (inl (e, is)) = subst (λ (l : List Member). Contains (contents_of l) (content_of one)) (sym is) (Contains-first (content_of one) [] (content_of one) refl)
    has_one list (inr (e, is)) = subst (λ (l : List Member). Contains (contents_of l) (content_of one)) (sym is) (Contains-first (content_of one) (content_of other ∷ []) (content_of one) refl)

    has_other : (list : List Member) → IsListOf one other list → Contains (contents_of list) (content_of other)
    has_other list (inl (e, is)) = subst (λ (l : List Member). Contains (contents_of l) (content_of other)) (sym is) (Contains-first (content_of one) [] (content_of other) e)
    has_other list (inr (e, is)) =
        subst (λ (l : List Member). Contains (contents_of l) (content_of other)) (sym is) (Contains-rest (content_of one) (content_of other ∷ []) (content_of other) (Contains-first (content_of other) [] (content_of other) refl))

    no_more : (list : List Member) → IsListOf one other list → (f : StandingField Place) → Contains (fields_of list) f → Contains (both_of one other) f
    no_more list (inl (e, is)) f c = Contains-first (field_of one) (field_of other ∷ []) f (sym (only (field_of one) f (subst (λ (l : List Member). Contains (fields_of l) f) is c)))
    no_more list (inr (e, is)) f c = subst (λ (l : List Member). Contains (fields_of l) f) is c

    these : (lists : List (List ReadField)) → AreInOne lists (content_of one) (content_of other) → (p q : Member) → GoTogether pass s d (are_two one other) p q → AreInOne lists (content_of p) (content_of q)
    these lists stand p q ((is, is_too), t) = subst (λ (x : Member). AreInOne lists (content_of x) (content_of q)) (sym is) (subst (λ (y : Member). AreInOne lists (content_of one) (content_of y)) (sym is_too) stand)

    -- that were compared before
    pub paired_known : (list : List Member) → IsListOf one other list → (old new : Kept) (told : List (Broken Place)) (next : List Sets)
        → Remembers old (contents_of list) false new → PairedTold (are_two one other) old new told told next next
    paired_known list two old new told next (had, is) = (
      [],
      (
        [],
        (
          sym (append-nil told),
          (
            sym (append-nil next),
            subst (λ (k : Kept). FieldsPaired pass s d (are_two one other) old k [] []) (sym is) (record {
              right = λ fault c. not_in_nil fault c;
              under = λ sets c. not_in_nil sets c;
              same = refl;
              more = λ l c. c;
              stand = λ e. these old.lists (stood had);
              fresh = λ e l c. inl c;
            }),
          ),
        ),
      ),
    )
      where
        stood : (contents_of list ≡ []) ⊎ ((known : List ReadField) × (Contains old.lists known × HaveSame known (contents_of list))) → AreInOne old.lists (content_of one) (content_of other)
        stood (inl none) = not_in_nil (content_of one) (subst (λ l. Contains l (content_of one)) none (has_one list two))
        stood (inr (known, (there, same))) = (known, (there, ((same (content_of one)).1 (has_one list two), (same (content_of other)).1 (has_other list two))))

    -- that are compared now
    pub paired_now : (list : List Member) → IsListOf one other list → (old new : Kept) (added : List (Broken Place)) (next : List Sets)
        → Remembers old (contents_of list) true new → ListExamined pass s d list added next → FieldsPaired pass s d (are_two one other) old new added next
    paired_now list two old new added next (none, (kept, (same, (order, (there, is))))) h = record {
      right = λ fault c.
          let t = h.examined.right fault c in
          let w = h.are.within t.0 t.1.1.0 t.1.1.1.0 t.1.0 t.1.1.1.1.0 t.1.1.1.1.1.0 in
          let v = h.are.within t.0 t.1.1.1.0 t.1.1.0 t.1.0 t.1.1.1.1.1.0 t.1.1.1.1.0 in
          (one, (other, ((refl, refl), (t.1.1.0, (t.1.1.1.0, (no_more list two t.1.1.0 w.0, (no_more list two t.1.1.1.0 v.0, (w.1, t.1.1.1.1.1.1))))))));
      under = λ vs c.
          let u = h.examined.under vs c in
          (one, (other, ((refl, refl), (u.0, ((λ f g a b. let w = h.are.within u.0 f g u.1.0 a b in (no_more list two f w.0, w.1)), u.1.1)))));
      same = is;
      more = more_there kept old.lists new.lists there;
      stand = λ e. these new.lists (kept, (one_there kept old.lists new.lists there, ((same (content_of one)).0 (has_one list two), (same (content_of other)).0 (has_other list two))));
      fresh = λ e l c. elim (there_before kept old.lists new.lists there l c) [
        | inl b ↦ inr (subst (IsFresh pass s d (all_read next)) b (list_fresh pass s d list next (subst (λ a. ListExamined pass s d list a next) e h) kept same))
        | inr a ↦ inl a
      ];
    }

-- ---- a list of two

-- equal numbers are equal contents, and a list by numbers is one by contents
pub by_contents : (one other : Member) (list : List Member) → ((one.number ≡ other.number) → content_of one ≡ content_of other) → (content_of one ≡ content_of other → one.number ≡ other.number)
    → IsListOfTwo one other list → IsListOf one other list
by_contents one other list to back (inl (e, is)) = inl (to e, is)
by_contents one other list to back (inr (e, is)) = inr ((λ same. e (back same)), is)

-- its members are members of nodes
pub members_of_two : (w : FieldSets) (one other : Member) (list : List Member) → HasMember w one → HasMember w other → IsListOfTwo one other list → AreMembersOf w list
members_of_two w one other list a b (inl (e, is)) m c = subst (HasMember w) (sym (only one m (subst (λ (l : List Member). Contains l m) is c))) a
members_of_two w one other list a b (inr (e, is)) m c = elim (Contains-cons one (other ∷ []) m (subst (λ (l : List Member). Contains l m) is c)) [
  | inl i ↦ subst (HasMember w) i a
  | inr r ↦ subst (HasMember w) (sym (only other m r)) b
]

-- what is read of it
pub read_of_two : (one other : Member) (list : List Member) → IsListOfTwo one other list → contents_of list ≡ contents_of_two one other
read_of_two one other list (inl (e, is)) = ap contents_of is ∙ sym (ap (λ (b : Bool). cond b (content_of one ∷ []) (content_of one ∷ content_of other ∷ [])) ((Decides-eqb one.number other.number).1 e))
read_of_two one other list (inr (e, is)) = ap contents_of is ∙ sym (ap (λ (b : Bool). cond b (content_of one ∷ []) (content_of one ∷ content_of other ∷ [])) (differ (one.number == other.number) (λ t. e ((Decides-eqb one.number other.number).0 t))))
  where
    differ : (b : Bool) → (b ≡ true → ⊥) → b ≡ false
    differ true never = absurd (never refl)
    differ false never = refl

-- some list of them
pub some_list : (one other : Member) → (list : List Member) × IsListOfTwo one other list
some_list one other = by (one.number == other.number) refl
  where
    by : (b : Bool) → (one.number == other.number) ≡ b → (list : List Member) × IsListOfTwo one other list
    by true e = (one ∷ [], inl ((Decides-eqb one.number other.number).0 e, refl))
    by false e = (one ∷ other ∷ [], inr ((λ same. true≢false (sym ((Decides-eqb one.number other.number).1 same) ∙ e)), refl))

-- fields of lists, one more
pub front_of : (xs : List Member) (i : ℕ) (x : Member) → i < length xs → x ≡ get_or xs i x → (p : Member) → Contains (take (i + 1) xs) p → Contains (take i xs) p ⊎ (p ≡ x)
front_of xs i x h e p c = elim (Contains-append_cases (take i xs) (x ∷ []) p (subst (λ (l : List Member). Contains l p) (taken_more xs i x h e) c)) [ inl a ↦ inl a | inr b ↦ inr (only x p b) ]

pub of_front : (xs : List Member) (i : ℕ) (x : Member) → i < length xs → x ≡ get_or xs i x → (p : Member) → Contains (take i xs) p ⊎ (p ≡ x) → Contains (take (i + 1) xs) p
of_front xs i x h e p (inl a) = subst (λ (l : List Member). Contains l p) (sym (taken_more xs i x h e)) (Contains-append_left (take i xs) (x ∷ []) p a)
of_front xs i x h e p (inr b) = subst (λ (l : List Member). Contains l p) (sym (taken_more xs i x h e)) (Contains-append_right (take i xs) (x ∷ []) p (Contains-first x [] p (sym b)))
