-- The lists of sets below the fields of one key.
use Rattle.std.proofs.Common.{◌≡◌, ◌⊎◌, ◌∙◌, ℕ, ◌+◌, ◌<◌, ◌==◌, true, false, List, [], ◌∷◌, ◌++◌, length, get_or, take, map, flat_map, Contains, refl, sym, ap, subst, inl, inr, append-nil, append_assoc, true≢false, arith, Vec, Global}
use Rattle.std.proofs.lemmas.Bool.Decides.{Decides-eqb}
use Rattle.std.proofs.lemmas.List.{map-append}
use Rattle.std.proofs.lemmas.List.Elements.{Contains-append_left, Contains-append_right, Contains-append_cases}
use Rattle.graphql_names.specs.Placed.{Place}
use Rattle.rule_selection_queries.proofs.in_definitions.in_schema_types.in_components.Places.{Contains-rest}
use Rattle.rule_selection_queries.proofs.in_definitions.Lists.{not_in_nil, only, Contains-cons, Contains-first, given_in}
use Rattle.rule_selection_queries.specs.in_spec_document.MeantTree.{MeantSet}
use Rattle.rule_selection_queries.specs.in_document_definitions.ReadFields.{list_read}
use Rattle.rule_selection_queries.specs.in_document_definitions.Selected.{StandingField}
use Rattle.rule_selection_queries.proofs.in_document_definitions.Unplaced.{contains_map, contains_unmap}
use Rattle.rule_field_sets.specs.Read.{set_at}
use Rattle.rule_field_sets.specs.declared.field_sets.FieldSets.{FieldSets}
use Rattle.rule_field_sets.specs.declared.member.Member.{Member}
use Rattle.rule_field_groups.specs.Members.{field_of, fields_of, meant_sets, read_sets, AreMembersOf}
use Rattle.rule_field_groups.specs.declared.groups.KeyGroup.{KeyGroup}
use Rattle.rule_field_groups.specs.Grouped.{ArePartsOf}
use Rattle.rule_field_groups.specs.KeyGroups.{with_own, own_lists, lists_in_group}
use Rattle.rule_field_groups.specs.Below.{IsBare, AreSetsOf, NotesSet}
use Rattle.rule_field_groups.specs.Under.{Sets, all_sets, joined, each_with, twos_of, JoinsSets, JoinsTwos, HaveAnyTwo, PutsTogether, AreOf, IsAmong, AreFurther, AddsFurther, AddsBelow, HaveBoth, BelowSoFar, JoinsEach, AreListsBelow, IsGroupOf}
use Rattle.rule_field_groups.proofs.Counts.{front_with, flat_push}
use Rattle.rule_field_groups.proofs.Filing.{of_filter}
use Rattle.rule_field_groups.proofs.Lists.{taken_more}
use Rattle.rule_field_groups.proofs.Sets.{among_more}
use Rattle.rule_field_groups.proofs.Parts.{part_of_shared, part_of_own, of_parts, own_fields_parts}

-- ---- groups of members

-- the lists of a group are of members where the list is of which they are parts
pub groups_of_members : (w : FieldSets) (list : List Member) (groups : List KeyGroup) → ArePartsOf list (flat_map lists_in_group groups) → AreMembersOf w list → (group : KeyGroup) → Contains groups group → IsGroupOf w group
groups_of_members w list groups parts are group there part c m k =
    let p = parts part (given_in lists_in_group part groups group there c) in
    are m (of_filter p.0 list m (subst (λ l. Contains l m) p.1 k)).0

-- those on abstract types
pub shared_members : (w : FieldSets) (group : KeyGroup) → IsGroupOf w group → AreMembersOf w group.shared.items
shared_members w group are = are group.shared.items (Contains-first group.shared.items (own_lists group) group.shared.items refl)

-- and those on each object type
pub own_members : (w : FieldSets) (group : KeyGroup) → IsGroupOf w group → (own : List Member) → Contains (own_lists group) own → AreMembersOf w own
own_members w group are own c = are own (Contains-rest group.shared.items (own_lists group) own c)

-- ---- further sets

further_none : (others : Sets) → AreFurther [] others []
further_none others = record { within = λ v c. not_in_nil v c; covers = λ f c. not_in_nil f c }

of_more : (field : StandingField Place) (fields : List (StandingField Place)) (sets : Sets) → AreOf fields sets → AreOf (fields ++ field ∷ []) sets
of_more field fields sets of v c = let f = of v c in (f.0, (Contains-append_left fields (field ∷ []) f.0 f.1.0, f.1.1))

-- one whose set says the same as another
pub further_known : (field : StandingField Place) (others sets : Sets) → IsAmong others field.set → AddsFurther field others sets sets
further_known field others sets there fields so_far = record {
  within = of_more field fields sets so_far.within;
  covers = λ f c. elim (Contains-append_cases fields (field ∷ []) f c) [
    | inl a ↦ so_far.covers f a
    | inr r ↦ inr (inl (subst (λ (x : StandingField Place). IsAmong others x.set) (sym (only field f r)) there))
  ];
}

-- one that is noted
pub further_noted : (field : StandingField Place) (others old new : Sets) → NotesSet field old new → AddsFurther field others old new
further_noted field others old new notes fields so_far = record {
  within = λ v c. elim (Contains-append_cases old notes.added v (subst (λ l. Contains l v) notes.is c)) [
    | inl a ↦ of_more field fields old so_far.within v a
    | inr b ↦ (field, (Contains-append_right fields (field ∷ []) field (Contains-first field [] field refl), notes.its v b))
  ];
  covers = λ f c. elim (Contains-append_cases fields (field ∷ []) f c) [
    | inl a ↦ elim (so_far.covers f a) [ inl bare ↦ inl bare | inr h ↦ elim h [ inl other ↦ inr (inl other) | inr there ↦ inr (inr (among_more old new notes (list_read f.set) there)) ] ]
    | inr r ↦ subst (λ (x : StandingField Place). IsBare x.set ⊎ (IsAmong others x.set ⊎ IsAmong new x.set)) (sym (only field f r)) (elim notes.there [ inl bare ↦ inl bare | inr there ↦ inr (inr there) ])
  ];
}

module _ (w : FieldSets) (others : Sets) where
  pub further_begun : (nodes : List ℕ) → nodes ≡ [] → AreFurther [] others (meant_sets w nodes)
  further_begun nodes e = subst (λ l. AreFurther [] others (meant_sets w l)) (sym e) (further_none others)

  pub further_step : (fields : List Member) (old new : List ℕ) (i : ℕ) (x : Member) → i < length fields → x ≡ get_or fields i x
      → AddsFurther (field_of x) others (meant_sets w old) (meant_sets w new) → AreFurther (fields_of (take i fields)) others (meant_sets w old) → AreFurther (fields_of (take (i + 1) fields)) others (meant_sets w new)
  further_step fields old new i x h e adds so_far =
      subst (λ l. AreFurther l others (meant_sets w new)) (sym (ap fields_of (taken_more fields i x h e) ∙ map-append field_of (take i fields) (x ∷ []))) (adds (fields_of (take i fields)) so_far)

-- ---- the lists

module _ {X : Type 0} where
  some_joined : (first then' : List X) (x : X) → Contains then' x → Contains (joined first then') (first ++ then')
  some_joined first [] x c = not_in_nil x c
  some_joined first (y ∷ ys) x c = Contains-first (first ++ y ∷ ys) [] (first ++ y ∷ ys) refl

  of_joined : (first then' xs : List X) → Contains (joined first then') xs → xs ≡ first ++ then'
  of_joined first [] xs c = not_in_nil xs c
  of_joined first (y ∷ ys) xs c = only (first ++ y ∷ ys) xs c

  -- one list more, or none
  pub joins_none : (first further : List X) (lists : List (List X)) → (length further == 0) ≡ true → lists ≡ lists ++ joined first further
  joins_none first [] lists e = sym (append-nil lists)
  joins_none first (x ∷ xs) lists e = absurd (omega (arith, (Decides-eqb (length (x ∷ xs)) 0).0 e))

  pub joins_some : (first further : List X) → (length further == 0) ≡ false → (old new : List (List X)) → new ≡ old ++ (first ++ further) ∷ [] → new ≡ old ++ joined first further
  joins_some first [] e old new is = absurd (true≢false (sym ((Decides-eqb 0 0).1 refl) ∙ e))
  joins_some first (x ∷ xs) e old new is = is

  -- each of the first ones with each of the others
  two_there : (first then' : List X) (v w : X) → Contains first v → Contains then' w → Contains (twos_of first then') (v ∷ w ∷ [])
  two_there first [] v w a b = not_in_nil w b
  two_there first (x ∷ xs) v w a b = elim (Contains-cons x xs w b) [
    | inl e ↦ Contains-append_left (each_with first x) (twos_of first xs) (v ∷ w ∷ []) (subst (λ y. Contains (each_with first y) (v ∷ w ∷ [])) (sym e) (contains_map (λ u. u ∷ w ∷ []) first v a))
    | inr r ↦ Contains-append_right (each_with first x) (twos_of first xs) (v ∷ w ∷ []) (two_there first xs v w a r)
  ]

  of_two : (first : List X) (x : X) (xs : List X) → Contains (each_with first x) xs → (v : X) → Contains xs v → Contains first v ⊎ (v ≡ x)
  of_two first x xs c v k =
      let u = contains_unmap (λ (w : X). w ∷ x ∷ []) first xs c in
      elim (Contains-cons u.0 (x ∷ []) v (subst (λ (l : List X). Contains l v) (sym u.1.1) k)) [
        | inl e ↦ inl (subst (Contains first) e u.1.0)
        | inr r ↦ inr (only x v r)
      ]

  of_twos : (first then' xs : List X) → Contains (twos_of first then') xs → (v : X) → Contains xs v → Contains (first ++ then') v
  of_twos first [] xs c v k = not_in_nil xs c
  of_twos first (y ∷ ys) xs c v k = elim (Contains-append_cases (each_with first y) (twos_of first ys) xs c) [
    | inl a ↦ elim (of_two first y xs a v k) [
      | inl i ↦ Contains-append_left first (y ∷ ys) v i
      | inr e ↦ Contains-append_right first (y ∷ ys) v (Contains-first y ys v (sym e))
    ]
    | inr b ↦ elim (Contains-append_cases first ys v (of_twos first ys xs b v k)) [
      | inl i ↦ Contains-append_left first (y ∷ ys) v i
      | inr r ↦ Contains-append_right first (y ∷ ys) v (Contains-rest y ys v r)
    ]
  ]

  -- item by item
  pub with_more : (last : X) (xs : List X) (i : ℕ) (x : X) → i < length xs → x ≡ get_or xs i x → (old mid new : List (List X)) → mid ≡ old ++ each_with (take i xs) last
      → new ≡ mid ++ (x ∷ last ∷ []) ∷ [] → new ≡ old ++ each_with (take (i + 1) xs) last
  with_more last xs i x h e old mid new begun is =
      let two = λ (w : X). w ∷ last ∷ [] in
      is ∙ ap (λ l. l ++ two x ∷ []) begun ∙ append_assoc old (map two (take i xs)) (two x ∷ [])
      ∙ ap (λ l. old ++ l) (sym (front_with two xs i x h e))

  pub twos_more : (first xs : List X) (i : ℕ) (x : X) → i < length xs → x ≡ get_or xs i x → (old mid new : List (List X)) → mid ≡ old ++ twos_of first (take i xs)
      → new ≡ mid ++ each_with first x → new ≡ old ++ twos_of first (take (i + 1) xs)
  twos_more first xs i x h e old mid new begun is =
      is ∙ ap (λ l. l ++ each_with first x) begun ∙ append_assoc old (twos_of first (take i xs)) (each_with first x)
      ∙ ap (λ l. old ++ l) (sym (ap (twos_of first) (taken_more xs i x h e) ∙ flat_push (each_with first) (take i xs) x))

  -- in one list, or apart
  pub joined_together : (first then' : List X) (old new : List (List X)) → JoinsSets first then' old new → PutsTogether first then' old new
  joined_together first then' old new is = record {
    added = joined first then';
    is = is;
    within = λ xs c v k. subst (λ (l : List X). Contains l v) (of_joined first then' xs c) k;
    both = λ v w i j. (first ++ then', (some_joined first then' w j, (i, Contains-append_right first then' w j)));
  }

  pub twos_together : (first then' : List X) (old new : List (List X)) → JoinsTwos first then' old new → PutsTogether first then' old new
  twos_together first then' old new is = record {
    added = joined [] then' ++ twos_of first then';
    is = is ∙ append_assoc old (joined [] then') (twos_of first then');
    within = λ xs c v k. elim (Contains-append_cases (joined [] then') (twos_of first then') xs c) [
      | inl a ↦ Contains-append_right first then' v (subst (λ (l : List X). Contains l v) (of_joined [] then' xs a) k)
      | inr b ↦ of_twos first then' xs b v k
    ];
    both = λ v w i j. elim (Contains-append_cases first then' v i) [
      | inl a ↦ (v ∷ w ∷ [], (Contains-append_right (joined [] then') (twos_of first then') (v ∷ w ∷ []) (two_there first then' v w a j), (Contains-first v (w ∷ []) v refl, Contains-rest v (w ∷ []) w (Contains-first w [] w refl))))
      | inr b ↦ (then', (Contains-append_left (joined [] then') (twos_of first then') then' (some_joined [] then' w j), (b, j)))
    ];
  }

-- ---- of nodes, and of their sets

module _ {X Y : Type 0} (f : X → Y) where
  joined_map : (first then' : List X) → map (map f) (joined first then') ≡ joined (map f first) (map f then')
  joined_map first [] = refl
  joined_map first (x ∷ xs) = ap (λ l. l ∷ []) (map-append f first (x ∷ xs))

  pub map_together : (first then' : List X) (old new : List (List X)) → PutsTogether first then' old new → PutsTogether (map f first) (map f then') (map (map f) old) (map (map f) new)
  map_together first then' old new puts = record {
    added = map (map f) puts.added;
    is = ap (map (map f)) puts.is ∙ map-append (map f) old puts.added;
    within = λ ys c y k.
        let xs = contains_unmap (map f) puts.added ys c in
        let x = contains_unmap f xs.0 y (subst (λ (l : List Y). Contains l y) (sym xs.1.1) k) in
        subst (λ (l : List Y). Contains l y) (map-append f first then')
        (subst (Contains (map f (first ++ then'))) x.1.1 (contains_map f (first ++ then') x.0 (puts.within xs.0 xs.1.0 x.0 x.1.0)));
    both = λ v w i j.
        let x = contains_unmap f (first ++ then') v (subst (λ (l : List Y). Contains l v) (sym (map-append f first then')) i) in
        let y = contains_unmap f then' w j in
        let s = puts.both x.0 y.0 x.1.0 y.1.0 in
        (map f s.0, (contains_map (map f) puts.added s.0 s.1.0, (subst (Contains (map f s.0)) x.1.1 (contains_map f s.0 x.0 s.1.1.0), subst (Contains (map f s.0)) y.1.1 (contains_map f s.0 y.0 s.1.1.1))));
  }

-- one list more, or none, as sets
pub sets_joined : (w : FieldSets) (nodes : List ℕ) (old new : List (List ℕ)) → JoinsSets [] nodes old new → all_sets w new ≡ all_sets w old ++ joined [] (meant_sets w nodes)
sets_joined w nodes old new is = ap (all_sets w) is ∙ map-append (meant_sets w) old (joined [] nodes) ∙ ap (λ l. all_sets w old ++ l) (joined_map (λ n. set_at w n) [] nodes)

-- ---- below a group

shared_below : (shared : List (StandingField Place)) (first : Sets) (lists : List Sets) → AreSetsOf shared first → lists ≡ [] ++ joined [] first → BelowSoFar shared first [] lists
shared_below shared first lists are is = record {
  under = λ sets c. inl (λ v k. are.within v (subst (λ (l : Sets). Contains l v) (of_joined [] first sets (subst (λ l. Contains l sets) is c)) k));
  shared_there = λ v c. let x = contains_unmap list_read first (list_read v) c in subst (λ l. Contains l first) (sym is) (some_joined [] first x.0 x.1.0);
  own_there = λ own c. not_in_nil own c;
}

-- and of one type more
own_below : (shared own : List (StandingField Place)) (first then' : Sets) (owns : List (List (StandingField Place))) (old new : List Sets) → AreSetsOf shared first → AreFurther own first then'
    → PutsTogether first then' old new → BelowSoFar shared first owns old → BelowSoFar shared first (owns ++ own ∷ []) new
own_below shared own first then' owns old new are further puts so_far = record {
  under = λ sets c. elim (Contains-append_cases old puts.added sets (subst (λ l. Contains l sets) puts.is c)) [
    | inl a ↦ elim (so_far.under sets a) [ inl of ↦ inl of | inr h ↦ inr (h.0, (Contains-append_left owns (own ∷ []) h.0 h.1.0, h.1.1)) ]
    | inr b ↦ inr (own, (Contains-append_right owns (own ∷ []) own (Contains-first own [] own refl), λ v k. of_both v (puts.within sets b v k)))
  ];
  shared_there = λ v c. more first (so_far.shared_there v c);
  own_there = λ o c. elim (Contains-append_cases owns (own ∷ []) o c) [
    | inl a ↦ let t = so_far.own_there o a in (t.0, (t.1.0, λ v w i j. let s = t.1.1 v w i j in (s.0, (more s.0 s.1.0, s.1.1))))
    | inr b ↦ (then', ((λ f k. further.covers f (subst (λ l. Contains l f) (only own o b) k)), λ v w i j. let s = puts.both v w i j in (s.0, (subst (λ l. Contains l s.0) (sym puts.is) (Contains-append_right old puts.added s.0 s.1.0), s.1.1))))
  ];
}
  where
    more : (sets : Sets) → Contains old sets → Contains new sets
    more sets c = subst (λ l. Contains l sets) (sym puts.is) (Contains-append_left old puts.added sets c)

    of_both : (v : MeantSet Place) → Contains (first ++ then') v → (f : StandingField Place) × (Contains (shared ++ own) f × (f.set ≡ v))
    of_both v c = elim (Contains-append_cases first then' v c) [
      | inl a ↦ let f = are.within v a in (f.0, (Contains-append_left shared own f.0 f.1.0, f.1.1))
      | inr b ↦ let f = further.within v b in (f.0, (Contains-append_right shared own f.0 f.1.0, f.1.1))
    ]

-- the lists that stand there at the end
module _ (shared : List (StandingField Place)) (first : Sets) (owns : List (List (StandingField Place))) (lists : List Sets) (are : AreSetsOf shared first) (so_far : BelowSoFar shared first owns lists) where
  among_left : (then' : Sets) (v : MeantSet Place) → IsAmong first v → IsAmong (first ++ then') v
  among_left then' v c = subst (λ l. Contains l (list_read v)) (sym (map-append list_read first then')) (Contains-append_left (read_sets first) (read_sets then') (list_read v) c)

  among_right : (then' : Sets) (v : MeantSet Place) → IsAmong then' v → IsAmong (first ++ then') v
  among_right then' v c = subst (λ l. Contains l (list_read v)) (sym (map-append list_read first then')) (Contains-append_right (read_sets first) (read_sets then') (list_read v) c)

  -- a field whose set is among the first ones, or the others of its type
  abbrev IsPlaced : Sets → StandingField Place → Type 0
  IsPlaced then' f = IsBare f.set ⊎ (IsAmong first f.set ⊎ IsAmong then' f.set)

  said_among : (sets : Sets) (u v : MeantSet Place) → Contains sets u → list_read u ≡ list_read v → IsAmong sets v
  said_among sets u v c e = subst (Contains (read_sets sets)) e (contains_map list_read sets u c)

  have_two : (then' : Sets) → HaveAnyTwo first then' lists → (v w : MeantSet Place) → IsAmong (first ++ then') v → IsAmong then' w → (sets : Sets) × (Contains lists sets × (IsAmong sets v × IsAmong sets w))
  have_two then' there v w a b =
      let x = contains_unmap list_read (first ++ then') (list_read v) a in
      let y = contains_unmap list_read then' (list_read w) b in
      let s = there x.0 y.0 x.1.0 y.1.0 in
      (s.0, (s.1.0, (said_among s.0 x.0 v s.1.1.0 x.1.1, said_among s.0 y.0 w s.1.1.1 y.1.1)))

  have_both : (then' : Sets) → HaveAnyTwo first then' lists → (f g : StandingField Place) → IsPlaced then' f → IsPlaced then' g → HaveBoth lists f g
  have_both then' there f g (inl bare) q = inl bare
  have_both then' there f g (inr p) (inl bare) = inr (inl bare)
  have_both then' there f g (inr (inl a)) (inr (inl b)) = inr (inr (first, (so_far.shared_there f.set a, (a, b))))
  have_both then' there f g (inr (inl a)) (inr (inr b)) = inr (inr (have_two then' there f.set g.set (among_left then' f.set a) b))
  have_both then' there f g (inr (inr a)) (inr (inl b)) = let s = have_two then' there g.set f.set (among_left then' g.set b) a in inr (inr (s.0, (s.1.0, (s.1.1.1, s.1.1.0))))
  have_both then' there f g (inr (inr a)) (inr (inr b)) = inr (inr (have_two then' there f.set g.set (among_right then' f.set a) b))

  placed : (then' : Sets) (own : List (StandingField Place)) → ((f : StandingField Place) → Contains own f → IsPlaced then' f) → (f : StandingField Place) → Contains (shared ++ own) f → IsPlaced then' f
  placed then' own each f c = elim (Contains-append_cases shared own f c) [
    | inl a ↦ elim (are.covers f a) [ inl bare ↦ inl bare | inr there ↦ inr (inl there) ]
    | inr b ↦ each f b
  ]

  alone : (f : StandingField Place) → Contains shared f → IsPlaced [] f
  alone f c = elim (are.covers f c) [ inl bare ↦ inl bare | inr there ↦ inr (inl there) ]

  pub are_below : AreListsBelow (with_own shared owns) lists
  are_below = record { under = under; below = below }
    where
      under : (sets : Sets) → Contains lists sets → (group : List (StandingField Place)) × (Contains (with_own shared owns) group × AreOf group sets)
      under sets c = elim (so_far.under sets c) [
        | inl of ↦ let p = part_of_shared shared owns in (p.0, (p.1.0, λ v k. let f = of v k in (f.0, (p.1.1 f.0 f.1.0, f.1.1))))
        | inr (own, (there, of)) ↦ (shared ++ own, (part_of_own shared owns own there, of))
      ]

      below : (group : List (StandingField Place)) → Contains (with_own shared owns) group → (f g : StandingField Place) → Contains group f → Contains group g → HaveBoth lists f g
      below group c f g a b = elim (of_parts shared owns group c) [
        | inl e ↦ have_both [] (λ v w i j. not_in_nil w j) f g (alone f (subst (λ l. Contains l f) e a)) (alone g (subst (λ l. Contains l g) e b))
        | inr (own, (there, e)) ↦
            let t = so_far.own_there own there in
            have_both t.0 t.1.1 f g (placed t.0 own t.1.0 f (subst (λ l. Contains l f) e a)) (placed t.0 own t.1.0 g (subst (λ l. Contains l g) e b))
      ]

-- of the types in front, and of one more
pub none_joined : (first : Sets) (lists : List Sets) → JoinsEach first [] lists lists
none_joined first lists = ([], (sym (append-nil lists), λ shared of begun so_far. subst (BelowSoFar shared first []) (sym (append-nil begun)) so_far))

pub joined_more : (first : Sets) (owns : List (Vec Member Global)) (i : ℕ) (x : Vec Member Global) → i < length owns → x ≡ get_or owns i x → (further : Sets) (old mid new : List Sets) → AreFurther (fields_of x.items) first further
    → PutsTogether first further mid new → JoinsEach first (map (λ o. fields_of o.items) (take i owns)) old mid → JoinsEach first (map (λ o. fields_of o.items) (take (i + 1) owns)) old new
joined_more first owns i x h e further old mid new are puts (added, (lies, so_far)) =
    let front = map (λ (o : Vec Member Global). fields_of o.items) (take i owns) in (
      added ++ puts.added,
      (
        puts.is ∙ ap (λ l. l ++ puts.added) lies ∙ append_assoc old added puts.added,
        λ shared of begun begins.
            let after : PutsTogether first further (begun ++ added) (begun ++ added ++ puts.added) = record { added = puts.added; is = refl; within = puts.within; both = puts.both } in
            subst (λ ls. BelowSoFar shared first ls (begun ++ (added ++ puts.added))) (sym (front_with (λ (o : Vec Member Global). fields_of o.items) owns i x h e))
            (subst (BelowSoFar shared first (front ++ fields_of x.items ∷ [])) (append_assoc begun added puts.added)
            (own_below shared (fields_of x.items) first further front (begun ++ added) (begun ++ added ++ puts.added) of are after (so_far shared of begun begins))),
      ),
    )

-- the lists below the fields of one key
pub parts_below : (shared : List Member) (owns : List (Vec Member Global)) (first : Sets) (old begun new : List Sets) → AreSetsOf (fields_of shared) first → begun ≡ old ++ joined [] first
    → JoinsEach first (map (λ o. fields_of o.items) owns) begun new → AddsBelow (map fields_of (with_own shared (map (λ o. o.items) owns))) old new
parts_below shared owns first old begun new are is (added, (lies, joins)) =
    let below = joined [] first ++ added in (
      below,
      (
        lies ∙ ap (λ l. l ++ added) is ∙ append_assoc old (joined [] first) added,
        subst (λ gs. AreListsBelow gs below) (sym (own_fields_parts shared owns))
            (are_below (fields_of shared) first (map (λ (o : Vec Member Global). fields_of o.items) owns) below are
            (joins (fields_of shared) are (joined [] first) (shared_below (fields_of shared) first (joined [] first) are refl))),
      ),
    )

-- the list below fields that go together, if there is one
pub below_pushed : (w : FieldSets) (fields : List (StandingField Place)) (nodes : List ℕ) (old new : List (List ℕ)) → AreSetsOf fields (meant_sets w nodes) → JoinsSets [] nodes old new
    → AddsBelow (fields ∷ []) (all_sets w old) (all_sets w new)
below_pushed w fields nodes old new are joins =
    let first = meant_sets w nodes in
    (joined [] first, (sets_joined w nodes old new joins, are_below fields first [] (joined [] first) are (shared_below fields first (joined [] first) are refl)))
