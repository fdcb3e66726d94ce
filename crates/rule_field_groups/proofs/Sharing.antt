-- Groups by keys, and parts of them by parents, of field selections.
use Rattle.std.proofs.Common.{◌≡◌, ◌⊎◌, ◌∙◌, ℕ, ◌+◌, ◌≤◌, Bool, true, false, not, List, [], ◌∷◌, ◌++◌, map, flat_map, length, Vec, Global, Contains, refl, sym, ap, subst, inl, inr, filter, true≢false, arith}
use Rattle.std.specs.List.{sum}
use Rattle.std.specs.Str.{bytes_eq}
use Rattle.std.proofs.lemmas.List.{map-append}
use Rattle.std.proofs.lemmas.List.Elements.{Contains-append_left, Contains-append_right, Contains-append_cases}
use Rattle.std.proofs.lemmas.List.Sums.{sum_by-cons}
use Rattle.std.proofs.lemmas.Slice.Eq.{bytes_eq-Decides}
use Rattle.graphql_names.specs.Placed.{Place}
use Rattle.rule_selection_queries.proofs.in_definitions.in_schema_types.in_components.Places.{not_in_nil, only, Contains-cons, Contains-first}
use Rattle.rule_selection_queries.specs.in_definitions.Judged.{Judged}
use Rattle.rule_selection_queries.specs.in_document_definitions.Groups.{AreGroups}
use Rattle.rule_selection_queries.specs.in_document_definitions.Selected.{StandingField, response_key}
use Rattle.rule_selection_queries.proofs.in_document_definitions.Unplaced.{contains_map, contains_unmap}
use Rattle.rule_field_groups.specs.Members.{field_of, fields_of}
use Rattle.rule_field_sets.specs.declared.member.Member.{Member}
use Rattle.rule_selection_queries.specs.in_document_definitions.Sharing.{AreKeyGroups, AreShareGroups, IsOn}
use Rattle.rule_selection_queries.proofs.in_document_definitions.SharingFacts.{key_groups, share_groups}
use Rattle.rule_field_groups.specs.Compared.{compared}
use Rattle.rule_field_groups.specs.Kinds.{is_abstract}
use Rattle.rule_field_groups.specs.Passes.{Together}
use Rattle.rule_field_groups.specs.declared.pass.Pass.{Pass}
use Rattle.rule_field_groups.specs.declared.pass.Pass.TheVariants.{Shapes, Selections}
use Rattle.rule_field_groups.specs.declared.groups.KeyGroup.{KeyGroup}
use Rattle.rule_field_groups.specs.Grouped.{key_of, parent_of, has, IsPartOf, ArePartsOf, AreFiled, AreParentGroups, IsOnOne}
use Rattle.rule_field_groups.specs.KeyGroups.{is_shared, own_lists, with_own, parts_of, parts_in, lists_in_group, compared_in, ArePartsFor}
use Rattle.rule_field_groups.proofs.Counts.{sums, flat_push, split_length}
use Rattle.rule_field_groups.proofs.Filing.{in_filter, of_filter, all_pass, part_of_part}
use Rattle.rule_field_groups.proofs.Parts.{part_of_shared, part_of_own, of_parts}
use Rattle.rule_field_groups.proofs.Shaped.{is_abstract_so, so_is_abstract}

named_so : (n m : List ℕ) → bytes_eq n m ≡ true → n ≡ m
named_so n m e = (bytes_eq-Decides n m).0 e

so_named : (n m : List ℕ) → n ≡ m → bytes_eq n m ≡ true
so_named n m e = (bytes_eq-Decides n m).1 e

-- ---- by keys

pub are_key_groups : (list : List Member) (groups : List (List Member)) → AreFiled key_of list groups → AreKeyGroups (fields_of list) (map fields_of groups)
are_key_groups list groups filed = record {
  has = λ f c.
      let x = contains_unmap field_of list f c in
      let group = filter (has key_of (key_of x.0)) list in (
        fields_of group,
        (
          contains_map fields_of groups group (filed.has_all x.0 x.1.0),
          λ g k same.
              let y = contains_unmap field_of list g k in
              subst (Contains (fields_of group)) y.1.1 (contains_map field_of group y.0
              (in_filter (has key_of (key_of x.0)) list y.0 y.1.0 (so_named (key_of x.0) (key_of y.0) (ap response_key x.1.1 ∙ sym same ∙ ap response_key (sym y.1.1))))),
        ),
      );
  only = λ group c.
      let g = contains_unmap fields_of groups group c in
      let n = filed.only g.0 g.1.0 in (
        n.0,
        λ f k.
            let y = contains_unmap field_of g.0 f (subst (λ l. Contains l f) (sym g.1.1) k) in
            let in_list = of_filter (has key_of n.0) list y.0 (subst (λ l. Contains l y.0) n.1 y.1.0) in
            (subst (Contains (fields_of list)) y.1.1 (contains_map field_of list y.0 in_list.0), ap response_key (sym y.1.1) ∙ sym (named_so n.0 (key_of y.0) in_list.1)),
      );
}

-- ---- by parents

module _ (s : Judged) where
  module _ (list shared : List Member) (owns : List (List Member)) (is : shared ≡ filter (is_shared s) list)
      (filed : AreFiled parent_of (filter (λ x. not (is_shared s x)) list) owns) where
    in_shared : (y : Member) → Contains list y → is_shared s y ≡ true → Contains shared y
    in_shared y c e = subst (λ l. Contains l y) (sym is) (in_filter (is_shared s) list y c e)

    of_shared : (y : Member) → Contains shared y → Contains list y × (is_shared s y ≡ true)
    of_shared y c = of_filter (is_shared s) list y (subst (λ l. Contains l y) is c)

    abbrev objects : List Member
    objects = filter (λ x. not (is_shared s x)) list

    in_objects : (y : Member) → Contains list y → is_shared s y ≡ false → Contains objects y
    in_objects y c e = in_filter (λ x. not (is_shared s x)) list y c (ap not e)

    -- a field that is not shared has a part
    its_part : (x : Member) → Contains list x → is_shared s x ≡ false
        → (part : List Member) × (Contains (with_own shared owns) part × ((y : Member) → Contains list y → IsOnOne s (parent_of x) y → Contains part y))
    its_part x c e =
        let own = filter (has parent_of (parent_of x)) objects in
        let there = filed.has_all x (in_objects x c e) in
        (shared ++ own, (part_of_own shared owns own there, λ y k on. by y k on (is_shared s y) refl))
      where
        by : (y : Member) → Contains list y → IsOnOne s (parent_of x) y → (b : Bool) → is_shared s y ≡ b → Contains (shared ++ filter (has parent_of (parent_of x)) objects) y
        by y k on true i = Contains-append_left shared (filter (has parent_of (parent_of x)) objects) y (in_shared y k i)
        by y k (inl same) false i =
            Contains-append_right shared (filter (has parent_of (parent_of x)) objects) y (in_filter (has parent_of (parent_of x)) objects y (in_objects y k i) (so_named (parent_of x) (parent_of y) (sym same)))
        by y k (inr a) false i = absurd (true≢false (sym (so_is_abstract s (parent_of y) a) ∙ i))

    -- what is on the type of a shared field is shared
    all_shared_there : (x : Member) → is_shared s x ≡ true → (y : Member) → Contains list y → IsOnOne s (parent_of x) y → Contains shared y
    all_shared_there x e y k (inl same) = in_shared y k (ap (is_abstract s) same ∙ e)
    all_shared_there x e y k (inr a) = in_shared y k (so_is_abstract s (parent_of y) a)

    has_part : (x : Member) → Contains list x → (b : Bool) → is_shared s x ≡ b
        → (part : List Member) × (Contains (with_own shared owns) part × ((y : Member) → Contains list y → IsOnOne s (parent_of x) y → Contains part y))
    has_part x c true e = let p = part_of_shared shared owns in (p.0, (p.1.0, λ y k on. p.1.1 y (all_shared_there x e y k on)))
    has_part x c false e = its_part x c e

    on_any : (n : List ℕ) (y : Member) → Contains shared y → Contains list y × IsOnOne s n y
    on_any n y c = let p = of_shared y c in (p.0, inr (is_abstract_so s (parent_of y) p.1))

    of_part : (part : List Member) → (part ≡ shared) ⊎ ((own : List Member) × (Contains owns own × (part ≡ shared ++ own)))
        → (parent : List ℕ) × ((y : Member) → Contains part y → Contains list y × IsOnOne s parent y)
    of_part part (inl e) = ([], λ y c. on_any [] y (subst (λ l. Contains l y) e c))
    of_part part (inr (own, (there, e))) =
        let n = filed.only own there in (
          n.0,
          λ y c. elim (Contains-append_cases shared own y (subst (λ l. Contains l y) e c)) [
            | inl a ↦ on_any n.0 y a
            | inr b ↦
                let p = of_filter (has parent_of n.0) objects y (subst (λ l. Contains l y) n.1 b) in
                let q = of_filter (λ x. not (is_shared s x)) list y p.0 in
                (q.0, inl (sym (named_so n.0 (parent_of y) p.1)))
          ],
        )

    -- the parts by parents are groups of fields that one object may have
    pub parent_groups : AreParentGroups s list (with_own shared owns)
    parent_groups = record {
      has_all = λ x c. has_part x c (is_shared s x) refl;
      only = λ part c. of_part part (of_parts shared owns part c);
    }

    -- each list in the order of the list
    pub ordered_parts : ArePartsOf list (shared ∷ owns)
    ordered_parts part c = elim (Contains-cons shared owns part c) [
      | inl e ↦ (is_shared s, sym e ∙ is)
      | inr r ↦ let n = filed.only part r in part_of_part list objects part ((λ x. not (is_shared s x)), refl) (has parent_of n.0, n.1)
    ]

-- ---- the parts of the groups of a list

module _ (pass : Pass) (s : Judged) where
  -- the parts of each of these groups, one after the other
  pub record ArePartsOfEach (keyed : List (List Member)) (parts : List (List Member)) : Type 0 where
    pub all : (key : List Member) → Contains keyed key → (own : List (List Member)) × (ArePartsFor pass s key own × ((g : List Member) → Contains own g → Contains parts g))
    pub from : (part : List Member) → Contains parts part
        → (key : List Member) × (Contains keyed key × ((own : List (List Member)) × (ArePartsFor pass s key own × Contains own part)))

  pub parts_none : ArePartsOfEach [] []
  parts_none = record { all = λ key c. absurd (not_in_nil key c); from = λ part c. absurd (not_in_nil part c) }

  pub parts_more : (keyed parts : List (List Member)) (key : List Member) (own : List (List Member)) → ArePartsOfEach keyed parts → ArePartsFor pass s key own → ArePartsOfEach (keyed ++ key ∷ []) (parts ++ own)
  parts_more keyed parts key own so_far are = record {
    all = λ k c. elim (Contains-append_cases keyed (key ∷ []) k c) [
      | inl a ↦ let p = so_far.all k a in (p.0, (p.1.0, λ g h. Contains-append_left parts own g (p.1.1 g h)))
      | inr b ↦ (own, (subst (λ l. ArePartsFor pass s l own) (sym (only key k b)) are, λ g h. Contains-append_right parts own g h))
    ];
    from = λ part c. elim (Contains-append_cases parts own part c) [
      | inl a ↦ let p = so_far.from part a in (p.0, (Contains-append_left keyed (key ∷ []) p.0 p.1.0, p.1.1))
      | inr b ↦ (key, (Contains-append_right keyed (key ∷ []) key (Contains-first key [] key refl), (own, (are, b))))
    ];
  }

-- where shapes are compared, the groups by keys
keyed_parts : (s : Judged) (list : List Member) (keyed parts : List (List Member)) → AreFiled key_of list keyed → ArePartsOfEach Shapes s keyed parts → AreFiled key_of list parts
keyed_parts s list keyed parts filed each = record {
  has_all = λ x c.
      let key = filter (has key_of (key_of x)) list in
      let p = each.all key (filed.has_all x c) in
      p.1.1 key (subst (λ l. Contains l key) (sym p.1.0) (Contains-first key [] key refl));
  only = λ part c.
      let p = each.from part c in
      let same : part ≡ p.0 = only p.0 part (subst (λ l. Contains l part) p.1.1.1.0 p.1.1.1.1) in
      let n = filed.only p.0 p.1.0 in
      (n.0, same ∙ n.1);
}

module _ (s : Judged) where
  are_share_groups : (list : List Member) (keyed parts : List (List Member)) → AreFiled key_of list keyed → ArePartsOfEach Selections s keyed parts
      → AreShareGroups s (fields_of list) (map fields_of parts)
  are_share_groups list keyed parts filed each = record {
    has = λ f c.
        let x = contains_unmap field_of list f c in
        let key = filter (has key_of (key_of x.0)) list in
        let own = each.all key (filed.has_all x.0 x.1.0) in
        let part = own.1.0.has_all x.0 (in_filter (has key_of (key_of x.0)) list x.0 x.1.0 (so_named (key_of x.0) (key_of x.0) refl)) in (
          fields_of part.0,
          (
            contains_map fields_of parts part.0 (own.1.1 part.0 part.1.0),
            λ g k same on.
                let y = contains_unmap field_of list g k in
                let in_key = in_filter (has key_of (key_of x.0)) list y.0 y.1.0 (so_named (key_of x.0) (key_of y.0) (ap response_key x.1.1 ∙ sym same ∙ ap response_key (sym y.1.1))) in
                let on_one : IsOnOne s (parent_of x.0) y.0 = subst (λ (h : StandingField Place). IsOn s (parent_of x.0) h) (sym y.1.1) (subst (λ (h : StandingField Place). IsOn s h.parent g) (sym x.1.1) on) in
                subst (Contains (fields_of part.0)) y.1.1 (contains_map field_of part.0 y.0 (part.1.1 y.0 in_key on_one)),
          ),
        );
    only = λ made c.
        let g = contains_unmap fields_of parts made c in
        let p = each.from g.0 g.1.0 in
        let n = filed.only p.0 p.1.0 in
        let t = p.1.1.1.0.only g.0 p.1.1.1.1 in (
          n.0,
          (
            t.0,
            λ f k.
                let y = contains_unmap field_of g.0 f (subst (λ l. Contains l f) (sym g.1.1) k) in
                let q = t.1 y.0 y.1.0 in
                let in_list = of_filter (has key_of n.0) list y.0 (subst (λ l. Contains l y.0) n.1 q.0) in (
                  subst (Contains (fields_of list)) y.1.1 (contains_map field_of list y.0 in_list.0),
                  (
                    ap response_key (sym y.1.1) ∙ sym (named_so n.0 (key_of y.0) in_list.1),
                    subst (λ (h : StandingField Place). IsOn s t.0 h) y.1.1 q.1,
                  ),
                ),
          ),
        );
  }

-- parts of the groups of a list are groups of what goes together
pub are_groups : (pass : Pass) (s : Judged) (list : List Member) (keyed parts : List (List Member)) → AreFiled key_of list keyed → ArePartsOfEach pass s keyed parts
    → AreGroups (Together pass s) (fields_of list) (map fields_of parts)
are_groups Shapes s list keyed parts filed each = key_groups (fields_of list) (map fields_of parts) (are_key_groups list parts (keyed_parts s list keyed parts filed each))
are_groups Selections s list keyed parts filed each = share_groups (fields_of list) (map fields_of parts) s (are_share_groups s list keyed parts filed each)

-- ---- in the order of the list

-- each of these is a part of one of the groups
abbrev pub ArePartsOfOne : List (List Member) → List (List Member) → Type 0
ArePartsOfOne keyed lists = (part : List Member) → Contains lists part → (key : List Member) × (Contains keyed key × IsPartOf key part)

pub ordered_none : ArePartsOfOne [] []
ordered_none part c = absurd (not_in_nil part c)

pub ordered_more : (keyed lists : List (List Member)) (key : List Member) (own : List (List Member)) → ArePartsOfOne keyed lists → ArePartsOf key own → ArePartsOfOne (keyed ++ key ∷ []) (lists ++ own)
ordered_more keyed lists key own so_far are part c = elim (Contains-append_cases lists own part c) [
  | inl a ↦ let p = so_far part a in (p.0, (Contains-append_left keyed (key ∷ []) p.0 p.1.0, p.1.1))
  | inr b ↦ (key, (Contains-append_right keyed (key ∷ []) key (Contains-first key [] key refl), are part b))
]

pub all_ordered : (list : List Member) (keyed lists : List (List Member)) → AreFiled key_of list keyed → ArePartsOfOne keyed lists → ArePartsOf list lists
all_ordered list keyed lists filed of_one part c =
    let p = of_one part c in
    let n = filed.only p.0 p.1.0 in
    part_of_part list p.0 part (has key_of n.0, n.1) p.1.1

-- the list itself, and one without members
pub whole_ordered : (list : List Member) → ArePartsOf list (list ∷ [])
whole_ordered list part c = (λ _. true, only list part c ∙ all_pass list)

-- ---- how many are compared

sum_push : {X : Type 0} (f : X → ℕ) (xs : List X) (x : X) → sum (map f (xs ++ x ∷ [])) ≡ sum (map f xs) + f x
sum_push f xs x = omega (arith, sums f xs (x ∷ []))

module _ {X : Type 0} where
  -- in a pass on selections no shapes are
  pub none_compared : (lists : List (List X)) → sum (map (compared Selections) lists) ≤ 0
  none_compared lists = omega (arith, none lists)
    where
      none : (lists : List (List X)) → sum (map (compared {X = X} Selections) lists) ≡ 0
      none [] = refl
      none (l ∷ lists) = sum_by-cons (λ n. n) 0 (map (compared {X = X} Selections) lists) ∙ none_before (none lists)
        where
          none_before : sum (map (compared {X = X} Selections) lists) ≡ 0 → 0 + sum (map (compared {X = X} Selections) lists) ≡ 0
          none_before h = omega (arith, h)

pub shapes_in : (group : KeyGroup) (list : List Member) → group.shared.items ≡ list → own_lists group ≡ [] → compared_in Shapes group ≤ length list
shapes_in group list is none = omega (arith, ap length is, ap (λ l. sum (map (compared {X = Member} Shapes) l)) none)

pub selections_in : (group : KeyGroup) → compared_in Selections group ≤ 0
selections_in group = omega (arith, none_compared (own_lists group))

pub keyed_count : (pass : Pass) (list : List Member) (keyed : List (List Member)) → sum (map length keyed) ≡ length list → sum (map (compared pass) keyed) ≤ compared pass list
keyed_count Shapes list keyed e = omega (arith, e)
keyed_count Selections list keyed e = none_compared keyed

-- ---- each field stands once

-- those on abstract types, and those on each object type
pub parents_once : (s : Judged) (list shared : List Member) (owns : List (List Member)) → shared ≡ filter (is_shared s) list
    → sum (map length owns) ≡ length (filter (λ x. not (is_shared s x)) list) → sum (map length (shared ∷ owns)) ≡ length list
parents_once s list shared owns is all = omega (arith, ap length is, all, split_length (is_shared s) list, sums length (shared ∷ []) owns)

-- all in one part
pub shapes_once : (list shared : List Member) (owns : List (List Member)) → shared ≡ list → owns ≡ [] → sum (map length (shared ∷ owns)) ≡ length list
shapes_once list shared owns is none = omega (arith, ap length is, ap (λ l. sum (map length (shared ∷ l))) none, sum_by-cons (λ n. n) (length shared) [])

-- all on one object type
pub own_once : (list shared : List Member) (owns : List (List Member)) → shared ≡ [] → owns ≡ list ∷ [] → sum (map length (shared ∷ owns)) ≡ length list
own_once list shared owns none is = omega (arith, ap length none, ap (λ l. sum (map length l)) is, sums length (shared ∷ []) owns)

-- ---- one group more

module _ (pass : Pass) (s : Judged) (keyed : List (Vec Member Global)) (fields : Vec Member Global) (groups new : List KeyGroup) (group : KeyGroup) (is : new ≡ groups ++ group ∷ []) where
  abbrev items : Vec Member Global → List Member
  items v = v.items

  keys_more : map items (keyed ++ fields ∷ []) ≡ map items keyed ++ fields.items ∷ []
  keys_more = map-append items keyed (fields ∷ [])

  given_more : (f : KeyGroup → List (List Member)) → flat_map f new ≡ flat_map f groups ++ f group
  given_more f = ap (flat_map f) is ∙ flat_push f groups group

  pub group_parts : ArePartsFor pass s fields.items (parts_of group) → ArePartsOfEach pass s (map items keyed) (parts_in groups) → ArePartsOfEach pass s (map items (keyed ++ fields ∷ [])) (parts_in new)
  group_parts are so_far =
      subst (λ l. ArePartsOfEach pass s l (parts_in new)) (sym keys_more)
      (subst (ArePartsOfEach pass s (map items keyed ++ fields.items ∷ [])) (sym (given_more parts_of)) (parts_more pass s (map items keyed) (parts_in groups) fields.items (parts_of group) so_far are))

  pub group_ordered : ArePartsOf fields.items (lists_in_group group) → ArePartsOfOne (map items keyed) (flat_map lists_in_group groups) → ArePartsOfOne (map items (keyed ++ fields ∷ [])) (flat_map lists_in_group new)
  group_ordered are so_far =
      subst (λ l. ArePartsOfOne l (flat_map lists_in_group new)) (sym keys_more)
      (subst (ArePartsOfOne (map items keyed ++ fields.items ∷ [])) (sym (given_more lists_in_group)) (ordered_more (map items keyed) (flat_map lists_in_group groups) fields.items (lists_in_group group) so_far are))

  pub group_counted : compared_in pass group ≤ compared pass fields.items → sum (map (compared_in pass) groups) ≤ sum (map (compared pass) (map items keyed)) → sum (map (compared_in pass) new) ≤ sum (map (compared pass) (map items (keyed ++ fields ∷ [])))
  group_counted here so_far =
      omega (
        arith,
        here,
        so_far,
        ap (λ l. sum (map (compared_in pass) l)) is,
        sum_push (compared_in pass) groups group,
        ap (λ l. sum (map (compared pass) l)) keys_more,
        sum_push (compared pass) (map items keyed) fields.items,
      )

  pub group_once : sum (map length (lists_in_group group)) ≡ length fields.items → sum (map length (flat_map lists_in_group groups)) ≡ sum (map length (map items keyed))
      → sum (map length (flat_map lists_in_group new)) ≡ sum (map length (map items (keyed ++ fields ∷ [])))
  group_once here so_far =
      omega (
        arith,
        here,
        so_far,
        ap (λ l. sum (map length l)) (given_more lists_in_group),
        sums length (flat_map lists_in_group groups) (lists_in_group group),
        ap (λ l. sum (map length l)) keys_more,
        sum_push length (map items keyed) fields.items,
      )
