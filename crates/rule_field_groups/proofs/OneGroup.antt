-- Lists that are one group.
use Rattle.std.proofs.Common.{◌≡◌, ◌∙◌, ℕ, ◌+◌, ◌≤◌, Bool, true, false, not, List, [], ◌∷◌, ◌++◌, map, Contains, inl, inr, refl, sym, ap, subst, cond, filter, length, arith}
use Rattle.std.proofs.lemmas.Slice.Eq.{bytes_eq-Decides}
use Rattle.std.proofs.lemmas.List.Elements.{Contains-append_cases}
use Rattle.rule_selection_queries.proofs.in_definitions.in_schema_types.in_components.Places.{not_in_nil, Contains-cons, Contains-first, Contains-rest}
use Rattle.rule_selection_queries.specs.in_definitions.Judged.{Judged}
use Rattle.rule_field_sets.specs.declared.member.Member.{Member}
use Rattle.rule_field_groups.specs.Kinds.{is_abstract}
use Rattle.rule_field_groups.specs.Grouped.{has, parent_of, HaveOneName, AreFiled}
use Rattle.rule_field_groups.specs.declared.groups.KeyGroup.{KeyGroup}
use Rattle.rule_field_groups.specs.KeyGroups.{is_shared, own_lists, IsByParents}

-- ---- filters

module _ {X : Type 0} (p : X → Bool) where
  keeps_all : (xs : List X) → ((x : X) → Contains xs x → p x ≡ true) → filter p xs ≡ xs
  keeps_all [] all = refl
  keeps_all (x ∷ xs) all =
      ap (λ b. cond b (x ∷ filter p xs) (filter p xs)) (all x (Contains-first x xs x refl)) ∙ ap (λ l. x ∷ l) (keeps_all xs (λ y c. all y (Contains-rest x xs y c)))

  keeps_none : (xs : List X) → ((x : X) → Contains xs x → p x ≡ false) → filter p xs ≡ []
  keeps_none [] all = refl
  keeps_none (x ∷ xs) all = ap (λ b. cond b (x ∷ filter p xs) (filter p xs)) (all x (Contains-first x xs x refl)) ∙ keeps_none xs (λ y c. all y (Contains-rest x xs y c))

-- ---- one group

module _ {X : Type 0} (name : X → List ℕ) where
  -- one more of the name
  pub one_more : (n : List ℕ) (xs : List X) (x : X) → ((y : X) → Contains xs y → name y ≡ n) → name x ≡ n → (y : X) → Contains (xs ++ x ∷ []) y → name y ≡ n
  one_more n xs x all e y c = elim (Contains-append_cases xs (x ∷ []) y c) [
    | inl k ↦ all y k
    | inr k ↦ elim (Contains-cons x [] y k) [ inl same ↦ ap name (sym same) ∙ e | inr none ↦ absurd (not_in_nil y none) ]
  ]

  -- the first one and the others
  pub all_named : (x : X) (xs : List X) → ((y : X) → Contains xs y → name y ≡ name x) → HaveOneName name (x ∷ xs)
  all_named x xs all = (
    name x,
    (
      omega arith,
      λ y c. elim (Contains-cons x xs y c) [ inl same ↦ ap name (sym same) | inr k ↦ all y k ],
    ),
  )

  pub none_filed : AreFiled name [] []
  none_filed = record { has_all = λ x c. absurd (not_in_nil x c); only = λ g c. absurd (not_in_nil g c) }

  pub one_filed : (list : List X) → HaveOneName name list → AreFiled name list (list ∷ [])
  one_filed list (n, (some, all)) = record {
    has_all = λ x c. Contains-first list [] (filter (has name (name x)) list) (sym (whole (name x) (all x c)));
    only = λ g c. elim (Contains-cons list [] g c) [
      | inl same ↦ (n, sym same ∙ sym (whole n refl))
      | inr none ↦ absurd (not_in_nil g none)
    ];
  }
    where
      whole : (m : List ℕ) → m ≡ n → filter (has name m) list ≡ list
      whole m e = keeps_all (has name m) list (λ y c. (bytes_eq-Decides m (name y)).1 (e ∙ sym (all y c)))

-- ---- on one type, that is abstract or not

module _ (s : Judged) (list : List Member) (n : List ℕ) (all : (x : Member) → Contains list x → parent_of x ≡ n) where
  pub all_on_abstract : is_abstract s n ≡ true → (filter (is_shared s) list ≡ list) × (filter (λ x. not (is_shared s x)) list ≡ [])
  all_on_abstract e = (
    keeps_all (is_shared s) list (λ y c. ap (is_abstract s) (all y c) ∙ e),
    keeps_none (λ x. not (is_shared s x)) list (λ y c. ap not (ap (is_abstract s) (all y c) ∙ e)),
  )

  pub all_on_object : is_abstract s n ≡ false → (filter (is_shared s) list ≡ []) × (filter (λ x. not (is_shared s x)) list ≡ list)
  all_on_object e = (
    keeps_none (is_shared s) list (λ y c. ap (is_abstract s) (all y c) ∙ e),
    keeps_all (λ x. not (is_shared s x)) list (λ y c. ap not (ap (is_abstract s) (all y c) ∙ e)),
  )

module _ (s : Judged) (list : List Member) (one : HaveOneName parent_of list) (n : List ℕ) (first : (x : Member) × (Contains list x × (parent_of x ≡ n))) where
  alike : (x : Member) → Contains list x → parent_of x ≡ n
  alike x c = one.1.1 x c ∙ sym (one.1.1 first.0 first.1.0) ∙ first.1.1

  -- on an abstract type, on an object
  pub group_on_abstract : (group : KeyGroup) → is_abstract s n ≡ true → group.shared.items ≡ list → own_lists group ≡ [] → IsByParents s list group
  group_on_abstract group e shared own = record {
    shared = shared ∙ sym (all_on_abstract s list n alike e).0;
    own = subst (λ l. AreFiled parent_of l (own_lists group)) (sym (all_on_abstract s list n alike e).1) (subst (AreFiled parent_of []) (sym own) (none_filed parent_of));
  }

  pub group_on_object : (group : KeyGroup) → is_abstract s n ≡ false → group.shared.items ≡ [] → own_lists group ≡ list ∷ [] → IsByParents s list group
  group_on_object group e shared own = record {
    shared = shared ∙ sym (all_on_object s list n alike e).0;
    own = subst (λ l. AreFiled parent_of l (own_lists group)) (sym (all_on_object s list n alike e).1) (subst (AreFiled parent_of list) (sym own) (one_filed parent_of list one));
  }
