-- What validation leaves: of the types all but scalars stay, and what comes is one of the five.
use Rattle.std.proofs.Common.{◌≡◌, ℕ, Bool, true, false, not, ◌&&◌, cond, List, [], ◌∷◌, ◌++◌, map, filter, find, bytes_eq, refl, sym, ap, subst, ◌∙◌, ◌⊎◌, inl, inr, Option, None, Some, option_map, Contains, true≢false, is_some, if◌then◌else◌}
use Rattle.std.specs.FinMap as fin
use Rattle.std.specs.FinSet as set
use Rattle.std.specs.Cmp.Lexicographic.{nat_list_cmp_total}
use Rattle.std.proofs.lemmas.Option.{same_Some}
use Rattle.std.proofs.lemmas.List.Elements.{Contains-append_right, Contains-append_cases}
use Rattle.graphql_names.specs.NameSyntax.{is_name}
use Rattle.graphql_names.specs.Placed.{Place}
use Rattle.graphql_names.specs.Places.{is_built_in}
use Rattle.rule_definitions.specs.in_schema_types.in_operations.DirectiveTree.{InputValueTree}
use Rattle.rule_definitions.specs.in_components.Names.{by_bytes}
use Rattle.rule_definitions.specs.in_schema_types.SchemaTree.{SchemaType, SchemaTree, is_input_kind, same_kind}
use Rattle.rule_definitions.specs.in_schema_types.Plain.{plain_type}
use Rattle.rule_definitions.specs.in_schema_types.Looks.{TypeLooks, type_looks}
use Rattle.rule_definitions.specs.in_schema_types.Addresses.{TypeAt, or_nothing, type_at, is_marked}
use Rattle.rule_definitions.specs.in_schema_types.declared.type_kind.TypeKind.TheVariants as kind
use Rattle.rule_definitions.specs.Distinct.{AreUnder}
use Rattle.rule_definitions.specs.Judged.{judged}
use Rattle.rule_definitions.specs.Names.{scalar_names, named_in}
use Rattle.rule_definitions.specs.Cycles.{Referring, RefersToInput}
use Rattle.rule_definitions.specs.Kept.{is_referenced, built_in_scalar, is_dropped, is_missing, kept, validated}
use Rattle.rule_definitions.specs.Rules.{SchemaRules}
use Rattle.rule_definitions.proofs.Lookups.{under_given, under_found}
use Rattle.schema_types.proofs.UnderNames.{get_under}
use Rattle.rule_cycle_search.specs.Paths.{Leads}
use Rattle.rule_cycle_search.proofs.Lists.{not_in_nil, Contains-cons, Contains-first, mapped_some}
use Rattle.rule_schema_laws.specs.Implementing.{IsInterface, Implements, ImplementsInOrder}
use Rattle.rule_schema_laws.specs.Literals.{HasTheFiveAlone, HasNoKeywordValue}
use Rattle.rule_schema_laws.specs.Named.{HasNames}
use Rattle.rule_schema_laws.specs.Laws.{OrderedAfterValidation, LiteralsAfterValidation}
use Rattle.rule_schema_laws.proofs.Ordered.{ordered}
use Rattle.rule_schema_laws.proofs.Given.{IsInput, Grounds}
use Rattle.rule_schema_laws.proofs.Grounds.{covers, fields, inputs, acyclic, values}
use Rattle.rule_schema_laws.proofs.Written.{have_literals}

-- ---- lists

module _ {X : Type 0} (keep : X → Bool) where
  pub was_there : (xs : List X) (x : X) → Contains (filter keep xs) x → Contains xs x
  was_there [] x c = not_in_nil x c
  was_there (y ∷ xs) x c = by (keep y) c (was_there xs x)
    where
      by : (b : Bool) → Contains (cond b (y ∷ filter keep xs) (filter keep xs)) x → (Contains (filter keep xs) x → Contains xs x) → Contains (y ∷ xs) x
      by true c rest = elim (Contains-cons y (filter keep xs) x c) [ inl e ↦ Contains-first y xs x e | inr r ↦ Contains-append_right (y ∷ []) xs x (rest r) ]
      by false c rest = Contains-append_right (y ∷ []) xs x (rest c)

  -- what is found and kept is found among those that are kept
  pub still_found : (test : X → Bool) (xs more : List X) (x : X) → find test xs ≡ Some x → keep x ≡ true → find test (filter keep xs ++ more) ≡ Some x
  still_found test [] more x e k = cc
  still_found test (y ∷ xs) more x e k = by (keep y) refl (test y) refl e (λ e'. still_found test xs more x e' k)
    where
      by : (b : Bool) → keep y ≡ b → (a : Bool) → test y ≡ a → (if a then Some y else find test xs) ≡ Some x → (find test xs ≡ Some x → find test (filter keep xs ++ more) ≡ Some x)
          → find test (cond b (y ∷ filter keep xs) (filter keep xs) ++ more) ≡ Some x
      by true kept true t e rest = ap (λ (c : Bool). if c then Some y else find test (filter keep xs ++ more)) t ∙ e
      by true kept false t e rest = ap (λ (c : Bool). if c then Some y else find test (filter keep xs ++ more)) t ∙ rest e
      by false kept true t e rest = absurd (true≢false (sym k ∙ ap keep (sym (same_Some y x e)) ∙ kept))
      by false kept false t e rest = rest e

pub comes_from : {X Y : Type 0} (f : X → Y) (xs : List X) (y : Y) → Contains (map f xs) y → (x : X) × (Contains xs x × (f x ≡ y))
comes_from f [] y c = not_in_nil y c
comes_from f (x ∷ xs) y c = elim (Contains-cons (f x) (map f xs) y c) [
  | inl e ↦ (x, (Contains-first x xs x refl, e))
  | inr r ↦ let (z, (d, e)) = comes_from f xs y r in (z, (Contains-append_right (x ∷ []) xs z d, e))
]

-- ---- what rules read of a type, by its entry

abbrev pub looks_of : SchemaType Place → TypeLooks
looks_of v = type_looks (plain_type v)

pub named_type : (s : SchemaTree Place) (n : List ℕ) → (judged s).type_named n ≡ option_map looks_of (type_at s n)
named_type s n = ap (option_map type_looks) (get_under plain_type n s.types) ∙ by (type_at s n)
  where
    by : (o : Option (SchemaType Place)) → option_map type_looks (option_map plain_type o) ≡ option_map looks_of o
    by None = refl
    by (Some v) = refl

-- a scalar of the table has nothing
no_interface : (n i : List ℕ) → (looks_of (built_in_scalar n).1).implements i ≡ false
no_interface n i = set.contains-from_list nat_list_cmp_total [] i

module _ (s : SchemaTree Place) where
  other_stays : (n : List ℕ) (v : SchemaType Place) → type_at s n ≡ Some v → same_kind v.kind kind.Scalar ≡ false → type_at (validated s) n ≡ Some v
  other_stays n v e other =
      let (x, (found, same)) = mapped_some (λ (x : List ℕ × SchemaType Place). x.1) (find (λ (x : List ℕ × SchemaType Place). bytes_eq n x.0) s.types) v e in
      let stays : not (is_dropped s x) ≡ true = ap (λ k. not (same_kind k kind.Scalar && is_built_in x.1.place && not (is_referenced x.0 s))) (ap (λ (t : SchemaType Place). t.kind) (sym same))
      ∙ ap (λ b. not (b && is_built_in x.1.place && not (is_referenced x.0 s))) other in
      ap (option_map (λ (x : List ℕ × SchemaType Place). x.1)) (still_found (λ x. not (is_dropped s x)) (λ (x : List ℕ × SchemaType Place). bytes_eq n x.0) s.types (map built_in_scalar (filter (is_missing s) scalar_names)) x found stays)
      ∙ ap Some (sym same)

  interface_stays : (n : List ℕ) → IsInterface (judged s) n → IsInterface (judged (validated s)) n
  interface_stays n (t, (there, is)) =
      let (v, (at, same)) = mapped_some looks_of (type_at s n) t (sym (named_type s n) ∙ there) in
      let other : same_kind v.kind kind.Scalar ≡ false = ap (λ k. same_kind k kind.Scalar) (ap (λ (u : TypeLooks). u.kind) (sym same) ∙ is) in
      (t, (named_type (validated s) n ∙ ap (option_map looks_of) (other_stays n v at other) ∙ ap Some (sym same), is))

module _ (s : SchemaTree Place) (distinct : AreUnder s.types) where
  kept_or_added : (n : List ℕ) (v : SchemaType Place) → type_at (validated s) n ≡ Some v → (type_at s n ≡ Some v) ⊎ (Contains scalar_names n × (v ≡ (built_in_scalar n).1))
  kept_or_added n v e = elim (Contains-append_cases (kept s).types (map built_in_scalar (filter (is_missing s) scalar_names)) (n, v) (under_given n (validated s).types v e)) [
    | inl c ↦ inl (under_found s.types distinct (n, v) (was_there (λ x. not (is_dropped s x)) s.types (n, v) c))
    | inr c ↦
        let (k, (d, is)) = comes_from built_in_scalar (filter (is_missing s) scalar_names) (n, v) c in
        let same : k ≡ n = ap (λ (x : List ℕ × SchemaType Place). x.0) is in
        inr (subst (Contains scalar_names) same (was_there (is_missing s) scalar_names k d), sym (ap (λ (x : List ℕ × SchemaType Place). x.1) is) ∙ ap (λ m. (built_in_scalar m).1) same)
  ]

  -- what is there after validation was there, with the same mark, or is one of the five
  abbrev Was : List ℕ → TypeLooks → Type 0
  Was n t = ((judged s).type_named n ≡ Some t) × (is_marked (validated s) (TypeAt n) ≡ is_marked s (TypeAt n))

  was_or_added : (n : List ℕ) (t : TypeLooks) → (judged (validated s)).type_named n ≡ Some t → Was n t ⊎ (Contains scalar_names n × (t ≡ looks_of (built_in_scalar n).1))
  was_or_added n t there = by (type_at (validated s) n) refl (sym (named_type (validated s) n) ∙ there)
    where
      by : (o : Option (SchemaType Place)) → type_at (validated s) n ≡ o → option_map looks_of o ≡ Some t → Was n t ⊎ (Contains scalar_names n × (t ≡ looks_of (built_in_scalar n).1))
      by None e is = cc
      by (Some v) e is = elim (kept_or_added n v e) [
        | inl was ↦ inl (named_type s n ∙ ap (option_map looks_of) was ∙ is, ap (λ o. is_built_in (or_nothing (option_map (λ (x : SchemaType Place). x.place) o))) (e ∙ sym was))
        | inr added ↦ inr (added.0, sym (same_Some _ _ is) ∙ ap looks_of added.1)
      ]

  was : (n : List ℕ) (t : TypeLooks) → (judged (validated s)).type_named n ≡ Some t → (t.kind ≡ kind.Scalar → ⊥) → (judged s).type_named n ≡ Some t
  was n t there other = elim (was_or_added n t there) [
    | inl w ↦ w.0
    | inr a ↦ absurd (other (ap (λ (u : TypeLooks). u.kind) a.1))
  ]

  -- ---- implementing

  implemented_before : (n i : List ℕ) → Implements (judged (validated s)) n i → Implements (judged s) n i
  implemented_before n i (t, (there, has)) = elim (was_or_added n t there) [
    | inl w ↦ (t, (w.0, has))
    | inr a ↦ absurd (true≢false (sym has ∙ ap (λ (u : TypeLooks). u.implements i) a.1 ∙ no_interface n i))
  ]

  module _ (order : ImplementsInOrder (judged s)) where
    transitive_after : (n i k : List ℕ) → Implements (judged (validated s)) n i → Implements (judged (validated s)) i k → Implements (judged (validated s)) n k
    transitive_after n i k (t, (there, has)) over =
        let first : Implements (judged s) n i = implemented_before n i (t, (there, has)) in
        let (u, (there', has')) = order.transitive n i k first (implemented_before i k over) in
        elim (was_or_added n t there) [
          | inl w ↦ (t, (there, ap (λ (x : TypeLooks). x.implements k) (same_Some t u (sym w.0 ∙ there')) ∙ has'))
          | inr a ↦ absurd (true≢false (sym has ∙ ap (λ (x : TypeLooks). x.implements i) a.1 ∙ no_interface n i))
        ]

    order_after : ImplementsInOrder (judged (validated s))
    order_after = record {
      interfaces = λ n i h. interface_stays s i (order.interfaces n i (implemented_before n i h));
      irreflexive = λ n h. order.irreflexive n (implemented_before n n h);
      transitive = transitive_after;
    }

  -- ---- literals

  refers_before : (n : List ℕ) (by : Referring (InputValueTree (Unit {0}))) (m : List ℕ) → RefersToInput (judged (validated s)) n by m → RefersToInput (judged s) n by m
  refers_before n by m (t, (there, (is, (by_field, (u, (there', is')))))) =
      (t, (was n t there (λ e. cc (sym e ∙ is)), (is, (by_field, (u, (was m u there' (λ e. cc (sym e ∙ is')), is'))))))

  leads_before : (n : List ℕ) (bys : List (Referring (InputValueTree (Unit {0})))) (m : List ℕ) → Leads (RefersToInput (judged (validated s))) n bys m → Leads (RefersToInput (judged s)) n bys m
  leads_before n [] m l = l
  leads_before n (by ∷ bys) m (z, (r, l)) = (z, (refers_before n by z r, leads_before z bys m l))

  no_field : (n m : List ℕ) (t : TypeLooks) → t ≡ looks_of (built_in_scalar n).1 → t.input m ≡ None
  no_field n m t e = ap (λ (u : TypeLooks). u.input m) e ∙ fin.get-empty by_bytes m

  names_after : HasNames (judged s) → (n : List ℕ) (t : TypeLooks) → (judged (validated s)).type_named n ≡ Some t → (m : List ℕ) → is_some (t.input m) ≡ true → is_name m ≡ true
  names_after names n t there m has = elim (was_or_added n t there) [
    | inl w ↦ names.inputs n t w.0 m has
    | inr a ↦ absurd (true≢false (sym has ∙ ap is_some (no_field n m t a.1)))
  ]

  five_after : HasTheFiveAlone (judged s) → HasTheFiveAlone (judged (validated s))
  five_after five n (t, (there, (is, mark))) = elim (was_or_added n t there) [
    | inl w ↦ five n (t, (w.0, (is, sym w.1 ∙ mark)))
    | inr a ↦ a.0
  ]

  module _ (rules : SchemaRules (judged s)) where
    inputs_after : (n : List ℕ) (t : TypeLooks) → (judged (validated s)).type_named n ≡ Some t → (m : List ℕ) (v : InputValueTree (Unit {0})) → t.input m ≡ Some v → IsInput (judged (validated s)) v.ty.it
    inputs_after n t there m v has u there' = elim (was_or_added (named_in v.ty.it) u there') [
      | inr a ↦ ap (λ (w : TypeLooks). is_input_kind w.kind) a.1
      | inl w' ↦ elim (was_or_added n t there) [
        | inl w ↦ inputs s rules n t w.0 m v has u w'.0
        | inr a ↦ absurd (true≢false (ap is_some (sym has ∙ no_field n m t a.1)))
      ]
    ]

    grounds_after : HasNames (judged s) → HasTheFiveAlone (judged s) → HasNoKeywordValue (judged s) → Grounds (judged (validated s))
    grounds_after names five keywords = record {
      inputs = inputs_after;
      values = λ n t there is. values s rules names keywords n t (was n t there (λ e. cc (sym e ∙ is))) is;
      named = names_after names;
      five = five_after five;
      all = _;
      covers = covers (validated s);
      fields = fields (validated s);
      acyclic = λ n by rest leads. acyclic s rules n by rest (leads_before n (by ∷ rest) n leads);
    }

pub ordered_after : OrderedAfterValidation
ordered_after s distinct rules = order_after s distinct (ordered (judged s) rules)

pub literals_after : LiteralsAfterValidation
literals_after s distinct names rules five keywords = have_literals (judged (validated s)) (grounds_after s distinct rules names five keywords)
