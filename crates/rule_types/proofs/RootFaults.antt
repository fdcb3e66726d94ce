-- The rules on roots.
use Rattle.std.proofs.Common.{◌≡◌, ℕ, ◌⊎◌, ◌↔◌, Bool, true, false, List, [], ◌∷◌, ◌++◌, map, refl, sym, ap, subst, ◌∙◌, inl, inr, Option, None, Some, Contains, option_to_list, if◌then◌else◌}
use Rattle.std.specs.List.{flat_map, find}
use Rattle.std.proofs.lemmas.List.Elements.{Contains-append_cases}
use Rattle.std.specs.Option.{option_map, option_map_or}
use Rattle.std.specs.Str.{bytes_eq}
use Rattle.graphql_names.specs.Placed.{Place, Text}
use Rattle.schema_components.specs.Lists.{each_place}
use Rattle.schema_components.specs.Given.{Given, given_name}
use Rattle.schema_types.specs.SchemaTree.{SchemaTree}
use Rattle.schema_types.specs.Addresses.{SchemaAt, RootAt, place_of, root_at, place_at}
use Rattle.tree_directives.specs.declared.operation_type.OperationType.{OperationType}
use Rattle.tree_directives.specs.declared.operation_type.OperationType.TheVariants as operation
use Rattle.fault_data.specs.in_rule_definitions.Diagnostics.{QueryRootOperationType, DuplicateRootOperationType}
use Rattle.fault_data.specs.in_rule_definitions.Faults.{SchemaFault, wrong, told}
use Rattle.fault_data.specs.in_rule_definitions.Judged.{judged}
use Rattle.fault_data.specs.in_rule_definitions.Words.{Repeats}
use Rattle.fault_data.specs.in_rule_definitions.Roots.{QueryRootOperationTypeAt, DuplicateRootOperationTypeAt}
use Rattle.fault_data.specs.in_rule_definitions.PlacedFaults.{PlacedFault}
use Rattle.rule_types.specs.FaultLists.{query_root_operation_type, same_root, or_else, subscription_again, root_faults, roots_faults}
use Rattle.fault_data.proofs.in_rule_definitions.Lists.{not_in_nil, only, index_given}
use Rattle.rule_types.proofs.ByPlace.{RootBreaks, RootsBreak}
use Rattle.fault_data.proofs.in_rule_definitions.Tells.{Tells, tells_same, tells_list, tells_both, tells_one, tells_no, tells_repeats}
use Rattle.rule_types.proofs.Says.{Is, says, says_root}

abbrev Root : Type 0
Root = Option (Given Place (Text Place))

-- the roots that are there, with their operations
abbrev rooted : OperationType → Root → List (OperationType × Text Place)
rooted o root = map (λ (g : Given Place (Text Place)). (o, g.it)) (option_to_list root)

abbrev roots_of : Root → Root → Root → List (OperationType × Text Place)
roots_of q m b = rooted operation.Query q ++ (rooted operation.Mutation m ++ rooted operation.Subscription b)

abbrev name_of : OperationType × Text Place → OperationType × List ℕ
name_of r = (r.0, r.1.it)

abbrev say : OperationType × Text Place → OperationType × Text Place → PlacedFault
say w v = wrong v.1.place (DuplicateRootOperationType v.1.it w.0 w.1.place v.0 v.1.place)

abbrev repeated : List (OperationType × Text Place) → OperationType × Text Place → List PlacedFault
repeated before v = option_map_or (λ w. say w v ∷ []) (find (λ w. bytes_eq v.1.it w.1.it) before) []

duplicates : (q m b : Root) → same_root operation.Query q operation.Mutation m ++ or_else (same_root operation.Query q operation.Subscription b) (same_root operation.Mutation m operation.Subscription b) ≡ each_place repeated (roots_of q m b)
duplicates None None None = refl
duplicates None None (Some b) = refl
duplicates None (Some m) None = refl
duplicates (Some q) None None = refl
duplicates None (Some m) (Some b) = by (bytes_eq b.it.it m.it.it)
  where
    x : PlacedFault
    x = say (operation.Mutation, m.it) (operation.Subscription, b.it)

    by : (c : Bool) → or_else [] (if c then x ∷ [] else []) ≡ option_map_or (λ w. say w (operation.Subscription, b.it) ∷ []) (if c then Some (operation.Mutation, m.it) else None) [] ++ []
    by true = refl
    by false = refl
duplicates (Some q) None (Some b) = by (bytes_eq b.it.it q.it.it)
  where
    x : PlacedFault
    x = say (operation.Query, q.it) (operation.Subscription, b.it)

    by : (c : Bool) → or_else (if c then x ∷ [] else []) [] ≡ option_map_or (λ w. say w (operation.Subscription, b.it) ∷ []) (if c then Some (operation.Query, q.it) else None) [] ++ []
    by true = refl
    by false = refl
duplicates (Some q) (Some m) None = by (bytes_eq m.it.it q.it.it)
  where
    x : PlacedFault
    x = say (operation.Query, q.it) (operation.Mutation, m.it)

    by : (c : Bool) → (if c then x ∷ [] else []) ++ [] ≡ option_map_or (λ w. say w (operation.Mutation, m.it) ∷ []) (if c then Some (operation.Query, q.it) else None) [] ++ []
    by true = refl
    by false = refl
duplicates (Some q) (Some m) (Some b) = by (bytes_eq m.it.it q.it.it) (bytes_eq b.it.it q.it.it) (bytes_eq b.it.it m.it.it)
  where
    x : PlacedFault
    x = say (operation.Query, q.it) (operation.Mutation, m.it)

    y : PlacedFault
    y = say (operation.Query, q.it) (operation.Subscription, b.it)

    z : PlacedFault
    z = say (operation.Mutation, m.it) (operation.Subscription, b.it)

    by : (c d e : Bool) → (if c then x ∷ [] else []) ++ or_else (if d then y ∷ [] else []) (if e then z ∷ [] else [])
        ≡ option_map_or (λ w. say w (operation.Mutation, m.it) ∷ []) (if c then Some (operation.Query, q.it) else None) []
        ++ (option_map_or (λ w. say w (operation.Subscription, b.it) ∷ []) (if d then Some (operation.Query, q.it) else (if e then Some (operation.Mutation, m.it) else None)) [] ++ [])
    by true true e = refl
    by true false true = refl
    by true false false = refl
    by false true e = refl
    by false false true = refl
    by false false false = refl

-- the same without places
names_of_roots : (q m b : Root) → map name_of (roots_of q m b)
    ≡ flat_map (λ (x : List (OperationType × List ℕ)). x) (map (λ n. (operation.Query, n)) (option_to_list (option_map given_name q)) ∷ map (λ n. (operation.Mutation, n)) (option_to_list (option_map given_name m)) ∷ map (λ n. (operation.Subscription, n)) (option_to_list (option_map given_name b)) ∷ [])
names_of_roots None None None = refl
names_of_roots None None (Some b) = refl
names_of_roots None (Some m) None = refl
names_of_roots None (Some m) (Some b) = refl
names_of_roots (Some q) None None = refl
names_of_roots (Some q) None (Some b) = refl
names_of_roots (Some q) (Some m) None = refl
names_of_roots (Some q) (Some m) (Some b) = refl

module _ (s : SchemaTree Place) where
  abbrev all_roots : List (OperationType × Text Place)
  all_roots = roots_of s.definition.query s.definition.mutation s.definition.subscription

  -- each is at the place of its operation's root
  root_stands : (x : OperationType × Text Place) → Contains all_roots x → x.1.place ≡ place_at s (RootAt x.0)
  root_stands x c = elim (Contains-append_cases (rooted operation.Query s.definition.query) _ x c) [
    | inl h ↦ of_one operation.Query s.definition.query refl h
    | inr r ↦ elim (Contains-append_cases (rooted operation.Mutation s.definition.mutation) _ x r) [
      | inl h ↦ of_one operation.Mutation s.definition.mutation refl h
      | inr h ↦ of_one operation.Subscription s.definition.subscription refl h
    ]
  ]
    where
      of_one : (o : OperationType) (root : Root) → root_at s o ≡ option_map (λ (g : Given Place (Text Place)). g.it) root → Contains (rooted o root) x → x.1.place ≡ place_at s (RootAt x.0)
      of_one o None e h = not_in_nil x h
      of_one o (Some g) e h =
          let same : x ≡ (o, g.it) = only (o, g.it) x h in
          ap (λ (y : OperationType × Text Place). y.1.place) same ∙ sym (ap place_of (ap (λ (y : OperationType × Text Place). root_at s y.0) same ∙ e))

  says_duplicates : Tells (Is s) (same_root operation.Query s.definition.query operation.Mutation s.definition.mutation ++ subscription_again s.definition) (λ g. DuplicateRootOperationTypeAt (judged s) g)
  says_duplicates =
      tells_list (Is s) (each_place repeated all_roots) _ (λ g. DuplicateRootOperationTypeAt (judged s) g) (sym (duplicates s.definition.query s.definition.mutation s.definition.subscription))
      (subst (λ rs. Tells (Is s) (each_place repeated all_roots) (λ g. Repeats (λ r. r.1) rs (λ i first j later. g ≡ told (RootAt later.0) (DuplicateRootOperationType later.1 first.0 (RootAt first.0) later.0 (RootAt later.0)))))
      (names_of_roots s.definition.query s.definition.mutation s.definition.subscription)
      (tells_repeats (Is s) name_of (λ r. r.1) say (λ i first j later. told (RootAt later.0) (DuplicateRootOperationType later.1 first.0 (RootAt first.0) later.0 (RootAt later.0))) all_roots (λ i j x y at at' same.
      let p = root_stands x (index_given all_roots i x at) in
      let q = root_stands y (index_given all_roots j y at') in
      says s (RootAt y.0) (DuplicateRootOperationType y.1.it x.0 (RootAt x.0) y.0 (RootAt y.0)) (say x y) q (λ k. DuplicateRootOperationType y.1.it x.0 (p k) y.0 (q k)))))

  says_query_root : Tells (Is s) (query_root_operation_type s.definition) (λ g. QueryRootOperationTypeAt (judged s) g)
  says_query_root = by s.definition.query
    where
      x : PlacedFault
      x = wrong s.definition.place QueryRootOperationType

      by : (root : Root) → Tells (Is s) (option_map_or (λ q. []) root (x ∷ [])) (λ g. (option_map (given_name {P = Place}) root ≡ None) × (g ≡ told SchemaAt QueryRootOperationType))
      by None = tells_one (Is s) (option_map (given_name {P = Place}) None ≡ None) x (told SchemaAt QueryRootOperationType) refl (says s SchemaAt QueryRootOperationType x refl refl)
      by (Some g) = tells_no (Is s) (option_map (given_name {P = Place}) (Some g) ≡ None) (told SchemaAt QueryRootOperationType) (λ e. cc)

  pub says_roots : Tells (Is s) (roots_faults s) (λ g. RootsBreak (judged s) g)
  says_roots =
      tells_both (Is s) (query_root_operation_type s.definition) _ _ _ says_query_root
      (tells_same (Is s) (root_faults s s.definition.query ++ (root_faults s s.definition.mutation ++ (root_faults s s.definition.subscription
      ++ (same_root operation.Query s.definition.query operation.Mutation s.definition.mutation ++ subscription_again s.definition)))) _ _ (λ g. each_root g)
      (tells_both (Is s) (root_faults s s.definition.query) _ (λ g. RootBreaks (judged s) g operation.Query) _ (says_root s operation.Query s.definition.query refl refl)
      (tells_both (Is s) (root_faults s s.definition.mutation) _ (λ g. RootBreaks (judged s) g operation.Mutation) _ (says_root s operation.Mutation s.definition.mutation refl refl)
      (tells_both (Is s) (root_faults s s.definition.subscription) _ (λ g. RootBreaks (judged s) g operation.Subscription) _ (says_root s operation.Subscription s.definition.subscription refl refl) says_duplicates))))
    where
      by_operation : (g : SchemaFault) (o : OperationType) → RootBreaks (judged s) g o
          → RootBreaks (judged s) g operation.Query ⊎ (RootBreaks (judged s) g operation.Mutation ⊎ (RootBreaks (judged s) g operation.Subscription ⊎ DuplicateRootOperationTypeAt (judged s) g))
      by_operation g operation.Query r = inl r
      by_operation g operation.Mutation r = inr (inl r)
      by_operation g operation.Subscription r = inr (inr (inl r))

      each_root : (g : SchemaFault)
          → (RootBreaks (judged s) g operation.Query ⊎ (RootBreaks (judged s) g operation.Mutation ⊎ (RootBreaks (judged s) g operation.Subscription ⊎ DuplicateRootOperationTypeAt (judged s) g)))
          ↔ (((o : OperationType) × RootBreaks (judged s) g o) ⊎ DuplicateRootOperationTypeAt (judged s) g)
      each_root g = (
        λ h. elim h [
          | inl q ↦ inl (operation.Query, q)
          | inr r ↦ elim r [
            | inl m ↦ inl (operation.Mutation, m)
            | inr u ↦ elim u [ inl b ↦ inl (operation.Subscription, b) | inr d ↦ inr d ]
          ]
        ],
        λ h. elim h [ inl r ↦ by_operation g r.0 r.1 | inr d ↦ inr (inr (inr d)) ],
      )
