-- The list of a set's faults holds exactly the ways in which a selection of it breaks a rule, and one for each that is left out.
use Rattle.std.proofs.Common.{◌≡◌, ℕ, Bool, true, false, not, ◌&&◌, ◌||◌, ◌↔◌, inl, inr, List, [], ◌∷◌, Option, None, Some, refl, sym, ap, subst, ◌∙◌, if◌then◌else◌, Contains, true≢false}
use Rattle.std.specs.Option.{option_map_or}
use Rattle.std.proofs.lemmas.List.Elements.{Contains-append_left, Contains-append_right, Contains-append_cases}
use Rattle.graphql_names.specs.Placed.{Text}
use Rattle.tree_directives.specs.DirectiveTree.{Directives}
use Rattle.tree_operations.specs.SelectionTree.{FieldHead, SelectionTree, FieldTree, SpreadTree, InlineTree, SelectionTrees, no_selections, selection_then}
use Rattle.tree_operations.specs.OperationWritable.{has_selection}
use Rattle.schema_types.proofs.in_components.Places.{not_in_nil, only, is_only}
use Rattle.document_typing.specs.MeantTree.{Definition}
use Rattle.document_typing.specs.Meanings.{Meanings, inner_type}
use Rattle.document_typing.specs.KeptSelections.{is_leaf, may_select}
use Rattle.document_typing.specs.TypingFaults as rule
use Rattle.document_typing.specs.TypingFaults.{TypingFault, typing_fault_at, UndefinedField, SubselectionOnScalarType, SubselectionOnEnumType, UndefinedTypeInInlineFragmentTypeCondition, SelectionBreaks, IsInSelections, SetFails}
use Rattle.document_typing.specs.SetFaults.{leaf_faults, selection_faults, set_faults}

-- what a test that fails says
pub both-so : (a b : Bool) → not (a && b) ≡ false → (a ≡ true) × (b ≡ true)
both-so true true h = (refl, refl)
both-so true false h = absurd (true≢false h)
both-so false b h = absurd (true≢false h)

not-both : (a b : Bool) → a ≡ true → b ≡ true → not (a && b) ≡ false
not-both a b p q = (λ i. not (p i && b)) ∙ (λ i. not (true && q i))

or-left : (a b : Bool) → a ≡ true → (a || b) ≡ true
or-left a b e = ap (λ c. c || b) e

or-right : (a b : Bool) → b ≡ true → (a || b) ≡ true
or-right true b e = refl
or-right false b e = e

module _ {X : Type 0} where
  -- the only element of a list that is there under a condition
  pub if-told : (b : Bool) (x y : X) → Contains (if b then x ∷ [] else []) y → (b ≡ true) × (y ≡ x)
  if-told true x y h = (refl, only x y h)
  if-told false x y h = absurd (not_in_nil y h)

  pub told-if : (b : Bool) (x y : X) → b ≡ true → y ≡ x → Contains (if b then x ∷ [] else []) y
  told-if b x y e f = subst (λ c. Contains (if c then x ∷ [] else []) y) (sym e) (is_only x y f)

module _ {P : Type 0} (m : Meanings) where
  -- ---- what is told breaks a rule

  leaf-broken : (t : List ℕ) (p : P) (h : FieldHead P) (ts : SelectionTrees P) (d : Definition) (f : TypingFault P) → m.field t h.name.it ≡ Some d → may_select m (inner_type d) ts ≡ false
      → Contains (leaf_faults m p (inner_type d)) f → SelectionBreaks m t (FieldTree p h ts) f
  leaf-broken t p h ts d f e not_so c =
      let has : has_selection ts ≡ true = (both-so (has_selection ts) (is_leaf m (inner_type d)) not_so).0 in
      elim (Contains-append_cases (if m.is_scalar (inner_type d) then typing_fault_at p (SubselectionOnScalarType (inner_type d)) ∷ [] else []) (if m.is_enum (inner_type d) then typing_fault_at p (SubselectionOnEnumType (inner_type d)) ∷ [] else []) f c) [
        | inl a ↦ let x = if-told (m.is_scalar (inner_type d)) (typing_fault_at p (SubselectionOnScalarType (inner_type d))) f a in rule.subselection_on_scalar_type (d, (e, x.0, has, x.1))
        | inr b ↦ let x = if-told (m.is_enum (inner_type d)) (typing_fault_at p (SubselectionOnEnumType (inner_type d))) f b in rule.subselection_on_enum_type (d, (e, x.0, has, x.1))
      ]

  field-broken : (t : List ℕ) (p : P) (h : FieldHead P) (ts ss : SelectionTrees P) (f : TypingFault P)
      → ((u : List ℕ) → Contains (set_faults m ts u) f → SetFails m u ts f)
      → Contains (selection_faults m (FieldTree p h ts) t) f → SetFails m t (selection_then (FieldTree p h ts) ss) f
  field-broken t p h ts ss f deeper c = by (m.field t h.name.it) refl c
    where
      by_set : (d : Definition) → m.field t h.name.it ≡ Some d → (b : Bool) → may_select m (inner_type d) ts ≡ b
          → Contains (if b then set_faults m ts (inner_type d) else leaf_faults m p (inner_type d)) f → SetFails m t (selection_then (FieldTree p h ts) ss) f
      by_set d e true may c = let x = deeper (inner_type d) c in (x.0, (x.1.0, (rule.in_field t p h ts ss d e may x.1.1.0, x.1.1.1)))
      by_set d e false may c = (t, (FieldTree p h ts, (rule.first ss, leaf-broken t p h ts d f e may c)))

      by : (o : Option Definition) → m.field t h.name.it ≡ o
          → Contains (option_map_or (λ d. if may_select m (inner_type d) ts then set_faults m ts (inner_type d) else leaf_faults m p (inner_type d)) o (typing_fault_at p (UndefinedField t h.name.it) ∷ [])) f
          → SetFails m t (selection_then (FieldTree p h ts) ss) f
      by None e c = (t, (FieldTree p h ts, (rule.first ss, rule.undefined_field (e, only (typing_fault_at p (UndefinedField t h.name.it)) f c))))
      by (Some d) e c = by_set d e (may_select m (inner_type d) ts) refl c

  condition-broken : (t : List ℕ) (p : P) (n : Text P) (ds : Directives P) (ts ss : SelectionTrees P) (f : TypingFault P)
      → (Contains (set_faults m ts n.it) f → SetFails m n.it ts f)
      → (b : Bool) → m.has_type n.it ≡ b → Contains (if b then set_faults m ts n.it else typing_fault_at p (UndefinedTypeInInlineFragmentTypeCondition n.it) ∷ []) f
      → SetFails m t (selection_then (InlineTree p (Some n) ds ts) ss) f
  condition-broken t p n ds ts ss f deeper true e c = let x = deeper c in (x.0, (x.1.0, (rule.in_condition t p n ds ts ss e x.1.1.0, x.1.1.1)))
  condition-broken t p n ds ts ss f deeper false e c =
      (t, (InlineTree p (Some n) ds ts, (rule.first ss, rule.undefined_type_in_inline_fragment_type_condition (e, only (typing_fault_at p (UndefinedTypeInInlineFragmentTypeCondition n.it)) f c))))

  following : (t : List ℕ) (x : SelectionTree P) (ss : SelectionTrees P) (f : TypingFault P) → SetFails m t ss f → SetFails m t (selection_then x ss) f
  following t x ss f (u, (s, (at, breaks))) = (u, (s, (rule.later t x ss at, breaks)))

  mutual
    selection-broken : (s : SelectionTree P) (ss : SelectionTrees P) (t : List ℕ) (f : TypingFault P) → Contains (selection_faults m s t) f → SetFails m t (selection_then s ss) f
    selection-broken (FieldTree p h ts) ss t f c = field-broken t p h ts ss f (λ u. set-broken ts u f) c
    selection-broken (SpreadTree p n ds) ss t f c = absurd (not_in_nil f c)
    selection-broken (InlineTree p None ds ts) ss t f c = let x = set-broken ts t f c in (x.0, (x.1.0, (rule.in_fragment t p ds ts ss x.1.1.0, x.1.1.1)))
    selection-broken (InlineTree p (Some n) ds ts) ss t f c = condition-broken t p n ds ts ss f (set-broken ts n.it f) (m.has_type n.it) refl c

    set-broken : (ts : SelectionTrees P) (t : List ℕ) (f : TypingFault P) → Contains (set_faults m ts t) f → SetFails m t ts f
    set-broken no_selections t f c = absurd (not_in_nil f c)
    set-broken (selection_then s ss) t f c = elim (Contains-append_cases (selection_faults m s t) (set_faults m ss t) f c) [
      | inl a ↦ selection-broken s ss t f a
      | inr b ↦ following t s ss f (set-broken ss t f b)
    ]

  -- ---- what breaks a rule is told

  leaf_told : (p : P) (h : FieldHead P) (ts : SelectionTrees P) (t : List ℕ) (d : Definition) (f : TypingFault P) → m.field t h.name.it ≡ Some d → has_selection ts ≡ true → is_leaf m (inner_type d) ≡ true
      → Contains (leaf_faults m p (inner_type d)) f → Contains (selection_faults m (FieldTree p h ts) t) f
  leaf_told p h ts t d f e has leaf c =
      subst (λ o. Contains (option_map_or (λ d. if may_select m (inner_type d) ts then set_faults m ts (inner_type d) else leaf_faults m p (inner_type d)) o (typing_fault_at p (UndefinedField t h.name.it) ∷ [])) f) (sym e)
      (subst (λ b. Contains (if b then set_faults m ts (inner_type d) else leaf_faults m p (inner_type d)) f) (sym (not-both (has_selection ts) (is_leaf m (inner_type d)) has leaf)) c)

  here-told : (s : SelectionTree P) (t : List ℕ) (f : TypingFault P) → SelectionBreaks m t s f → Contains (selection_faults m s t) f
  here-told (FieldTree p h ts) t f (rule.undefined_field (e, x)) =
      subst (λ o. Contains (option_map_or (λ d. if may_select m (inner_type d) ts then set_faults m ts (inner_type d) else leaf_faults m p (inner_type d)) o (typing_fault_at p (UndefinedField t h.name.it) ∷ [])) f) (sym e) (is_only (typing_fault_at p (UndefinedField t h.name.it)) f x)
  here-told (FieldTree p h ts) t f (rule.subselection_on_scalar_type (d, (e, so, has, x))) =
      leaf_told p h ts t d f e has (or-left (m.is_scalar (inner_type d)) (m.is_enum (inner_type d)) so)
      (Contains-append_left (if m.is_scalar (inner_type d) then typing_fault_at p (SubselectionOnScalarType (inner_type d)) ∷ [] else []) (if m.is_enum (inner_type d) then typing_fault_at p (SubselectionOnEnumType (inner_type d)) ∷ [] else []) f (told-if (m.is_scalar (inner_type d)) (typing_fault_at p (SubselectionOnScalarType (inner_type d))) f so x))
  here-told (FieldTree p h ts) t f (rule.subselection_on_enum_type (d, (e, so, has, x))) =
      leaf_told p h ts t d f e has (or-right (m.is_scalar (inner_type d)) (m.is_enum (inner_type d)) so)
      (Contains-append_right (if m.is_scalar (inner_type d) then typing_fault_at p (SubselectionOnScalarType (inner_type d)) ∷ [] else []) (if m.is_enum (inner_type d) then typing_fault_at p (SubselectionOnEnumType (inner_type d)) ∷ [] else []) f (told-if (m.is_enum (inner_type d)) (typing_fault_at p (SubselectionOnEnumType (inner_type d))) f so x))
  here-told (FieldTree p h ts) t f (rule.undefined_type_in_inline_fragment_type_condition x) = absurd x
  here-told (SpreadTree p n ds) t f (rule.undefined_field x) = absurd x
  here-told (SpreadTree p n ds) t f (rule.subselection_on_scalar_type x) = absurd x
  here-told (SpreadTree p n ds) t f (rule.subselection_on_enum_type x) = absurd x
  here-told (SpreadTree p n ds) t f (rule.undefined_type_in_inline_fragment_type_condition x) = absurd x
  here-told (InlineTree p c ds ts) t f (rule.undefined_field x) = absurd x
  here-told (InlineTree p c ds ts) t f (rule.subselection_on_scalar_type x) = absurd x
  here-told (InlineTree p c ds ts) t f (rule.subselection_on_enum_type x) = absurd x
  here-told (InlineTree p None ds ts) t f (rule.undefined_type_in_inline_fragment_type_condition x) = absurd x
  here-told (InlineTree p (Some c) ds ts) t f (rule.undefined_type_in_inline_fragment_type_condition (e, x)) =
      subst (λ b. Contains (if b then set_faults m ts c.it else typing_fault_at p (UndefinedTypeInInlineFragmentTypeCondition c.it) ∷ []) f) (sym e) (is_only (typing_fault_at p (UndefinedTypeInInlineFragmentTypeCondition c.it)) f x)

  module _ (u : List ℕ) (s : SelectionTree P) (f : TypingFault P) (breaks : SelectionBreaks m u s f) where
    stands-told : (t : List ℕ) (ts : SelectionTrees P) → IsInSelections m u s t ts → Contains (set_faults m ts t) f
    stands-told t ts (rule.first ss) = Contains-append_left (selection_faults m s u) (set_faults m ss u) f (here-told s u f breaks)
    stands-told t ts (rule.later _ x ss at) = Contains-append_right (selection_faults m x t) (set_faults m ss t) f (stands-told t ss at)
    stands-told t ts (rule.in_field _ p h ns ss d e may at) =
        Contains-append_left (selection_faults m (FieldTree p h ns) t) (set_faults m ss t) f
        (subst (λ o. Contains (option_map_or (λ d. if may_select m (inner_type d) ns then set_faults m ns (inner_type d) else leaf_faults m p (inner_type d)) o (typing_fault_at p (UndefinedField t h.name.it) ∷ [])) f) (sym e)
        (subst (λ b. Contains (if b then set_faults m ns (inner_type d) else leaf_faults m p (inner_type d)) f) (sym may) (stands-told (inner_type d) ns at)))
    stands-told t ts (rule.in_fragment _ p ds ns ss at) = Contains-append_left (selection_faults m (InlineTree p None ds ns) t) (set_faults m ss t) f (stands-told t ns at)
    stands-told t ts (rule.in_condition _ p c ds ns ss e at) =
        Contains-append_left (selection_faults m (InlineTree p (Some c) ds ns) t) (set_faults m ss t) f
        (subst (λ b. Contains (if b then set_faults m ns c.it else typing_fault_at p (UndefinedTypeInInlineFragmentTypeCondition c.it) ∷ []) f) (sym e) (stands-told c.it ns at))

  -- the faults of a set are those in its list
  pub set-fails : (ts : SelectionTrees P) (t : List ℕ) (f : TypingFault P) → Contains (set_faults m ts t) f ↔ SetFails m t ts f
  set-fails ts t f = (set-broken ts t f, λ x. stands-told x.0 x.1.0 f x.1.1.1 t ts x.1.1.0)
