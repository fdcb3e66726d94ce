-- Which names are added: those of the variables that stand there.
use Rattle.std.proofs.Common.{◌≡◌, ◌↔◌, ◌⊎◌, inl, inr, ◌++◌, ℕ, zero, suc, Bool, true, false, List, [], ◌∷◌, fold, Some, refl, ap, sym, subst, true≢false, is_some, Contains, slice_get, bytes_eq, if◌then◌else◌}
use Rattle.std.specs.List.{list_any}
use Rattle.std.proofs.lemmas.List.Elements.{Contains-append_left, Contains-append_right, Contains-append_cases}
use Rattle.std.proofs.lemmas.Map.Views.{Contains-from_any}
use Rattle.std.proofs.lemmas.Slice.Eq.{bytes_eq-Decides}
use Rattle.indexmap.specs.IndexSet.{insert_key}
use Rattle.graphql_names.specs.Placed.{Place}
use Rattle.tree_literals.specs.ValueTree.{ValueTree, ItemTrees, EntryTrees, NullTree, EnumTree, VariableTree, StringTree, FloatTree, IntTree, BooleanTree, ListTree, ObjectTree, no_items, item_then, no_entries, entry_then}
use Rattle.tree_operations.specs.DirectiveTree.{Arguments, Directives}
use Rattle.rule_definitions.specs.Words.{AtSomeIndex}
use Rattle.rule_definitions.proofs.Lists.{not_in_nil, Contains-cons, Contains-first}
use Rattle.rule_document_definitions.specs.in_spec_document.MeantTree.{MeantSelection, MeantField, MeantSpread, MeantInline}
use Rattle.rule_document_definitions.specs.UsedVariables.{IsInValue, IsInItems, IsInEntries, IsInArguments, IsInDirectives}
use Rattle.rule_reach.specs.UsedNames.{with_value, with_items, with_entries, with_arguments, with_directives, with_selection}

-- ---- one name more

in_name : (n : List ℕ) (ns : List (List ℕ)) (m : List ℕ) → Contains (insert_key bytes_eq ns m) n ↔ (Contains ns n ⊎ (m ≡ n))
in_name n ns m = by (list_any (bytes_eq m) ns) refl
  where
    by : (b : Bool) → list_any (bytes_eq m) ns ≡ b → Contains (if b then ns else ns ++ m ∷ []) n ↔ (Contains ns n ⊎ (m ≡ n))
    by true is = (λ c. inl c, λ q. elim q [ inl c ↦ c | inr e ↦ subst (Contains ns) e (Contains-from_any (λ x y. (bytes_eq-Decides x y).0) m ns is) ])
    by false is = (
      λ c. elim (Contains-append_cases ns (m ∷ []) n c) [
        | inl d ↦ inl d
        | inr d ↦ elim (Contains-cons m [] n d) [ inl e ↦ inr e | inr none ↦ not_in_nil n none ]
      ],
      λ q. elim q [ inl c ↦ Contains-append_left ns (m ∷ []) n c | inr e ↦ Contains-append_right ns (m ∷ []) n (Contains-first m [] n e) ],
    )

-- ---- one step after the other

-- both steps add what they add
pub in_both : {A B C D E : Type 0} → C ↔ (B ⊎ E) → B ↔ (A ⊎ D) → C ↔ (A ⊎ (D ⊎ E))
in_both second first = (
  λ c. elim (second.0 c) [
    | inl b ↦ elim (first.0 b) [ inl a ↦ inl a | inr d ↦ inr (inl d) ]
    | inr e ↦ inr (inr e)
  ],
  λ q. elim q [
    | inl a ↦ second.1 (inl (first.1 (inl a)))
    | inr r ↦ elim r [ inl d ↦ second.1 (inl (first.1 (inr d))) | inr e ↦ second.1 (inr e) ]
  ],
)

-- nothing is added
pub in_none : {A : Type 0} → A ↔ (A ⊎ ⊥)
in_none = (λ a. inl a, λ q. elim q [ inl a ↦ a | inr n ↦ absurd n ])

pub in_fold : {X : Type 0} (step : List (List ℕ) → X → List (List ℕ)) (P : X → Type 0) (n : List ℕ)
    → ((ns : List (List ℕ)) (x : X) → Contains (step ns x) n ↔ (Contains ns n ⊎ P x))
    → (ns : List (List ℕ)) (xs : List X) → Contains (fold step ns xs) n ↔ (Contains ns n ⊎ AtSomeIndex xs (λ i x. P x))
in_fold step P n one ns [] = (λ c. inl c, λ q. elim q [ inl c ↦ c | inr a ↦ absurd (true≢false (sym (ap is_some a.1.1.0))) ])
in_fold {X} step P n one ns (x ∷ xs) = (
  λ c. elim ((in_fold step P n one (step ns x) xs).0 c) [
    | inl d ↦ elim ((one ns x).0 d) [ inl e ↦ inl e | inr p ↦ inr (0, (x, (refl, p))) ]
    | inr a ↦ inr (suc a.0, a.1)
  ],
  λ q. elim q [
    | inl c ↦ (in_fold step P n one (step ns x) xs).1 (inl ((one ns x).1 (inl c)))
    | inr a ↦ back (λ d. (in_fold step P n one (step ns x) xs).1 d) a.0 a.1.0 a.1.1.0 a.1.1.1
  ],
)
  where
    back : (Contains (step ns x) n ⊎ AtSomeIndex xs (λ i y. P y) → Contains (fold step (step ns x) xs) n) → (i : ℕ) (y : X) → slice_get (x ∷ xs) i ≡ Some y → P y → Contains (fold step (step ns x) xs) n
    back rest zero y e p = let same : y ≡ x = cc in rest (inl ((one ns x).1 (inr (subst P same p))))
    back rest (suc i) y e p = rest (inr (i, (y, (e, p))))

module _ (n : List ℕ) where
  -- ---- values

  mutual
    in_value : (ns : List (List ℕ)) (v : ValueTree Place) → Contains (with_value ns v) n ↔ (Contains ns n ⊎ IsInValue n v)
    in_value ns (VariableTree v) = in_name n ns v.it
    in_value ns (ListTree ts) = in_items ns ts
    in_value ns (ObjectTree es) = in_entries ns es
    in_value ns NullTree = in_none
    in_value ns (EnumTree x) = in_none
    in_value ns (StringTree s) = in_none
    in_value ns (FloatTree s) = in_none
    in_value ns (IntTree s) = in_none
    in_value ns (BooleanTree b) = in_none

    in_items : (ns : List (List ℕ)) (ts : ItemTrees Place) → Contains (with_items ns ts) n ↔ (Contains ns n ⊎ IsInItems n ts)
    in_items ns no_items = in_none
    in_items ns (item_then p v ts) = in_both (in_items (with_value ns v) ts) (in_value ns v)

    in_entries : (ns : List (List ℕ)) (es : EntryTrees Place) → Contains (with_entries ns es) n ↔ (Contains ns n ⊎ IsInEntries n es)
    in_entries ns no_entries = in_none
    in_entries ns (entry_then k p v es) = in_both (in_entries (with_value ns v) es) (in_value ns v)

  -- ---- what is given

  in_arguments : (ns : List (List ℕ)) (given : Arguments Place) → Contains (with_arguments ns given) n ↔ (Contains ns n ⊎ IsInArguments n given)
  in_arguments ns given = in_fold (λ ms a. with_value ms a.it.value.it) (λ a. IsInValue n a.it.value.it) n (λ ms a. in_value ms a.it.value.it) ns given

  pub in_directives : (ns : List (List ℕ)) (ds : Directives Place) → Contains (with_directives ns ds) n ↔ (Contains ns n ⊎ IsInDirectives n ds)
  in_directives ns ds = in_fold (λ ms d. with_arguments ms d.it.arguments) (λ d. IsInArguments n d.it.arguments) n (λ ms d. in_arguments ms d.it.arguments) ns ds

  -- ---- selections

  -- it is in a selection itself, wherever the selection is
  abbrev pub StandsHere : MeantSelection Place → Type 0
  StandsHere (MeantField p d h s) = IsInArguments n h.arguments ⊎ IsInDirectives n h.directives
  StandsHere (MeantSpread p m ds) = IsInDirectives n ds
  StandsHere (MeantInline p c ds s) = IsInDirectives n ds

  pub in_selection : (ns : List (List ℕ)) (x : MeantSelection Place) → Contains (with_selection ns x) n ↔ (Contains ns n ⊎ StandsHere x)
  in_selection ns (MeantField p d h s) = in_both (in_directives (with_arguments ns h.arguments) h.directives) (in_arguments ns h.arguments)
  in_selection ns (MeantSpread p m ds) = in_directives ns ds
  in_selection ns (MeantInline p c ds s) = in_directives ns ds
