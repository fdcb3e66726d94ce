-- What is left of a set, selection by selection.
use Rattle.std.proofs.Common.{◌≡◌, ◌++◌, ◌+◌, ◌<◌, ◌≤◌, ℕ, Bool, true, false, not, ◌&&◌, ◌||◌, List, [], ◌∷◌, take, length, get_or, refl, sym, ap, subst, ◌∙◌, ◌⊎◌, inl, inr, Contains, append-nil}
use Rattle.std.specs.Prelude.{if◌then◌else◌}
use Rattle.std.specs.List.{list_any, filter}
use Rattle.std.proofs.lemmas.List.{take_all}
use Rattle.graphql_names.specs.Placed.{Place}
use Rattle.document_typed_selections.specs.TypedTree.{TypedSelection, TypedSet, typed_set, TypedSelections, no_typed, typed_then, typed_selections, typed_selection_tree, typed_set_tree}
use Rattle.document_typed_selections.specs.TypedParts.{and_then, set_and_if}
use Rattle.document_typed_selections.specs.declared.selection.Selection.{Selection}
use Rattle.document_typed_selections.specs.declared.selection.SelectionSet.{SelectionSet}
use Rattle.document_typed_selections.proofs.TypedTrees.{typed_set_tree_out}
use Rattle.spec_document.specs.MeantTree.{MeantSelection, MeantSet, meant, meant_of_set, meant_of_all}
use Rattle.rule_selection_queries.specs.Lent.{lent, lent_all}
use Rattle.rule_fragments.specs.Thinned.{listed, set_listed, is_quiet, are_quiet, all_quiet, Leaves}
use Rattle.rule_selection_queries.proofs.Telling.{front_more, any_there}
use Rattle.rule_fragments.proofs.Listing.{filtered, in_filter}

-- ---- whether all selections of a set are quiet

not_any : (a b : Bool) → (a && not b) ≡ not (not a || b)
not_any true b = refl
not_any false b = refl

quiet_each : (d : Bool) (ss : List Selection) → all_quiet d (meant_of_all (typed_selections typed_selection_tree ss)) ≡ not (list_any (λ s. not (is_quiet d (lent s))) ss)
quiet_each d [] = refl
quiet_each d (s ∷ ss) = ap (λ r. is_quiet d (lent s) && r) (quiet_each d ss) ∙ not_any (is_quiet d (lent s)) (list_any (λ s. not (is_quiet d (lent s))) ss)

set_quiet : (d : Bool) (s : SelectionSet) → are_quiet d (meant_of_set (typed_set_tree s)) ≡ not (list_any (λ s. not (is_quiet d (lent s))) s.selections.items)
set_quiet d s = ap (λ t. are_quiet d (meant_of_set t)) (typed_set_tree_out s) ∙ quiet_each d s.selections.items

pub noisy_here : (d : Bool) (s : SelectionSet) (i : ℕ) (x : Selection) → i < length s.selections.items → x ≡ get_or s.selections.items i x → is_quiet d (lent x) ≡ false → false ≡ are_quiet d (meant_of_set (typed_set_tree s))
noisy_here d s i x h e q = sym (set_quiet d s ∙ ap not (any_there (λ (s : Selection). not (is_quiet d (lent s))) s.selections.items i x h e (ap not q)))

pub none_noisy : (d : Bool) (s : SelectionSet) (i : ℕ) → length s.selections.items ≤ i → list_any (λ s. not (is_quiet d (lent s))) (take i s.selections.items) ≡ false → true ≡ are_quiet d (meant_of_set (typed_set_tree s))
none_noisy d s i end h = sym (set_quiet d s ∙ ap (λ l. not (list_any (λ (s : Selection). not (is_quiet d (lent s))) l)) (sym (take_all i s.selections.items end)) ∙ ap not h)

-- ---- the selections of a set that was made

listed_lent : (ss : List Selection) → listed (meant_of_all (typed_selections typed_selection_tree ss)) ≡ lent_all ss
listed_lent [] = refl
listed_lent (s ∷ ss) = ap (λ l. lent s ∷ l) (listed_lent ss)

pub set_lent : (s : SelectionSet) → set_listed (meant_of_set (typed_set_tree s)) ≡ lent_all s.selections.items
set_lent s = ap (λ t. set_listed (meant_of_set t)) (typed_set_tree_out s) ∙ listed_lent s.selections.items

listed_more : (ss : TypedSelections Place) (t : TypedSelection Place) → listed (meant_of_all (and_then ss (typed_then t no_typed))) ≡ listed (meant_of_all ss) ++ meant t ∷ []
listed_more no_typed t = refl
listed_more (typed_then s ss) t = ap (λ l. meant s ∷ l) (listed_more ss t)

set_more : (s : TypedSet Place) (t : TypedSelection Place) → set_listed (meant_of_set (set_and_if true (typed_then t no_typed) s)) ≡ set_listed (meant_of_set s) ++ meant t ∷ []
set_more (typed_set ty ss) t = listed_more ss t

filter_more : {X : Type 0} (p : X → Bool) (xs : List X) (x : X) → filter p (xs ++ x ∷ []) ≡ filter p xs ++ (if p x then x ∷ [] else [])
filter_more p [] x = refl
filter_more p (y ∷ xs) x = by (p y) (filter_more p xs x)
  where
    by : (b : Bool) → filter p (xs ++ x ∷ []) ≡ filter p xs ++ (if p x then x ∷ [] else [])
        → (if b then y ∷ filter p (xs ++ x ∷ []) else filter p (xs ++ x ∷ [])) ≡ (if b then y ∷ filter p xs else filter p xs) ++ (if p x then x ∷ [] else [])
    by true h = ap (λ l. y ∷ l) h
    by false h = h

module _ (d : Bool) where
  abbrev loud : MeantSelection Place → Bool
  loud s = not (is_quiet d s)

  -- of these selections those are kept that are not quiet
  abbrev pub IsKept : List Selection → ℕ → SelectionSet → Type 0
  IsKept ss i kept = set_listed (meant_of_set (typed_set_tree kept)) ≡ filter loud (lent_all (take i ss))

  pub kept_none : (ss : List Selection) (kept : SelectionSet) (ty : _) → typed_set_tree kept ≡ typed_set ty no_typed → IsKept ss 0 kept
  kept_none [] kept ty is = ap (λ t. set_listed (meant_of_set t)) is
  kept_none (s ∷ ss) kept ty is = ap (λ t. set_listed (meant_of_set t)) is

  module _ (ss : List Selection) (i : ℕ) (x : Selection) (h : i < length ss) (at : x ≡ get_or ss i x) where
    front : filter loud (lent_all (take (i + 1) ss)) ≡ filter loud (lent_all (take i ss)) ++ (if loud (lent x) then lent x ∷ [] else [])
    front = ap (filter loud) (front_more lent (λ y. y ∷ []) ss i x h at) ∙ filter_more loud (lent_all (take i ss)) (lent x)

    pub kept_more : (old new : SelectionSet) (copy : Selection) → is_quiet d (lent x) ≡ false → typed_selection_tree copy ≡ typed_selection_tree x → typed_set_tree new ≡ set_and_if true (typed_then (typed_selection_tree copy) no_typed) (typed_set_tree old)
        → IsKept ss i old → IsKept ss (i + 1) new
    kept_more old new copy q same put so_far =
        ap (λ t. set_listed (meant_of_set t)) put ∙ set_more (typed_set_tree old) (typed_selection_tree copy)
        ∙ (λ k. so_far k ++ meant (same k) ∷ [])
        ∙ ap (λ b. filter loud (lent_all (take i ss)) ++ (if not b then lent x ∷ [] else [])) (sym q)
        ∙ sym front

    pub left_out : (kept : SelectionSet) → is_quiet d (lent x) ≡ true → IsKept ss i kept → IsKept ss (i + 1) kept
    left_out kept q so_far =
        so_far ∙ sym (append-nil (filter loud (lent_all (take i ss))))
        ∙ ap (λ b. filter loud (lent_all (take i ss)) ++ (if not b then lent x ∷ [] else [])) (sym q)
        ∙ sym front

  not_loud : (s : MeantSelection Place) → loud s ≡ false → is_quiet d s ≡ true
  not_loud s e = by (is_quiet d s) e
    where
      by : (b : Bool) → not b ≡ false → b ≡ true
      by true e = refl
      by false e = sym e

  pub all_kept : (s kept : SelectionSet) (i : ℕ) → length s.selections.items ≤ i → IsKept s.selections.items i kept → Leaves d (meant_of_set (typed_set_tree kept)) (meant_of_set (typed_set_tree s))
  all_kept s kept i end so_far = (from, into)
    where
      of_all : set_listed (meant_of_set (typed_set_tree kept)) ≡ filter loud (set_listed (meant_of_set (typed_set_tree s)))
      of_all = so_far ∙ ap (λ l. filter loud (lent_all l)) (take_all i s.selections.items end) ∙ ap (filter loud) (sym (set_lent s))

      from : (m : MeantSelection Place) → Contains (set_listed (meant_of_set (typed_set_tree kept))) m → Contains (set_listed (meant_of_set (typed_set_tree s))) m
      from m c = (filtered loud (set_listed (meant_of_set (typed_set_tree s))) m (subst (λ l. Contains l m) of_all c)).0

      into : (m : MeantSelection Place) → Contains (set_listed (meant_of_set (typed_set_tree s))) m → Contains (set_listed (meant_of_set (typed_set_tree kept))) m ⊎ (is_quiet d m ≡ true)
      into m c = by (loud m) refl
        where
          by : (b : Bool) → loud m ≡ b → Contains (set_listed (meant_of_set (typed_set_tree kept))) m ⊎ (is_quiet d m ≡ true)
          by true e = inl (subst (λ l. Contains l m) (sym of_all) (in_filter loud (set_listed (meant_of_set (typed_set_tree s))) m c e))
          by false e = inr (not_loud m e)

-- a set leaves nothing out of itself
pub leaves_same : (d : Bool) {P : Type 0} (s : MeantSet P) → Leaves d s s
leaves_same d s = (λ m c. c, λ m c. inl c)
