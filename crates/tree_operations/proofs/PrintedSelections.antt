-- The texts of the members of selection sets, one by one.
use Rattle.std.proofs.Common.{◌≡◌, ◌≤◌, ◌<◌, ◌+◌, arith, codes, ℕ, List, [], ◌∷◌, length, take, map, true, refl, ap}
use Rattle.tree_operations.specs.OperationWritable.{has_selection}
use Rattle.std.proofs.lemmas.List.{take_all}
use Rattle.tree_directives.specs.in_literals.Joined.{joined, further_text, separated}
use Rattle.tree_operations.specs.SelectionTree.{selection_trees, selection_tree}
use Rattle.tree_directives.specs.in_literals.LineLayout.{Prefix, members_text, break_text, braced_text, set_text}
use Rattle.tree_operations.specs.OperationLayout.{selection_text, selection_texts}
use Rattle.tree_operations.specs.declared.selection.Selection.{Selection}

pub selection_texts-each : (prefix : Prefix) (ss : List Selection) → selection_texts prefix (selection_trees selection_tree ss) ≡ map (λ s. selection_text prefix (selection_tree s)) ss
selection_texts-each prefix [] = refl
selection_texts-each prefix (s ∷ ss) = ap (λ ts. selection_text prefix (selection_tree s) ∷ ts) (selection_texts-each prefix ss)

-- all members are the list
pub members_put : {S : Type 0} (puts : S → List ℕ → S → Type 0) (s t : S) (prefix : Prefix) (level i : ℕ) (ss : List Selection) → length ss ≤ i → puts s (members_text prefix level (map (λ x. selection_text prefix (selection_tree x)) (take i ss))) t → puts s (members_text prefix level (selection_texts prefix (selection_trees selection_tree ss))) t
members_put puts s t prefix level i ss le p =
    rw selection_texts-each (rw take_all at p)

-- braces round selections of which there are some
pub braced-some : (prefix : Prefix) (level : ℕ) (ss : List Selection) → 0 < length ss → braced_text prefix level (selection_texts prefix (selection_trees selection_tree ss)) ≡ joined (codes "{" ∷ members_text prefix (level + 1) (selection_texts prefix (selection_trees selection_tree ss)) ∷ break_text prefix level ∷ codes "}" ∷ [])
braced-some prefix level [] some = absurd (omega arith)
braced-some prefix level (s ∷ ss) some = refl

pub set-some : (prefix : Prefix) (level : ℕ) (ss : List Selection) → 0 < length ss → set_text prefix level (selection_texts prefix (selection_trees selection_tree ss)) ≡ joined (codes " {" ∷ members_text prefix (level + 1) (selection_texts prefix (selection_trees selection_tree ss)) ∷ break_text prefix level ∷ codes "}" ∷ [])
set-some prefix level [] some = absurd (omega arith)
set-some prefix level (s ∷ ss) some = refl

pub has_selection-some : (ss : List Selection) → 0 < length ss → has_selection (selection_trees selection_tree ss) ≡ true
has_selection-some [] some = absurd (omega arith)
has_selection-some (s ∷ ss) some = refl
