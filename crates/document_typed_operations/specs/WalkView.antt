-- What contracts see of a walk.
use Rattle.std.specs.Prelude.{◌≡◌, ◌++◌, ◌+◌, ◌-◌, ◌<◌, ℕ, List, [], ◌∷◌, map, fold, length}
use Rattle.std.specs.Borrow.{Bor}
use Rattle.graphql_names.specs.Node.{content}
use Rattle.graphql_names.specs.Placed.{Place, name_tree}
use Rattle.graphql_names.specs.NameValue.{NameValue}
use Rattle.graphql_names.specs.declared.node.Node.{Node}
use Rattle.document_typed_selections.specs.TypedTree.{TypedSet, typed_selection_tree, typed_set_tree}
use Rattle.document_typed_selections.specs.declared.selection.Selection.{Selection}
use Rattle.document_typed_operations.specs.declared.operation.Fragment.{Fragment}
use Rattle.document_typed_operations.specs.declared.walk.Walk.{Walk}
use Rattle.document_typed_operations.specs.Reached.{Fragments, Member}
use Rattle.document_typed_operations.specs.Left.{WalkState, with_next, left_members}
use Rattle.indexmap.specs.IndexMap.{IndexMap}
use Rattle.indexmap.specs.IndexSet.{IndexSet}

-- the selections of a fragment
abbrev pub fragment_set : Node Fragment → TypedSet Place
fragment_set n = typed_set_tree (content {A = Fragment} n).selection_set

-- the fragments of a document, each under its name
abbrev pub fragments_tree : {S : Type 0} → IndexMap NameValue (Node Fragment) S → Fragments Place
fragments_tree m = map (λ e. (e.0.text, fragment_set e.1)) m.entries

-- selections of a set of this type
abbrev pub members_on : NameValue → List Selection → List (Member Place)
members_on ty ss = map (λ s. (name_tree ty, typed_selection_tree s)) ss

-- a lent selection, with the type of its set
abbrev pub lent_member : Bor NameValue × Bor Selection → Member Place
lent_member e = (name_tree e.0.now, typed_selection_tree e.1.now)

-- the selections of the sets that a walk has not yet passed to their ends: those of a set on the stack, then those of the sets below it
abbrev pub waiting_in : List (Member Place) → Bor NameValue × Bor (List Selection) → List (Member Place)
waiting_in below set = members_on set.0.now set.1.now ++ below

abbrev pub walk_state : Walk → WalkState Place
walk_state w = record {
  nested = w.nested;
  fragments = fragments_tree w.fragments.now;
  pending = members_on w.ty.now w.front.now ++ fold waiting_in [] w.outer.items;
  noted = w.noted.keys;
  entered = w.entered;
}

-- the walk has passed the selection e, which was the next one
pub record HasPassed {P : Type 0} (e : Member P) (old new : WalkState P) : Type 0 where
  pub passed : left_members (with_next e old) ≡ e ∷ left_members new
  pub fragments : new.fragments ≡ old.fragments
  pub entered : new.entered ≡ old.entered

-- the walk has entered a fragment, and the same selections are left
pub record HasEntered {P : Type 0} (old new : WalkState P) : Type 0 where
  pub left : left_members new ≡ left_members old
  pub fewer : length new.fragments - new.entered < length old.fragments - old.entered

-- names that were gathered
abbrev pub gathered_names : {S : Type 0} → IndexSet (Bor NameValue) S → List (List ℕ)
gathered_names names = map (λ k. k.now.text) names.keys
