-- Private: leads to `Reached.antt`. What the steps of a walk take of what is left.
use Rattle.std.specs.Prelude.{◌≡◌, Bool, List, [], if◌then◌else◌}
use Rattle.graphql_names.specs.Node.{content}
use Rattle.graphql_names.specs.Placed.{Place}
use Rattle.graphql_names.specs.declared.node.Node.{Node}
use Rattle.document_typed_selections.specs.TypedTree.{typed_set_tree}
use Rattle.document_typed_selections.specs.declared.selection.Field.{Field}
use Rattle.document_typed_operations.specs.Reached.{Member}
use Rattle.document_typed_operations.specs.Left.{own_members, left_members}
use Rattle.document_typed_operations.specs.WalkView.{walk_state}
use Rattle.document_typed_operations.specs.declared.walk.Walk.{Walk}

-- nothing was pending, and the state is unchanged
abbrev pub HadNothing : Walk → Walk → Type 0
HadNothing old new = (walk_state new ≡ walk_state old) × ((walk_state old).pending ≡ [])

-- the selections of a field's set, if fields are entered
abbrev pub entered_members : Bool → Node Field → List (Member Place)
entered_members nested field = if nested then own_members (typed_set_tree (content field).selection_set) else []

-- what a walk still has to lend
abbrev pub left_in : Walk → List (Member Place)
left_in walk = left_members (walk_state walk)
