-- References to types (GraphQL, October 2021, section 3.11 and 3.12).
use Rattle.graphql_names.specs.Placed.{Place, Text, name_tree, unplaced_text}
use Rattle.tree_literals.specs.declared.ty.«Type».{«Type»}
use Rattle.tree_literals.specs.declared.ty.«Type».TheOpen.{Type-F, Named, NonNullNamed, List, NonNullList}
use Rattle.tree_literals.specs.declared.ty.«Type».TheFolds.{fold-Type}

-- Name, Name!, [Type], [Type]!
pub data TypeTree (P : Type 0) : Type 0 where
  NamedTree : Text P → TypeTree P
  NonNullNamedTree : Text P → TypeTree P
  ListTree : TypeTree P → TypeTree P
  NonNullListTree : TypeTree P → TypeTree P

abbrev pub type_tree_step : Type-F (TypeTree Place) → TypeTree Place
type_tree_step (Named n) = NamedTree (name_tree n)
type_tree_step (NonNullNamed n) = NonNullNamedTree (name_tree n)
type_tree_step (List t) = ListTree t.value
type_tree_step (NonNullList t) = NonNullListTree t.value

-- the tree of a reference to a type
abbrev pub type_tree : «Type» → TypeTree Place
type_tree = fold-Type (TypeTree Place) type_tree_step

abbrev pub unplaced_type : {P : Type 0} → TypeTree P → TypeTree (Unit {0})
unplaced_type (NamedTree n) = NamedTree (unplaced_text n)
unplaced_type (NonNullNamedTree n) = NonNullNamedTree (unplaced_text n)
unplaced_type (ListTree t) = ListTree (unplaced_type t)
unplaced_type (NonNullListTree t) = NonNullListTree (unplaced_type t)
