-- Private: leads to `SameType` of the rules' definitions. Shapes of types, as tests.
use Rattle.std.specs.Prelude.{ℕ, Bool, true, false, ◌&&◌, ◌||◌, List, bytes_eq}
use Rattle.tree_literals.specs.TypeTree.{TypeTree, NamedTree, NonNullNamedTree, ListTree, NonNullListTree}
use Rattle.rule_selection_queries.specs.in_definitions.Judged.{Judged}
use Rattle.rule_selection_queries.specs.in_definitions.Names.{named_in}
use Rattle.rule_field_groups.specs.Kinds.{is_composite}

abbrev pub same_marks : TypeTree (Unit {0}) → TypeTree (Unit {0}) → Bool
same_marks (NamedTree n) (NamedTree m) = true
same_marks (NonNullNamedTree n) (NonNullNamedTree m) = true
same_marks (ListTree a) (ListTree b) = same_marks a b
same_marks (NonNullListTree a) (NonNullListTree b) = same_marks a b
same_marks _ _ = false

abbrev pub same_inner : Judged → List ℕ → List ℕ → Bool
same_inner s n m = bytes_eq n m || (is_composite s n && is_composite s m)

abbrev pub same_type : Judged → TypeTree (Unit {0}) → TypeTree (Unit {0}) → Bool
same_type s a b = same_marks a b && same_inner s (named_in a) (named_in b)
