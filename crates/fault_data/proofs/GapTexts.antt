-- The texts of gaps: of a type on its own, and of types and values without their places.
use Rattle.std.proofs.Common.{◌≡◌, ℕ, List, [], ◌∷◌, refl, ap, append-nil}
use Rattle.std.specs.Prelude.{codes}
use Rattle.tree_operations.specs.in_literals.Joined.{joined}
use Rattle.tree_operations.specs.in_literals.LineLayout.{standing, default_prefix}
use Rattle.tree_literals.specs.TypeTree.{TypeTree, NamedTree, NonNullNamedTree, ListTree, NonNullListTree, unplaced_type}
use Rattle.tree_literals.specs.ValueTree.{ValueTree, NullTree, EnumTree, VariableTree, StringTree, FloatTree, IntTree, BooleanTree, ObjectTree, unplaced_value}
use Rattle.tree_literals.specs.ValueTree as value
use Rattle.tree_literals.specs.ValueLayout.{type_text}
use Rattle.tree_literals.specs.ValueQueries.{value_description}

module _ {P : Type 0} where
  pub type_text-unplaced : (t : TypeTree P) → type_text (unplaced_type t) ≡ type_text t
  type_text-unplaced (NamedTree n) = refl
  type_text-unplaced (NonNullNamedTree n) = refl
  type_text-unplaced (ListTree t) = ap (λ x. joined (codes "[" ∷ x ∷ codes "]" ∷ [])) (type_text-unplaced t)
  type_text-unplaced (NonNullListTree t) = ap (λ x. joined (codes "[" ∷ x ∷ codes "]!" ∷ [])) (type_text-unplaced t)

  pub value_description-unplaced : (v : ValueTree P) → value_description (unplaced_value v) ≡ value_description v
  value_description-unplaced NullTree = refl
  value_description-unplaced (EnumTree n) = refl
  value_description-unplaced (VariableTree n) = refl
  value_description-unplaced (StringTree s) = refl
  value_description-unplaced (FloatTree s) = refl
  value_description-unplaced (IntTree s) = refl
  value_description-unplaced (BooleanTree b) = refl
  value_description-unplaced (value.ListTree ts) = refl
  value_description-unplaced (ObjectTree ts) = refl

pub standing_alone : (text : List ℕ) → standing default_prefix 0 text ≡ text
unfolding joined
standing_alone text = append-nil text

pub ruleset gap_rules = (type_text-unplaced, value_description-unplaced, standing_alone)
