-- Which types may be given where others are expected (GraphQL, October 2021, section 3.6: IsValidImplementationFieldType).
use Rattle.std.specs.Prelude.{ℕ, Bool, false, ◌&&◌, ◌||◌, List, bytes_eq}
use Rattle.std.specs.Option.{option_map_or}
use Rattle.tree_literals.specs.TypeTree.{TypeTree, NamedTree, NonNullNamedTree, ListTree, NonNullListTree}
use Rattle.schema_types.specs.SchemaTree.{same_kind}
use Rattle.schema_types.specs.declared.type_kind.TypeKind.TheVariants as kind
use Rattle.rule_definitions.specs.Judged.{Judged}

module _ (s : Judged) where
  -- the type t is a member of the union n, or names the interface n among its interfaces (steps 3 to 6 of
  -- IsValidImplementationFieldType, except for equal types)
  abbrev pub is_subtype : List ℕ → List ℕ → Bool
  is_subtype n t = option_map_or (λ a. (same_kind a.kind kind.Union && a.has_member t)
      || (same_kind a.kind kind.Interface && option_map_or (λ b. b.implements n) (s.type_named t) false)) (s.type_named n) false

  -- a field of the second type may implement an interface's field of the first type (IsValidImplementationFieldType, section
  -- 3.6)
  abbrev pub is_valid_type : TypeTree (Unit {0}) → TypeTree (Unit {0}) → Bool
  is_valid_type (NamedTree wanted) (NamedTree n) = bytes_eq wanted.it n.it || is_subtype wanted.it n.it
  is_valid_type (NamedTree wanted) (NonNullNamedTree n) = bytes_eq wanted.it n.it || is_subtype wanted.it n.it
  is_valid_type (NonNullNamedTree wanted) (NonNullNamedTree n) = bytes_eq wanted.it n.it || is_subtype wanted.it n.it
  is_valid_type (ListTree wanted) (ListTree t) = is_valid_type wanted t
  is_valid_type (ListTree wanted) (NonNullListTree t) = is_valid_type wanted t
  is_valid_type (NonNullListTree wanted) (NonNullListTree t) = is_valid_type wanted t
  is_valid_type _ _ = false
