-- Questions about references to types (GraphQL, October 2021, sections 3.11, 3.12 and 5.8.5).
use Rattle.std.specs.Prelude.{◌≡◌, Bool, true, false}
use Rattle.graphql_names.specs.Placed.{Text}
use Rattle.tree_literals.specs.TypeTree.{TypeTree, NamedTree, NonNullNamedTree, ListTree, NonNullListTree}

module _ {P : Type 0} where
  -- the type with the mark `!`
  abbrev pub non_null_type : TypeTree P → TypeTree P
  non_null_type (NamedTree n) = NonNullNamedTree n
  non_null_type (NonNullNamedTree n) = NonNullNamedTree n
  non_null_type (ListTree t) = NonNullListTree t
  non_null_type (NonNullListTree t) = NonNullListTree t

  -- the type without the mark `!`
  abbrev pub nullable_type : TypeTree P → TypeTree P
  nullable_type (NamedTree n) = NamedTree n
  nullable_type (NonNullNamedTree n) = NamedTree n
  nullable_type (ListTree t) = ListTree t
  nullable_type (NonNullListTree t) = ListTree t

  -- the type of a list's items; a named type's is itself
  abbrev pub item_type_of : TypeTree P → TypeTree P
  item_type_of (NamedTree n) = NamedTree n
  item_type_of (NonNullNamedTree n) = NonNullNamedTree n
  item_type_of (ListTree t) = t
  item_type_of (NonNullListTree t) = t

  -- the name inside all brackets
  abbrev pub inner_name : TypeTree P → Text P
  inner_name (NamedTree n) = n
  inner_name (NonNullNamedTree n) = n
  inner_name (ListTree t) = inner_name t
  inner_name (NonNullListTree t) = inner_name t

  -- whether the type has the mark `!`
  abbrev pub has_mark : TypeTree P → Bool
  has_mark (NamedTree n) = false
  has_mark (NonNullNamedTree n) = true
  has_mark (ListTree t) = false
  has_mark (NonNullListTree t) = true

  -- whether the type is a list, marked or not
  abbrev pub is_list_type : TypeTree P → Bool
  is_list_type (NamedTree n) = false
  is_list_type (NonNullNamedTree n) = false
  is_list_type (ListTree t) = true
  is_list_type (NonNullListTree t) = true

  -- a value of the first type may be used where the second is asked for: the same name in the same lists,
  -- and non-null wherever the second is (section 5.8.5, AreTypesCompatible)
  abbrev pub AreTypesCompatible : TypeTree P → TypeTree P → Type 0
  AreTypesCompatible (NamedTree a) (NamedTree b) = a.it ≡ b.it
  AreTypesCompatible (NonNullNamedTree a) (NamedTree b) = a.it ≡ b.it
  AreTypesCompatible (NonNullNamedTree a) (NonNullNamedTree b) = a.it ≡ b.it
  AreTypesCompatible (ListTree a) (ListTree b) = AreTypesCompatible a b
  AreTypesCompatible (NonNullListTree a) (ListTree b) = AreTypesCompatible a b
  AreTypesCompatible (NonNullListTree a) (NonNullListTree b) = AreTypesCompatible a b
  AreTypesCompatible _ _ = ⊥
