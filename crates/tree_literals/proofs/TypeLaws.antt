-- The laws of assignable types, and that the grammar can write each type.
use Rattle.std.proofs.Common.{◌≡◌, true, refl, ap, ◌∙◌}
use Rattle.tree_literals.specs.TypeTree.{TypeTree, NamedTree, NonNullNamedTree, ListTree, NonNullListTree, unplaced_type}
use Rattle.tree_literals.specs.TypeQueries.{AreTypesCompatible}
use Rattle.tree_literals.specs.ValueWritable.{type_writable}

module _ {P : Type 0} where
  pub compatible_itself : (a : TypeTree P) → AreTypesCompatible a a
  compatible_itself (NamedTree n) = refl
  compatible_itself (NonNullNamedTree n) = refl
  compatible_itself (ListTree t) = compatible_itself t
  compatible_itself (NonNullListTree t) = compatible_itself t

  pub compatible_through : (a b c : TypeTree P) → AreTypesCompatible a b → AreTypesCompatible b c → AreTypesCompatible a c
  compatible_through (NamedTree a) (NamedTree b) (NamedTree c) p q = p ∙ q
  compatible_through (NamedTree a) (NamedTree b) _ p q = absurd q
  compatible_through (NamedTree a) _ _ p q = absurd p
  compatible_through (NonNullNamedTree a) (NamedTree b) (NamedTree c) p q = p ∙ q
  compatible_through (NonNullNamedTree a) (NamedTree b) _ p q = absurd q
  compatible_through (NonNullNamedTree a) (NonNullNamedTree b) (NamedTree c) p q = p ∙ q
  compatible_through (NonNullNamedTree a) (NonNullNamedTree b) (NonNullNamedTree c) p q = p ∙ q
  compatible_through (NonNullNamedTree a) (NonNullNamedTree b) _ p q = absurd q
  compatible_through (NonNullNamedTree a) _ _ p q = absurd p
  compatible_through (ListTree a) (ListTree b) (ListTree c) p q = compatible_through a b c p q
  compatible_through (ListTree a) (ListTree b) _ p q = absurd q
  compatible_through (ListTree a) _ _ p q = absurd p
  compatible_through (NonNullListTree a) (ListTree b) (ListTree c) p q = compatible_through a b c p q
  compatible_through (NonNullListTree a) (ListTree b) _ p q = absurd q
  compatible_through (NonNullListTree a) (NonNullListTree b) (ListTree c) p q = compatible_through a b c p q
  compatible_through (NonNullListTree a) (NonNullListTree b) (NonNullListTree c) p q = compatible_through a b c p q
  compatible_through (NonNullListTree a) (NonNullListTree b) _ p q = absurd q
  compatible_through (NonNullListTree a) _ _ p q = absurd p

  pub compatible_both_ways : (a b : TypeTree P) → AreTypesCompatible a b → AreTypesCompatible b a → unplaced_type a ≡ unplaced_type b
  compatible_both_ways (NamedTree a) (NamedTree b) p q = λ i. NamedTree (record { it = p i; place = tt })
  compatible_both_ways (NamedTree a) _ p q = absurd p
  compatible_both_ways (NonNullNamedTree a) (NamedTree b) p q = absurd q
  compatible_both_ways (NonNullNamedTree a) (NonNullNamedTree b) p q = λ i. NonNullNamedTree (record { it = p i; place = tt })
  compatible_both_ways (NonNullNamedTree a) _ p q = absurd p
  compatible_both_ways (ListTree a) (ListTree b) p q = ap ListTree (compatible_both_ways a b p q)
  compatible_both_ways (ListTree a) _ p q = absurd p
  compatible_both_ways (NonNullListTree a) (ListTree b) p q = absurd q
  compatible_both_ways (NonNullListTree a) (NonNullListTree b) p q = ap NonNullListTree (compatible_both_ways a b p q)
  compatible_both_ways (NonNullListTree a) _ p q = absurd p

  -- the grammar can write each type
  pub types_are_writable : (t : TypeTree P) → type_writable t ≡ true
  types_are_writable (NamedTree n) = refl
  types_are_writable (NonNullNamedTree n) = refl
  types_are_writable (ListTree t) = types_are_writable t
  types_are_writable (NonNullListTree t) = types_are_writable t
