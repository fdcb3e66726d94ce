-- A built-in scalar other than the five takes no value but null, so it has no literal where it is required.
use Rattle.std.proofs.Common.{◌≡◌, ℕ, true, List, [], ◌∷◌, codes, refl, sym, ◌∙◌, inl, inr, Contains, true≢false}
use Rattle.std.specs.List.{list_all}
use Rattle.graphql_names.specs.Placed.{Place, Text}
use Rattle.tree_literals.specs.TypeTree.{NonNullNamedTree}
use Rattle.tree_literals.specs.ValueTree.{ValueTree, NullTree, EnumTree, VariableTree, StringTree, FloatTree, IntTree, BooleanTree, ListTree, ObjectTree}
use Rattle.rule_definitions.specs.in_schema_types.Looks.{TypeLooks}
use Rattle.rule_definitions.specs.in_components.Lists.{is_among}
use Rattle.rule_definitions.specs.Judged.{Judged, IsBuiltInScalar, IsCustomScalar}
use Rattle.rule_definitions.specs.Names.{scalar_names}
use Rattle.rule_definitions.specs.GivenValues.{Variables, IsScalarAmong}
use Rattle.rule_definitions.specs.Accepts.{IsDefined, Takes}
use Rattle.rule_definitions.proofs.Lookups.{text_given}
use Rattle.rule_cycle_search.proofs.Lists.{Contains-first}
use Rattle.rule_schema_laws.specs.Laws.{OtherScalarsHaveNone}
use Rattle.rule_schema_laws.proofs.Fine.{all_so}

abbrev nothing : Variables Place
nothing = []

module _ (s : Judged) (n : Text (Unit {0})) (t : TypeLooks) (scalar : IsBuiltInScalar s n.it t) (other : Contains scalar_names n.it → ⊥) where
  no_custom : IsCustomScalar s n.it t → ⊥
  no_custom (is, mark) = true≢false (sym scalar.1 ∙ mark)

  none_among : (names : List (List ℕ)) → list_all (λ m. is_among m scalar_names) names ≡ true → IsScalarAmong s names n.it t → ⊥
  none_among names within (inl custom) = no_custom custom
  none_among names within (inr (is, c)) = other (text_given scalar_names n.it (all_so (λ k. is_among k scalar_names) names n.it within c))

  -- no value is taken, and a variable is not defined
  none_accepted : (v : ValueTree Place) → Takes s nothing (NonNullNamedTree n) t v → IsDefined nothing v → ⊥
  none_accepted NullTree h d = true≢false h
  none_accepted (EnumTree x) (inl (is, has)) d = cc (sym is ∙ scalar.0)
  none_accepted (EnumTree x) (inr custom) d = no_custom custom
  none_accepted (VariableTree x) h d = true≢false (sym d)
  none_accepted (StringTree x) h d = none_among (codes "String" ∷ codes "ID" ∷ []) refl h
  none_accepted (FloatTree x) h d = none_among (codes "Float" ∷ []) refl h
  none_accepted (IntTree x) (inl h) d = none_among (codes "Float" ∷ codes "ID" ∷ []) refl h
  none_accepted (IntTree x) (inr (is, (int, fits))) d = other (Contains-first (codes "Int") (codes "Float" ∷ codes "String" ∷ codes "Boolean" ∷ codes "ID" ∷ []) n.it (sym int))
  none_accepted (BooleanTree x) h d = none_among (codes "Boolean" ∷ []) refl h
  none_accepted (ListTree x) (inl list, items) d = true≢false (sym list)
  none_accepted (ListTree x) (inr custom, items) d = no_custom custom
  none_accepted (ObjectTree x) (inl (is, rest)) d = cc (sym is ∙ scalar.0)
  none_accepted (ObjectTree x) (inr custom) d = no_custom custom

pub others_have_none : OtherScalarsHaveNone
others_have_none s n (t, (there, scalar)) other file v l = let h = l.accepted nothing in none_accepted s n t scalar other v (h.0 t there) h.1
