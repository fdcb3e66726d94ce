-- What may stand where a type is asked for, whatever the places.
use Rattle.std.proofs.Common.{◌≡◌, ◌⊎◌, ◌↔◌, refl, sym, ◌∙◌, subst, inl, inr, Option, None, Some, is_some}
use Rattle.std.specs.Option.{option_map}
use Rattle.graphql_names.specs.Placed.{Place, unplaced_node}
use Rattle.tree_literals.specs.TypeTree.{TypeTree, NamedTree, NonNullNamedTree, ListTree, NonNullListTree, unplaced_type}
use Rattle.tree_literals.specs.TypeQueries.{has_mark, nullable_type, AreTypesCompatible}
use Rattle.tree_literals.specs.ValueTree.{unplaced_value}
use Rattle.tree_directives.specs.DirectiveTree.{InputValueTree, unplaced_input_value}
use Rattle.tree_operations.specs.OperationTree.{VariableDefinitionTree}
use Rattle.rule_values.specs.in_rule_definitions.VariableUsage.{IsVariableUsageAllowed}
use Rattle.rule_arguments.specs.GivenArguments.{FitsWithDefault}

same_fit : (a b : TypeTree Place) → AreTypesCompatible (unplaced_type a) (unplaced_type b) ↔ AreTypesCompatible a b
same_fit (NamedTree a) (NamedTree b) = (λ h. h, λ h. h)
same_fit (NamedTree a) (NonNullNamedTree b) = (λ h. h, λ h. h)
same_fit (NamedTree a) (ListTree b) = (λ h. h, λ h. h)
same_fit (NamedTree a) (NonNullListTree b) = (λ h. h, λ h. h)
same_fit (NonNullNamedTree a) (NamedTree b) = (λ h. h, λ h. h)
same_fit (NonNullNamedTree a) (NonNullNamedTree b) = (λ h. h, λ h. h)
same_fit (NonNullNamedTree a) (ListTree b) = (λ h. h, λ h. h)
same_fit (NonNullNamedTree a) (NonNullListTree b) = (λ h. h, λ h. h)
same_fit (ListTree a) (NamedTree b) = (λ h. h, λ h. h)
same_fit (ListTree a) (NonNullNamedTree b) = (λ h. h, λ h. h)
same_fit (ListTree a) (ListTree b) = same_fit a b
same_fit (ListTree a) (NonNullListTree b) = (λ h. h, λ h. h)
same_fit (NonNullListTree a) (NamedTree b) = (λ h. h, λ h. h)
same_fit (NonNullListTree a) (NonNullNamedTree b) = (λ h. h, λ h. h)
same_fit (NonNullListTree a) (ListTree b) = same_fit a b
same_fit (NonNullListTree a) (NonNullListTree b) = same_fit a b

same_mark : (t : TypeTree Place) → has_mark (unplaced_type t) ≡ has_mark t
same_mark (NamedTree n) = refl
same_mark (NonNullNamedTree n) = refl
same_mark (ListTree t) = refl
same_mark (NonNullListTree t) = refl

same_nullable : (t : TypeTree Place) → unplaced_type (nullable_type t) ≡ nullable_type (unplaced_type t)
same_nullable (NamedTree n) = refl
same_nullable (NonNullNamedTree n) = refl
same_nullable (ListTree t) = refl
same_nullable (NonNullListTree t) = refl

same_some : {X Y : Type 0} (f : X → Y) (o : Option X) → is_some (option_map f o) ≡ is_some o
same_some f None = refl
same_some f (Some x) = refl

same_nullable_fit : (a b : TypeTree Place) → AreTypesCompatible (unplaced_type a) (nullable_type (unplaced_type b)) ↔ AreTypesCompatible a (nullable_type b)
same_nullable_fit a b = subst (λ t. AreTypesCompatible (unplaced_type a) t ↔ AreTypesCompatible a (nullable_type b)) (same_nullable b) (same_fit a (nullable_type b))

pub usage_allowed : (x : VariableDefinitionTree Place) (v : InputValueTree Place) → (AreTypesCompatible x.ty.it v.ty.it ⊎ FitsWithDefault x v) ↔ IsVariableUsageAllowed x (unplaced_input_value v)
usage_allowed x v =
    let some = same_some (unplaced_node unplaced_value) v.default_value in
    let mark = same_mark v.ty.it in (
      λ h. elim h [
        | inl e ↦ inl ((same_fit x.ty.it v.ty.it).1 e)
        | inr d ↦ inr ((d.0.0, mark ∙ d.0.1), (elim d.1.0 [ inl e ↦ inl e | inr e ↦ inr (some ∙ e) ], (same_nullable_fit x.ty.it v.ty.it).1 d.1.1))
      ],
      λ h. elim h [
        | inl e ↦ inl ((same_fit x.ty.it v.ty.it).0 e)
        | inr d ↦ inr ((d.0.0, sym mark ∙ d.0.1), (elim d.1.0 [ inl e ↦ inl e | inr e ↦ inr (sym some ∙ e) ], (same_nullable_fit x.ty.it v.ty.it).0 d.1.1))
      ],
    )
