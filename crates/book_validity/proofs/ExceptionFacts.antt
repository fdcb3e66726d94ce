-- Where the checker is laxer than two algorithms of the specification, and that it is so there alone.
use Rattle.std.proofs.Common.{◌≡◌, ◌⊎◌, ◌∙◌, ℕ, Bool, true, false, List, Option, None, Some, refl, sym, ap, subst, inl, inr, is_some, true≢false}
use Rattle.std.proofs.lemmas.Option.{same_Some}
use Rattle.graphql_names.specs.Placed.{Placed}
use Rattle.tree_literals.specs.TypeTree.{TypeTree, NamedTree, NonNullNamedTree, ListTree, NonNullListTree, unplaced_type}
use Rattle.tree_literals.specs.TypeQueries.{has_mark, AreTypesCompatible}
use Rattle.tree_literals.specs.ValueTree.{ValueTree}
use Rattle.tree_literals.specs.ValueQueries.{is_null_value}
use Rattle.tree_directives.specs.DirectiveTree.{InputValueTree}
use Rattle.tree_operations.specs.OperationTree.{VariableDefinitionTree}
use Rattle.schema_types.specs.Looks.{TypeLooks}
use Rattle.schema_types.specs.declared.type_kind.TypeKind.TheVariants as kind
use Rattle.rule_definitions.specs.Words.{Present}
use Rattle.rule_definitions.specs.Judged.{Judged}
use Rattle.rule_definitions.specs.VariableUsage.{IsVariableUsageAllowed}
use Rattle.rule_document_definitions.specs.PossibleTypes.{CanBe}
use Rattle.book_validity.specs.Schema.{IsValidSchema}
use Rattle.book_validity.specs.Exceptions.{IsAllowedByTheText, IsAllowedByNull, UsagesAllowed, IsPossibleType, OnlyUnionsHaveMembers, SpreadsPossible}

abbrev U : Type 0
U = Unit {0}

-- ---- usages

-- a type is compatible with none that is marked where it is not
unmarked : (a b : TypeTree U) → AreTypesCompatible (unplaced_type a) b → has_mark a ≡ false → has_mark b ≡ true → ⊥
unmarked (NamedTree n) (NamedTree m) c x v = true≢false (sym v)
unmarked (NamedTree n) (NonNullNamedTree m) c x v = c
unmarked (NamedTree n) (ListTree m) c x v = c
unmarked (NamedTree n) (NonNullListTree m) c x v = c
unmarked (NonNullNamedTree n) b c x v = true≢false x
unmarked (ListTree n) (NamedTree m) c x v = c
unmarked (ListTree n) (NonNullNamedTree m) c x v = c
unmarked (ListTree n) (ListTree m) c x v = true≢false (sym v)
unmarked (ListTree n) (NonNullListTree m) c x v = c
unmarked (NonNullListTree n) b c x v = true≢false x

-- a default is null or is not
null_or_not : (o : Option (Placed U (ValueTree U))) → is_some o ≡ true → Present o (λ d. is_null_value d.it ≡ false) ⊎ Present o (λ d. is_null_value d.it ≡ true)
null_or_not None h = absurd (true≢false (sym h))
null_or_not (Some d) h = by (is_null_value d.it) refl
  where
    by : (b : Bool) → is_null_value d.it ≡ b → Present (Some d) (λ d. is_null_value d.it ≡ false) ⊎ Present (Some d) (λ d. is_null_value d.it ≡ true)
    by true e = inr (d, (refl, e))
    by false e = inl (d, (refl, e))

module _ (x : VariableDefinitionTree U) (v : InputValueTree U) where
  to_text : IsVariableUsageAllowed x v → IsAllowedByTheText x v ⊎ IsAllowedByNull x v
  to_text (inl c) = inl (inr ((λ needs. unmarked x.ty.it v.ty.it c needs.0 needs.1), c))
  to_text (inr (needs, (inr default, c))) = inl (inl (needs, (inr default, c)))
  to_text (inr (needs, (inl default, c))) = elim (null_or_not x.default_value default) [
    | inl other ↦ inl (inl (needs, (inl other, c)))
    | inr null ↦ inr (needs, (null, c))
  ]

  from_text : IsAllowedByTheText x v ⊎ IsAllowedByNull x v → IsVariableUsageAllowed x v
  from_text (inl (inl (needs, (inl (d, (is, other)), c)))) = inr (needs, (inl (ap is_some is), c))
  from_text (inl (inl (needs, (inr default, c)))) = inr (needs, (inr default, c))
  from_text (inl (inr (other, c))) = inl c
  from_text (inr (needs, ((d, (is, null)), c))) = inr (needs, (inl (ap is_some is), c))

pub usages_allowed : UsagesAllowed
usages_allowed x v = (to_text x v, from_text x v)

-- ---- possible types

module _ (s : Judged) (valid : IsValidSchema s) (unions : OnlyUnionsHaveMembers s) (n object : List ℕ) where
  can_be : IsPossibleType s n object → CanBe s n object
  can_be (t, (e, inl (k, same))) = (t, (subst (λ m. s.type_named m ≡ Some t) (sym same) e, (k, inl same)))
  can_be (t, (e, inr (inl (k, (u, (f, (object_kind, implements))))))) = (u, (f, (object_kind, inr (inl implements))))
  can_be (t, (e, inr (inr (k, member)))) =
      let (u, (f, object_kind)) = (valid.types n t e).members object member in
      (u, (f, (object_kind, inr (inr (t, (e, member))))))

  is_possible : CanBe s n object → IsPossibleType s n object
  is_possible (u, (f, (k, inl same))) = (u, (subst (λ m. s.type_named m ≡ Some u) same f, inl (k, same)))
  is_possible (u, (f, (k, inr (inl implements)))) =
      let (t, (e, (interface, implementation))) = (valid.types object u f).implements n implements in
      (t, (e, inr (inl (interface, (u, (f, (k, implements)))))))
  is_possible (u, (f, (k, inr (inr (t, (e, member)))))) =
      let (w, (g, union)) = unions n object (t, (e, member)) in
      (t, (e, inr (inr (ap (λ (y : TypeLooks). y.kind) (same_Some t w (sym e ∙ g)) ∙ union, member))))

pub spreads_possible : SpreadsPossible
spreads_possible s valid unions parent condition = (
  λ nowhere. (nowhere.other, λ object of_parent of_condition. nowhere.none object (can_be s valid unions parent object of_parent) (can_be s valid unions condition object of_condition)),
  λ h. record { other = h.0; none = λ object of_parent of_condition. h.1 object (is_possible s valid unions parent object of_parent) (is_possible s valid unions condition object of_condition) },
)
