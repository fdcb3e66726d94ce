-- Composite types, and which object types values of a type can be of (GraphQL, October 2021, sections 5.5.1.3 and 5.5.2.3).
use Rattle.std.specs.Prelude.{◌≡◌, ℕ, true, false, ◌&&◌, not, List, ◌⊎◌}
use Rattle.rule_definitions.specs.in_schema_types.SchemaTree.{is_leaf_kind, is_output_kind}
use Rattle.rule_definitions.specs.in_schema_types.declared.type_kind.TypeKind.TheVariants as kind
use Rattle.rule_definitions.specs.in_schema_types.Looks.{TypeLooks}
use Rattle.rule_definitions.specs.Words.{Present}
use Rattle.rule_definitions.specs.Judged.{Judged}

-- an object, an interface or a union
abbrev pub IsCompositeType : TypeLooks → Type 0
IsCompositeType t = (is_output_kind t.kind && not (is_leaf_kind t.kind)) ≡ true

abbrev pub IsNoCompositeType : TypeLooks → Type 0
IsNoCompositeType t = (is_output_kind t.kind && not (is_leaf_kind t.kind)) ≡ false

module _ (s : Judged) where
  -- the type of this name is defined and composite; below, defined and not composite
  abbrev pub IsComposite : List ℕ → Type 0
  IsComposite n = Present (s.type_named n) IsCompositeType

  abbrev pub IsNotComposite : List ℕ → Type 0
  IsNotComposite n = Present (s.type_named n) IsNoCompositeType

  -- Stricter: object types alone are possible, where "the set of types implementing type" may have interfaces too
  -- values of the type can be of this object type (GetPossibleTypes, section 5.5.2.3)
  abbrev pub CanBe : List ℕ → List ℕ → Type 0
  CanBe n object = Present (s.type_named object) (λ u. (u.kind ≡ kind.Object)
      × ((object ≡ n) ⊎ ((u.implements n ≡ true) ⊎ Present (s.type_named n) (λ t. t.has_member object ≡ true))))

  -- a fragment on the second type may be used where the first is the parent type: they are equal, or some object type is
  -- possible for both
  abbrev pub MayApply : List ℕ → List ℕ → Type 0
  MayApply parent condition = (condition ≡ parent) ⊎ ((object : List ℕ) × (CanBe parent object × CanBe condition object))
