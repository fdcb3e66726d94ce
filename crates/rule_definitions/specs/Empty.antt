-- A type must not be empty (GraphQL, October 2021, sections 3.6, 3.7, 3.8, 3.9, 3.10).
use Rattle.std.specs.Prelude.{◌≡◌, ℕ, false, List, ◌⊎◌}
use Rattle.schema_types.specs.Addresses.{TypeAt}
use Rattle.schema_types.specs.declared.type_kind.TypeKind.TheVariants as kind
use Rattle.rule_definitions.specs.Diagnostics.{EmptyFieldSet, EmptyValueSet, EmptyMemberSet, EmptyInputValueSet}
use Rattle.rule_definitions.specs.Words.{IsEmpty}
use Rattle.rule_definitions.specs.Faults.{SchemaFault, told}
use Rattle.rule_definitions.specs.Judged.{Judged, AtType}

module _ (s : Judged) (fault : SchemaFault) where
  -- EmptyFieldSet: an object or interface type is valid only if it has a field (sections 3.6 and 3.7)
  abbrev pub EmptyFieldSetAt : Type 0
  EmptyFieldSetAt = AtType s (λ n t. ((t.kind ≡ kind.Object) ⊎ (t.kind ≡ kind.Interface))
      × (IsEmpty t.field × (fault ≡ told (TypeAt n) (EmptyFieldSet n (TypeAt n) (TypeAt n)))))

  -- EmptyMemberSet: a union type is valid only if it has a member (section 3.8)
  abbrev pub EmptyMemberSetAt : Type 0
  EmptyMemberSetAt = AtType s (λ n t. (t.kind ≡ kind.Union)
      × (((m : List ℕ) → t.has_member m ≡ false) × (fault ≡ told (TypeAt n) (EmptyMemberSet n (TypeAt n) (TypeAt n)))))

  -- EmptyValueSet: an enum type is valid only if it has a value (section 3.9)
  abbrev pub EmptyValueSetAt : Type 0
  EmptyValueSetAt = AtType s (λ n t. (t.kind ≡ kind.Enum)
      × (IsEmpty t.value × (fault ≡ told (TypeAt n) (EmptyValueSet n (TypeAt n) (TypeAt n)))))

  -- EmptyInputValueSet: an input object type is valid only if it has a field (section 3.10)
  abbrev pub EmptyInputValueSetAt : Type 0
  EmptyInputValueSetAt = AtType s (λ n t. (t.kind ≡ kind.InputObject)
      × (IsEmpty t.input × (fault ≡ told (TypeAt n) (EmptyInputValueSet n (TypeAt n) (TypeAt n)))))
