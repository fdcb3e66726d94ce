-- Names that begin with `__` are reserved for introspection (GraphQL, October 2021, section 2.1.9).
use Rattle.std.specs.Prelude.{◌≡◌, ℕ, true, false, List, codes, ◌⊎◌}
use Rattle.schema_types.specs.SchemaTree.{kind_words}
use Rattle.schema_types.specs.Addresses.{Address, TypeAt, FieldAt, ValueAt, InputAt, DirectiveDefinitionAt, NameAt}
use Rattle.rule_definitions.specs.Diagnostics.{ReservedName}
use Rattle.rule_definitions.specs.Faults.{SchemaFault, told}
use Rattle.rule_definitions.specs.Judged.{Judged, AtType, AtField, AtValue, AtInputField, AtArgument, AtDirectiveDefinition}
use Rattle.rule_definitions.specs.Names.{is_reserved}

module _ (s : Judged) (fault : SchemaFault) where
  -- what is at that address is not built in and has this name, which is reserved; this is the fault
  abbrev pub IsReservedAt : Address → List ℕ → List ℕ → Type 0
  IsReservedAt at name describe =
      (s.built_in at ≡ false) × ((is_reserved name ≡ true) × (fault ≡ told (NameAt at) (ReservedName name describe)))

  -- ReservedName: a name that is not built in is valid only if it does not begin with `__` (section 2.1.9); of a type, a
  -- directive, a field, an argument, an input field or an enum value
  abbrev pub ReservedNameAt : Type 0
  ReservedNameAt =
      AtType s (λ n t. IsReservedAt (TypeAt n) n (kind_words t.kind))
      ⊎ (AtDirectiveDefinition s (λ n d. IsReservedAt (DirectiveDefinitionAt n) n (codes "a directive definition"))
      ⊎ (AtField s (λ n m f. IsReservedAt (FieldAt n m) m (codes "a field"))
      ⊎ (AtArgument s (λ at v. IsReservedAt at v.name.it (codes "an argument"))
      ⊎ (AtInputField s (λ n m v. IsReservedAt (InputAt n m) m (codes "an input object field"))
      ⊎ AtValue s (λ n m v. IsReservedAt (ValueAt n m) m (codes "an enum value"))))))
