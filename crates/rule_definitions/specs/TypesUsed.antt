-- Rules on the types that fields, input values and unions refer to (GraphQL, October 2021, sections 3.4.2, 3.6, 3.8, 3.10).
use Rattle.std.specs.Prelude.{◌≡◌, ◌≢◌, false, Contains, None}
use Rattle.tree_literals.specs.TypeTree.{TypeTree}
use Rattle.schema_types.specs.SchemaTree.{kind_words, is_input_kind, is_output_kind}
use Rattle.schema_types.specs.Addresses.{Address, FieldAt, MemberAt, TypeNameAt, TypeReferenceAt, ArgumentAt}
use Rattle.schema_types.specs.declared.type_kind.TypeKind.TheVariants as kind
use Rattle.rule_definitions.specs.Diagnostics.{UndefinedDefinition, OutputType, InputType, UnionMemberObjectType, UniqueInputValue}
use Rattle.rule_definitions.specs.Words.{Present, Among, Repeats}
use Rattle.rule_definitions.specs.Faults.{SchemaFault, told}
use Rattle.rule_definitions.specs.Judged.{Judged, AtType, AtField, AtInputValue, AtArguments}
use Rattle.rule_definitions.specs.Names.{scalar_names, named_in}

module _ (s : Judged) (fault : SchemaFault) where
  -- the inner type of this reference is not defined and is none of the five built-in scalars; this is the fault
  abbrev pub IsUndefinedAt : Address → TypeTree (Unit {0}) → Type 0
  IsUndefinedAt at ty = (s.type_named (named_in ty) ≡ None)
      × ((Contains scalar_names (named_in ty) → ⊥) × (fault ≡ told (TypeNameAt at) (UndefinedDefinition (named_in ty))))

  -- UndefinedDefinition: a field, argument or input field is valid only if its type is defined (section 3.4.2); of a field
  abbrev pub UndefinedFieldTypeAt : Type 0
  UndefinedFieldTypeAt = AtField s (λ n m f. IsUndefinedAt (FieldAt n m) f.ty)

  -- UndefinedDefinition: a field, argument or input field is valid only if its type is defined (section 3.4.2); of an
  -- argument or input field
  abbrev pub UndefinedInputTypeAt : Type 0
  UndefinedInputTypeAt = AtInputValue s (λ at v. IsUndefinedAt at v.ty.it)

  -- UndefinedDefinition: a root or a member of a union is valid only if its type is defined (sections 3.3.1 and 3.8); of a
  -- member of a union
  abbrev pub UndefinedMemberAt : Type 0
  UndefinedMemberAt = AtType s (λ n t. Among t.has_member (λ m.
      (s.type_named m ≡ None) × (fault ≡ told (MemberAt n m) (UndefinedDefinition m))))

  -- OutputType: a field is valid only if its type is an output type (sections 3.6 and 3.7)
  abbrev pub OutputTypeAt : Type 0
  OutputTypeAt = AtField s (λ n m f. Present (s.type_named (named_in f.ty)) (λ t.
      (is_output_kind t.kind ≡ false) × (fault ≡ told (FieldAt n m) (OutputType m (kind_words t.kind) (TypeNameAt (FieldAt n m))))))

  -- InputType: an argument or input field is valid only if its type is an input type (sections 3.6.1, 3.10 and 3.13)
  abbrev pub InputTypeAt : Type 0
  InputTypeAt = AtInputValue s (λ at v. Present (s.type_named (named_in v.ty.it)) (λ t.
      (is_input_kind t.kind ≡ false) × (fault ≡ told at (InputType v.name.it (kind_words t.kind) (TypeReferenceAt at)))))

  -- UnionMemberObjectType: a member of a union is valid only if it is an object type (section 3.8)
  abbrev pub UnionMemberObjectTypeAt : Type 0
  UnionMemberObjectTypeAt = AtType s (λ n t. Among t.has_member (λ m. Present (s.type_named m) (λ member.
      (member.kind ≢ kind.Object) × (fault ≡ told (MemberAt n m) (UnionMemberObjectType m (kind_words member.kind))))))

  -- UniqueInputValue: a field or directive definition is valid only if its arguments differ in name (sections 3.6 and 3.13)
  abbrev pub UniqueArgumentDefinitionAt : Type 0
  UniqueArgumentDefinitionAt = AtArguments s (λ holder vs. Repeats (λ v. v.it.name.it) vs (λ i first j later.
      fault ≡ told (ArgumentAt holder i) (UniqueInputValue first.it.name.it (ArgumentAt holder i) (ArgumentAt holder j))))
