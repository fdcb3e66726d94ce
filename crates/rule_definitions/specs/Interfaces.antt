-- Rules on types that implement interfaces (GraphQL, October 2021, sections 3.6 and 3.7; IsValidImplementation is in 3.6).
use Rattle.std.specs.Prelude.{◌≡◌, ◌≢◌, ℕ, true, false, List, None}
use Rattle.tree_directives.specs.DirectiveQueries.{is_required_input}
use Rattle.schema_types.specs.in_type_members.TypeSystemTree.{FieldDefinitionTree}
use Rattle.schema_types.specs.Looks.{TypeLooks}
use Rattle.schema_types.specs.Addresses.{TypeAt, FieldAt, ImplementsAt, ArgumentAt}
use Rattle.schema_types.specs.declared.type_kind.TypeKind.TheVariants as kind
use Rattle.rule_definitions.specs.Diagnostics.{UndefinedDefinition, RecursiveInterfaceDefinition, TransitiveImplementedInterfaces, MissingInterfaceField, InvalidImplementationFieldType, MissingInterfaceFieldArgument, InvalidImplementationFieldArgumentType, ExtraRequiredImplementationFieldArgument}
use Rattle.rule_definitions.specs.Words.{Present, Somewhere, Among, AtSomeIndex, FirstNamed, Lacks}
use Rattle.rule_definitions.specs.Faults.{SchemaFault, told}
use Rattle.rule_definitions.specs.Judged.{Judged, AtType}
use Rattle.rule_definitions.specs.Subtypes.{is_valid_type}

module _ (s : Judged) where
  -- ---- at some place

  -- P holds of some type n and an interface i that n implements and that is defined
  abbrev pub AtImplemented : (List ℕ → TypeLooks → List ℕ → TypeLooks → Type 0) → Type 0
  AtImplemented P = AtType s (λ n t. Among t.implements (λ i. Present (s.type_named i) (λ over. (over.kind ≡ kind.Interface) × P n t i over)))

  -- P holds of a field m of some type n and of the field m of an interface i that n implements
  abbrev pub AtImplementation : (List ℕ → List ℕ → List ℕ → FieldDefinitionTree (Unit {0}) → FieldDefinitionTree (Unit {0}) → Type 0) → Type 0
  AtImplementation P = AtImplemented (λ n t i over. Somewhere over.field (λ m wanted. Present (t.field m) (λ field. P n i m wanted field)))

module _ (s : Judged) (fault : SchemaFault) where
  -- UndefinedDefinition: a type is valid only if each name that it implements is that of an interface (sections 3.6 and
  -- 3.7)
  abbrev pub UndefinedInterfaceAt : Type 0
  UndefinedInterfaceAt = AtType s (λ n t. Among t.implements (λ i.
      (Present (s.type_named i) (λ over. over.kind ≡ kind.Interface) → ⊥) × (fault ≡ told (ImplementsAt n i) (UndefinedDefinition i))))

  -- RecursiveInterfaceDefinition: an interface type is valid only if it does not implement itself (section 3.7)
  abbrev pub RecursiveInterfaceDefinitionAt : Type 0
  RecursiveInterfaceDefinitionAt = AtType s (λ n t. (t.kind ≡ kind.Interface)
      × ((t.implements n ≡ true) × (fault ≡ told (ImplementsAt n n) (RecursiveInterfaceDefinition n))))

  -- TransitiveImplementedInterfaces: a type is valid only if it also implements what its interfaces implement (sections 3.6
  -- and 3.7)
  abbrev pub TransitiveImplementedInterfacesAt : Type 0
  TransitiveImplementedInterfacesAt = AtImplemented s (λ n t i over. Among over.implements (λ missing. (t.implements missing ≡ false)
      × (fault ≡ told (TypeAt n) (TransitiveImplementedInterfaces n i (ImplementsAt i missing) missing))))

  -- MissingInterfaceField: a type is valid only if it has each field of its interfaces (sections 3.6 and 3.7)
  abbrev pub MissingInterfaceFieldAt : Type 0
  MissingInterfaceFieldAt = AtImplemented s (λ n t i over. Somewhere over.field (λ m wanted. (t.field m ≡ None)
      × (fault ≡ told (TypeAt n) (MissingInterfaceField n (ImplementsAt n i) i m (FieldAt i m)))))

  -- InvalidImplementationFieldType: a field that an interface asks for is valid only if its type is that of the interface's
  -- field or a subtype of it (sections 3.6 and 3.7)
  abbrev pub InvalidImplementationFieldTypeAt : Type 0
  InvalidImplementationFieldTypeAt = AtImplementation s (λ n i m wanted field. (is_valid_type s wanted.ty field.ty ≡ false)
      × (fault ≡ told (FieldAt n m) (InvalidImplementationFieldType n i m wanted.ty field.ty (FieldAt n m) (FieldAt i m))))

  -- MissingInterfaceFieldArgument: a field that an interface asks for is valid only if it has each argument of the
  -- interface's field (sections 3.6 and 3.7)
  abbrev pub MissingInterfaceFieldArgumentAt : Type 0
  MissingInterfaceFieldArgumentAt = AtImplementation s (λ n i m wanted field. AtSomeIndex wanted.arguments (λ k w.
      Lacks (λ v. v.it.name.it) field.arguments w.it.name.it
      × (fault ≡ told (FieldAt n m) (MissingInterfaceFieldArgument n i m w.it.name.it (FieldAt n m) (ArgumentAt (FieldAt i m) k)))))

  -- InvalidImplementationFieldArgumentType: an argument that an interface asks for is valid only if its type is that of the
  -- interface's argument (sections 3.6 and 3.7)
  abbrev pub InvalidImplementationFieldArgumentTypeAt : Type 0
  InvalidImplementationFieldArgumentTypeAt = AtImplementation s (λ n i m wanted field. AtSomeIndex wanted.arguments (λ k w.
      FirstNamed (λ v. v.it.name.it) field.arguments w.it.name.it (λ j v. (w.it.ty.it ≢ v.it.ty.it)
      × (fault ≡ told (ArgumentAt (FieldAt n m) j) (InvalidImplementationFieldArgumentType n i m w.it.name.it w.it.ty.it v.it.ty.it
      (ArgumentAt (FieldAt n m) j) (ArgumentAt (FieldAt i m) k))))))

  -- ExtraRequiredImplementationFieldArgument: an argument that the interface's field lacks is valid only if it is not
  -- required (sections 3.6 and 3.7)
  abbrev pub ExtraRequiredImplementationFieldArgumentAt : Type 0
  ExtraRequiredImplementationFieldArgumentAt = AtImplementation s (λ n i m wanted field. AtSomeIndex field.arguments (λ j v.
      Lacks (λ w. w.it.name.it) wanted.arguments v.it.name.it × ((is_required_input v.it ≡ true)
      × (fault ≡ told (ArgumentAt (FieldAt n m) j) (ExtraRequiredImplementationFieldArgument n i m v.it.name.it
      (ArgumentAt (FieldAt n m) j) (FieldAt i m))))))
