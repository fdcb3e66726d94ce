-- Rules on the root operations (GraphQL, October 2021, section 3.3.1).
use Rattle.std.specs.Prelude.{◌≡◌, ◌≢◌, None}
use Rattle.tree_directives.specs.declared.operation_type.OperationType.{OperationType}
use Rattle.schema_types.specs.SchemaTree.{kind_words}
use Rattle.schema_types.specs.Addresses.{SchemaAt, RootAt}
use Rattle.schema_types.specs.declared.type_kind.TypeKind.TheVariants as kind
use Rattle.rule_definitions.specs.Diagnostics.{QueryRootOperationType, UndefinedDefinition, RootOperationObjectType, DuplicateRootOperationType}
use Rattle.rule_definitions.specs.Words.{Present, Repeats}
use Rattle.rule_definitions.specs.Faults.{SchemaFault, told}
use Rattle.rule_definitions.specs.Judged.{Judged}
use Rattle.rule_definitions.specs.RootTypes.{root_type_of, root_types_in}

module _ (s : Judged) (fault : SchemaFault) where
  -- QueryRootOperationType: a schema is valid only if it has a root for queries (section 3.3.1)
  abbrev pub QueryRootOperationTypeAt : Type 0
  QueryRootOperationTypeAt = (s.definition.query ≡ None) × (fault ≡ told SchemaAt QueryRootOperationType)

  -- UndefinedDefinition: a root or a member of a union is valid only if its type is defined (sections 3.3.1 and 3.8); of a
  -- root
  abbrev pub UndefinedRootAt : Type 0
  UndefinedRootAt = (o : OperationType) × Present (root_type_of s.definition o) (λ n.
      (s.type_named n ≡ None) × (fault ≡ told (RootAt o) (UndefinedDefinition n)))

  -- RootOperationObjectType: a root is valid only if its type is an object type (section 3.3.1)
  abbrev pub RootOperationObjectTypeAt : Type 0
  RootOperationObjectTypeAt = (o : OperationType) × Present (root_type_of s.definition o) (λ n. Present (s.type_named n) (λ t.
      (t.kind ≢ kind.Object) × (fault ≡ told (RootAt o) (RootOperationObjectType n (kind_words t.kind)))))

  -- DuplicateRootOperationType: a schema is valid only if its roots have different types (section 3.3.1)
  abbrev pub DuplicateRootOperationTypeAt : Type 0
  DuplicateRootOperationTypeAt = Repeats (λ r. r.1) (root_types_in s.definition) (λ i first j later.
      fault ≡ told (RootAt later.0) (DuplicateRootOperationType later.1 first.0 (RootAt first.0) later.0 (RootAt later.0)))
