-- The rules of this crate, place by place: what a walk over a schema tells at each.
use Rattle.std.proofs.Common.{◌≡◌, ◌≢◌, ℕ, ◌⊎◌, inl, inr, false, List, codes, None, Some}
use Rattle.tree_directives.specs.DirectiveTree.{InputValueTree, InputValues, DirectiveDefinitionTree}
use Rattle.tree_directives.specs.declared.operation_type.OperationType.{OperationType}
use Rattle.tree_type_members.specs.TypeSystemTree.{FieldDefinitionTree, EnumValueTree}
use Rattle.schema_types.specs.SchemaTree.{kind_words, is_input_kind, is_output_kind}
use Rattle.schema_types.specs.Looks.{TypeLooks}
use Rattle.schema_types.specs.Addresses.{Address, TypeAt, MemberAt, FieldAt, ValueAt, InputAt, DirectiveDefinitionAt, ArgumentAt, RootAt, TypeNameAt, TypeReferenceAt}
use Rattle.schema_types.specs.declared.type_kind.TypeKind.TheVariants as kind
use Rattle.fault_data.specs.in_rule_definitions.Diagnostics.{UndefinedDefinition, RootOperationObjectType, OutputType, InputType, EmptyFieldSet, EmptyValueSet, EmptyMemberSet, EmptyInputValueSet, UnionMemberObjectType, UniqueInputValue}
use Rattle.fault_data.specs.in_rule_definitions.Words.{Present, Somewhere, Among, AtSomeIndex, IsEmpty, Repeats}
use Rattle.fault_data.specs.in_rule_definitions.Faults.{SchemaFault, told}
use Rattle.fault_data.specs.in_rule_definitions.Judged.{Judged, AtType, AtField, AtValue, AtInputField, AtDirectiveDefinition, AtArguments, AtArgument}
use Rattle.fault_data.specs.in_rule_definitions.RootTypes.{root_type_of}
use Rattle.fault_data.specs.in_rule_definitions.Roots.{QueryRootOperationTypeAt, DuplicateRootOperationTypeAt}
use Rattle.fault_data.specs.in_rule_definitions.ReservedNames.{IsReservedAt, ReservedNameAt}
use Rattle.fault_data.specs.in_rule_definitions.Names.{named_in}
use Rattle.fault_data.specs.in_rule_definitions.TypesUsed.{IsUndefinedAt, UndefinedFieldTypeAt, UndefinedInputTypeAt, UndefinedMemberAt, OutputTypeAt, InputTypeAt, UnionMemberObjectTypeAt, UniqueArgumentDefinitionAt}
use Rattle.rule_types.specs.TypesBreak.{TypesBreak}

module _ (s : Judged) (fault : SchemaFault) where
  -- ---- one rule at one place

  -- the type of that name is not there
  abbrev pub IsMissingAt : Address → List ℕ → Type 0
  IsMissingAt at n = (s.type_named n ≡ None) × (fault ≡ told at (UndefinedDefinition n))

  abbrev pub IsNoObjectRootAt : OperationType → List ℕ → Type 0
  IsNoObjectRootAt o n = Present (s.type_named n) (λ t. (t.kind ≢ kind.Object) × (fault ≡ told (RootAt o) (RootOperationObjectType n (kind_words t.kind))))

  abbrev pub IsNoObjectMemberAt : List ℕ → List ℕ → Type 0
  IsNoObjectMemberAt n m = Present (s.type_named m) (λ t. (t.kind ≢ kind.Object) × (fault ≡ told (MemberAt n m) (UnionMemberObjectType m (kind_words t.kind))))

  abbrev pub IsNoOutputAt : List ℕ → List ℕ → FieldDefinitionTree (Unit {0}) → Type 0
  IsNoOutputAt n m f = Present (s.type_named (named_in f.ty)) (λ t. (is_output_kind t.kind ≡ false) × (fault ≡ told (FieldAt n m) (OutputType m (kind_words t.kind) (TypeNameAt (FieldAt n m)))))

  abbrev pub IsNoInputAt : Address → InputValueTree (Unit {0}) → Type 0
  IsNoInputAt at v = Present (s.type_named (named_in v.ty.it)) (λ t. (is_input_kind t.kind ≡ false) × (fault ≡ told at (InputType v.name.it (kind_words t.kind) (TypeReferenceAt at))))

  abbrev pub IsRepeatedAt : Address → InputValues (Unit {0}) → Type 0
  IsRepeatedAt holder vs = Repeats (λ v. v.it.name.it) vs (λ i first j later. fault ≡ told (ArgumentAt holder i) (UniqueInputValue first.it.name.it (ArgumentAt holder i) (ArgumentAt holder j)))

  module _ (n : List ℕ) (t : TypeLooks) where
    abbrev pub HasNoField : Type 0
    HasNoField = ((t.kind ≡ kind.Object) ⊎ (t.kind ≡ kind.Interface)) × (IsEmpty t.field × (fault ≡ told (TypeAt n) (EmptyFieldSet n (TypeAt n) (TypeAt n))))

    abbrev pub HasNoMember : Type 0
    HasNoMember = (t.kind ≡ kind.Union) × (((m : List ℕ) → t.has_member m ≡ false) × (fault ≡ told (TypeAt n) (EmptyMemberSet n (TypeAt n) (TypeAt n))))

    abbrev pub HasNoValue : Type 0
    HasNoValue = (t.kind ≡ kind.Enum) × (IsEmpty t.value × (fault ≡ told (TypeAt n) (EmptyValueSet n (TypeAt n) (TypeAt n))))

    abbrev pub HasNoInput : Type 0
    HasNoInput = (t.kind ≡ kind.InputObject) × (IsEmpty t.input × (fault ≡ told (TypeAt n) (EmptyInputValueSet n (TypeAt n) (TypeAt n))))

  -- ---- all rules at one place

  abbrev pub InputValueBreaks : Address → List ℕ → List ℕ → InputValueTree (Unit {0}) → Type 0
  InputValueBreaks at n describe v = IsReservedAt s fault at n describe ⊎ (IsUndefinedAt s fault at v.ty.it ⊎ IsNoInputAt at v)

  abbrev pub ArgumentBreaks : Address → InputValueTree (Unit {0}) → Type 0
  ArgumentBreaks at v = InputValueBreaks at v.name.it (codes "an argument") v

  abbrev pub ArgumentsBreak : Address → InputValues (Unit {0}) → Type 0
  ArgumentsBreak holder vs = AtSomeIndex vs (λ i v. ArgumentBreaks (ArgumentAt holder i) v.it) ⊎ IsRepeatedAt holder vs

  abbrev pub FieldBreaks : List ℕ → List ℕ → FieldDefinitionTree (Unit {0}) → Type 0
  FieldBreaks n m f = IsReservedAt s fault (FieldAt n m) m (codes "a field")
      ⊎ (IsUndefinedAt s fault (FieldAt n m) f.ty ⊎ (IsNoOutputAt n m f ⊎ ArgumentsBreak (FieldAt n m) f.arguments))

  abbrev pub MemberBreaks : List ℕ → List ℕ → Type 0
  MemberBreaks n m = IsMissingAt (MemberAt n m) m ⊎ IsNoObjectMemberAt n m

  abbrev pub ValueBreaks : List ℕ → List ℕ → Type 0
  ValueBreaks n m = IsReservedAt s fault (ValueAt n m) m (codes "an enum value")

  abbrev pub InputBreaks : List ℕ → List ℕ → InputValueTree (Unit {0}) → Type 0
  InputBreaks n m v = InputValueBreaks (InputAt n m) m (codes "an input object field") v

  -- what a type has
  abbrev pub FieldsBreak : List ℕ → TypeLooks → Type 0
  FieldsBreak n t = HasNoField n t ⊎ Somewhere t.field (λ m f. FieldBreaks n m f)

  abbrev pub MembersBreak : List ℕ → TypeLooks → Type 0
  MembersBreak n t = HasNoMember n t ⊎ Among t.has_member (λ m. MemberBreaks n m)

  abbrev pub ValuesBreak : List ℕ → TypeLooks → Type 0
  ValuesBreak n t = HasNoValue n t ⊎ Somewhere t.value (λ m v. ValueBreaks n m)

  abbrev pub InputsBreak : List ℕ → TypeLooks → Type 0
  InputsBreak n t = HasNoInput n t ⊎ Somewhere t.input (λ m v. InputBreaks n m v)

  abbrev pub PartsBreak : List ℕ → TypeLooks → Type 0
  PartsBreak n t = FieldsBreak n t ⊎ (MembersBreak n t ⊎ (ValuesBreak n t ⊎ InputsBreak n t))

  abbrev pub TypeBreaks : List ℕ → TypeLooks → Type 0
  TypeBreaks n t = IsReservedAt s fault (TypeAt n) n (kind_words t.kind) ⊎ PartsBreak n t

  abbrev pub DirectiveBreaks : List ℕ → DirectiveDefinitionTree (Unit {0}) → Type 0
  DirectiveBreaks n d = IsReservedAt s fault (DirectiveDefinitionAt n) n (codes "a directive definition") ⊎ ArgumentsBreak (DirectiveDefinitionAt n) d.arguments

  abbrev pub RootBreaks : OperationType → Type 0
  RootBreaks o = Present (root_type_of s.definition o) (λ n. IsMissingAt (RootAt o) n ⊎ IsNoObjectRootAt o n)

  abbrev pub RootsBreak : Type 0
  RootsBreak = QueryRootOperationTypeAt s fault ⊎ (((o : OperationType) × RootBreaks o) ⊎ DuplicateRootOperationTypeAt s fault)

  abbrev pub PlacesBreak : Type 0
  PlacesBreak = RootsBreak ⊎ (AtType s (λ n t. TypeBreaks n t) ⊎ AtDirectiveDefinition s (λ n d. DirectiveBreaks n d))

  -- ---- from rules to places

  type_so : (P : List ℕ → TypeLooks → Type 0) → ((n : List ℕ) (t : TypeLooks) → P n t → TypeBreaks n t) → AtType s P → PlacesBreak
  type_so P so (n, (t, (there, p))) = inr (inl (n, (t, (there, so n t p))))

  directive_so : (P : List ℕ → DirectiveDefinitionTree (Unit {0}) → Type 0) → ((n : List ℕ) (d : DirectiveDefinitionTree (Unit {0})) → P n d → DirectiveBreaks n d) → AtDirectiveDefinition s P → PlacesBreak
  directive_so P so (n, (d, (there, p))) = inr (inr (n, (d, (there, so n d p))))

  field_so : (P : List ℕ → List ℕ → FieldDefinitionTree (Unit {0}) → Type 0) → ((n m : List ℕ) (f : FieldDefinitionTree (Unit {0})) → P n m f → FieldBreaks n m f) → AtField s P → PlacesBreak
  field_so P so (n, (t, (there, (m, (f, (has, p)))))) = inr (inl (n, (t, (there, inr (inl (inr (m, (f, (has, so n m f p)))))))))

  value_so : (P : List ℕ → List ℕ → EnumValueTree (Unit {0}) → Type 0) → ((n m : List ℕ) (v : EnumValueTree (Unit {0})) → P n m v → ValueBreaks n m) → AtValue s P → PlacesBreak
  value_so P so (n, (t, (there, (m, (v, (has, p)))))) = inr (inl (n, (t, (there, inr (inr (inr (inl (inr (m, (v, (has, so n m v p)))))))))))

  input_so : (P : List ℕ → List ℕ → InputValueTree (Unit {0}) → Type 0) → ((n m : List ℕ) (v : InputValueTree (Unit {0})) → P n m v → InputBreaks n m v) → AtInputField s P → PlacesBreak
  input_so P so (n, (t, (there, (m, (v, (has, p)))))) = inr (inl (n, (t, (there, inr (inr (inr (inr (inr (m, (v, (has, so n m v p)))))))))))

  member_so : (P : List ℕ → List ℕ → Type 0) → ((n m : List ℕ) → P n m → MemberBreaks n m) → AtType s (λ n t. Among t.has_member (λ m. P n m)) → PlacesBreak
  member_so P so (n, (t, (there, (m, (has, p))))) = inr (inl (n, (t, (there, inr (inr (inl (inr (m, (has, so n m p)))))))))

  arguments_so : (P : Address → InputValues (Unit {0}) → Type 0) → ((at : Address) (vs : InputValues (Unit {0})) → P at vs → ArgumentsBreak at vs) → AtArguments s P → PlacesBreak
  arguments_so P so (inl q) = field_so (λ n m f. P (FieldAt n m) f.arguments) (λ n m f p. inr (inr (inr (so (FieldAt n m) f.arguments p)))) q
  arguments_so P so (inr q) = directive_so (λ n d. P (DirectiveDefinitionAt n) d.arguments) (λ n d p. inr (so (DirectiveDefinitionAt n) d.arguments p)) q

  argument_so : (P : Address → InputValueTree (Unit {0}) → Type 0) → ((at : Address) (v : InputValueTree (Unit {0})) → P at v → ArgumentBreaks at v) → AtArgument s P → PlacesBreak
  argument_so P so q = arguments_so (λ holder vs. AtSomeIndex vs (λ i v. P (ArgumentAt holder i) v.it)) (λ holder vs p. inl (p.0, (p.1.0, (p.1.1.0, so (ArgumentAt holder p.0) p.1.0.it p.1.1.1)))) q

  pub to_places : TypesBreak s fault → PlacesBreak
  to_places (inl (inl q)) = inl (inl q)
  to_places (inl (inr (inl (o, (n, (there, p)))))) = inl (inr (inl (o, (n, (there, inl p)))))
  to_places (inl (inr (inr (inl (o, (n, (there, p))))))) = inl (inr (inl (o, (n, (there, inr p)))))
  to_places (inl (inr (inr (inr (inl q))))) = inl (inr (inr q))
  to_places (inl (inr (inr (inr (inr (inl (inl q))))))) = type_so _ (λ n t p. inl p) q
  to_places (inl (inr (inr (inr (inr (inl (inr (inl q)))))))) = directive_so _ (λ n d p. inl p) q
  to_places (inl (inr (inr (inr (inr (inl (inr (inr (inl q))))))))) = field_so _ (λ n m f p. inl p) q
  to_places (inl (inr (inr (inr (inr (inl (inr (inr (inr (inl q)))))))))) = argument_so _ (λ at v p. inl p) q
  to_places (inl (inr (inr (inr (inr (inl (inr (inr (inr (inr (inl q))))))))))) = input_so _ (λ n m v p. inl p) q
  to_places (inl (inr (inr (inr (inr (inl (inr (inr (inr (inr (inr q))))))))))) = value_so _ (λ n m v p. p) q
  to_places (inl (inr (inr (inr (inr (inr (inl q))))))) = field_so _ (λ n m f p. inr (inl p)) q
  to_places (inl (inr (inr (inr (inr (inr (inr (inl (inl q))))))))) = argument_so _ (λ at v p. inr (inl p)) q
  to_places (inl (inr (inr (inr (inr (inr (inr (inl (inr q))))))))) = input_so _ (λ n m v p. inr (inl p)) q
  to_places (inl (inr (inr (inr (inr (inr (inr (inr (inl q))))))))) = member_so _ (λ n m p. inl p) q
  to_places (inl (inr (inr (inr (inr (inr (inr (inr (inr (inl q)))))))))) = field_so _ (λ n m f p. inr (inr (inl p))) q
  to_places (inl (inr (inr (inr (inr (inr (inr (inr (inr (inr (inl (inl q)))))))))))) = argument_so _ (λ at v p. inr (inr p)) q
  to_places (inl (inr (inr (inr (inr (inr (inr (inr (inr (inr (inl (inr q)))))))))))) = input_so _ (λ n m v p. inr (inr p)) q
  to_places (inl (inr (inr (inr (inr (inr (inr (inr (inr (inr (inr (inl q)))))))))))) = member_so _ (λ n m p. inr p) q
  to_places (inl (inr (inr (inr (inr (inr (inr (inr (inr (inr (inr (inr q)))))))))))) = arguments_so _ (λ at vs p. inr p) q
  to_places (inr (inl q)) = type_so _ (λ n t p. inr (inl (inl p))) q
  to_places (inr (inr (inl q))) = type_so _ (λ n t p. inr (inr (inr (inl (inl p))))) q
  to_places (inr (inr (inr (inl q)))) = type_so _ (λ n t p. inr (inr (inl (inl p)))) q
  to_places (inr (inr (inr (inr q)))) = type_so _ (λ n t p. inr (inr (inr (inr (inl p))))) q

  -- ---- from places to rules

  -- the rule of each number among those of references, and the four on what is empty
  abbrev at_reserved : ReservedNameAt s fault → TypesBreak s fault
  at_reserved q = inl (inr (inr (inr (inr (inl q)))))

  abbrev at_undefined_field : UndefinedFieldTypeAt s fault → TypesBreak s fault
  at_undefined_field q = inl (inr (inr (inr (inr (inr (inl q))))))

  abbrev at_undefined_input : UndefinedInputTypeAt s fault → TypesBreak s fault
  at_undefined_input q = inl (inr (inr (inr (inr (inr (inr (inl q)))))))

  abbrev at_undefined_member : UndefinedMemberAt s fault → TypesBreak s fault
  at_undefined_member q = inl (inr (inr (inr (inr (inr (inr (inr (inl q))))))))

  abbrev at_output : OutputTypeAt s fault → TypesBreak s fault
  at_output q = inl (inr (inr (inr (inr (inr (inr (inr (inr (inl q)))))))))

  abbrev at_input : InputTypeAt s fault → TypesBreak s fault
  at_input q = inl (inr (inr (inr (inr (inr (inr (inr (inr (inr (inl q))))))))))

  abbrev at_union_member : UnionMemberObjectTypeAt s fault → TypesBreak s fault
  at_union_member q = inl (inr (inr (inr (inr (inr (inr (inr (inr (inr (inr (inl q)))))))))))

  abbrev at_unique : UniqueArgumentDefinitionAt s fault → TypesBreak s fault
  at_unique q = inl (inr (inr (inr (inr (inr (inr (inr (inr (inr (inr (inr q)))))))))))

  from_argument : (at : Address) (v : InputValueTree (Unit {0})) → ((P : Address → InputValueTree (Unit {0}) → Type 0) → P at v → AtArgument s P) → ArgumentBreaks at v → TypesBreak s fault
  from_argument at v lift (inl p) = at_reserved (inr (inr (inr (inl (lift (λ x y. IsReservedAt s fault x y.name.it (codes "an argument")) p)))))
  from_argument at v lift (inr (inl p)) = at_undefined_input (inl (lift (λ x y. IsUndefinedAt s fault x y.ty.it) p))
  from_argument at v lift (inr (inr p)) = at_input (inl (lift IsNoInputAt p))

  from_arguments : (holder : Address) (vs : InputValues (Unit {0})) → ((P : Address → InputValues (Unit {0}) → Type 0) → P holder vs → AtArguments s P) → ArgumentsBreak holder vs → TypesBreak s fault
  from_arguments holder vs lift (inl (i, (v, (there, p)))) =
      from_argument (ArgumentAt holder i) v.it (λ P q. lift (λ h ws. AtSomeIndex ws (λ k w. P (ArgumentAt h k) w.it)) (i, (v, (there, q)))) p
  from_arguments holder vs lift (inr p) = at_unique (lift IsRepeatedAt p)

  from_field : (n m : List ℕ) (f : FieldDefinitionTree (Unit {0})) → ((P : List ℕ → List ℕ → FieldDefinitionTree (Unit {0}) → Type 0) → P n m f → AtField s P) → FieldBreaks n m f → TypesBreak s fault
  from_field n m f lift (inl p) = at_reserved (inr (inr (inl (lift (λ k l g. IsReservedAt s fault (FieldAt k l) l (codes "a field")) p))))
  from_field n m f lift (inr (inl p)) = at_undefined_field (lift (λ k l g. IsUndefinedAt s fault (FieldAt k l) g.ty) p)
  from_field n m f lift (inr (inr (inl p))) = at_output (lift IsNoOutputAt p)
  from_field n m f lift (inr (inr (inr p))) = from_arguments (FieldAt n m) f.arguments (λ P q. inl (lift (λ k l g. P (FieldAt k l) g.arguments) q)) p

  from_input : (n m : List ℕ) (v : InputValueTree (Unit {0})) → ((P : List ℕ → List ℕ → InputValueTree (Unit {0}) → Type 0) → P n m v → AtInputField s P) → InputBreaks n m v → TypesBreak s fault
  from_input n m v lift (inl p) = at_reserved (inr (inr (inr (inr (inl (lift (λ k l w. IsReservedAt s fault (InputAt k l) l (codes "an input object field")) p))))))
  from_input n m v lift (inr (inl p)) = at_undefined_input (inr (lift (λ k l w. IsUndefinedAt s fault (InputAt k l) w.ty.it) p))
  from_input n m v lift (inr (inr p)) = at_input (inr (lift (λ k l w. IsNoInputAt (InputAt k l) w) p))

  from_type : (n : List ℕ) (t : TypeLooks) → s.type_named n ≡ Some t → TypeBreaks n t → TypesBreak s fault
  from_type n t there (inl p) = at_reserved (inl (n, (t, (there, p))))
  from_type n t there (inr (inl (inl p))) = inr (inl (n, (t, (there, p))))
  from_type n t there (inr (inl (inr (m, (f, (has, p)))))) = from_field n m f (λ P q. (n, (t, (there, (m, (f, (has, q))))))) p
  from_type n t there (inr (inr (inl (inl p)))) = inr (inr (inr (inl (n, (t, (there, p))))))
  from_type n t there (inr (inr (inl (inr (m, (has, inl p)))))) = at_undefined_member (n, (t, (there, (m, (has, p)))))
  from_type n t there (inr (inr (inl (inr (m, (has, inr p)))))) = at_union_member (n, (t, (there, (m, (has, p)))))
  from_type n t there (inr (inr (inr (inl (inl p))))) = inr (inr (inl (n, (t, (there, p)))))
  from_type n t there (inr (inr (inr (inl (inr (m, (v, (has, p)))))))) = at_reserved (inr (inr (inr (inr (inr (n, (t, (there, (m, (v, (has, p)))))))))))
  from_type n t there (inr (inr (inr (inr (inl p))))) = inr (inr (inr (inr (n, (t, (there, p))))))
  from_type n t there (inr (inr (inr (inr (inr (m, (v, (has, p)))))))) = from_input n m v (λ P q. (n, (t, (there, (m, (v, (has, q))))))) p

  pub from_places : PlacesBreak → TypesBreak s fault
  from_places (inl (inl q)) = inl (inl q)
  from_places (inl (inr (inl (o, (n, (there, inl p)))))) = inl (inr (inl (o, (n, (there, p)))))
  from_places (inl (inr (inl (o, (n, (there, inr p)))))) = inl (inr (inr (inl (o, (n, (there, p))))))
  from_places (inl (inr (inr q))) = inl (inr (inr (inr (inl q))))
  from_places (inr (inl (n, (t, (there, p))))) = from_type n t there p
  from_places (inr (inr (n, (d, (there, inl p))))) = at_reserved (inr (inl (n, (d, (there, p)))))
  from_places (inr (inr (n, (d, (there, inr p))))) = from_arguments (DirectiveDefinitionAt n) d.arguments (λ P q. inr (n, (d, (there, q)))) p
