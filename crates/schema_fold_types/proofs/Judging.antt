-- What is told of a definition is what the rule on its position says.
use Rattle.std.proofs.Common.{◌≡◌, ℕ, Bool, true, false, not, ◌&&◌, List, ◌++◌, Option, None, Some, refl, sym, ap, subst, ◌∙◌, is_some, Contains}
use Rattle.std.specs.Prelude.{◌↔◌}
use Rattle.std.specs.Option.{option_map, option_map_or, option_or}
use Rattle.graphql_names.specs.Placed.{Place}
use Rattle.schema_fold_index.specs.in_definitions.DefinitionTree.{DefinitionTree}
use Rattle.schema_fold_index.specs.in_definitions.Queries.{is_executable}
use Rattle.schema_fold_index.proofs.in_components.Places.{not_in_nil, only, is_only}
use Rattle.schema_fold_index.specs.in_schema_types.SchemaTree.{same_kind}
use Rattle.schema_fold_index.specs.in_schema_types.TypeParts.{TypeDefinition, type_here, type_extension_here}
use Rattle.schema_fold_index.specs.in_schema_types.declared.type_kind.TypeKind.{TypeKind}
use Rattle.schema_fold_index.specs.in_schema_types.declared.type_kind.TypeKind.TheVariants.{Scalar}
use Rattle.schema_fold_index.specs.in_fold.NumberedDefinition.{Definitions, type_name, type_named}
use Rattle.schema_fold_index.specs.in_fold.SchemaFold.{schema_here, schema_extension_here, schema_definition_in}
use Rattle.schema_fold_index.specs.in_fold.BuildErrors.{Breach, BuildFault, At, ExecutableDefinition, SchemaDefinitionCollision, TypeDefinitionCollision, BuiltInScalarTypeRedefinition, OrphanSchemaExtension, OrphanTypeExtension, TypeExtensionKindMismatch, ExecutableDefinitionAt, SchemaDefinitionCollisionAt, TypeDefinitionCollisionAt, BuiltInScalarTypeRedefinitionAt, OrphanSchemaExtensionAt, OrphanTypeExtensionAt, TypeExtensionKindMismatchAt}
use Rattle.schema_fold_types.specs.DefinedKinds.{seen_of, told_where, faults_at, is_scalar_in, kind_in, kind_seen, schema_seen, executable_told, schema_told, collision_told, redefinition_told, orphan_told, mismatch_told, type_collision_told, scalar_redefinition_told, orphan_type_told, kind_mismatch_told, orphan_schema_told}
use Rattle.schema_fold_types.proofs.Seeing.{is_scalar_is, kind_seen_is, some_seen_is, schema_seen_is}

-- ---- tests

both : (a b : Bool) → (a && b) ≡ true → (a ≡ true) × (b ≡ true)
both true b e = (refl, e)
both false b e = cc

all_two : (a b : Bool) → a ≡ true → b ≡ true → (a && b) ≡ true
all_two a b p q = (λ i. p i && q i)

is_not : (a : Bool) → not a ≡ true → a ≡ false
is_not true e = cc
is_not false e = refl

is_none : {A B : Type 0} (f : A → B) (o : Option A) → not (is_some (option_map f o)) ≡ true → o ≡ None
is_none f None e = refl
is_none f (Some a) e = cc

some_too : (o p : Option TypeKind) → option_map_or (λ k. same_kind k Scalar) o false ≡ true → is_some (option_or o p) ≡ true
some_too None p e = cc
some_too (Some k) p e = refl

-- ---- what is told where a test holds

module _ (d : DefinitionTree Place) (f : BuildFault) where
  abbrev Told : Option Breach → Type 0
  Told o = Contains (faults_at d o) f

  where_told : (b : Bool) (x : Breach) → Told (told_where b x) → (b ≡ true) × (f ≡ At d x)
  where_told true x h = (refl, only (At d x) f h)
  where_told false x h = absurd (not_in_nil f h)

  told_so : (b : Bool) (x : Breach) → b ≡ true → f ≡ At d x → Told (told_where b x)
  told_so b x e is = subst (λ c. Told (told_where c x)) (sym e) (is_only (At d x) f is)

  -- what is told of something, if it is there
  module _ {X : Type 0} (tells : X → Option Breach) where
    there : (o : Option X) → Told (option_map_or tells o None) → (x : X) × ((o ≡ Some x) × Told (tells x))
    there None h = absurd (not_in_nil f h)
    there (Some x) h = (x, (refl, h))

    told_there : (o : Option X) (x : X) → o ≡ Some x → Told (tells x) → Told (option_map_or tells o None)
    told_there o x e h = subst (λ p. Told (option_map_or tells p None)) (sym e) h

  -- ---- the rules on definitions
  module _ (built_in texts before : Definitions) where
    pub is_executable_definition : Told (executable_told d) ↔ ExecutableDefinitionAt before d f
    is_executable_definition = (λ h. where_told (is_executable d) ExecutableDefinition h, λ h. told_so (is_executable d) ExecutableDefinition h.0 h.1)

    pub is_schema_definition_collision : Told (schema_told (seen_of before) d) ↔ SchemaDefinitionCollisionAt before d f
    is_schema_definition_collision = (
      λ h. let p = where_told (is_some (schema_definition_in before) && is_some (schema_here d)) SchemaDefinitionCollision h in
          let q = both (is_some (schema_definition_in before)) (is_some (schema_here d)) p.0 in (q.1, q.0, p.1),
      λ h. told_so (is_some (schema_definition_in before) && is_some (schema_here d)) SchemaDefinitionCollision (all_two (is_some (schema_definition_in before)) (is_some (schema_here d)) h.1 h.0) h.2,
    )

    abbrev defined : List ℕ → Bool
    defined n = is_some (kind_seen (seen_of built_in) (seen_of before) n)

    abbrev scalar : List ℕ → Bool
    scalar n = is_scalar_in (seen_of built_in) n

    pub is_type_definition_collision : Told (type_collision_told (seen_of built_in) (seen_of before) d) ↔ TypeDefinitionCollisionAt built_in texts before d f
    is_type_definition_collision = (
      λ h. let p = there (λ t. collision_told (seen_of built_in) (seen_of before) (type_name t)) (type_here d) h in
          let n = type_name p.0 in
          let q = where_told (defined n && not (scalar n)) (TypeDefinitionCollision n) p.1.1 in
          let r = both (defined n) (not (scalar n)) q.0 in
          (p.0, ((p.1.0, sym (some_seen_is built_in before n) ∙ r.0), sym (is_scalar_is built_in texts n) ∙ is_not (scalar n) r.1, q.1)),
      λ h. let t = h.0 in
          let n = type_name t in
          told_there (λ u. collision_told (seen_of built_in) (seen_of before) (type_name u)) (type_here d) t h.1.0.0
          (told_so (defined n && not (scalar n)) (TypeDefinitionCollision n)
          (all_two (defined n) (not (scalar n)) (some_seen_is built_in before n ∙ h.1.0.1) (ap not (is_scalar_is built_in texts n ∙ h.1.1))) h.1.2),
    )

    pub is_built_in_scalar_type_redefinition : Told (scalar_redefinition_told (seen_of built_in) d) ↔ BuiltInScalarTypeRedefinitionAt built_in texts before d f
    is_built_in_scalar_type_redefinition = (
      λ h. let p = there (λ t. redefinition_told (seen_of built_in) (type_name t)) (type_here d) h in
          let n = type_name p.0 in
          let q = where_told (scalar n) (BuiltInScalarTypeRedefinition n) p.1.1 in
          (p.0, ((p.1.0, sym (some_seen_is built_in before n) ∙ some_too (kind_in (seen_of built_in) n) (kind_in (seen_of before) n) q.0), sym (is_scalar_is built_in texts n) ∙ q.0, q.1)),
      λ h. let t = h.0 in
          let n = type_name t in
          told_there (λ u. redefinition_told (seen_of built_in) (type_name u)) (type_here d) t h.1.0.0
          (told_so (scalar n) (BuiltInScalarTypeRedefinition n) (is_scalar_is built_in texts n ∙ h.1.1) h.1.2),
    )

  -- ---- the rules on extensions
  module _ (built_in texts before : Definitions) where
    abbrev schema : Bool
    schema = schema_seen (seen_of built_in) (seen_of texts)

    pub is_orphan_schema_extension : Told (orphan_schema_told schema d) ↔ OrphanSchemaExtensionAt built_in texts before d f
    is_orphan_schema_extension = (
      λ h. let p = where_told (is_some (schema_extension_here d) && not schema) OrphanSchemaExtension h in
          let q = both (is_some (schema_extension_here d)) (not schema) p.0 in
          (q.0, sym (schema_seen_is built_in texts) ∙ is_not schema q.1, p.1),
      λ h. told_so (is_some (schema_extension_here d) && not schema) OrphanSchemaExtension
          (all_two (is_some (schema_extension_here d)) (not schema) h.0 (ap not (schema_seen_is built_in texts ∙ h.1))) h.2,
    )

    abbrev kind : List ℕ → Option TypeKind
    kind n = kind_seen (seen_of built_in) (seen_of texts) n

    abbrev type : List ℕ → Option (TypeDefinition Place)
    type n = type_named n (built_in ++ texts)

    abbrev kind_of : TypeDefinition Place → TypeKind
    kind_of t = t.parts.kind

    pub is_orphan_type_extension : Told (orphan_type_told (seen_of built_in) (seen_of texts) d) ↔ OrphanTypeExtensionAt built_in texts before d f
    is_orphan_type_extension = (
      λ h. let p = there (λ e. orphan_told (seen_of built_in) (seen_of texts) e.name.it) (type_extension_here d) h in
          let n = p.0.name.it in
          let q = where_told (not (is_some (kind n))) (OrphanTypeExtension n) p.1.1 in
          (p.0, (p.1.0, is_none kind_of (type n) (ap (λ o. not (is_some o)) (sym (kind_seen_is built_in texts n)) ∙ q.0), q.1)),
      λ h. let n = h.0.name.it in
          told_there (λ e. orphan_told (seen_of built_in) (seen_of texts) e.name.it) (type_extension_here d) h.0 h.1.0
          (told_so (not (is_some (kind n))) (OrphanTypeExtension n) (ap (λ o. not (is_some o)) (kind_seen_is built_in texts n ∙ ap (option_map kind_of) h.1.1)) h.1.2),
    )

    abbrev differs : TypeKind → Option TypeKind → Bool
    differs k o = option_map_or (λ defined. not (same_kind defined k)) o false

    other_kind : (k : TypeKind) (o : Option (TypeDefinition Place)) → differs k (option_map kind_of o) ≡ true → (t : TypeDefinition Place) × ((o ≡ Some t) × (same_kind t.parts.kind k ≡ false))
    other_kind k None e = cc
    other_kind k (Some t) e = (t, (refl, is_not (same_kind t.parts.kind k) e))

    pub is_type_extension_kind_mismatch : Told (kind_mismatch_told (seen_of built_in) (seen_of texts) d) ↔ TypeExtensionKindMismatchAt built_in texts before d f
    is_type_extension_kind_mismatch = (
      λ h. let p = there (λ e. mismatch_told (seen_of built_in) (seen_of texts) e.name.it e.kind) (type_extension_here d) h in
          let n = p.0.name.it in
          let q = where_told (differs p.0.kind (kind n)) (TypeExtensionKindMismatch n) p.1.1 in
          let r = other_kind p.0.kind (type n) (ap (differs p.0.kind) (sym (kind_seen_is built_in texts n)) ∙ q.0) in
          (p.0, (r.0, (p.1.0, r.1.0, r.1.1, q.1))),
      λ h. let e = h.0 in
          let n = e.name.it in
          let t = h.1.0 in
          told_there (λ u. mismatch_told (seen_of built_in) (seen_of texts) u.name.it u.kind) (type_extension_here d) e h.1.1.0
          (told_so (differs e.kind (kind n)) (TypeExtensionKindMismatch n)
          (ap (differs e.kind) (kind_seen_is built_in texts n ∙ ap (option_map kind_of) h.1.1.1) ∙ ap not h.1.1.2) h.1.1.3),
    )
