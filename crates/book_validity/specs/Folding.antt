-- Folding (section 3): the rules on the list of definitions that a schema is folded from. Names differ, and what is extended is defined.
use Rattle.std.specs.Prelude.{◌≡◌, ℕ, true, false, List, [], ◌∷◌, ◌++◌, flat_map, filter, option_to_list, None, if◌then◌else◌}
use Rattle.graphql_names.specs.Placed.{Place}
use Rattle.tree_directives.specs.OperationQueries.{operation_keyword}
use Rattle.tree_type_members.specs.TypeSystemTree.{SchemaParts}
use Rattle.tree_definitions.specs.DefinitionTree.{DefinitionTree}
use Rattle.tree_definitions.specs.Queries.{is_executable}
use Rattle.schema_components.specs.Lists.{StandsAfter, firsts, has_name}
use Rattle.schema_types.specs.SchemaTree.{same_kind}
use Rattle.schema_types.specs.TypeParts.{TypeParts, TypeDefinition, type_here, type_extension_here}
use Rattle.schema_types.specs.declared.type_kind.TypeKind.{TypeKind}
use Rattle.schema_types.specs.declared.type_kind.TypeKind.TheVariants as kind
use Rattle.schema_fold.specs.NumberedDefinition.{Definitions, type_name, types_in, type_named, directive_here, directive_name, directives_in}
use Rattle.schema_fold.specs.Components.{go_together}
use Rattle.schema_fold.specs.SchemaFold.{schema_here, schema_extension_here, schema_definition_in, schema_is_defined, schema_base}
use Rattle.rule_definitions.specs.Words.{Present, IfPresent}
use Rattle.book_validity.specs.Words.{Each, IsThere, AreUnique}

module _ (built_in texts : Definitions) where
  abbrev pub all : Definitions
  all = built_in ++ texts

  -- the definition `d` of the texts, which comes after the definitions `before`, can be folded
  pub record IsFoldable (before : Definitions) (d : DefinitionTree Place) : Type 0 where
    -- 3: no operation and no fragment
    pub of_schema : is_executable d ≡ false
    -- 3.3: at most one schema definition; no two types or two directives have one name, and no type has the name of a built-in one
    pub one_schema : IsThere (schema_here d) → schema_definition_in before ≡ None
    -- Laxer: a user's definition takes the place of a built-in directive's, whatever it says
    pub own_directive : IfPresent (directive_here d) (λ own. has_name directive_name (directive_name own) (directives_in before) ≡ false)
    pub own_type : IfPresent (type_here d) (λ t. has_name type_name (type_name t) (types_in (built_in ++ before)) ≡ false)
    -- 3.3.2, 3.4.3: what is extended is defined, and of that kind
    pub extends_schema : IsThere (schema_extension_here d) → schema_is_defined all ≡ true
    -- Laxer: built-in types may be extended too
    pub extends_type : IfPresent (type_extension_here d) (λ e. Present (type_named e.name.it all) (λ t. same_kind t.parts.kind e.kind ≡ true))

  -- the parts of the schema: of its definition, or of what is implied instead, and of its extensions, where they apply
  abbrev pub schema_parts : List (SchemaParts Place)
  schema_parts = (schema_base all).parts ∷ (if schema_is_defined all then flat_map (λ d. option_to_list (schema_extension_here d)) all else [])

  -- the parts of a type: of its definition, and of its extensions, which are those of its name and kind
  abbrev pub parts_of : TypeDefinition Place → List (TypeParts Place)
  parts_of t = t.parts ∷ filter (go_together t.parts) (flat_map (λ d. option_to_list (type_extension_here d)) all)

  -- no two of the things that `given` takes from the parts of the type have one name
  abbrev pub AreApartIn : {A : Type 0} → TypeDefinition Place → (TypeParts Place → List A) → (A → List ℕ) → Type 0
  AreApartIn t given name = AreUnique name (flat_map given (parts_of t))

  -- 3.6 to 3.10: interfaces, fields, members, values and input fields of a type
  abbrev pub HasApart : TypeDefinition Place → TypeKind → Type 0
  HasApart t kind.Scalar = Unit {0}
  HasApart t kind.Object = AreApartIn t (λ p. p.interfaces) (λ i. i.it) × AreApartIn t (λ p. p.fields) (λ f. f.it.name.it)
  HasApart t kind.Interface = AreApartIn t (λ p. p.interfaces) (λ i. i.it) × AreApartIn t (λ p. p.fields) (λ f. f.it.name.it)
  HasApart t kind.Union = AreApartIn t (λ p. p.members) (λ m. m.it)
  HasApart t kind.Enum = AreApartIn t (λ p. p.values) (λ v. v.it.value.it)
  HasApart t kind.InputObject = AreApartIn t (λ p. p.inputs) (λ f. f.it.name.it)

  pub record AreFoldable : Type 0 where
    pub definitions : (before : Definitions) (d : DefinitionTree Place) → StandsAfter texts before d → IsFoldable before d
    -- 3.3.1: an operation has at most one root
    pub roots : AreUnique (λ r. operation_keyword r.it.operation_type) (flat_map (λ p. p.roots) schema_parts)
    pub parts : Each (firsts type_name (types_in all)) (λ t. HasApart t t.parts.kind)
