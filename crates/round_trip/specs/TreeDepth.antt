-- How deep brackets nest in the text of a tree: the greatest depth of its parts, and one more for a bracket around them. Places
-- do not matter.
use Rattle.std.specs.Prelude.{ℕ, suc, max, List, [], ◌∷◌, Option, None, Some}
use Rattle.graphql_names.specs.Placed.{Placed}
use Rattle.read_operations.specs.in_literals.TypeTree.{TypeTree, NamedTree, NonNullNamedTree, ListTree as ListTypeTree, NonNullListTree}
use Rattle.read_operations.specs.in_literals.ValueTree.{ValueTree, ListTree, ObjectTree, ItemTrees, no_items, item_then, EntryTrees, no_entries, entry_then}
use Rattle.read_operations.specs.in_directives.DirectiveTree.{ArgumentTree, Arguments, DirectiveTree, Directives, InputValueTree, InputValues, DirectiveDefinitionTree}
use Rattle.read_operations.specs.in_operations.SelectionTree.{SelectionTree, FieldTree, SpreadTree, InlineTree, SelectionTrees, no_selections, selection_then}
use Rattle.read_operations.specs.in_operations.OperationTree.{VariableDefinitionTree, OperationTree, FragmentTree}
use Rattle.read_operations.specs.in_type_members.TypeSystemTree.{FieldDefinitionTree, EnumValueTree, SchemaParts, FieldsParts, EnumParts, InputObjectParts}
use Rattle.read_operations.specs.in_definitions.DefinitionTree.{DefinitionTree, Operation, Fragment, DirectiveDefinition, Schema, ScalarType, ObjectType, InterfaceType, UnionType, EnumType, InputObjectType, ExtendSchema, ExtendScalar, ExtendObject, ExtendInterface, ExtendUnion, ExtendEnum, ExtendInputObject}

-- the greatest depth in a list; 0 if it is empty
abbrev pub deepest : {A : Type 0} → (A → ℕ) → List A → ℕ
deepest depth [] = 0
deepest depth (x ∷ xs) = max (depth x) (deepest depth xs)

-- a list in one pair of brackets; an empty list has none
abbrev pub bracketed : {A : Type 0} → (A → ℕ) → List A → ℕ
bracketed depth [] = 0
bracketed depth (x ∷ xs) = suc (deepest depth (x ∷ xs))

-- of something that may be left out
abbrev pub deep_if_any : {A : Type 0} → (A → ℕ) → Option A → ℕ
deep_if_any depth None = 0
deep_if_any depth (Some x) = depth x

module _ {P : Type 0} where
  abbrev pub type_depth : TypeTree P → ℕ
  type_depth (NamedTree n) = 0
  type_depth (NonNullNamedTree n) = 0
  type_depth (ListTypeTree t) = suc (type_depth t)
  type_depth (NonNullListTree t) = suc (type_depth t)

  abbrev mutual
    pub value_depth : ValueTree P → ℕ
    value_depth (ListTree ts) = suc (items_depth ts)
    value_depth (ObjectTree ts) = suc (entries_depth ts)
    value_depth _ = 0

    pub items_depth : ItemTrees P → ℕ
    items_depth no_items = 0
    items_depth (item_then p t ts) = max (value_depth t) (items_depth ts)

    pub entries_depth : EntryTrees P → ℕ
    entries_depth no_entries = 0
    entries_depth (entry_then n p t ts) = max (value_depth t) (entries_depth ts)

  abbrev pub default_depth : Option (Placed P (ValueTree P)) → ℕ
  default_depth v = deep_if_any (λ x. value_depth x.it) v

  abbrev pub argument_depth : ArgumentTree P → ℕ
  argument_depth a = value_depth a.value.it

  abbrev pub arguments_depth : Arguments P → ℕ
  arguments_depth as' = bracketed (λ a. argument_depth a.it) as'

  abbrev pub directive_depth : DirectiveTree P → ℕ
  directive_depth d = arguments_depth d.arguments

  abbrev pub directives_depth : Directives P → ℕ
  directives_depth ds = deepest (λ d. directive_depth d.it) ds

  -- an empty selection set has no brackets
  abbrev mutual
    pub selection_depth : SelectionTree P → ℕ
    selection_depth (FieldTree p f ts) = max (arguments_depth f.arguments) (max (directives_depth f.directives) (set_depth ts))
    selection_depth (SpreadTree p n ds) = directives_depth ds
    selection_depth (InlineTree p c ds ts) = max (directives_depth ds) (set_depth ts)

    pub selections_depth : SelectionTrees P → ℕ
    selections_depth no_selections = 0
    selections_depth (selection_then t ts) = max (selection_depth t) (selections_depth ts)

    pub set_depth : SelectionTrees P → ℕ
    set_depth no_selections = 0
    set_depth (selection_then t ts) = suc (max (selection_depth t) (selections_depth ts))

  abbrev pub variable_depth : VariableDefinitionTree P → ℕ
  variable_depth v = max (type_depth v.ty.it) (max (default_depth v.default_value) (directives_depth v.directives))

  abbrev pub variables_depth : List (Placed P (VariableDefinitionTree P)) → ℕ
  variables_depth vs = bracketed (λ v. variable_depth v.it) vs

  abbrev pub operation_depth : OperationTree P → ℕ
  operation_depth o = max (variables_depth o.variables) (max (directives_depth o.directives) (set_depth o.selections))

  abbrev pub fragment_depth : FragmentTree P → ℕ
  fragment_depth f = max (directives_depth f.directives) (set_depth f.selections)

  abbrev pub input_value_depth : InputValueTree P → ℕ
  input_value_depth v = max (type_depth v.ty.it) (max (default_depth v.default_value) (directives_depth v.directives))

  abbrev pub input_values_depth : InputValues P → ℕ
  input_values_depth vs = bracketed (λ v. input_value_depth v.it) vs

  abbrev pub field_definition_depth : FieldDefinitionTree P → ℕ
  field_definition_depth f = max (input_values_depth f.arguments) (max (type_depth f.ty) (directives_depth f.directives))

  abbrev pub enum_value_depth : EnumValueTree P → ℕ
  enum_value_depth v = directives_depth v.directives

  abbrev pub fields_depth : FieldsParts P → ℕ
  fields_depth t = max (directives_depth t.directives) (bracketed (λ f. field_definition_depth f.it) t.fields)

  abbrev pub enum_depth : EnumParts P → ℕ
  enum_depth t = max (directives_depth t.directives) (bracketed (λ v. enum_value_depth v.it) t.values)

  abbrev pub input_object_depth : InputObjectParts P → ℕ
  input_object_depth t = max (directives_depth t.directives) (input_values_depth t.fields)

  abbrev pub schema_depth : SchemaParts P → ℕ
  schema_depth s = max (directives_depth s.directives) (bracketed (λ r. 0) s.roots)

  abbrev pub directive_definition_depth : DirectiveDefinitionTree P → ℕ
  directive_definition_depth d = max (input_values_depth d.arguments) (directives_depth d.directives)

  abbrev pub definition_depth : DefinitionTree P → ℕ
  definition_depth (Operation p o) = operation_depth o
  definition_depth (Fragment p f) = fragment_depth f
  definition_depth (DirectiveDefinition p d) = directive_definition_depth d
  definition_depth (Schema p d s) = schema_depth s
  definition_depth (ScalarType p d t) = directives_depth t.directives
  definition_depth (ObjectType p d t) = fields_depth t
  definition_depth (InterfaceType p d t) = fields_depth t
  definition_depth (UnionType p d t) = directives_depth t.directives
  definition_depth (EnumType p d t) = enum_depth t
  definition_depth (InputObjectType p d t) = input_object_depth t
  definition_depth (ExtendSchema p s) = schema_depth s
  definition_depth (ExtendScalar p t) = directives_depth t.directives
  definition_depth (ExtendObject p t) = fields_depth t
  definition_depth (ExtendInterface p t) = fields_depth t
  definition_depth (ExtendUnion p t) = directives_depth t.directives
  definition_depth (ExtendEnum p t) = enum_depth t
  definition_depth (ExtendInputObject p t) = input_object_depth t

  abbrev pub document_depth : List (DefinitionTree P) → ℕ
  document_depth ds = deepest definition_depth ds
