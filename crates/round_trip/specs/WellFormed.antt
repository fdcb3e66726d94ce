-- Whether a tree is well-formed: its names are Names, its integers IntValues and its floats FloatValues (GraphQL, October 2021,
-- sections 2.1.9, 2.9.1, 2.9.2), as in the trees of all Rust values. And an upper bound of how deep its brackets nest.
use Rattle.std.specs.Prelude.{ℕ, suc, ◌+◌, Bool, true, ◌&&◌, List, [], ◌∷◌, Option, None, Some}
use Rattle.std.specs.List.{list_all}
use Rattle.graphql_names.specs.NameSyntax.{is_name}
use Rattle.round_trip.specs.in_literals.LineLayout.{Prefix}
use Rattle.round_trip.specs.in_literals.StringLayout.{is_tab_or_space}
use Rattle.read_operations.specs.in_literals.NumberSyntax.{is_int_value, is_float_value}
use Rattle.graphql_names.specs.Placed.{Placed, Text}
use Rattle.read_operations.specs.in_literals.TypeTree.{TypeTree, NamedTree, NonNullNamedTree, ListTree as ListTypeTree, NonNullListTree}
use Rattle.read_operations.specs.in_literals.ValueTree.{ValueTree, NullTree, EnumTree, VariableTree, StringTree, FloatTree, IntTree, BooleanTree, ListTree, ObjectTree, ItemTrees, no_items, item_then, EntryTrees, no_entries, entry_then}
use Rattle.read_operations.specs.in_directives.DirectiveTree.{ArgumentTree, Arguments, DirectiveTree, Directives, InputValueTree, InputValues}
use Rattle.read_operations.specs.in_operations.SelectionTree.{FieldHead, SelectionTree, FieldTree, SpreadTree, InlineTree, SelectionTrees, no_selections, selection_then}
use Rattle.read_operations.specs.in_type_members.TypeSystemTree.{FieldDefinitionTree, EnumValueTree, RootOperationTree, SchemaParts, ScalarParts, FieldsParts, UnionParts, EnumParts, InputObjectParts}
use Rattle.read_operations.specs.in_operations.OperationTree.{VariableDefinitionTree, OperationTree, FragmentTree}

-- of something that may be left out
abbrev pub if_any : {A : Type 0} → (A → Bool) → Option A → Bool
if_any test None = true
if_any test (Some x) = test x

-- the sum over a list
abbrev pub depths : {A : Type 0} → (A → ℕ) → List A → ℕ
depths depth [] = 0
depths depth (x ∷ xs) = depth x + depths depth xs

-- a list in one pair of brackets; an empty list has none
abbrev pub bracketed : {A : Type 0} → (A → ℕ) → List A → ℕ
bracketed depth [] = 0
bracketed depth (x ∷ xs) = suc (depths depth (x ∷ xs))

abbrev pub depth_if_any : {A : Type 0} → (A → ℕ) → Option A → ℕ
depth_if_any depth None = 0
depth_if_any depth (Some x) = depth x

module _ {P : Type 0} where
  -- ---- whether a tree is well-formed

  abbrev pub type_well_formed : TypeTree P → Bool
  type_well_formed (NamedTree n) = is_name n.it
  type_well_formed (NonNullNamedTree n) = is_name n.it
  type_well_formed (ListTypeTree t) = type_well_formed t
  type_well_formed (NonNullListTree t) = type_well_formed t

  abbrev mutual
    pub value_well_formed : ValueTree P → Bool
    value_well_formed NullTree = true
    value_well_formed (EnumTree n) = is_name n.it
    value_well_formed (VariableTree n) = is_name n.it
    value_well_formed (StringTree s) = true
    value_well_formed (FloatTree s) = is_float_value s
    value_well_formed (IntTree s) = is_int_value s
    value_well_formed (BooleanTree b) = true
    value_well_formed (ListTree ts) = items_well_formed ts
    value_well_formed (ObjectTree ts) = entries_well_formed ts

    pub items_well_formed : ItemTrees P → Bool
    items_well_formed no_items = true
    items_well_formed (item_then p t ts) = value_well_formed t && items_well_formed ts

    pub entries_well_formed : EntryTrees P → Bool
    entries_well_formed no_entries = true
    entries_well_formed (entry_then n p t ts) = is_name n.it && value_well_formed t && entries_well_formed ts

  abbrev pub default_well_formed : Option (Placed P (ValueTree P)) → Bool
  default_well_formed v = if_any (λ x. value_well_formed x.it) v

  abbrev pub argument_well_formed : Placed P (ArgumentTree P) → Bool
  argument_well_formed a = is_name a.it.name.it && value_well_formed a.it.value.it

  abbrev pub arguments_well_formed : Arguments P → Bool
  arguments_well_formed as' = list_all argument_well_formed as'

  abbrev pub directive_well_formed : Placed P (DirectiveTree P) → Bool
  directive_well_formed d = is_name d.it.name.it && arguments_well_formed d.it.arguments

  abbrev pub directives_well_formed : Directives P → Bool
  directives_well_formed ds = list_all directive_well_formed ds

  abbrev pub name_well_formed : Option (Text P) → Bool
  name_well_formed n = if_any (λ x. is_name x.it) n

  abbrev pub head_well_formed : FieldHead P → Bool
  head_well_formed f = name_well_formed f.alias && is_name f.name.it && arguments_well_formed f.arguments && directives_well_formed f.directives

  abbrev mutual
    pub selection_well_formed : SelectionTree P → Bool
    selection_well_formed (FieldTree p f ts) = head_well_formed f && selections_well_formed ts
    selection_well_formed (SpreadTree p n ds) = is_name n.it && directives_well_formed ds
    selection_well_formed (InlineTree p c ds ts) = name_well_formed c && directives_well_formed ds && selections_well_formed ts

    pub selections_well_formed : SelectionTrees P → Bool
    selections_well_formed no_selections = true
    selections_well_formed (selection_then t ts) = selection_well_formed t && selections_well_formed ts

  abbrev pub variable_well_formed : Placed P (VariableDefinitionTree P) → Bool
  variable_well_formed v = is_name v.it.name.it && type_well_formed v.it.ty.it && default_well_formed v.it.default_value && directives_well_formed v.it.directives

  abbrev pub variables_well_formed : List (Placed P (VariableDefinitionTree P)) → Bool
  variables_well_formed vs = list_all variable_well_formed vs

  abbrev pub operation_well_formed : OperationTree P → Bool
  operation_well_formed o = name_well_formed o.name && variables_well_formed o.variables && directives_well_formed o.directives && selections_well_formed o.selections

  abbrev pub fragment_well_formed : FragmentTree P → Bool
  fragment_well_formed f = is_name f.name.it && is_name f.type_condition.it && directives_well_formed f.directives && selections_well_formed f.selections

  abbrev pub input_value_well_formed : Placed P (InputValueTree P) → Bool
  input_value_well_formed v = is_name v.it.name.it && type_well_formed v.it.ty.it && default_well_formed v.it.default_value && directives_well_formed v.it.directives

  abbrev pub input_values_well_formed : InputValues P → Bool
  input_values_well_formed vs = list_all input_value_well_formed vs

  abbrev pub field_definition_well_formed : Placed P (FieldDefinitionTree P) → Bool
  field_definition_well_formed f = is_name f.it.name.it && input_values_well_formed f.it.arguments && type_well_formed f.it.ty && directives_well_formed f.it.directives

  abbrev pub enum_value_well_formed : Placed P (EnumValueTree P) → Bool
  enum_value_well_formed v = is_name v.it.value.it && directives_well_formed v.it.directives

  abbrev pub root_well_formed : Placed P (RootOperationTree P) → Bool
  root_well_formed r = is_name r.it.name.it

  abbrev pub names_well_formed : List (Text P) → Bool
  names_well_formed ns = list_all (λ n. is_name n.it) ns

  abbrev pub scalar_well_formed : ScalarParts P → Bool
  scalar_well_formed t = is_name t.name.it && directives_well_formed t.directives

  abbrev pub fields_well_formed : FieldsParts P → Bool
  fields_well_formed t = is_name t.name.it && names_well_formed t.interfaces && directives_well_formed t.directives && list_all field_definition_well_formed t.fields

  abbrev pub union_well_formed : UnionParts P → Bool
  union_well_formed t = is_name t.name.it && directives_well_formed t.directives && names_well_formed t.members

  abbrev pub enum_well_formed : EnumParts P → Bool
  enum_well_formed t = is_name t.name.it && directives_well_formed t.directives && list_all enum_value_well_formed t.values

  abbrev pub input_object_well_formed : InputObjectParts P → Bool
  input_object_well_formed t = is_name t.name.it && directives_well_formed t.directives && input_values_well_formed t.fields

  abbrev pub schema_well_formed : SchemaParts P → Bool
  schema_well_formed s = directives_well_formed s.directives && list_all root_well_formed s.roots

  -- ---- an upper bound of how deep brackets nest

  abbrev pub type_depth : TypeTree P → ℕ
  type_depth (NamedTree n) = 0
  type_depth (NonNullNamedTree n) = 0
  type_depth (ListTypeTree t) = suc (type_depth t)
  type_depth (NonNullListTree t) = suc (type_depth t)

  abbrev mutual
    pub value_depth : ValueTree P → ℕ
    value_depth (ListTree ts) = suc (items_depth ts)
    value_depth (ObjectTree ts) = suc (entries_depth ts)
    value_depth _ = 0

    pub items_depth : ItemTrees P → ℕ
    items_depth no_items = 0
    items_depth (item_then p t ts) = value_depth t + items_depth ts

    pub entries_depth : EntryTrees P → ℕ
    entries_depth no_entries = 0
    entries_depth (entry_then n p t ts) = value_depth t + entries_depth ts

  abbrev pub default_depth : Option (Placed P (ValueTree P)) → ℕ
  default_depth v = depth_if_any (λ x. value_depth x.it) v

  abbrev pub argument_depth : Placed P (ArgumentTree P) → ℕ
  argument_depth a = value_depth a.it.value.it

  abbrev pub arguments_depth : Arguments P → ℕ
  arguments_depth as' = bracketed argument_depth as'

  abbrev pub directive_depth : Placed P (DirectiveTree P) → ℕ
  directive_depth d = arguments_depth d.it.arguments

  abbrev pub directives_depth : Directives P → ℕ
  directives_depth ds = depths directive_depth ds

  abbrev pub head_depth : FieldHead P → ℕ
  head_depth f = arguments_depth f.arguments + directives_depth f.directives

  abbrev mutual
    pub selection_depth : SelectionTree P → ℕ
    selection_depth (FieldTree p f ts) = head_depth f + suc (selections_depth ts)
    selection_depth (SpreadTree p n ds) = directives_depth ds
    selection_depth (InlineTree p c ds ts) = directives_depth ds + suc (selections_depth ts)

    pub selections_depth : SelectionTrees P → ℕ
    selections_depth no_selections = 0
    selections_depth (selection_then t ts) = selection_depth t + selections_depth ts

  abbrev pub variable_depth : Placed P (VariableDefinitionTree P) → ℕ
  variable_depth v = type_depth v.it.ty.it + default_depth v.it.default_value + directives_depth v.it.directives

  abbrev pub variables_depth : List (Placed P (VariableDefinitionTree P)) → ℕ
  variables_depth vs = bracketed variable_depth vs

  abbrev pub operation_depth : OperationTree P → ℕ
  operation_depth o = variables_depth o.variables + directives_depth o.directives + suc (selections_depth o.selections)

  abbrev pub fragment_depth : FragmentTree P → ℕ
  fragment_depth f = directives_depth f.directives + suc (selections_depth f.selections)

  abbrev pub input_value_depth : Placed P (InputValueTree P) → ℕ
  input_value_depth v = type_depth v.it.ty.it + default_depth v.it.default_value + directives_depth v.it.directives

  abbrev pub input_values_depth : InputValues P → ℕ
  input_values_depth vs = bracketed input_value_depth vs

  abbrev pub field_definition_depth : Placed P (FieldDefinitionTree P) → ℕ
  field_definition_depth f = input_values_depth f.it.arguments + type_depth f.it.ty + directives_depth f.it.directives

  abbrev pub enum_value_depth : Placed P (EnumValueTree P) → ℕ
  enum_value_depth v = directives_depth v.it.directives

  abbrev pub fields_depth : FieldsParts P → ℕ
  fields_depth t = directives_depth t.directives + bracketed field_definition_depth t.fields

  abbrev pub enum_depth : EnumParts P → ℕ
  enum_depth t = directives_depth t.directives + bracketed enum_value_depth t.values

  abbrev pub input_object_depth : InputObjectParts P → ℕ
  input_object_depth t = directives_depth t.directives + input_values_depth t.fields

  abbrev pub schema_depth : SchemaParts P → ℕ
  schema_depth s = suc (directives_depth s.directives)

-- the prefix, if there is one, is only spaces and tabs
abbrev pub is_white_prefix : Prefix → Bool
is_white_prefix None = true
is_white_prefix (Some prefix) = list_all is_tab_or_space prefix
