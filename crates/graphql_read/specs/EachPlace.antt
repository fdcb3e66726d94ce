-- Every place in a tree: that of each node, name and description, at any depth. Below, `all_in_..` says that each of these
-- places passes a test.
use Rattle.std.specs.Prelude.{Bool, true, ◌&&◌, List, Option}
use Rattle.std.specs.List.{list_all}
use Rattle.std.specs.Option.{option_map_or}
use Rattle.graphql_names.specs.Placed.{Placed, Text}
use Rattle.tree_literals.specs.TypeTree.{TypeTree, NamedTree, NonNullNamedTree, ListTree as ListTypeTree, NonNullListTree}
use Rattle.tree_literals.specs.ValueTree.{ValueTree, EnumTree, VariableTree, ListTree, ObjectTree, ItemTrees, no_items, item_then, EntryTrees, no_entries, entry_then}
use Rattle.tree_operations.specs.in_directives.DirectiveTree.{ArgumentTree, Arguments, DirectiveTree, Directives, InputValueTree, InputValues, DirectiveDefinitionTree}
use Rattle.tree_operations.specs.SelectionTree.{FieldHead, SelectionTree, FieldTree, SpreadTree, InlineTree, SelectionTrees, no_selections, selection_then}
use Rattle.tree_operations.specs.OperationTree.{VariableDefinitionTree, OperationTree, FragmentTree}
use Rattle.read_types.specs.in_type_members.TypeSystemTree.{FieldDefinitionTree, EnumValueTree, RootOperationTree, SchemaParts, ScalarParts, FieldsParts, UnionParts, EnumParts, InputObjectParts}
use Rattle.read_types.specs.in_definitions.DefinitionTree.{DefinitionTree, Operation, Fragment, DirectiveDefinition, Schema, ScalarType, ObjectType, InterfaceType, UnionType, EnumType, InputObjectType, ExtendSchema, ExtendScalar, ExtendObject, ExtendInterface, ExtendUnion, ExtendEnum, ExtendInputObject}

module _ {P : Type 0} (passes : P → Bool) where
  -- a name, or a description
  abbrev pub all_in_text : Text P → Bool
  all_in_text t = passes t.place

  abbrev pub all_in_texts : List (Text P) → Bool
  all_in_texts ts = list_all all_in_text ts

  -- of something that may be left out
  abbrev pub all_in_any : {A : Type 0} → (A → Bool) → Option A → Bool
  all_in_any inside o = option_map_or inside o true

  -- a node: its own place, and those inside
  abbrev pub all_in_node : {A : Type 0} → (A → Bool) → Placed P A → Bool
  all_in_node inside n = passes n.place && inside n.it

  abbrev pub all_in_nodes : {A : Type 0} → (A → Bool) → List (Placed P A) → Bool
  all_in_nodes inside ns = list_all (all_in_node inside) ns

  -- ---- types and values (section 2.9 and 2.11)

  abbrev pub all_in_type : TypeTree P → Bool
  all_in_type (NamedTree n) = all_in_text n
  all_in_type (NonNullNamedTree n) = all_in_text n
  all_in_type (ListTypeTree t) = all_in_type t
  all_in_type (NonNullListTree t) = all_in_type t

  abbrev mutual
    pub all_in_value : ValueTree P → Bool
    all_in_value (EnumTree n) = all_in_text n
    all_in_value (VariableTree n) = all_in_text n
    all_in_value (ListTree ts) = all_in_items ts
    all_in_value (ObjectTree ts) = all_in_entries ts
    all_in_value _ = true

    pub all_in_items : ItemTrees P → Bool
    all_in_items no_items = true
    all_in_items (item_then p t ts) = passes p && all_in_value t && all_in_items ts

    pub all_in_entries : EntryTrees P → Bool
    all_in_entries no_entries = true
    all_in_entries (entry_then n p t ts) = all_in_text n && passes p && all_in_value t && all_in_entries ts

  abbrev pub all_in_default : Option (Placed P (ValueTree P)) → Bool
  all_in_default v = all_in_any (all_in_node all_in_value) v

  -- ---- directives and definitions of input values (sections 2.6, 2.12, 3.6.1, 3.10, 3.13)

  abbrev pub all_in_argument : ArgumentTree P → Bool
  all_in_argument a = all_in_text a.name && all_in_node all_in_value a.value

  abbrev pub all_in_arguments : Arguments P → Bool
  all_in_arguments as' = all_in_nodes all_in_argument as'

  abbrev pub all_in_directive : DirectiveTree P → Bool
  all_in_directive d = all_in_text d.name && all_in_arguments d.arguments

  abbrev pub all_in_directives : Directives P → Bool
  all_in_directives ds = all_in_nodes all_in_directive ds

  abbrev pub all_in_input_value : InputValueTree P → Bool
  all_in_input_value v =
      all_in_any all_in_text v.description && all_in_text v.name && all_in_node all_in_type v.ty && all_in_default v.default_value && all_in_directives v.directives

  abbrev pub all_in_input_values : InputValues P → Bool
  all_in_input_values vs = all_in_nodes all_in_input_value vs

  abbrev pub all_in_directive_definition : DirectiveDefinitionTree P → Bool
  all_in_directive_definition d = all_in_any all_in_text d.description && all_in_text d.name && (all_in_input_values d.arguments && all_in_directives d.directives)

  -- ---- selections, operations and fragments (sections 2.3 to 2.8, 2.10)

  abbrev pub all_in_head : FieldHead P → Bool
  all_in_head f = all_in_any all_in_text f.alias && all_in_text f.name && all_in_arguments f.arguments && all_in_directives f.directives

  abbrev mutual
    pub all_in_selection : SelectionTree P → Bool
    all_in_selection (FieldTree p f ts) = passes p && all_in_head f && all_in_selections ts
    all_in_selection (SpreadTree p n ds) = passes p && all_in_text n && all_in_directives ds
    all_in_selection (InlineTree p c ds ts) = passes p && all_in_any all_in_text c && all_in_directives ds && all_in_selections ts

    pub all_in_selections : SelectionTrees P → Bool
    all_in_selections no_selections = true
    all_in_selections (selection_then t ts) = all_in_selection t && all_in_selections ts

  abbrev pub all_in_variable : VariableDefinitionTree P → Bool
  all_in_variable v = all_in_text v.name && all_in_node all_in_type v.ty && all_in_default v.default_value && all_in_directives v.directives

  abbrev pub all_in_operation : OperationTree P → Bool
  all_in_operation o = all_in_any all_in_text o.name && all_in_nodes all_in_variable o.variables && all_in_directives o.directives && all_in_selections o.selections

  abbrev pub all_in_fragment : FragmentTree P → Bool
  all_in_fragment f = all_in_text f.name && all_in_text f.type_condition && all_in_directives f.directives && all_in_selections f.selections

  -- ---- definitions (section 3)

  abbrev pub all_in_field_definition : FieldDefinitionTree P → Bool
  all_in_field_definition f =
      all_in_any all_in_text f.description && all_in_text f.name && all_in_input_values f.arguments && all_in_type f.ty && all_in_directives f.directives

  abbrev pub all_in_enum_value : EnumValueTree P → Bool
  all_in_enum_value v = all_in_any all_in_text v.description && all_in_text v.value && all_in_directives v.directives

  abbrev pub all_in_root : RootOperationTree P → Bool
  all_in_root r = all_in_text r.name

  abbrev pub all_in_schema : SchemaParts P → Bool
  all_in_schema s = all_in_directives s.directives && all_in_nodes all_in_root s.roots

  abbrev pub all_in_scalar : ScalarParts P → Bool
  all_in_scalar t = all_in_text t.name && all_in_directives t.directives

  abbrev pub all_in_fields : FieldsParts P → Bool
  all_in_fields t = all_in_text t.name && all_in_texts t.interfaces && all_in_directives t.directives && all_in_nodes all_in_field_definition t.fields

  abbrev pub all_in_union : UnionParts P → Bool
  all_in_union t = all_in_text t.name && all_in_directives t.directives && all_in_texts t.members

  abbrev pub all_in_enum : EnumParts P → Bool
  all_in_enum t = all_in_text t.name && all_in_directives t.directives && all_in_nodes all_in_enum_value t.values

  abbrev pub all_in_input_object : InputObjectParts P → Bool
  all_in_input_object t = all_in_text t.name && all_in_directives t.directives && all_in_input_values t.fields

  -- of a definition that may have a description
  abbrev pub all_in_described : {A : Type 0} → P → Option (Text P) → (A → Bool) → A → Bool
  all_in_described p d inside x = passes p && all_in_any all_in_text d && inside x

  abbrev pub all_in_definition : DefinitionTree P → Bool
  all_in_definition (Operation p o) = passes p && all_in_operation o
  all_in_definition (Fragment p f) = passes p && all_in_fragment f
  all_in_definition (DirectiveDefinition p d) = passes p && all_in_directive_definition d
  all_in_definition (Schema p d s) = all_in_described p d all_in_schema s
  all_in_definition (ScalarType p d t) = all_in_described p d all_in_scalar t
  all_in_definition (ObjectType p d t) = all_in_described p d all_in_fields t
  all_in_definition (InterfaceType p d t) = all_in_described p d all_in_fields t
  all_in_definition (UnionType p d t) = all_in_described p d all_in_union t
  all_in_definition (EnumType p d t) = all_in_described p d all_in_enum t
  all_in_definition (InputObjectType p d t) = all_in_described p d all_in_input_object t
  all_in_definition (ExtendSchema p s) = passes p && all_in_schema s
  all_in_definition (ExtendScalar p t) = passes p && all_in_scalar t
  all_in_definition (ExtendObject p t) = passes p && all_in_fields t
  all_in_definition (ExtendInterface p t) = passes p && all_in_fields t
  all_in_definition (ExtendUnion p t) = passes p && all_in_union t
  all_in_definition (ExtendEnum p t) = passes p && all_in_enum t
  all_in_definition (ExtendInputObject p t) = passes p && all_in_input_object t

  abbrev pub all_in_document : List (DefinitionTree P) → Bool
  all_in_document ds = list_all all_in_definition ds
