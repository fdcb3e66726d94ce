-- Private: leads to `ReferencesBreak` and `EmptyBreaks`. The faults that each rule tells at one place, and those of all rules, in order. The public contract cites only the rules.
use Rattle.std.specs.Prelude.{ℕ, Bool, false, List, [], ◌∷◌, ◌++◌, map, if◌then◌else◌, find, bytes_eq, codes, flat_map, Option, None, Some}
use Rattle.std.specs.Option.{option_map, option_map_or}
use Rattle.graphql_names.specs.NameValue.{NameValue}
use Rattle.graphql_names.specs.Node.{content}
use Rattle.graphql_names.specs.Placed.{Placed, Place, Text, node_tree}
use Rattle.graphql_names.specs.declared.node.Node.{Node}
use Rattle.graphql_names.specs.Places.{is_built_in}
use Rattle.tree_literals.specs.TypeTree.{TypeTree}
use Rattle.tree_literals.specs.TypeQueries.{inner_name}
use Rattle.tree_directives.specs.DirectiveTree.{InputValueTree, InputValues, DirectiveDefinitionTree, input_value_tree, directive_definition_tree}
use Rattle.tree_directives.specs.declared.directive.DirectiveDefinition.{DirectiveDefinition}
use Rattle.tree_directives.specs.declared.input_value.InputValueDefinition.{InputValueDefinition}
use Rattle.tree_directives.specs.declared.operation_type.OperationType.{OperationType}
use Rattle.tree_directives.specs.declared.operation_type.OperationType.TheVariants as operation
use Rattle.tree_type_members.specs.TypeSystemTree.{FieldDefinitionTree, EnumValueTree, field_definition_tree, enum_value_tree}
use Rattle.tree_type_members.specs.declared.field_definition.FieldDefinition.{FieldDefinition}
use Rattle.tree_type_members.specs.declared.enum_value.EnumValueDefinition.{EnumValueDefinition}
use Rattle.schema_components.specs.Lists.{is_among, each_place}
use Rattle.schema_components.specs.Given.{Given, component_name_tree}
use Rattle.schema_components.specs.declared.component.Component.{Component}
use Rattle.schema_components.specs.declared.component_name.ComponentName.{ComponentName}
use Rattle.schema_types.specs.SchemaTree.{SchemaType, SchemaRoots, SchemaTree, kind_words, is_input_kind, is_output_kind, same_kind}
use Rattle.schema_types.specs.Addresses.{type_at}
use Rattle.schema_types.specs.TypeView.{name_text, extended_type}
use Rattle.schema_types.specs.declared.extended_type.ExtendedType.{ExtendedType}
use Rattle.schema_types.specs.declared.extended_type.ExtendedType.TheVariants as rust
use Rattle.schema_types.specs.declared.type_kind.TypeKind.{TypeKind}
use Rattle.schema_types.specs.declared.type_kind.TypeKind.TheVariants as kind
use Rattle.graphql_schema.specs.SchemaOf.{schema_tree}
use Rattle.graphql_schema.specs.declared.schema.Schema.{Schema}
use Rattle.fault_data.specs.in_rule_definitions.Diagnostics.{QueryRootOperationType, UndefinedDefinition, RootOperationObjectType, DuplicateRootOperationType, ReservedName, OutputType, InputType, EmptyFieldSet, EmptyValueSet, EmptyMemberSet, EmptyInputValueSet, UnionMemberObjectType, UniqueInputValue}
use Rattle.fault_data.specs.in_rule_definitions.Faults.{wrong}
use Rattle.fault_data.specs.in_rule_definitions.Names.{is_reserved, scalar_names}
use Rattle.fault_data.specs.in_rule_definitions.Rules.{extension_places}
use Rattle.fault_data.specs.in_rule_definitions.PlacedFaults.{PlacedFault}
use Rattle.rule_types.specs.Trees.{root_tree}

-- y if the list is empty, otherwise nothing
abbrev pub if_none : {X Y : Type 0} → List X → Y → List Y
if_none [] y = y ∷ []
if_none (x ∷ xs) y = []

-- the kind of the type of that name, if it is defined
abbrev pub kind_named : SchemaTree Place → List ℕ → Option TypeKind
kind_named s n = option_map (λ t. t.kind) (type_at s n)

-- ---- each rule, at one place

-- given whether the thing is built in, its name, the place of the name, and what it is in words
abbrev pub reserved_name : Bool → List ℕ → Place → List ℕ → List PlacedFault
reserved_name built_in n place describe = if built_in then [] else (if is_reserved n then wrong place (ReservedName n describe) ∷ [] else [])

-- given a name, and below a reference to a type, each with the kind of the type, if that is defined
abbrev pub undefined_name : Text Place → Option TypeKind → List PlacedFault
undefined_name n None = wrong n.place (UndefinedDefinition n.it) ∷ []
undefined_name n (Some k) = []

abbrev pub undefined_type : TypeTree Place → Option TypeKind → List PlacedFault
undefined_type ty None = if is_among (inner_name ty).it scalar_names then [] else wrong (inner_name ty).place (UndefinedDefinition (inner_name ty).it) ∷ []
undefined_type ty (Some k) = []

abbrev pub query_root_operation_type : SchemaRoots Place → List PlacedFault
query_root_operation_type r = option_map_or (λ q. []) r.query (wrong r.place QueryRootOperationType ∷ [])

abbrev pub root_operation_object_type : Text Place → Option TypeKind → List PlacedFault
root_operation_object_type n o = option_map_or (λ k. if same_kind k kind.Object then [] else wrong n.place (RootOperationObjectType n.it (kind_words k)) ∷ []) o []

abbrev pub output_type : List ℕ → Placed Place (FieldDefinitionTree Place) → Option TypeKind → List PlacedFault
output_type m f o = option_map_or (λ k. if is_output_kind k then [] else wrong f.place (OutputType m (kind_words k) (inner_name f.it.ty).place) ∷ []) o []

abbrev pub input_type : Placed Place (InputValueTree Place) → Option TypeKind → List PlacedFault
input_type v o = option_map_or (λ k. if is_input_kind k then [] else wrong v.place (InputType v.it.name.it (kind_words k) v.it.ty.place) ∷ []) o []

abbrev pub union_member_object_type : Text Place → Option TypeKind → List PlacedFault
union_member_object_type n o = option_map_or (λ k. if same_kind k kind.Object then [] else wrong n.place (UnionMemberObjectType n.it (kind_words k)) ∷ []) o []

-- the faults of the type t of the name n, if `there`, the list of its parts, is empty
module _ {V : Type 0} (n : List ℕ) (t : SchemaType Place) (there : List V) where
  abbrev pub empty_field_set : List PlacedFault
  empty_field_set = if_none there (wrong t.place (EmptyFieldSet n t.place (extension_places t)))

  abbrev pub empty_member_set : List PlacedFault
  empty_member_set = if_none there (wrong t.place (EmptyMemberSet n t.place (extension_places t)))

  abbrev pub empty_value_set : List PlacedFault
  empty_value_set = if_none there (wrong t.place (EmptyValueSet n t.place (extension_places t)))

  abbrev pub empty_input_value_set : List PlacedFault
  empty_input_value_set = if_none there (wrong t.place (EmptyInputValueSet n t.place (extension_places t)))

-- the first of these that has the name
abbrev pub first_named : InputValues Place → List ℕ → Option (Placed Place (InputValueTree Place))
first_named vs n = find (λ w. bytes_eq n w.it.name.it) vs

-- the fault of an argument definition v, given those before it
abbrev pub unique_input_value : InputValues Place → Placed Place (InputValueTree Place) → List PlacedFault
unique_input_value before v = option_map_or (λ w. wrong w.place (UniqueInputValue v.it.name.it w.place v.place) ∷ []) (first_named before v.it.name.it) []

-- the faults of the enum value v of the name m
abbrev pub value_faults : List ℕ → Placed Place (EnumValueTree Place) → List PlacedFault
value_faults m v = reserved_name (is_built_in v.place) m v.it.value.place (codes "an enum value")

abbrev pub values_faults : List ℕ → SchemaType Place → List (NameValue × Component EnumValueDefinition) → List PlacedFault
values_faults n t es = empty_value_set n t es ++ flat_map (λ (e : NameValue × Component EnumValueDefinition). value_faults (name_text e.0) (node_tree enum_value_tree e.1.node)) es

-- the fault of the root p, if it has the type of the earlier root o; both may be missing
abbrev pub same_root : OperationType → Option (Given Place (Text Place)) → OperationType → Option (Given Place (Text Place)) → List PlacedFault
same_root o None p root = []
same_root o (Some f) p None = []
same_root o (Some f) p (Some g) = if bytes_eq g.it.it f.it.it then wrong g.it.place (DuplicateRootOperationType g.it.it o f.it.place p g.it.place) ∷ [] else []

abbrev pub duplicate_root_operation_type : OperationType → Option ComponentName → OperationType → Option ComponentName → List PlacedFault
duplicate_root_operation_type o root p again = same_root o (root_tree root) p (root_tree again)

-- whether both roots are defined and have the same type
abbrev pub is_same_root : Option (Given Place (Text Place)) → Option (Given Place (Text Place)) → Bool
is_same_root None root = false
is_same_root (Some f) None = false
is_same_root (Some f) (Some g) = bytes_eq g.it.it f.it.it

-- the first list, or the second if the first is empty
abbrev pub or_else : {Y : Type 0} → List Y → List Y → List Y
or_else [] ys = ys
or_else (x ∷ xs) ys = x ∷ xs

-- the fault of the subscription root, if it has the type of the query root, or else if it has that of the mutation root
abbrev pub subscription_again : SchemaRoots Place → List PlacedFault
subscription_again r = or_else (same_root operation.Query r.query operation.Subscription r.subscription) (same_root operation.Mutation r.mutation operation.Subscription r.subscription)

-- the faults of the roots whose type an earlier root has
abbrev pub repeated_roots : SchemaRoots Place → List PlacedFault
repeated_roots r = same_root operation.Query r.query operation.Mutation r.mutation ++ subscription_again r

-- ---- all rules, at each kind of place

module _ (s : SchemaTree Place) where
  abbrev pub input_value_faults : List ℕ → List ℕ → Placed Place (InputValueTree Place) → List PlacedFault
  input_value_faults n describe v =
      reserved_name (is_built_in v.place) n v.it.name.place describe
      ++ (undefined_type v.it.ty.it (kind_named s (inner_name v.it.ty.it).it) ++ input_type v (kind_named s (inner_name v.it.ty.it).it))

  abbrev pub argument_faults : Placed Place (InputValueTree Place) → List PlacedFault
  argument_faults v = input_value_faults v.it.name.it (codes "an argument") v

  abbrev pub arguments_faults : InputValues Place → List PlacedFault
  arguments_faults vs = flat_map argument_faults vs ++ each_place unique_input_value vs

  -- the faults of the name and the type of a field
  abbrev pub field_type_faults : List ℕ → Placed Place (FieldDefinitionTree Place) → List PlacedFault
  field_type_faults m f =
      reserved_name (is_built_in f.place) m f.it.name.place (codes "a field")
      ++ (undefined_type f.it.ty (kind_named s (inner_name f.it.ty).it) ++ output_type m f (kind_named s (inner_name f.it.ty).it))

  abbrev pub field_faults : List ℕ → Placed Place (FieldDefinitionTree Place) → List PlacedFault
  field_faults m f =
      reserved_name (is_built_in f.place) m f.it.name.place (codes "a field")
      ++ (undefined_type f.it.ty (kind_named s (inner_name f.it.ty).it)
      ++ (output_type m f (kind_named s (inner_name f.it.ty).it) ++ arguments_faults f.it.arguments))

  abbrev pub member_faults : Text Place → List PlacedFault
  member_faults n = undefined_name n (kind_named s n.it) ++ union_member_object_type n (kind_named s n.it)

  abbrev pub input_faults : List ℕ → Placed Place (InputValueTree Place) → List PlacedFault
  input_faults m v = input_value_faults m (codes "an input object field") v

  abbrev pub fields_faults : List ℕ → SchemaType Place → List (NameValue × Component FieldDefinition) → List PlacedFault
  fields_faults n t es = empty_field_set n t es ++ flat_map (λ (e : NameValue × Component FieldDefinition). field_faults (name_text e.0) (node_tree field_definition_tree e.1.node)) es

  abbrev pub members_faults : List ℕ → SchemaType Place → List (Given Place (Text Place)) → List PlacedFault
  members_faults n t gs = empty_member_set n t gs ++ flat_map (λ g. member_faults g.it) gs

  abbrev pub union_faults : List ℕ → SchemaType Place → List ComponentName → List PlacedFault
  union_faults n t members = members_faults n t (map component_name_tree members)

  abbrev pub each_input_faults : List (NameValue × Component InputValueDefinition) → List PlacedFault
  each_input_faults es = flat_map (λ (e : NameValue × Component InputValueDefinition). input_faults (name_text e.0) (node_tree input_value_tree e.1.node)) es

  abbrev pub inputs_faults : List ℕ → SchemaType Place → List (NameValue × Component InputValueDefinition) → List PlacedFault
  inputs_faults n t es = empty_input_value_set n t es ++ each_input_faults es

  -- the faults of the parts of a type
  abbrev pub parts_faults : List ℕ → ExtendedType → List PlacedFault
  parts_faults n (rust.Scalar t) = []
  parts_faults n (rust.Object t) = fields_faults n (extended_type (rust.Object t)) (content t).fields.entries
  parts_faults n (rust.Interface t) = fields_faults n (extended_type (rust.Interface t)) (content t).fields.entries
  parts_faults n (rust.Union t) = union_faults n (extended_type (rust.Union t)) (content t).members.keys
  parts_faults n (rust.Enum t) = values_faults n (extended_type (rust.Enum t)) (content t).values.entries
  parts_faults n (rust.InputObject t) = inputs_faults n (extended_type (rust.InputObject t)) (content t).fields.entries

  abbrev pub type_faults : List ℕ → ExtendedType → List PlacedFault
  type_faults n x = reserved_name (is_built_in (extended_type x).place) n (extended_type x).name.place (kind_words (extended_type x).kind) ++ parts_faults n x

  abbrev pub directive_faults : List ℕ → Placed Place (DirectiveDefinitionTree Place) → List PlacedFault
  directive_faults n d = reserved_name (is_built_in d.place) n d.it.name.place (codes "a directive definition") ++ arguments_faults d.it.arguments

  -- the faults of one root
  abbrev pub root_faults : Option (Given Place (Text Place)) → List PlacedFault
  root_faults root = option_map_or (λ g. undefined_name g.it (kind_named s g.it.it) ++ root_operation_object_type g.it (kind_named s g.it.it)) root []

  abbrev pub roots_faults : List PlacedFault
  roots_faults =
      query_root_operation_type s.definition
      ++ (root_faults s.definition.query ++ (root_faults s.definition.mutation ++ (root_faults s.definition.subscription ++ repeated_roots s.definition)))

  abbrev pub types_faults : List (NameValue × ExtendedType) → List PlacedFault
  types_faults es = flat_map (λ (e : NameValue × ExtendedType). type_faults (name_text e.0) e.1) es

  abbrev pub directives_faults : List (NameValue × Node DirectiveDefinition) → List PlacedFault
  directives_faults es = flat_map (λ (e : NameValue × Node DirectiveDefinition). directive_faults (name_text e.0) (node_tree directive_definition_tree e.1)) es

-- the faults of a schema with these types and directive definitions
abbrev pub all_faults : SchemaTree Place → List (NameValue × ExtendedType) → List (NameValue × Node DirectiveDefinition) → List PlacedFault
all_faults s types directives = roots_faults s ++ (types_faults s types ++ directives_faults s directives)

abbrev pub faults_in : Schema → List PlacedFault
faults_in s = all_faults (schema_tree s) s.types.entries s.directive_definitions.entries
