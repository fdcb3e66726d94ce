-- Private: leads to `InterfacesBreak`. The faults that each rule on interfaces tells at one place, and those of all rules, in order. The public contract cites only the rules.
use Rattle.std.specs.Prelude.{ℕ, Bool, false, List, [], ◌∷◌, ◌++◌, map, if◌then◌else◌, bytes_eq, flat_map, Option}
use Rattle.std.specs.Option.{option_map, option_map_or}
use Rattle.graphql_names.specs.NameValue.{NameValue}
use Rattle.graphql_names.specs.Placed.{Placed, Place, Text, node_tree}
use Rattle.tree_literals.specs.TypeTree.{TypeTree, NamedTree, NonNullNamedTree, ListTree, NonNullListTree, unplaced_type}
use Rattle.tree_directives.specs.DirectiveTree.{InputValueTree, InputValues}
use Rattle.tree_directives.specs.DirectiveQueries.{is_required_input}
use Rattle.tree_type_members.specs.TypeSystemTree.{FieldDefinitionTree, field_definition_tree}
use Rattle.tree_type_members.specs.declared.field_definition.FieldDefinition.{FieldDefinition}
use Rattle.schema_components.specs.Lists.{is_among}
use Rattle.schema_components.specs.Names.{Entries}
use Rattle.schema_components.specs.Given.{Given, component_name_tree, given_name}
use Rattle.schema_components.specs.declared.component.Component.{Component}
use Rattle.schema_components.specs.declared.component_name.ComponentName.{ComponentName}
use Rattle.schema_types.specs.TypeView.{name_text, extended_type}
use Rattle.schema_types.specs.declared.extended_type.ExtendedType.{ExtendedType}
use Rattle.schema_types.specs.SchemaTree.{SchemaType, SchemaTree, same_kind}
use Rattle.schema_types.specs.Addresses.{under}
use Rattle.schema_types.specs.declared.type_kind.TypeKind.TheVariants as kind
use Rattle.graphql_schema.specs.LookUps.{type_of_kind}
use Rattle.fault_data.specs.in_rule_definitions.Diagnostics.{UndefinedDefinition, RecursiveInterfaceDefinition, TransitiveImplementedInterfaces, MissingInterfaceField, InvalidImplementationFieldType, MissingInterfaceFieldArgument, InvalidImplementationFieldArgumentType, ExtraRequiredImplementationFieldArgument}
use Rattle.fault_data.specs.in_rule_definitions.Faults.{wrong}
use Rattle.fault_data.specs.in_rule_definitions.Judged.{judged}
use Rattle.fault_data.specs.in_rule_definitions.Subtypes.{is_valid_type}
use Rattle.fault_data.specs.in_rule_definitions.PlacedFaults.{PlacedFault}
use Rattle.rule_types.specs.FaultLists.{first_named}

abbrev pub Field : Type 0
Field = Placed Place (FieldDefinitionTree Place)

abbrev pub Input : Type 0
Input = Placed Place (InputValueTree Place)

-- the field of that name of a type
abbrev pub own_field : SchemaType Place → List ℕ → Option Field
own_field t m = option_map (λ g. g.it) (under m t.fields)

abbrev pub plain : TypeTree Place → TypeTree (Unit {0})
plain ty = unplaced_type ty

-- ---- each rule, at one place: a type n, and an interface i that it lists

module _ (n : List ℕ) (t : SchemaType Place) (i : Text Place) where
  abbrev pub recursive_interface_definition : List PlacedFault
  recursive_interface_definition =
      if same_kind t.kind kind.Interface then (if bytes_eq i.it n then wrong i.place (RecursiveInterfaceDefinition n) ∷ [] else []) else []

  -- given a name that the interface lists
  abbrev pub transitive_implemented_interfaces : Text Place → List PlacedFault
  transitive_implemented_interfaces missing =
      if is_among missing.it (map given_name t.interfaces) then [] else wrong t.place (TransitiveImplementedInterfaces n i.it missing.place missing.it) ∷ []

  -- given a field m of the interface
  abbrev pub missing_interface_field : List ℕ → Field → List PlacedFault
  missing_interface_field m wanted = wrong t.place (MissingInterfaceField n i.place i.it m wanted.place) ∷ []

abbrev pub undefined_interface : Text Place → List PlacedFault
undefined_interface i = wrong i.place (UndefinedDefinition i.it) ∷ []

-- given the field m of the interface and that of the type
module _ (n i m : List ℕ) (wanted field : Field) where
  abbrev pub invalid_implementation_field_type : SchemaTree Place → List PlacedFault
  invalid_implementation_field_type s =
      if is_valid_type (judged s) (plain wanted.it.ty) (plain field.it.ty) then [] else
      wrong field.place (InvalidImplementationFieldType n i m (plain wanted.it.ty) (plain field.it.ty) field.place wanted.place) ∷ []

  -- given an argument w of the interface's field
  abbrev pub missing_interface_field_argument : Input → List PlacedFault
  missing_interface_field_argument w = wrong field.place (MissingInterfaceFieldArgument n i m w.it.name.it field.place w.place) ∷ []

  -- given an argument v of the type's field that the interface's field lacks
  abbrev pub extra_required_argument : Input → List PlacedFault
  extra_required_argument v = if is_required_input v.it then wrong v.place (ExtraRequiredImplementationFieldArgument n i m v.it.name.it v.place wanted.place) ∷ [] else []

-- whether two references to types are the same
abbrev pub same_type : TypeTree (Unit {0}) → TypeTree (Unit {0}) → Bool
same_type (NamedTree a) (NamedTree b) = bytes_eq a.it b.it
same_type (NonNullNamedTree a) (NonNullNamedTree b) = bytes_eq a.it b.it
same_type (ListTree a) (ListTree b) = same_type a b
same_type (NonNullListTree a) (NonNullListTree b) = same_type a b
same_type _ _ = false

-- given an argument w of the interface's field and the argument v of the type's field with its name
abbrev pub invalid_implementation_field_argument_type : List ℕ → List ℕ → List ℕ → Input → Input → List PlacedFault
invalid_implementation_field_argument_type n i m w v =
    if same_type (plain w.it.ty.it) (plain v.it.ty.it) then [] else
    wrong v.place (InvalidImplementationFieldArgumentType n i m w.it.name.it (plain w.it.ty.it) (plain v.it.ty.it) v.place w.place) ∷ []

-- ---- all rules, at each kind of place

module _ (n i m : List ℕ) (wanted field : Field) where
  -- the fault of an argument w of the interface's field, where vs are the arguments of the type's field
  abbrev pub wanted_fault : InputValues Place → Input → List PlacedFault
  wanted_fault vs w =
      option_map_or (λ v. invalid_implementation_field_argument_type n i m w v) (first_named vs w.it.name.it) (missing_interface_field_argument n i m wanted field w)

  -- the fault of an argument v of the type's field, where ws are the arguments of the interface's field
  abbrev pub own_fault : InputValues Place → Input → List PlacedFault
  own_fault ws v = option_map_or (λ w. []) (first_named ws v.it.name.it) (extra_required_argument n i m wanted field v)

  -- the faults of all arguments of the interface's field, where vs are the arguments of the type's field
  abbrev pub wanted_faults_over : InputValues Place → List PlacedFault
  wanted_faults_over vs = flat_map (wanted_fault vs) wanted.it.arguments

  -- the faults of the arguments vs of the type's field, where ws are the arguments of the interface's field
  abbrev pub own_faults_among : InputValues Place → InputValues Place → List PlacedFault
  own_faults_among ws vs = flat_map (own_fault ws) vs

  abbrev pub own_faults_over : InputValues Place → List PlacedFault
  own_faults_over ws = own_faults_among ws field.it.arguments

  abbrev pub wanted_faults : List PlacedFault
  wanted_faults = wanted_faults_over field.it.arguments

  abbrev pub own_faults : List PlacedFault
  own_faults = own_faults_over wanted.it.arguments

  abbrev pub arguments_faults : List PlacedFault
  arguments_faults = wanted_faults ++ own_faults

-- the faults of the names that the interface i lists
abbrev pub each_transitive_faults : List ℕ → SchemaType Place → Text Place → List ComponentName → List PlacedFault
each_transitive_faults n t i listed = flat_map (λ g. transitive_implemented_interfaces n t i g.it) (map component_name_tree listed)

module _ (s : SchemaTree Place) where
  abbrev pub implementation_faults : List ℕ → List ℕ → List ℕ → Field → Field → List PlacedFault
  implementation_faults n i m wanted field = invalid_implementation_field_type n i m wanted field s ++ arguments_faults n i m wanted field

  abbrev pub field_faults : List ℕ → SchemaType Place → Text Place → List ℕ → Field → List PlacedFault
  field_faults n t i m wanted = option_map_or (λ field. implementation_faults n i.it m wanted field) (own_field t m) (missing_interface_field n t i m wanted)

  abbrev pub fields_faults : List ℕ → SchemaType Place → Text Place → Entries (Given Place Field) → List PlacedFault
  fields_faults n t i es = flat_map (λ e. field_faults n t i e.0 e.1.it) es

  abbrev pub over_faults : List ℕ → SchemaType Place → Text Place → SchemaType Place → List PlacedFault
  over_faults n t i over = flat_map (λ g. transitive_implemented_interfaces n t i g.it) over.interfaces ++ fields_faults n t i over.fields

  -- given a name i that the type lists
  abbrev pub listed_faults : List ℕ → SchemaType Place → Text Place → List PlacedFault
  listed_faults n t i = option_map_or (λ over. over_faults n t i over) (type_of_kind s kind.Interface i.it) (undefined_interface i)

  abbrev pub named_faults : List ℕ → SchemaType Place → Text Place → List PlacedFault
  named_faults n t i = recursive_interface_definition n t i ++ listed_faults n t i

  abbrev pub interface_faults : List ℕ → SchemaType Place → Given Place (Text Place) → List PlacedFault
  interface_faults n t g = named_faults n t g.it

  abbrev pub type_faults : List ℕ → SchemaType Place → List PlacedFault
  type_faults n t = flat_map (interface_faults n t) t.interfaces

  -- the faults of the entries of a map: of fields of the interface; below, of all types
  abbrev pub each_field_faults : List ℕ → SchemaType Place → Text Place → List (NameValue × Component FieldDefinition) → List PlacedFault
  each_field_faults n t i es = flat_map (λ (e : NameValue × Component FieldDefinition). field_faults n t i (name_text e.0) (node_tree field_definition_tree e.1.node)) es

  abbrev pub types_faults : List (NameValue × ExtendedType) → List PlacedFault
  types_faults es = flat_map (λ (e : NameValue × ExtendedType). type_faults (name_text e.0) (extended_type e.1)) es
