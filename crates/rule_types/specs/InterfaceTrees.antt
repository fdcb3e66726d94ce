-- Private: leads to `InterfacesBreak`. What the rules on interfaces are given, as contracts see it.
use Rattle.std.specs.Prelude.{◌≡◌, List, ℕ, Bool, Some}
use Rattle.graphql_names.specs.NameValue.{NameValue}
use Rattle.graphql_names.specs.Node.{content, place}
use Rattle.graphql_names.specs.Placed.{Place, Text, name_tree, node_tree}
use Rattle.graphql_names.specs.declared.node.Node.{Node}
use Rattle.tree_literals.specs.TypeTree.{TypeTree, type_tree, unplaced_type}
use Rattle.tree_literals.specs.declared.ty.«Type».{«Type»}
use Rattle.tree_directives.specs.DirectiveTree.{InputValues}
use Rattle.tree_directives.specs.declared.input_value.InputValueDefinition.{InputValueDefinition}
use Rattle.tree_type_members.specs.TypeSystemTree.{field_definition_tree}
use Rattle.tree_type_members.specs.declared.field_definition.FieldDefinition.{FieldDefinition}
use Rattle.schema_components.specs.Given.{component_tree}
use Rattle.schema_components.specs.declared.component.Component.{Component}
use Rattle.schema_types.specs.SchemaTree.{SchemaType, SchemaTree}
use Rattle.schema_types.specs.Addresses.{type_at, under}
use Rattle.schema_types.specs.TypeView.{extended_type, interface_type}
use Rattle.schema_types.specs.declared.extended_type.ExtendedType.{ExtendedType}
use Rattle.schema_types.specs.declared.kinds.InterfaceType.{InterfaceType}
use Rattle.graphql_schema.specs.SchemaOf.{schema_tree}
use Rattle.schema_inputs.specs.Inputs.{AreInputsOf, HasAt}
use Rattle.fault_data.specs.in_rule_definitions.Judged.{judged}
use Rattle.fault_data.specs.in_rule_definitions.Subtypes.{is_valid_type}
use Rattle.fault_data.specs.in_rule_definitions.PlacedFaults.{PlacedFault}
use Rattle.rule_types.specs.InterfaceFaults.{Field, Input}
use Rattle.rule_types.specs.Trees.{input_tree, field_tree}
use Rattle.rule_types.specs.declared.implementation.Implementer.{Implementer}
use Rattle.rule_types.specs.declared.implementation.Implementation.{Implementation}
use Rattle.rule_types.specs.declared.interface_judging.InterfaceJudging.{InterfaceJudging}

abbrev pub interface_tree : Node InterfaceType → SchemaType Place
interface_tree over = interface_type (place over) (content over)

-- the schema that is judged
abbrev pub schema_of : InterfaceJudging → SchemaTree Place
schema_of judging = schema_tree judging.schema.now

-- the type has that name in the schema that is judged, and `inputs` has what this schema defines of many input values
abbrev pub StandsUnder : InterfaceJudging → NameValue → ExtendedType → Type 0
StandsUnder judging n ty = AreInputsOf (schema_of judging) judging.inputs.now × (type_at (schema_of judging) n.text ≡ Some (extended_type ty))

abbrev pub Stands : InterfaceJudging → Implementer → Type 0
Stands judging x = StandsUnder judging x.name.now x.ty.now

-- the field has the name m in the type of the name n
abbrev pub HasField : InterfaceJudging → NameValue → NameValue → Component FieldDefinition → Type 0
HasField judging n m field = HasAt (type_at (schema_of judging) n.text) (λ t. under m.text t.fields ≡ Some (component_tree field_definition_tree field))

-- these are the arguments of the type's field
abbrev pub AreOwn : List (Node InputValueDefinition) → Implementation → Type 0
AreOwn own x = own ≡ (content x.field.now).arguments.items

-- f of the name of a type, the type, and an interface that it lists
abbrev pub of_implementer : {X : Type 0} → (List ℕ → SchemaType Place → Text Place → X) → Implementer → X
of_implementer f x = f x.name.now.text (extended_type x.ty.now) (name_tree x.interface.now.name)

-- f of these, and of a field of the interface with its name
abbrev pub of_field : (List ℕ → SchemaType Place → Text Place → List ℕ → Field → List PlacedFault) → Implementer → NameValue → Node FieldDefinition → List PlacedFault
of_field f x m wanted = of_implementer f x m.text (field_tree wanted)

-- f of the names of a type, an interface and a field, and of the interface's field and the type's field
abbrev pub of_implementation : {X : Type 0} → (List ℕ → List ℕ → List ℕ → Field → Field → X) → Implementation → X
of_implementation f x = f x.name.now.text x.interface.now.text x.field_name.now.text (field_tree x.wanted.now) (field_tree x.field.now)

-- f of these names, and of an argument of each field
abbrev pub of_arguments : (List ℕ → List ℕ → List ℕ → Input → Input → List PlacedFault) → Implementation → Node InputValueDefinition → Node InputValueDefinition → List PlacedFault
of_arguments f x wanted given = f x.name.now.text x.interface.now.text x.field_name.now.text (input_tree wanted) (input_tree given)

-- f of these, and of an argument v of the one field, where vs are the arguments of the other
abbrev pub of_argument : (List ℕ → List ℕ → List ℕ → Field → Field → InputValues Place → Input → List PlacedFault) → Implementation → InputValues Place → Node InputValueDefinition → List PlacedFault
of_argument f x vs v = of_implementation f x vs (input_tree v)

-- a field of the type `implementing` may implement an interface's field of the type `wanted`
abbrev pub serves : SchemaTree Place → TypeTree (Unit {0}) → TypeTree Place → Bool
serves s wanted implementing = is_valid_type (judged s) wanted (unplaced_type implementing)

-- copies of the name and the type of the interface's argument, and of the type of the argument of the type's field
abbrev pub AreArgumentCopies : InputValueDefinition → InputValueDefinition → NameValue → Node «Type» → Node «Type» → Type 0
AreArgumentCopies wanted given name interface_type actual_type = (name ≡ wanted.name) × ((node_tree type_tree interface_type ≡ node_tree type_tree wanted.ty) × (node_tree type_tree actual_type ≡ node_tree type_tree given.ty))
