-- What is known of the arguments and the input fields that a schema defines, if they are many (GraphQL, October 2021, sections 3.6.1, 3.10 and 3.13).
use Rattle.std.specs.Prelude.{◌≡◌, ⊤, List, [], ◌∷◌, map, flat_map, Option, IfSome, Some, ℕ, if◌then◌else◌}
use Rattle.graphql_names.specs.Placed.{Placed, Place}
use Rattle.graphql_names.specs.declared.name.Name.{Name}
use Rattle.tree_directives.specs.DirectiveTree.{InputValueTree, InputValues, DirectiveDefinitionTree, input_value_tree, input_value_trees}
use Rattle.tree_directives.specs.DirectiveQueries.{is_required_input}
use Rattle.tree_directives.specs.declared.input_value.InputValueDefinition.{InputValueDefinition}
use Rattle.schema_components.specs.Given.{Given, component_tree}
use Rattle.schema_components.specs.Names.{Entries}
use Rattle.schema_components.specs.declared.component.Component.{Component}
use Rattle.schema_types.specs.Addresses.{under}
use Rattle.schema_types.specs.SchemaTree.{SchemaType, SchemaTree}
use Rattle.schema_inputs.specs.Firsts.{AreNumbers}
use Rattle.schema_inputs.specs.declared.known.KnownArguments.{KnownArguments}
use Rattle.schema_inputs.specs.declared.known.KnownType.{KnownType}
use Rattle.schema_inputs.specs.declared.inputs.SchemaInputs.{SchemaInputs}

-- the name of an argument
abbrev pub input_name : Placed Place (InputValueTree Place) → List ℕ
input_name v = v.it.name.it

-- an argument, if it is required
abbrev pub if_required : Placed Place (InputValueTree Place) → InputValues Place
if_required v = if is_required_input v.it then v ∷ [] else []

-- the required ones of these arguments, in order
abbrev pub required_inputs : InputValues Place → InputValues Place
required_inputs vs = flat_map if_required vs

abbrev pub FieldEntries : Type 0
FieldEntries = Entries (Given Place (Placed Place (InputValueTree Place)))

-- a field of an input object, if it is required
abbrev pub if_field_required : List ℕ × Given Place (Placed Place (InputValueTree Place)) → FieldEntries
if_field_required e = if is_required_input e.1.it.it then e ∷ [] else []

-- the required ones of these fields, in order
abbrev pub required_entries : FieldEntries → FieldEntries
required_entries es = flat_map if_field_required es

abbrev pub listed_field : Name × Component InputValueDefinition → List ℕ × Given Place (Placed Place (InputValueTree Place))
listed_field e = (e.0.text, component_tree input_value_tree e.1)

-- R holds at each index at which both lists have an element
abbrev pub AreEach : {X Y : Type 0} → (X → Y → Type 0) → List X → List Y → Type 0
AreEach R [] ys = ⊤
AreEach R (x ∷ xs) [] = ⊤
AreEach R (x ∷ xs) (y ∷ ys) = R x y × AreEach R xs ys

-- there is a value, and P holds for it
abbrev pub HasAt : {X : Type 0} → Option X → (X → Type 0) → Type 0
HasAt {X} o P = (x : X) × ((o ≡ Some x) × P x)

-- `known` has under each name the index of the first argument with that name, and it has the required arguments
abbrev pub AreKnown : InputValues Place → KnownArguments → Type 0
AreKnown vs known = AreNumbers input_name known.numbers vs × (input_value_trees known.required.items ≡ required_inputs vs)

abbrev pub AreKnownIfMany : InputValues Place → Option KnownArguments → Type 0
AreKnownIfMany vs known = IfSome known (AreKnown vs)

-- there is a directive of that name, and `known` is about its arguments
abbrev pub IsOfDirective : Entries (Placed Place (DirectiveDefinitionTree Place)) → List ℕ → KnownArguments → Type 0
IsOfDirective ds n known = HasAt (under n ds) (λ d. AreKnown d.it.arguments known)

-- the type n has a field m, and `known` is about its arguments
abbrev pub IsOfField : Entries (SchemaType Place) → List ℕ → List ℕ → KnownArguments → Type 0
IsOfField ts n m known = HasAt (under n ts) (λ t. HasAt (under m t.fields) (λ f. AreKnown f.it.it.arguments known))

-- `fields` are the required ones of these input fields
abbrev pub AreRequired : FieldEntries → List (Name × Component InputValueDefinition) → Type 0
AreRequired es fields = map listed_field fields ≡ required_entries es

-- `known` is about this type: the arguments of each of its fields, and its required input fields, as far as they are recorded
abbrev pub IsKnownType : SchemaType Place → KnownType → Type 0
IsKnownType t known =
    AreEach (λ e arguments. AreKnownIfMany e.1.it.it.arguments arguments) t.fields known.arguments.items
    × IfSome known.required (λ fields. AreRequired t.inputs fields.items)

-- the same for each of these types, by its index
abbrev pub AreTypesOf : Entries (SchemaType Place) → SchemaInputs → Type 0
AreTypesOf ts inputs = AreEach (λ e known. IsKnownType e.1 known) ts inputs.types.items

-- the same for the arguments of each of these directives, by its index
abbrev pub AreDirectivesOf : Entries (Placed Place (DirectiveDefinitionTree Place)) → SchemaInputs → Type 0
AreDirectivesOf ds inputs = AreEach (λ e arguments. AreKnownIfMany e.1.it.arguments arguments) ds inputs.directives.items

-- the same for a schema
abbrev pub AreInputsOf : SchemaTree Place → SchemaInputs → Type 0
AreInputsOf s inputs = AreTypesOf s.types inputs × AreDirectivesOf s.directives inputs
