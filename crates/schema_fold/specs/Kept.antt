-- Private: leads to `specs/Fold.antt` and `specs/BuildErrors.antt`. What is kept of all components of a type, and what is told of them.
use Rattle.std.specs.Prelude.{◌≡◌, ℕ, List, [], ◌++◌, map}
use Rattle.graphql_names.specs.Placed.{Placed, Place, Text}
use Rattle.tree_directives.specs.DirectiveTree.{DirectiveTree, InputValueTree, directive_tree, input_value_tree}
use Rattle.schema_types.specs.in_type_members.TypeSystemTree.{FieldDefinitionTree, EnumValueTree, field_definition_tree, enum_value_tree}
use Rattle.schema_types.specs.in_components.Lists.{firsts, repeats}
use Rattle.schema_types.specs.in_components.Names.{Entries, entries_of}
use Rattle.schema_types.specs.in_components.Given.{Given, component_tree, component_name_tree, given_name}
use Rattle.schema_types.specs.TypeView.{name_text}
use Rattle.schema_types.specs.declared.type_kind.TypeKind.{TypeKind}
use Rattle.schema_types.specs.declared.type_kind.TypeKind.TheVariants as kind
use Rattle.schema_fold.specs.BuildErrors.{BuildFault}
use Rattle.schema_fold.specs.Components.{keyed_firsts, field_key, value_key, input_key}
use Rattle.schema_fold.specs.Collected.{AllComponents}
use Rattle.schema_fold.specs.FaultView.{repeat_breach}
use Rattle.schema_fold.specs.declared.build_error.Repeat.{Repeat}
use Rattle.schema_fold.specs.declared.build_error.Repeat.TheVariants as repeat
use Rattle.schema_fold.specs.declared.kept_classes.Kept.{Kept}

pub record KeptComponents : Type 0 where
  pub directives : List (Given Place (Placed Place (DirectiveTree Place)))
  pub interfaces : List (Given Place (Text Place))
  pub fields : Entries (Given Place (Placed Place (FieldDefinitionTree Place)))
  pub members : List (Given Place (Text Place))
  pub values : Entries (Given Place (Placed Place (EnumValueTree Place)))
  pub inputs : Entries (Given Place (Placed Place (InputValueTree Place)))

abbrev pub kept : Kept → KeptComponents
kept k = record {
  directives = map (component_tree directive_tree) k.directives.items;
  interfaces = map component_name_tree k.interfaces.keys;
  fields = entries_of name_text (component_tree field_definition_tree) k.fields;
  members = map component_name_tree k.members.keys;
  values = entries_of name_text (component_tree enum_value_tree) k.values;
  inputs = entries_of name_text (component_tree input_value_tree) k.inputs;
}

-- no interface, field, member, value or input field is kept
abbrev pub KeepsNothing : Kept → Type 0
KeepsNothing k = (k.interfaces.keys ≡ []) × (k.fields.entries ≡ []) × (k.members.keys ≡ []) × (k.values.entries ≡ []) × (k.inputs.entries ≡ [])

-- the first component of each name, and all applied directives
abbrev pub kept_from : AllComponents → KeptComponents
kept_from all = record {
  directives = all.directives;
  interfaces = firsts given_name all.interfaces;
  fields = keyed_firsts field_key all.fields;
  members = firsts given_name all.members;
  values = keyed_firsts value_key all.values;
  inputs = keyed_firsts input_key all.inputs;
}

-- the rules that a second interface or field of one name breaks in a type of that kind
abbrev pub interface_repeat : TypeKind → Repeat
interface_repeat kind.Object = repeat.ObjectInterface
interface_repeat _ = repeat.InterfaceInterface

abbrev pub field_repeat : TypeKind → Repeat
field_repeat kind.Object = repeat.ObjectField
field_repeat _ = repeat.InterfaceField

-- the faults of the components that are not the first of their name
abbrev pub repeat_faults : {A : Type 0} → Repeat → List ℕ → (Given Place A → List ℕ) → (A → Place) → List (Given Place A) → List BuildFault
repeat_faults repeat type_name key place gs = map (λ g. record { place = place g.it; breach = repeat_breach repeat type_name (key g) }) (repeats key gs)

abbrev pub component_faults : TypeKind → List ℕ → AllComponents → List BuildFault
component_faults kind type_name all =
    repeat_faults (interface_repeat kind) type_name given_name (λ x. x.place) all.interfaces
    ++ (repeat_faults (field_repeat kind) type_name field_key (λ x. x.place) all.fields
    ++ (repeat_faults repeat.UnionMember type_name given_name (λ x. x.place) all.members
    ++ (repeat_faults repeat.EnumValue type_name value_key (λ x. x.place) all.values
    ++ repeat_faults repeat.InputField type_name input_key (λ x. x.place) all.inputs)))
