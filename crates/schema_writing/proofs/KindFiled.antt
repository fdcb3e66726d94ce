-- What is filed of a type, kind by kind.
use Rattle.std.proofs.Common.{◌≡◌, List, [], map, Option, sym, ap, ◌∙◌}
use Rattle.indexmap.specs.IndexMap.{values}
use Rattle.graphql_names.specs.Node.{content}
use Rattle.graphql_names.specs.declared.node.Node.{Node}
use Rattle.graphql_names.specs.Placed.{Place, name_tree, node_tree}
use Rattle.tree_directives.specs.DirectiveTree.{directive_tree, input_value_tree}
use Rattle.tree_directives.specs.declared.directive.Directive.{Directive}
use Rattle.tree_directives.specs.declared.input_value.InputValueDefinition.{InputValueDefinition}
use Rattle.tree_type_members.specs.TypeSystemTree.{field_definition_tree, enum_value_tree}
use Rattle.tree_type_members.specs.declared.field_definition.FieldDefinition.{FieldDefinition}
use Rattle.tree_type_members.specs.declared.enum_value.EnumValueDefinition.{EnumValueDefinition}
use Rattle.schema_components.specs.Applied.{applied_tree}
use Rattle.schema_components.specs.Given.{ExtensionTree, component_tree, component_name_tree}
use Rattle.schema_components.specs.declared.component.Component.{Component}
use Rattle.schema_components.specs.declared.component_name.ComponentName.{ComponentName}
use Rattle.schema_components.specs.declared.directive_list.DirectiveList.{DirectiveList}
use Rattle.schema_types.specs.Out.{given_by}
use Rattle.schema_types.specs.TypeView.{extended_type}
use Rattle.schema_types.specs.declared.extended_type.ExtendedType.{ExtendedType}
use Rattle.schema_types.specs.declared.extended_type.ExtendedType.TheVariants as rust
use Rattle.schema_types.specs.declared.kinds.ScalarType.{ScalarType}
use Rattle.schema_types.specs.declared.kinds.ObjectType.{ObjectType}
use Rattle.schema_types.specs.declared.kinds.InterfaceType.{InterfaceType}
use Rattle.schema_types.specs.declared.kinds.UnionType.{UnionType}
use Rattle.schema_types.specs.declared.kinds.EnumType.{EnumType}
use Rattle.schema_types.specs.declared.kinds.InputObjectType.{InputObjectType}
use Rattle.schema_writing.specs.Filed.{filed_under, given_contents, itself}
use Rattle.schema_writing.specs.Contents.{type_contents, parts_given_by}
use Rattle.schema_writing.specs.ContentsView.{FilesFields, filed_parts}
use Rattle.schema_writing.specs.declared.parts.FiledType.{FiledType}
use Rattle.schema_writing.proofs.Growing.{all_filed, filed_grown, no_names, no_nodes}
use Rattle.schema_writing.proofs.Keyless.{contents_keyless}

abbrev Giver : Type 0
Giver = Option (ExtensionTree Place)

module _ (t : ExtendedType) where
  abbrev DirectivesFiled : FiledType → Type 0
  DirectivesFiled f = (giver : Giver) → map (node_tree directive_tree) (filed_under giver f.directives.entries) ≡ given_by giver (type_contents t).directives

  -- the directives, whatever the kind
  pub directives_filed : (f : FiledType) (cs : List (Component Directive)) (ds : DirectiveList) → ((giver : Giver) → map (node_tree itself) (filed_under giver f.directives.entries) ≡ given_by giver (given_contents cs))
      → cs ≡ ds.0.items → applied_tree ds ≡ (extended_type t).directives → DirectivesFiled f
  directives_filed f cs ds filed are same giver =
      filed_grown directive_tree giver (filed_under giver f.directives.entries) cs (filed giver) ∙ ap (λ l. given_by giver (map (component_tree directive_tree) l)) are
      ∙ ap (given_by giver) (same ∙ sym (ap (λ c. c.directives) (contents_keyless t)))

  module _ (f : FiledType) (directives : DirectivesFiled f) where
    abbrev Filed : Type 0
    Filed = (giver : Giver) → filed_parts giver f ≡ parts_given_by giver (type_contents t)

    interfaces_none : (type_contents t).interfaces ≡ [] → f.interfaces.entries ≡ [] → (giver : Giver) → map name_tree (filed_under giver f.interfaces.entries) ≡ given_by giver (type_contents t).interfaces
    interfaces_none none empty giver = no_names f.interfaces.entries empty giver ∙ ap (given_by giver) (sym none)

    fields_none : (type_contents t).fields ≡ [] → f.fields.entries ≡ [] → (giver : Giver) → map (node_tree field_definition_tree) (filed_under giver f.fields.entries) ≡ given_by giver (type_contents t).fields
    fields_none none empty giver = no_nodes field_definition_tree f.fields.entries empty giver ∙ ap (given_by giver) (sym none)

    members_none : (type_contents t).members ≡ [] → f.members.entries ≡ [] → (giver : Giver) → map name_tree (filed_under giver f.members.entries) ≡ given_by giver (type_contents t).members
    members_none none empty giver = no_names f.members.entries empty giver ∙ ap (given_by giver) (sym none)

    values_none : (type_contents t).values ≡ [] → f.values.entries ≡ [] → (giver : Giver) → map (node_tree enum_value_tree) (filed_under giver f.values.entries) ≡ given_by giver (type_contents t).values
    values_none none empty giver = no_nodes enum_value_tree f.values.entries empty giver ∙ ap (given_by giver) (sym none)

    inputs_none : (type_contents t).inputs ≡ [] → f.inputs.entries ≡ [] → (giver : Giver) → map (node_tree input_value_tree) (filed_under giver f.inputs.entries) ≡ given_by giver (type_contents t).inputs
    inputs_none none empty giver = no_nodes input_value_tree f.inputs.entries empty giver ∙ ap (given_by giver) (sym none)

    pub scalar_filed : (n : Node ScalarType) → t ≡ rust.Scalar n → f.interfaces.entries ≡ [] → f.fields.entries ≡ [] → f.members.entries ≡ [] → f.values.entries ≡ [] → f.inputs.entries ≡ [] → Filed
    scalar_filed n is interfaces fields members values inputs = all_filed f (type_contents t) directives
        (interfaces_none (ap (λ u. (type_contents u).interfaces) is) interfaces) (fields_none (ap (λ u. (type_contents u).fields) is) fields) (members_none (ap (λ u. (type_contents u).members) is) members)
        (values_none (ap (λ u. (type_contents u).values) is) values) (inputs_none (ap (λ u. (type_contents u).inputs) is) inputs)

    pub union_filed : (n : Node UnionType) (names : List ComponentName) → t ≡ rust.Union n → names ≡ (content n).members.keys → ((giver : Giver) → map name_tree (filed_under giver f.members.entries) ≡ given_by giver (map component_name_tree names))
        → f.interfaces.entries ≡ [] → f.fields.entries ≡ [] → f.values.entries ≡ [] → f.inputs.entries ≡ [] → Filed
    union_filed n names is are filed interfaces fields values inputs = all_filed f (type_contents t) directives
        (interfaces_none (ap (λ u. (type_contents u).interfaces) is) interfaces) (fields_none (ap (λ u. (type_contents u).fields) is) fields)
        (λ giver. filed giver ∙ ap (given_by giver) (ap (map component_name_tree) are ∙ sym (ap (λ u. (type_contents u).members) is)))
        (values_none (ap (λ u. (type_contents u).values) is) values) (inputs_none (ap (λ u. (type_contents u).inputs) is) inputs)

    pub enum_filed : (n : Node EnumType) (cs : List (Component EnumValueDefinition)) → t ≡ rust.Enum n → cs ≡ values (content n).values → ((giver : Giver) → map (node_tree itself) (filed_under giver f.values.entries) ≡ given_by giver (given_contents cs))
        → f.interfaces.entries ≡ [] → f.fields.entries ≡ [] → f.members.entries ≡ [] → f.inputs.entries ≡ [] → Filed
    enum_filed n cs is are filed interfaces fields members inputs = all_filed f (type_contents t) directives
        (interfaces_none (ap (λ u. (type_contents u).interfaces) is) interfaces) (fields_none (ap (λ u. (type_contents u).fields) is) fields) (members_none (ap (λ u. (type_contents u).members) is) members)
        (λ giver. filed_grown enum_value_tree giver (filed_under giver f.values.entries) cs (filed giver) ∙ ap (given_by giver) (ap (map (component_tree enum_value_tree)) are ∙ sym (ap (λ u. (type_contents u).values) is)))
        (inputs_none (ap (λ u. (type_contents u).inputs) is) inputs)

    pub input_object_filed : (n : Node InputObjectType) (cs : List (Component InputValueDefinition)) → t ≡ rust.InputObject n → cs ≡ values (content n).fields → ((giver : Giver) → map (node_tree itself) (filed_under giver f.inputs.entries) ≡ given_by giver (given_contents cs))
        → f.interfaces.entries ≡ [] → f.fields.entries ≡ [] → f.members.entries ≡ [] → f.values.entries ≡ [] → Filed
    input_object_filed n cs is are filed interfaces fields members values = all_filed f (type_contents t) directives
        (interfaces_none (ap (λ u. (type_contents u).interfaces) is) interfaces) (fields_none (ap (λ u. (type_contents u).fields) is) fields) (members_none (ap (λ u. (type_contents u).members) is) members)
        (values_none (ap (λ u. (type_contents u).values) is) values)
        (λ giver. filed_grown input_value_tree giver (filed_under giver f.inputs.entries) cs (filed giver) ∙ ap (given_by giver) (ap (map (component_tree input_value_tree)) are ∙ sym (ap (λ u. (type_contents u).inputs) is)))

  module _ (old f : FiledType) (names : List ComponentName) (cs : List (Component FieldDefinition)) (directives : DirectivesFiled old) (files : FilesFields names cs old f)
      (no_members : old.members.entries ≡ []) (no_values : old.values.entries ≡ []) (no_inputs : old.inputs.entries ≡ []) where
    kept : DirectivesFiled f
    kept giver = ap (λ g. map (node_tree directive_tree) (filed_under giver g.directives.entries)) files.others ∙ directives giver

    with_fields : (type_contents t).interfaces ≡ map component_name_tree names → (type_contents t).fields ≡ map (component_tree field_definition_tree) cs → (type_contents t).members ≡ [] → (type_contents t).values ≡ [] → (type_contents t).inputs ≡ []
        → (giver : Giver) → filed_parts giver f ≡ parts_given_by giver (type_contents t)
    with_fields interfaces fields members vs inputs = all_filed f (type_contents t) kept
        (λ giver. files.interfaces giver ∙ ap (given_by giver) (sym interfaces))
        (λ giver. filed_grown field_definition_tree giver (filed_under giver f.fields.entries) cs (files.fields giver) ∙ ap (given_by giver) (sym fields))
        (members_none f kept members (ap (λ g. g.members.entries) files.others ∙ no_members))
        (values_none f kept vs (ap (λ g. g.values.entries) files.others ∙ no_values))
        (inputs_none f kept inputs (ap (λ g. g.inputs.entries) files.others ∙ no_inputs))

    pub object_filed : (n : Node ObjectType) → t ≡ rust.Object n → names ≡ (content n).implements_interfaces.keys → cs ≡ values (content n).fields → (giver : Giver) → filed_parts giver f ≡ parts_given_by giver (type_contents t)
    object_filed n is names_are are = with_fields
        (ap (λ u. (type_contents u).interfaces) is ∙ sym (ap (map component_name_tree) names_are)) (ap (λ u. (type_contents u).fields) is ∙ sym (ap (map (component_tree field_definition_tree)) are))
        (ap (λ u. (type_contents u).members) is) (ap (λ u. (type_contents u).values) is) (ap (λ u. (type_contents u).inputs) is)

    pub interface_filed : (n : Node InterfaceType) → t ≡ rust.Interface n → names ≡ (content n).implements_interfaces.keys → cs ≡ values (content n).fields → (giver : Giver) → filed_parts giver f ≡ parts_given_by giver (type_contents t)
    interface_filed n is names_are are = with_fields
        (ap (λ u. (type_contents u).interfaces) is ∙ sym (ap (map component_name_tree) names_are)) (ap (λ u. (type_contents u).fields) is ∙ sym (ap (map (component_tree field_definition_tree)) are))
        (ap (λ u. (type_contents u).members) is) (ap (λ u. (type_contents u).values) is) (ap (λ u. (type_contents u).inputs) is)
