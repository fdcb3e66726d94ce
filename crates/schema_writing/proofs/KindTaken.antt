-- What is taken of a type whole, kind by kind.
use Rattle.std.proofs.Common.{◌≡◌, List, [], ◌∷◌, map, refl, sym, ap, ◌∙◌}
use Rattle.indexmap.specs.IndexMap.{values}
use Rattle.graphql_names.specs.Node.{content}
use Rattle.graphql_names.specs.declared.node.Node.{Node}
use Rattle.graphql_names.specs.Placed.{name_tree, node_tree}
use Rattle.tree_directives.specs.DirectiveTree.{directive_tree, input_value_tree}
use Rattle.tree_directives.specs.declared.directive.Directive.{Directive}
use Rattle.tree_directives.specs.declared.input_value.InputValueDefinition.{InputValueDefinition}
use Rattle.tree_type_members.specs.TypeSystemTree.{field_definition_tree, enum_value_tree}
use Rattle.tree_type_members.specs.declared.field_definition.FieldDefinition.{FieldDefinition}
use Rattle.tree_type_members.specs.declared.enum_value.EnumValueDefinition.{EnumValueDefinition}
use Rattle.schema_components.specs.Applied.{applied_tree}
use Rattle.schema_components.specs.Given.{component_tree, component_name_tree}
use Rattle.schema_components.specs.declared.component.Component.{Component}
use Rattle.schema_components.specs.declared.component_name.ComponentName.{ComponentName}
use Rattle.schema_components.specs.declared.directive_list.DirectiveList.{DirectiveList}
use Rattle.schema_types.specs.TypeView.{extended_type}
use Rattle.schema_types.specs.declared.extended_type.ExtendedType.{ExtendedType}
use Rattle.schema_types.specs.declared.extended_type.ExtendedType.TheVariants as rust
use Rattle.schema_types.specs.declared.kinds.ScalarType.{ScalarType}
use Rattle.schema_types.specs.declared.kinds.ObjectType.{ObjectType}
use Rattle.schema_types.specs.declared.kinds.InterfaceType.{InterfaceType}
use Rattle.schema_types.specs.declared.kinds.UnionType.{UnionType}
use Rattle.schema_types.specs.declared.kinds.EnumType.{EnumType}
use Rattle.schema_types.specs.declared.kinds.InputObjectType.{InputObjectType}
use Rattle.schema_writing.specs.Filed.{given_contents, itself, without_givers}
use Rattle.schema_writing.specs.Contents.{type_contents, all_parts}
use Rattle.schema_writing.specs.ContentsView.{parts_view}
use Rattle.schema_writing.specs.declared.parts.Parts.{Parts}
use Rattle.schema_writing.proofs.Growing.{grown, trees_grown}
use Rattle.schema_writing.proofs.Keyless.{contents_keyless}

module _ {A B : Type 0} (f : A → B) where
  contents_grown : (cs : List (Component A)) → map (grown f) (without_givers (given_contents cs)) ≡ without_givers (map (component_tree f) cs)
  contents_grown [] = refl
  contents_grown (c ∷ cs) = ap (λ l. node_tree f c.node ∷ l) (contents_grown cs)

  -- nodes that are taken of these components
  pub nodes_all : (ns : List (Node A)) (cs ds : List (Component A)) → map (node_tree itself) ns ≡ without_givers (given_contents cs) → cs ≡ ds → map (node_tree f) ns ≡ without_givers (map (component_tree f) ds)
  nodes_all ns cs ds same are = trees_grown f ns ∙ ap (map (grown f)) same ∙ contents_grown cs ∙ ap (λ l. without_givers (map (component_tree f) l)) are

module _ (t : ExtendedType) (p : Parts) where
  abbrev DirectivesTaken : Type 0
  DirectivesTaken = map (node_tree directive_tree) p.directives.0.items ≡ without_givers (type_contents t).directives

  -- the directives, whatever the kind
  pub directives_taken : (cs : List (Component Directive)) (ds : DirectiveList) → map (node_tree itself) p.directives.0.items ≡ without_givers (given_contents cs)
      → cs ≡ ds.0.items → applied_tree ds ≡ (extended_type t).directives → DirectivesTaken
  directives_taken cs ds taken are same =
      nodes_all directive_tree p.directives.0.items cs ds.0.items taken are
      ∙ ap without_givers (same ∙ sym (ap (λ c. c.directives) (contents_keyless t)))

  abbrev Taken : Type 0
  Taken = parts_view p ≡ all_parts (type_contents t)

  module _ (directives : DirectivesTaken) where
    pub scalar_taken : (n : Node ScalarType) → t ≡ rust.Scalar n
        → p.interfaces.items ≡ [] → p.fields.items ≡ [] → p.members.items ≡ [] → p.values.items ≡ [] → p.inputs.items ≡ [] → Taken
    scalar_taken n is interfaces fields members values inputs = (λ i. record {
      directives = (directives ∙ ap (λ u. without_givers (type_contents u).directives) is) i;
      interfaces = map name_tree (interfaces i);
      fields = map (node_tree field_definition_tree) (fields i);
      members = map name_tree (members i);
      values = map (node_tree enum_value_tree) (values i);
      inputs = map (node_tree input_value_tree) (inputs i);
    }) ∙ sym (ap (λ u. all_parts (type_contents u)) is)

    pub object_taken : (n : Node ObjectType) (names : List ComponentName) (cs : List (Component FieldDefinition)) → t ≡ rust.Object n
        → names ≡ (content n).implements_interfaces.keys → cs ≡ values (content n).fields
        → map name_tree p.interfaces.items ≡ without_givers (map component_name_tree names) → map (node_tree itself) p.fields.items ≡ without_givers (given_contents cs)
        → p.members.items ≡ [] → p.values.items ≡ [] → p.inputs.items ≡ [] → Taken
    object_taken n names cs is names_are are interfaces fields members values inputs = (λ i. record {
      directives = (directives ∙ ap (λ u. without_givers (type_contents u).directives) is) i;
      interfaces = (interfaces ∙ ap (λ l. without_givers (map component_name_tree l)) names_are) i;
      fields = nodes_all field_definition_tree p.fields.items cs _ fields are i;
      members = map name_tree (members i);
      values = map (node_tree enum_value_tree) (values i);
      inputs = map (node_tree input_value_tree) (inputs i);
    }) ∙ sym (ap (λ u. all_parts (type_contents u)) is)

    pub interface_taken : (n : Node InterfaceType) (names : List ComponentName) (cs : List (Component FieldDefinition)) → t ≡ rust.Interface n
        → names ≡ (content n).implements_interfaces.keys → cs ≡ values (content n).fields
        → map name_tree p.interfaces.items ≡ without_givers (map component_name_tree names) → map (node_tree itself) p.fields.items ≡ without_givers (given_contents cs)
        → p.members.items ≡ [] → p.values.items ≡ [] → p.inputs.items ≡ [] → Taken
    interface_taken n names cs is names_are are interfaces fields members values inputs = (λ i. record {
      directives = (directives ∙ ap (λ u. without_givers (type_contents u).directives) is) i;
      interfaces = (interfaces ∙ ap (λ l. without_givers (map component_name_tree l)) names_are) i;
      fields = nodes_all field_definition_tree p.fields.items cs _ fields are i;
      members = map name_tree (members i);
      values = map (node_tree enum_value_tree) (values i);
      inputs = map (node_tree input_value_tree) (inputs i);
    }) ∙ sym (ap (λ u. all_parts (type_contents u)) is)

    pub union_taken : (n : Node UnionType) (names : List ComponentName) → t ≡ rust.Union n → names ≡ (content n).members.keys
        → map name_tree p.members.items ≡ without_givers (map component_name_tree names)
        → p.interfaces.items ≡ [] → p.fields.items ≡ [] → p.values.items ≡ [] → p.inputs.items ≡ [] → Taken
    union_taken n names is are members interfaces fields values inputs = (λ i. record {
      directives = (directives ∙ ap (λ u. without_givers (type_contents u).directives) is) i;
      interfaces = map name_tree (interfaces i);
      fields = map (node_tree field_definition_tree) (fields i);
      members = (members ∙ ap (λ l. without_givers (map component_name_tree l)) are) i;
      values = map (node_tree enum_value_tree) (values i);
      inputs = map (node_tree input_value_tree) (inputs i);
    }) ∙ sym (ap (λ u. all_parts (type_contents u)) is)

    pub enum_taken : (n : Node EnumType) (cs : List (Component EnumValueDefinition)) → t ≡ rust.Enum n → cs ≡ values (content n).values
        → map (node_tree itself) p.values.items ≡ without_givers (given_contents cs)
        → p.interfaces.items ≡ [] → p.fields.items ≡ [] → p.members.items ≡ [] → p.inputs.items ≡ [] → Taken
    enum_taken n cs is are all interfaces fields members inputs = (λ i. record {
      directives = (directives ∙ ap (λ u. without_givers (type_contents u).directives) is) i;
      interfaces = map name_tree (interfaces i);
      fields = map (node_tree field_definition_tree) (fields i);
      members = map name_tree (members i);
      values = nodes_all enum_value_tree p.values.items cs _ all are i;
      inputs = map (node_tree input_value_tree) (inputs i);
    }) ∙ sym (ap (λ u. all_parts (type_contents u)) is)

    pub input_object_taken : (n : Node InputObjectType) (cs : List (Component InputValueDefinition)) → t ≡ rust.InputObject n → cs ≡ values (content n).fields
        → map (node_tree itself) p.inputs.items ≡ without_givers (given_contents cs)
        → p.interfaces.items ≡ [] → p.fields.items ≡ [] → p.members.items ≡ [] → p.values.items ≡ [] → Taken
    input_object_taken n cs is are all interfaces fields members values = (λ i. record {
      directives = (directives ∙ ap (λ u. without_givers (type_contents u).directives) is) i;
      interfaces = map name_tree (interfaces i);
      fields = map (node_tree field_definition_tree) (fields i);
      members = map name_tree (members i);
      values = map (node_tree enum_value_tree) (values i);
      inputs = nodes_all input_value_tree p.inputs.items cs _ all are i;
    }) ∙ sym (ap (λ u. all_parts (type_contents u)) is)
