-- Private: leads to `RecursiveInputObjectDefinitionAt`. What contracts see of references.
use Rattle.std.specs.Prelude.{◌≡◌, ◌++◌, ℕ, map, Vec, Option, option_to_list}
use Rattle.std.specs.Global.{Global}
use Rattle.std.specs.Option.{option_map}
use Rattle.graphql_names.specs.Placed.{Placed, Place, node_tree}
use Rattle.tree_directives.specs.DirectiveTree.{InputValueTree, input_value_tree}
use Rattle.tree_directives.specs.declared.input_value.InputValueDefinition.{InputValueDefinition}
use Rattle.schema_components.specs.declared.component.Component.{Component}
use Rattle.graphql_names.specs.declared.node.Node.{Node}
use Rattle.schema_types.specs.SchemaTree.{SchemaTree}
use Rattle.rule_cycles.specs.Labels.{Labelled}
use Rattle.rule_cycles.specs.Numbers.{Field, field_references}
use Rattle.rule_cycles.specs.References.{between}
use Rattle.rule_cycles.specs.declared.references.Reference.{Reference}
use Rattle.rule_cycles.specs.declared.references.References.{References}

abbrev pub field_tree : Component InputValueDefinition → Placed Place (InputValueTree Place)
field_tree c = node_tree input_value_tree c.node

abbrev pub input_reference_view : Reference (Node InputValueDefinition) → ℕ × Placed Place (InputValueTree Place)
input_reference_view r = (r.to, node_tree input_value_tree r.by)

-- the old references, then these
abbrev pub AddsInputs : Vec (Reference (Node InputValueDefinition)) Global → Vec (Reference (Node InputValueDefinition)) Global → Labelled Field → Type 0
AddsInputs old new references = map input_reference_view new.items ≡ map input_reference_view old.items ++ references

-- what a field refers to
abbrev pub references_of_field : SchemaTree Place → Component InputValueDefinition → Labelled Field
references_of_field s c = field_references s.types (field_tree c)

-- the old fields, then this one, if there is one
abbrev pub AddsField : Vec (Node InputValueDefinition) Global → Vec (Node InputValueDefinition) Global → Option Field → Type 0
AddsField old new field = map (node_tree input_value_tree) new.items ≡ map (node_tree input_value_tree) old.items ++ option_to_list field

-- the field by which an input object first refers to another
abbrev pub field_between : References (Node InputValueDefinition) → ℕ → ℕ → Option (Placed Place (InputValueTree Place))
field_between r from to = option_map (node_tree input_value_tree) (between r from to)
