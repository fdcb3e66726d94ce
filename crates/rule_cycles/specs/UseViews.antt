-- Private: leads to `RecursiveDirectiveDefinitionAt`. What contracts see of references by directives and types.
use Rattle.std.specs.Prelude.{◌≡◌, ◌++◌, ℕ, map, Vec, Option, option_to_list, option_and_then}
use Rattle.std.specs.Global.{Global}
use Rattle.std.specs.Option.{option_map}
use Rattle.graphql_names.specs.Placed.{Place, node_tree}
use Rattle.tree_directives.specs.DirectiveTree.{directive_tree, directives_tree, input_value_tree}
use Rattle.tree_directives.specs.declared.input_value.InputValueDefinition.{InputValueDefinition}
use Rattle.graphql_names.specs.Node.{content}
use Rattle.tree_type_members.specs.declared.enum_value.EnumValueDefinition.{EnumValueDefinition}
use Rattle.schema_components.specs.Applied.{applied_tree}
use Rattle.schema_components.specs.declared.component.Component.{Component}
use Rattle.schema_components.specs.declared.directive_list.DirectiveList.{DirectiveList}
use Rattle.schema_types.specs.SchemaTree.{SchemaTree}
use Rattle.schema_types.specs.Addresses.{applied}
use Rattle.rule_cycles.specs.Labels.{Labelled}
use Rattle.rule_cycles.specs.Numbers.{at_number}
use Rattle.rule_cycles.specs.UseNumbers.{Use, uses_references, input_uses, definition_uses, type_uses}
use Rattle.graphql_names.specs.declared.node.Node.{Node}
use Rattle.tree_directives.specs.declared.directive.Directive.{Directive}
use Rattle.rule_cycles.specs.References.{between}
use Rattle.rule_cycles.specs.declared.references.Reference.{Reference}
use Rattle.rule_cycles.specs.declared.references.References.{References}

abbrev pub use_tree : Option (Node Directive) → Use
use_tree by = option_map (node_tree directive_tree) by

abbrev pub use_view : Reference (Option (Node Directive)) → ℕ × Use
use_view r = (r.to, use_tree r.by)

-- the old references, then these
abbrev pub AddsUses : Vec (Reference (Option (Node Directive))) Global → Vec (Reference (Option (Node Directive))) Global → Labelled Use → Type 0
AddsUses old new uses = map use_view new.items ≡ map use_view old.items ++ uses

-- the old directives, then that of the use, if it has one
abbrev pub AddsDirective : Vec (Node Directive) Global → Vec (Node Directive) Global → Option Use → Type 0
AddsDirective old new found = map (node_tree directive_tree) new.items ≡ map (node_tree directive_tree) old.items ++ option_to_list (option_and_then (λ by. by) found)

-- the label of the first reference from one directive or type to another
abbrev pub use_between : References (Option (Node Directive)) → ℕ → ℕ → Option Use
use_between r from to = option_map use_tree (between r from to)

abbrev pub value_uses : SchemaTree Place → Component EnumValueDefinition → Labelled Use
value_uses s c = uses_references s (directives_tree (content c.node).directives)

abbrev pub field_uses : SchemaTree Place → Component InputValueDefinition → Labelled Use
field_uses s c = input_uses s (input_value_tree (content c.node))

-- the references of the directives that definitions and extensions give a type; below, of the type of a number, of the directive of a number
abbrev pub applied_uses : SchemaTree Place → DirectiveList → Labelled Use
applied_uses s directives = uses_references s (applied s (applied_tree directives))

abbrev pub numbered_type_uses : SchemaTree Place → ℕ → Labelled Use
numbered_type_uses s number = at_number (type_uses s) s.types number

abbrev pub numbered_definition_uses : SchemaTree Place → ℕ → Labelled Use
numbered_definition_uses s number = at_number (definition_uses s) s.directives number
