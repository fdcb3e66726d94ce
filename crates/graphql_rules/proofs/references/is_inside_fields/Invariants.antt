use Rattle.std.proofs.Common.{◌≡◌, drop, map}
use Rattle.std.specs.List.{list_any}
use Rattle.tree_type_members.specs.TypeSystemTree.{field_definition_tree}
use Rattle.schema_components.specs.Given.{component_tree}
use Rattle.rule_definitions.specs.Kept.{is_inside_field}
use Rattle.graphql_rules.proofs.references.is_inside_fields.Given as goal

abbrev pub invariant-loop-field : goal.invariant-loop-field
invariant-loop-field l = list_any (λ f. is_inside_field l.name f.it.it) (map (component_tree field_definition_tree) l.fields) ≡ list_any (λ f. is_inside_field l.name f.it.it) (map (component_tree field_definition_tree) (drop l.field-index l.fields))
