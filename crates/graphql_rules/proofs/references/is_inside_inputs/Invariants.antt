use Rattle.std.proofs.Common.{◌≡◌, drop, map}
use Rattle.std.specs.List.{list_any}
use Rattle.tree_directives.specs.DirectiveTree.{input_value_tree}
use Rattle.schema_components.specs.Given.{component_tree}
use Rattle.rule_definitions.specs.Kept.{is_inside}
use Rattle.graphql_rules.proofs.references.is_inside_inputs.Given as goal

abbrev pub invariant-loop-field : goal.invariant-loop-field
invariant-loop-field l = list_any (λ f. is_inside l.name f.it.it.ty.it) (map (component_tree input_value_tree) l.fields) ≡ list_any (λ f. is_inside l.name f.it.it.ty.it) (map (component_tree input_value_tree) (drop l.field-index l.fields))
