use Rattle.std.proofs.Common.{◌≡◌, drop, map}
use Rattle.schema_components.specs.Lists.{is_among}
use Rattle.schema_components.specs.Given.{component_name_tree, given_name}
use Rattle.graphql_schema.proofs.subtype.has_name.Given as goal

abbrev pub invariant-loop-component : goal.invariant-loop-component
invariant-loop-component l = is_among l.name.text (map given_name (map component_name_tree l.names)) ≡ is_among l.name.text (map given_name (map component_name_tree (drop l.component-index l.names)))
