use Rattle.std.proofs.Common.{◌≡◌, map, drop}
use Rattle.tree_literals.specs.in_names.Placed.{node_tree}
use Rattle.tree_directives.specs.DirectiveTree.{input_value_tree}
use Rattle.tree_type_members.specs.TypeSystemTree.{field_definition_tree}
use Rattle.tree_type_members.specs.ArgumentQueries.{argument_named}
use Rattle.tree_type_members.proofs.field_definition.FieldDefinition.argument_by_name.Given as goal

abbrev pub invariant-loop-argument : goal.invariant-loop-argument
invariant-loop-argument l = argument_named l.name (field_definition_tree l.self).arguments ≡ argument_named l.name (map (node_tree input_value_tree) (drop l.argument-index l.argument-items))
