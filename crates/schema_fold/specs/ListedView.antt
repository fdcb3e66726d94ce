-- What contracts see of a definition of the list.
use Rattle.std.specs.Option.{option_map}
use Rattle.tree_definitions.specs.DefinitionTree.{definition_tree}
use Rattle.schema_types.specs.in_components.Given.{extension_tree}
use Rattle.schema_fold.specs.NumberedDefinition.{NumberedDefinition}
use Rattle.schema_fold.specs.declared.numbered_definition.NumberedDefinition.{NumberedDefinition as Rust}

abbrev pub listed_view : Rust → NumberedDefinition
listed_view l = record { definition = definition_tree l.definition; extension = option_map extension_tree l.extension }
