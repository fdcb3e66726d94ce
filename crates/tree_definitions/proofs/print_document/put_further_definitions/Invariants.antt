use Rattle.std.proofs.Common.{map, take}
use Rattle.std.specs.Option.{option_copied}
use Rattle.spec_tree.specs.in_operations.Joined.{joined}
use Rattle.spec_tree.specs.in_operations.Levels.{level_depth}
use Rattle.tree_definitions.specs.DefinitionTree.{definition_tree}
use Rattle.tree_definitions.specs.DocumentLayout.{next_definition_text}
use Rattle.tree_definitions.proofs.print_document.put_further_definitions.Given as goal

abbrev pub invariant-loop-definition : goal.invariant-loop-definition
invariant-loop-definition g l =
    g.S.Sink.puts l.fn.sink (joined (map (next_definition_text (option_copied l.prefix) (level_depth l.level)) (map definition_tree (take l.definition-index l.definitions)))) l.sink
