use Rattle.std.proofs.Common.{map, take}
use Rattle.tree_literals.specs.in_names.Placed.{name_tree}
use Rattle.tree_literals.specs.Joined.{further_text}
use Rattle.tree_type_members.specs.TypeSystemLayout.{name_text}
use Rattle.tree_type_members.proofs.print_names.put_further_names.Given as goal

abbrev pub invariant-loop-name : goal.invariant-loop-name
invariant-loop-name g l =
    g.S.Sink.puts l.fn.sink (further_text l.sign (map name_text (map name_tree (take l.name-index l.names)))) l.sink
