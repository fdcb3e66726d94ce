use Rattle.std.proofs.Common.{map, take}
use Rattle.schema_components.specs.Given.{component_name_tree, given_name}
use Rattle.rule_fragments.specs.Held.{AddsNotes}
use Rattle.rule_fragments.specs.Noting.{object_notes}
use Rattle.rule_fragments.proofs.possible_types.note_object.Given as goal

abbrev pub invariant-loop-interface : goal.invariant-loop-interface
invariant-loop-interface l = AddsNotes l.fn.noted l.noted (object_notes l.name.text (map given_name (map component_name_tree (take l.interface-index l.interfaces))))
