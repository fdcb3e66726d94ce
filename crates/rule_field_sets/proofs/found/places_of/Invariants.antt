use Rattle.std.proofs.Common.{take}
use Rattle.document_typed_operations.specs.WalkView.{fragments_tree}
use Rattle.rule_field_sets.specs.Found.{texts_of, ArePlaces}
use Rattle.rule_field_sets.proofs.found.places_of.Given as goal

abbrev pub invariant-loop-name : goal.invariant-loop-name
invariant-loop-name l = ArePlaces (fragments_tree l.fragments) (texts_of (take l.name-index l.names)) l.places.keys
