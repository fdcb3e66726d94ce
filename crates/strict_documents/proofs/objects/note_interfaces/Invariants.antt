use Rattle.std.proofs.Common.{map, take}
use Rattle.schema_components.specs.Given.{component_name_tree, given_name}
use Rattle.schema_components.specs.Lists.{is_among}
use Rattle.strict_documents.specs.Implemented.{AddsNames}
use Rattle.strict_documents.proofs.objects.note_interfaces.Given as goal

abbrev pub invariant-loop-interface : goal.invariant-loop-interface
invariant-loop-interface l = AddsNames l.fn.implemented l.implemented (λ n. is_among n (map given_name (map component_name_tree (take l.interface-index l.interfaces))))
