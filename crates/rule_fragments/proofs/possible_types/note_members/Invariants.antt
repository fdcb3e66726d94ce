use Rattle.std.proofs.Common.{map, take}
use Rattle.schema_components.specs.Given.{component_name_tree, given_name}
use Rattle.rule_cycles.specs.in_schema.SchemaOf.{schema_tree}
use Rattle.rule_fragments.specs.Held.{AddsNotes}
use Rattle.rule_fragments.specs.Noting.{member_notes}
use Rattle.rule_fragments.proofs.possible_types.note_members.Given as goal

abbrev pub invariant-loop-member : goal.invariant-loop-member
invariant-loop-member l = AddsNotes l.fn.noted l.noted (member_notes (schema_tree l.schema) l.name.text (map given_name (map component_name_tree (take l.member-index l.members))))
