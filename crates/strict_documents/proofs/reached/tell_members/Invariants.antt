use Rattle.std.proofs.Common.{◌≡◌, map, take}
use Rattle.graphql_schema.specs.SchemaOf.{schema_tree}
use Rattle.rule_definitions.specs.Room.{◌⊕◌}
use Rattle.rule_reach.specs.Reach.{member_of, meant_fragments}
use Rattle.rule_values.specs.Wanting.{variables_of}
use Rattle.strict_documents.specs.DepartureViews.{departures_of}
use Rattle.strict_documents.specs.Telling.{members_departures}
use Rattle.strict_documents.proofs.reached.tell_members.Given as goal

abbrev pub invariant-loop-parent : goal.invariant-loop-parent
invariant-loop-parent l = departures_of l.departures ≡ departures_of l.fn.departures ⊕ members_departures (schema_tree l.schema) (variables_of l.variables) (meant_fragments l.fragments) (map member_of (take l.parent-index l.parent-items))
