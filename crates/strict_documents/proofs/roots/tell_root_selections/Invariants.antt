use Rattle.std.proofs.Common.{◌≡◌, ◌↔◌, false, List, Contains}
use Rattle.graphql_names.specs.Placed.{Place}
use Rattle.graphql_schema.specs.SchemaOf.{schema_tree}
use Rattle.document_typed_selections.specs.TypedTree.{typed_set_tree}
use Rattle.document_typed_operations.specs.Lending.{selections_left}
use Rattle.document_typed_operations.specs.Reached.{Member, IsReached}
use Rattle.document_typed_operations.specs.WalkView.{fragments_tree}
use Rattle.rule_definitions.specs.Room.{◌⊕◌}
use Rattle.rule_reach.specs.Reach.{meant_fragments}
use Rattle.strict_documents.specs.DepartureViews.{departures_of}
use Rattle.strict_documents.specs.Telling.{roots_departures}
use Rattle.strict_documents.proofs.roots.tell_root_selections.Given as goal

abbrev pub invariant-loop-selection : goal.invariant-loop-selection
invariant-loop-selection l = (given : List (Member Place))
    × (((e : Member Place) → Contains given e ↔ IsReached false (fragments_tree l.fragments) (typed_set_tree l.set) e)
    × (departures_of l.fn.departures ⊕ roots_departures (schema_tree l.schema) (meant_fragments l.fragments) l.object.text given
    ≡ departures_of l.departures ⊕ roots_departures (schema_tree l.schema) (meant_fragments l.fragments) l.object.text (selections_left l.selection-iterator)))
