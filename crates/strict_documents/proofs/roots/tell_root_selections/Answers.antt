use Rattle.std.proofs.Common.{◌≡◌, ◌∙◌, ◌∷◌, true, ap, sym}
use Rattle.graphql_schema.specs.SchemaOf.{schema_tree}
use Rattle.document_typed_operations.specs.Lending.{selections_left, selections_are_over}
use Rattle.document_typed_operations.specs.Reached.{Member}
use Rattle.document_typed_operations.specs.WalkView.{lent_member}
use Rattle.document_typed_operations.proofs.Gathering.{lent_ok}
use Rattle.graphql_names.specs.Placed.{Place}
use Rattle.rule_definitions.specs.Room.{◌⊕◌}
use Rattle.rule_reach.specs.Reach.{meant_fragments}
use Rattle.spec_document.specs.MeantTree.{meant}
use Rattle.strict_documents.specs.DepartureViews.{departures_of}
use Rattle.strict_documents.specs.Applying.{root_departures}
use Rattle.strict_documents.specs.Telling.{roots_departures}
use Rattle.strict_documents.proofs.ToldTogether.{left_told}
use Rattle.strict_documents.proofs.roots.tell_root_selections.Goals as goal

pub loop-selection-init : goal.loop-selection-init
loop-selection-init c =
    let tells = roots_departures (schema_tree c.args.schema.now) (meant_fragments c.args.fragments.now) c.args.object.now.text in
    let given = selections_left c.new-selection-items.result in
    (given, (c.new-selection-items.ensures.reached, ap (λ w. departures_of c.args.departures.now ⊕ tells (selections_left w)) (sym c.into_iter-selection-iterator.ensures.into_iter_gives)))

pub loop-selection-preserved : goal.loop-selection-preserved
loop-selection-preserved c =
    let tells = λ (e : Member Place). root_departures (schema_tree c.args.schema.now) (meant_fragments c.args.fragments.now) c.args.object.now.text (meant e.1) in
    let left = selections_left c.loop-selection.selection-iterator in
    let rest = selections_left c.next.new.self in
    let member = c.in_ok-selection.field-0 in
    let lent : left ≡ lent_member member ∷ rest = lent_ok (λ e. left ≡ lent_member e ∷ rest) (λ e. selections_are_over c.next.new.self ≡ true) c.in-Some.selection member c.in_ok-selection.was c.in-Some.ensures.steps.1 in
    let so_far = c.loop-selection.invariant in
    (so_far.0, (so_far.1.0, left_told tells (departures_of c.loop-selection.departures) (departures_of c.tell_root.new.departures) (lent_member member) left rest _ lent c.in_ok-tell_root.ensures so_far.1.1))

pub returns : goal.returns
returns c =
    let tells = roots_departures (schema_tree c.args.schema.now) (meant_fragments c.args.fragments.now) c.args.object.now.text in
    let so_far = c.loop-selection.invariant in
    (so_far.0, (so_far.1.0, sym (so_far.1.1 ∙ ap (λ l. departures_of c.loop-selection.departures ⊕ tells l) c.in-None.ensures.steps.0)))
