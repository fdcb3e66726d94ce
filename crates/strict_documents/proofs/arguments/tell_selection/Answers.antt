use Rattle.std.proofs.Common.{◌∙◌, List, ap, refl}
use Rattle.std.proofs.lemmas.Result.{on_ok_weaker}
use Rattle.graphql_names.specs.declared.node.Node.{Node}
use Rattle.tree_directives.specs.declared.directive.Directive.{Directive}
use Rattle.document_typed_selections.specs.TypedTree.{typed_selection_tree}
use Rattle.strict_documents.specs.Departing.{directives_departures}
use Rattle.strict_documents.specs.Given.{schema_of, variables_in, own_departures_of, directives_departures_of}
use Rattle.strict_documents.specs.DepartureViews.{departures_of}
use Rattle.strict_documents.proofs.Found.{both_told}
use Rattle.strict_documents.proofs.Walked.{directives_meant}
use Rattle.strict_documents.proofs.arguments.tell_selection.Goals as goal

pub returns : goal.returns
returns c =
    let own = own_departures_of c.args.strictness.now c.args.parent.now.text c.args.selection.now in
    on_ok_weaker c.tell_directives.result
    (λ told. both_told (departures_of c.args.departures.now) (departures_of c.tell_own.new.departures) (departures_of c.tell_directives.new.departures) own _ own _ c.in_ok-tell_own.ensures told refl
    (ap (λ (l : List (Node Directive)). directives_departures_of c.args.strictness.now l) c.as_slice.ensures.value
    ∙ ap (directives_departures (schema_of c.args.strictness.now) (variables_in c.args.strictness.now)) (c.directives.ensures ∙ directives_meant (typed_selection_tree c.args.selection.now))))
    c.tell_directives.ensures
