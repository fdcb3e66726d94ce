use Rattle.std.proofs.Common.{◌<◌, ◌≤◌, ◌∙◌, length, ap, arith}
use Rattle.graphql_names.specs.Placed.{Place}
use Rattle.document_typed_operations.specs.declared.operation.Fragment.{Fragment}
use Rattle.spec_document.specs.MeantTree.{MeantFragment}
use Rattle.tree_directives.specs.DirectiveTree.{directives_tree}
use Rattle.rule_definitions.specs.Room.{◌⊕◌}
use Rattle.rule_reach.specs.Reach.{fragment_of}
use Rattle.strict_documents.specs.Given.{schema_of, variables_in}
use Rattle.strict_documents.specs.Departing.{directives_departures}
use Rattle.strict_documents.specs.DepartureViews.{departures_of}
use Rattle.strict_documents.specs.Telling.{applied_directives}
use Rattle.strict_documents.proofs.ToldTogether.{told_more, told_all}
use Rattle.strict_documents.proofs.reached.tell_fragments.Goals as goal

pub loop-index-preserved : goal.loop-index-preserved
loop-index-preserved c =
    let tells = directives_departures (schema_of c.args.strictness.now) (variables_in c.args.strictness.now) in
    let xs = c.args.reach.now.fragments.items in
    let i = c.loop-index.index in
    let x = c.index.result.now in
    let h : i < length xs = omega arith in
    told_more fragment_of (λ (f : MeantFragment Place). tells f.directives) (departures_of c.args.departures.now) xs i (departures_of c.loop-index.departures) (departures_of c.tell_directives.new.departures) x h c.index.ensures
    c.loop-index.invariant
    (c.in_ok-tell_directives.ensures
    ∙ ap (λ l. departures_of c.loop-index.departures ⊕ tells l)
    (ap applied_directives c.as_slice.ensures.value ∙ ap (λ (f : Fragment). directives_tree f.directives) c.content-fragment.ensures))

pub returns : goal.returns
returns c =
    let tells = directives_departures (schema_of c.args.strictness.now) (variables_in c.args.strictness.now) in
    let past : length c.args.reach.now.fragments.items ≤ c.loop-index.index = omega arith in
    told_all fragment_of (λ (f : MeantFragment Place). tells f.directives) (departures_of c.args.departures.now) c.args.reach.now.fragments.items c.loop-index.index (departures_of c.loop-index.departures) past c.loop-index.invariant
