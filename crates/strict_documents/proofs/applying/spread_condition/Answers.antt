use Rattle.graphql_names.specs.Placed.{name_tree}
use Rattle.strict_documents.proofs.Conditions.{no_condition, a_condition}
use Rattle.strict_documents.proofs.applying.spread_condition.Goals as goal

pub returns-in-None : goal.returns-in-None
returns-in-None c = no_condition c.args.fragments.now c.args.spread.now c.content.result.now c.content.ensures c.in-None.ensures.value

pub returns-in-Some : goal.returns-in-Some
returns-in-Some c =
    a_condition c.args.fragments.now c.args.spread.now c.content.result.now c.content.ensures c.in-Some.fragment.now c.in-Some.ensures.value c.content-in-Some.result.now c.content-in-Some.ensures
    (name_tree c.type_condition.result.now) c.type_condition.ensures
