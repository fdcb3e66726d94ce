use Rattle.graphql_names.specs.Placed.{name_tree}
use Rattle.rule_fragments.proofs.Applying.{applies_none, applies_found}
use Rattle.rule_fragments.proofs.applications.spread_application.Goals as goal

pub returns-in-None : goal.returns-in-None
returns-in-None c = applies_none c.args.fragments.now c.args.spread.now c.content.result.now c.content.ensures c.in-None.ensures.value

pub returns-in-Some : goal.returns-in-Some
returns-in-Some c =
    applies_found c.args.fragments.now c.args.spread.now c.content.result.now c.content.ensures c.in-Some.fragment.now c.in-Some.ensures.value c.content-in-Some.result.now c.content-in-Some.ensures
    (name_tree c.type_condition.result.now) c.type_condition.ensures c.location.result c.location.ensures c.location-in-Some.result c.location-in-Some.ensures
