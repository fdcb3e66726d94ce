use Rattle.std.proofs.Common.{◌<◌, ◌∙◌, map, length, ap, arith}
use Rattle.graphql_schema.specs.SchemaOf.{schema_tree}
use Rattle.rule_definitions.specs.Room.{◌⊕◌}
use Rattle.rule_reach.specs.Reach.{member_of, meant_fragments}
use Rattle.rule_values.specs.Wanting.{variables_of}
use Rattle.strict_documents.specs.DepartureViews.{departures_of}
use Rattle.strict_documents.specs.Telling.{member_departures, members_departures}
use Rattle.strict_documents.proofs.ToldTogether.{told_more, told_all}
use Rattle.strict_documents.proofs.reached.tell_members.Goals as goal

pub loop-parent-preserved : goal.loop-parent-preserved
loop-parent-preserved c =
    let tells = member_departures (schema_tree c.args.schema.now) (variables_of c.args.variables.now) (meant_fragments c.args.fragments.now) in
    let xs = c.deref-parent-items.result.now in
    let i = c.loop-parent.parent-index in
    let h : i < length xs = omega arith in
    told_more member_of tells (departures_of c.args.departures.now) xs i (departures_of c.loop-parent.departures) (departures_of c.tell_member.new.departures) c.loop-parent-item.result h c.loop-parent-item.is
    c.loop-parent.invariant c.in_ok-tell_member.ensures

pub returns : goal.returns
returns c =
    let t = schema_tree c.args.schema.now in
    let vs = variables_of c.args.variables.now in
    let fragments = meant_fragments c.args.fragments.now in
    let old = departures_of c.args.departures.now in
    told_all member_of (member_departures t vs fragments) old c.deref-parent-items.result.now c.loop-parent.parent-index (departures_of c.loop-parent.departures) c.loop-parent-test.false c.loop-parent.invariant
    ∙ ap (λ l. old ⊕ members_departures t vs fragments (map member_of l)) c.deref-parent-items.ensures.value
