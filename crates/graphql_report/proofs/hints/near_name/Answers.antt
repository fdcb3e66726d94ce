use Rattle.report_forms.specs.Closest.{found_of}
use Rattle.graphql_report.specs.Offered.{names_of}
use Rattle.graphql_report.proofs.Offering.{offers_seen}
use Rattle.graphql_report.proofs.hints.near_name.Goals as goal

pub returns : goal.returns
returns c = offers_seen c.hint.result (names_of c.args.names.now) c.match-kind.sign.now (found_of c.loop-one.closest) c.loop-one.invariant c.hint.ensures
