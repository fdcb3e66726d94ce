use Rattle.std.proofs.Common.{sym, ap, ◌∙◌}
use Rattle.graphql_names.specs.Node.{content}
use Rattle.rule_selection_queries.specs.Tests.{plain}
use Rattle.rule_selection_queries.proofs.Noting.{noted_value}
use Rattle.rule_selection_queries.proofs.values.note_value.Goals as goal

pub returns : goal.returns
returns c n =
    noted_value c.args.firsts.now c.insert.new.self c.in_ok-clone.field-0 c.args.entry.now.0 n c.in_ok-value.value (plain (content c.args.entry.now.1)) c.in_ok-clone.ensures.same
    (c.in_ok-insert.ensures.updates.0 n) (sym c.contains_key.ensures ∙ c.if-contains_key.false) (ap plain c.in_ok-value.ensures.cases.0)
