use Rattle.std.proofs.Common.{sym, bytes_eq}
use Rattle.graphql_names.specs.NameValue.{NameValue}
use Rattle.schema_fold_index.proofs.Under.{under_pushed}
use Rattle.rule_field_groups.proofs.Filing.{count_pushed}
use Rattle.rule_field_groups.proofs.groups.push_under.Goals as goal

pub returns-in-Some-clause-under : goal.returns-in-Some-clause-under
returns-in-Some-clause-under c =
    under_pushed c.args.index.now.entries (c.get_mut.follows.lender c.push.new.self).entries c.args.field c.args.name.now.text c.in-Some.fields.now c.push.new.self
    (sym c.in-Some.ensures.value) c.in_ok-push.ensures.items (c.get_mut.follows.holds c.push.new.self).0

pub returns-in-Some-clause-counted : goal.returns-in-Some-clause-counted
returns-in-Some-clause-counted c =
    count_pushed (λ (k : NameValue). bytes_eq c.args.name.now.text k.text) c.args.index.now.entries (c.get_mut.follows.lender c.push.new.self).entries c.in-Some.fields.now c.push.new.self c.args.field
    (sym c.in-Some.ensures.value) c.in_ok-push.ensures.items (c.get_mut.follows.holds c.push.new.self).0
