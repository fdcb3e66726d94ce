use Rattle.std.specs.Prelude.{List}
use Rattle.graphql_names.specs.Placed.{Place}
use Rattle.rule_definitions.proofs.Accepting.{accepts_where_quiet}
use Rattle.rule_definitions.proofs.laws.types_accept_where_rules_hold.Goals as goal

pub returns : goal.returns
returns c = λ at s variables ty p v. accepts_where_quiet (List Place) at s variables ty.it ty.place p v
