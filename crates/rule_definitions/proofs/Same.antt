-- Equal schemas with equal marks keep and break the same rules: one fact for all rules.
use Rattle.std.proofs.Common.{sym, subst}
use Rattle.schema_types.specs.Looks.{looks}
use Rattle.rule_definitions.specs.Judged.{judged_by}
use Rattle.rule_definitions.specs.Rules.{Breaks, SchemaRules}
use Rattle.rule_definitions.specs.Laws.{ReadTheSame, SameBreaches, SameVerdict}

pub read_the_same : ReadTheSame
read_the_same a b equal = λ i. judged_by (looks (equal.same i)) (λ at. equal.marks at i)

pub same_breaches : SameBreaches
same_breaches a b equal fault = (subst (λ s. Breaks s fault) (read_the_same a b equal), subst (λ s. Breaks s fault) (sym (read_the_same a b equal)))

pub same_verdict : SameVerdict
same_verdict a b equal = (subst SchemaRules (read_the_same a b equal), subst SchemaRules (sym (read_the_same a b equal)))
