use Rattle.std.proofs.Common.{ap}
use Rattle.std.specs.Prelude.{unwrap_or, option_map}
use Rattle.rule_field_sets.specs.declared.numbers.KnownField.{KnownField}
use Rattle.rule_field_sets.proofs.numbers.first_field.Goals as goal

pub returns-in-Some : goal.returns-in-Some
returns-in-Some c = ap (λ o. unwrap_or (option_map (λ (v : KnownField). v.first) o) c.args.selection) c.in-Some.ensures.value

pub returns-in-None : goal.returns-in-None
returns-in-None c = ap (λ o. unwrap_or (option_map (λ (v : KnownField). v.first) o) c.args.selection) c.in-None.ensures.value
