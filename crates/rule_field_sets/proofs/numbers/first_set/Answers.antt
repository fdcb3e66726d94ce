use Rattle.std.proofs.Common.{ap}
use Rattle.std.specs.Borrow.{Bor}
use Rattle.std.specs.Prelude.{unwrap_or, option_map}
use Rattle.document_typed_selections.specs.declared.selection.SelectionSet.{SelectionSet}
use Rattle.rule_field_sets.proofs.numbers.first_set.Goals as goal

pub returns-in-Some : goal.returns-in-Some
returns-in-Some c = ap (λ o. unwrap_or (option_map (λ (v : Bor SelectionSet). v.now) o) c.args.set.now) c.in-Some.ensures.value

pub returns-in-None : goal.returns-in-None
returns-in-None c = ap (λ o. unwrap_or (option_map (λ (v : Bor SelectionSet). v.now) o) c.args.set.now) c.in-None.ensures.value
