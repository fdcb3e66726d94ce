use Rattle.std.proofs.Common.{[], List, Contains, ℕ, ap, sym, subst, ◌∙◌}
use Rattle.std.specs.Option.{option_map_or}
use Rattle.rule_reach.specs.NotedNames.{noted_names}
use Rattle.rule_definitions.proofs.Lookups.{text_given}
use Rattle.rule_selections.proofs.quiet.applies.Goals as goal

pub returns-in-Some : goal.returns-in-Some
returns-in-Some c = λ h.
    let condition = c.args.condition.now.text in
    subst (λ (l : List (List ℕ)). Contains l condition) (ap (λ o. option_map_or (λ names. noted_names names) o []) c.in-Some.ensures.value)
    (text_given (noted_names c.in-Some.conditions.now) condition (sym c.has_name.ensures ∙ h))
