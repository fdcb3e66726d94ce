-- What the rules on schemas find, as a list of faults.
use Rattle.std.proofs.Common.{inl, inr, ◌≡◌, ◌≢◌, ◌⊎◌, List, [], ◌++◌, map, take, sym, ap, ◌∙◌}
use Rattle.graphql_names.specs.Placed.{Place}
use Rattle.schema_types.specs.SchemaTree.{SchemaTree}
use Rattle.rule_definitions.specs.Rules.{RulesFail, BoundFails}
use Rattle.rule_definitions.specs.PlacedFaults.{PlacedFault, Told}
use Rattle.graphql_rules.specs.in_faults.DetailsTree.{of_rule}
use Rattle.rule_definitions.specs.Room.{most_told}
use Rattle.graphql_rules.specs.SchemaTold.{RulesOrBoundFail, SchemaTold}
use Rattle.checker_calls.specs.in_verdict_definitions.Says.{AnyFault}
use Rattle.checker_schemas.specs.Finishing.{RefusesSchemaRules}
use Rattle.verdict_definitions.proofs.ToldUnlessFull.{told_unless_full, told_of}

-- a rule fails so, or the bound is passed
fails_so : (s : SchemaTree Place) (f : PlacedFault) → Told s RulesOrBoundFail f → RulesFail s f ⊎ BoundFails s f
fails_so s f (broken, (inl breaks, told)) = inl (broken, (breaks, told))
fails_so s f (broken, (inr passes, told)) = inr (broken, (passes, told))

-- what is told if nothing was told before
pub rules_told : (s : SchemaTree Place) (old new : List AnyFault) → old ≡ [] → SchemaTold s old new → new ≢ [] → RefusesSchemaRules s new
rules_told s old new none told some =
    let is : new ≡ map of_rule (take most_told told.0) = told.1.0 ∙ ap (λ l. l ++ map of_rule (take most_told told.0)) none in
    record {
      some = some;
      full = λ f fails. told_unless_full of_rule new told.0 is f (told.1.1.full f fails);
      right = λ fault h. let p = told_of of_rule new told.0 is fault h in (p.0, (sym p.1.1, fails_so s p.0 (told.1.1.right p.0 p.1.0)));
    }
