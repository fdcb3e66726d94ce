-- When a checker refuses.
use Rattle.std.specs.Prelude.{◌≡◌, true, false}
use Rattle.graphql_checked.specs.CheckerValue.{CheckerValue}
use Rattle.checker_schemas.specs.Refusals.{RefusalOfSchemas}
use Rattle.checker_calls.specs.declared.refusal.Refusal.{Refusal}
use Rattle.checker_calls.specs.declared.refusal.Refusal.TheVariants.{Faults, Memory, Failed}

-- Memory ran out when a text was added: terms and texts are unchanged, and the checker has failed from then on. One that had
-- failed stays so.
abbrev pub IsCheckerAddRefusal : CheckerValue → CheckerValue → Refusal → Type 0
IsCheckerAddRefusal old new Memory = (old.failed ≡ false) × (new ≡ record old { failed = true })
IsCheckerAddRefusal old new Failed = (old.failed ≡ true) × (new ≡ old)
IsCheckerAddRefusal old new (Faults list) = ⊥

-- The checker gives no schema: it has failed, or this is a refusal of the texts that it was given.
abbrev pub IsFinishRefusal : CheckerValue → Refusal → Type 0
IsFinishRefusal checker Failed = checker.failed ≡ true
IsFinishRefusal checker (Faults list) = (checker.failed ≡ false) × RefusalOfSchemas checker.terms checker.texts (Faults list)
IsFinishRefusal checker Memory = (checker.failed ≡ false) × RefusalOfSchemas checker.terms checker.texts Memory
