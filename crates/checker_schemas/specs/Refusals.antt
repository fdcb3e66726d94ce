-- What the refusals of schema texts say.
use Rattle.std.specs.Prelude.{List}
use Rattle.graphql_rules.specs.in_faults.DetailsView.{diagnostics_of}
use Rattle.checker_calls.specs.in_verdict_definitions.Texts.{SourceText, Terms}
use Rattle.checker_calls.specs.in_verdict_definitions.Answer.{RefusesSchemas}
use Rattle.checker_calls.specs.declared.refusal.Refusal.{Refusal}
use Rattle.checker_calls.specs.declared.refusal.Refusal.TheVariants.{Faults, Memory, Failed}

-- The refusal says why the schema texts are not accepted, or that memory ran out.
abbrev pub RefusalOfSchemas : Terms → List SourceText → Refusal → Type 0
RefusalOfSchemas terms schemas (Faults list) = RefusesSchemas terms schemas (diagnostics_of list)
RefusalOfSchemas terms schemas Memory = Unit {0}
RefusalOfSchemas terms schemas Failed = ⊥
