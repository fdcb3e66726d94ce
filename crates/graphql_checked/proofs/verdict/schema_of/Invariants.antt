use Rattle.std.proofs.Common.{◌≡◌, map, take, false}
use Rattle.graphql_checked.specs.Verdicts.{first_terms}
use Rattle.graphql_checked.proofs.verdict.schema_of.Given as goal

abbrev pub invariant-loop-text : goal.invariant-loop-text
invariant-loop-text l = l.checker ≡ record { terms = first_terms l.fn.limits.nesting; texts = map (λ t. t.now) (take l.text-index l.texts); failed = false }
