use Rattle.std.proofs.Common.{◌≡◌, map, take, false}
use Rattle.graphql_checked.specs.Verdicts.{first_terms}
use Rattle.graphql_checked_c.specs.HeldTexts.{text_of}
use Rattle.graphql_checked_c.proofs.opening.schema_of.Given as goal

abbrev pub invariant-loop-text : goal.invariant-loop-text
invariant-loop-text l = l.checker ≡ record { terms = first_terms l.fn.limits.nesting; texts = map text_of (take l.text-index l.texts); failed = false }
