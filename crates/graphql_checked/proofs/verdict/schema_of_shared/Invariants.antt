use Rattle.std.proofs.Common.{◌≡◌, map, take, false}
use Rattle.std.specs.Rc.{rc_str_bytes}
use Rattle.graphql_checked.specs.Verdicts.{first_terms}
use Rattle.graphql_checked.proofs.verdict.schema_of_shared.Given as goal

abbrev pub invariant-loop-text : goal.invariant-loop-text
invariant-loop-text l = l.checker ≡ record { terms = first_terms l.fn.limits.nesting; texts = map rc_str_bytes (take l.text-index l.texts); failed = false }
