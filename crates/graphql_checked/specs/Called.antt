-- What a call of `run` answers, under the layout and the limits that it is given.
use Rattle.std.specs.Prelude.{ℕ, List, Option}
use Rattle.graphql_names.specs.declared.device.Device.{Device}
use Rattle.checker_calls.specs.Layouts.{prefix_of}
use Rattle.checker_calls.specs.declared.layout.Layout.{Layout}
use Rattle.checker_calls.specs.declared.run_fault.Outcome.{Outcome}
use Rattle.checker_calls.specs.declared.run_fault.RunFault.{RunFault}
use Rattle.graphql_checked.specs.Run.{WritesAnswer, RunFaultIsDue}
use Rattle.graphql_checked.specs.Verdicts.{first_terms}
use Rattle.graphql_checked.specs.declared.checker.Limits.{Limits}

module _ {R D W : Type 0} (of_schema : R → Option (List ℕ)) (of_document : D → Option (List ℕ)) (contents : W → Option (List ℕ))
    (layout : Layout) (limits : Limits) where
  -- The outcome is answered: all its bytes are written.
  abbrev pub IsAnswered : List (Device R) → Device D → Device W → Device W → Outcome → Type 0
  IsAnswered schemas document out out' =
      WritesAnswer of_schema of_document contents (prefix_of layout) (first_terms limits.nesting) schemas document out out'

  -- The fault is due: `schemas`, `document` and `out` are as before the call, the others as after it.
  abbrev pub Arises : List (Device R) → List (Device R) → Device D → Device D → Device W → Device W → RunFault → Type 0
  Arises schemas schemas' document document' out out' =
      RunFaultIsDue of_schema of_document contents (prefix_of layout) (first_terms limits.nesting) schemas schemas' document document' out out'
