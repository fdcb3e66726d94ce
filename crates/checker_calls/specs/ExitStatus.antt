-- The status with which the program ends.
use Rattle.std.specs.Prelude.{ℕ, Result, Ok, Err}
use Rattle.checker_calls.specs.declared.run_fault.Outcome.{Outcome}
use Rattle.checker_calls.specs.declared.run_fault.Outcome.TheVariants.{Accepted, Refused}
use Rattle.checker_calls.specs.declared.run_fault.RunFault.{RunFault}
use Rattle.checker_calls.specs.declared.run_fault.RunFault.TheVariants.{Memory, Reader, NotUtf8, Writer}

-- the status for how a run ended
abbrev pub status_of : Result Outcome RunFault → ℕ
status_of (Ok Accepted) = 0
status_of (Ok Refused) = 1
status_of (Err (Reader number)) = 3
status_of (Err (NotUtf8 number)) = 3
status_of (Err (Writer count)) = 3
status_of (Err Memory) = 4
