use Rattle.std.proofs.Common.{◌≡◌, false, All}
use Rattle.graphql_names.specs.Device.{device_failed}
use Rattle.graphql_checked_program.proofs.run_files.Given as goal

-- no reader opened so far has failed
abbrev pub invariant-loop-path : goal.invariant-loop-path
invariant-loop-path l = All (λ d. device_failed d ≡ false) l.readers.items
