use Rattle.std.proofs.Common.{◌≡◌, false, All}
use Rattle.graphql_names.specs.Device.{device_failed}
use Rattle.row_texts.proofs.devices.readers.Given as goal

-- no reader made so far has failed
abbrev pub invariant-loop-text : goal.invariant-loop-text
invariant-loop-text l = All (λ d. device_failed d ≡ false) l.devices.items
