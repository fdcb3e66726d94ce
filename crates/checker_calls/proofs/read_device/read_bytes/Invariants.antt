use Rattle.std.proofs.Common.{◌≡◌, ◌-◌, vec_len}
use Rattle.std.specs.Io.KnownBytes.{Consumes}
use Rattle.graphql_names.specs.Device.{device_inner, device_failed}
use Rattle.checker_calls.proofs.read_device.read_bytes.Given as goal

abbrev pub invariant-loop-bytes : goal.invariant-loop-bytes
invariant-loop-bytes g l = record {
  consumed : Consumes (g.R.Read.remaining (device_inner l.fn.device)) (g.R.Read.remaining (device_inner l.device)) l.bytes.items;
  running : device_failed l.device ≡ device_failed l.fn.device;
}

-- how many more bytes a vector can hold
abbrev pub decreases-loop-bytes : goal.decreases-loop-bytes
decreases-loop-bytes g l = 18446744073709551616 - vec_len l.bytes
