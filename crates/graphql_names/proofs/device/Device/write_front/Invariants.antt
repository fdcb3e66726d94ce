use Rattle.std.proofs.Common.{length, ◌-◌, ◌≡◌, ◌≤◌, take}
use Rattle.std.specs.Io.KnownBytes.{Appends}
use Rattle.graphql_names.specs.Device.{device_inner, device_failed}
use Rattle.graphql_names.proofs.device.Device.write_front.Given as goal

abbrev pub invariant-loop-out : goal.invariant-loop-out
invariant-loop-out g l = record {
  bound : l.out ≤ length l.bytes;
  running : device_failed l.self ≡ device_failed l.fn.self;
  written : Appends (g.W.Write.contents (device_inner l.fn.self)) (g.W.Write.contents (device_inner l.self)) (take l.out l.bytes);
}

abbrev pub decreases-loop-out : goal.decreases-loop-out
decreases-loop-out g l = length l.bytes - l.out
