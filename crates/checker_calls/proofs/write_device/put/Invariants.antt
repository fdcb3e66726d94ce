use Rattle.std.proofs.Common.{◌≡◌, length}
use Rattle.std.specs.Io.KnownBytes.{Appends}
use Rattle.graphql_names.specs.Device.{device_inner, device_failed}
use Rattle.checker_calls.proofs.InParts.{first_bytes}
use Rattle.checker_calls.proofs.write_device.put.Given as goal

-- the first parts are out, and their bytes are counted
abbrev pub invariant-loop-start : goal.invariant-loop-start
invariant-loop-start g l = record {
  count : l.before ≡ length (first_bytes l.parts l.start-index);
  written : Appends (g.W.Write.contents (device_inner l.fn.out)) (g.W.Write.contents (device_inner l.out)) (first_bytes l.parts l.start-index);
  running : device_failed l.out ≡ device_failed l.fn.out;
}
