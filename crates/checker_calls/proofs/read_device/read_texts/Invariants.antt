use Rattle.std.proofs.Common.{◌≡◌, map, take, drop, length}
use Rattle.std.specs.Rc.{rc_str_bytes}
use Rattle.std.specs.List.{AllWithin}
use Rattle.graphql_names.specs.Device.{device_failed}
use Rattle.checker_calls.specs.Devices.{AreTextsOf, IsReadToEnd}
use Rattle.checker_calls.proofs.read_device.read_texts.Given as goal

abbrev pub invariant-loop-i : goal.invariant-loop-i
invariant-loop-i g l = record {
  read : AreTextsOf g.R.Read.remaining (take l.i l.fn.devices) (map rc_str_bytes l.texts.items);
  rest : drop l.i l.devices ≡ drop l.i l.fn.devices;
  same : length l.devices ≡ length l.fn.devices;
  running : map device_failed l.devices ≡ map device_failed l.fn.devices;
  ended : AllWithin (IsReadToEnd g.R.Read.remaining) l.devices 0 l.i;
}
