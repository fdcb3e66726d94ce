use Rattle.std.proofs.Common.{arith, ◌≡◌, ◌++◌, ◌∷◌, [], map, string_bytes, get_or, refl, Some, ◌∙◌}
use Rattle.std.specs.Rc.{rc_str_bytes}
use Rattle.std.specs.Prelude.{slice_get, slice_set}
use Rattle.std.proofs.lemmas.Grind.{common_steps}
use Rattle.std.proofs.Math.Seq.{map-set_same}
use Rattle.std.proofs.lemmas.List.Elements.{AllWithin-more_set}
use Rattle.graphql_names.specs.Device.{device_failed}
use Rattle.checker_calls.specs.Devices.{IsTextOf, IsReadToEnd}
use Rattle.checker_calls.proofs.ReadDevices.{read_on, rest_on, at_old, at_set, numbered_due}
use Rattle.checker_calls.proofs.read_device.read_texts.Goals as goal

pub loop-i-preserved : goal.loop-i-preserved
loop-i-preserved g c =
    let pushed : map rc_str_bytes c.push.new.self.items ≡ map rc_str_bytes c.loop-i.texts.items ++ string_bytes c.in-Ok.text ∷ [] = grind (arith, common_steps) in
    record {
      read = rw pushed (read_on c.args.devices.now c.loop-i.devices c.loop-i.i (get_or c.loop-i.devices c.loop-i.i c.index-devices-i.result) c.index-devices-i.result (omega arith) c.loop-i.invariant.rest refl
          (IsTextOf g.R.Read.remaining) _ _ c.loop-i.invariant.read c.in-Ok.ensures.text);
      rest = rest_on c.args.devices.now c.loop-i.devices c.loop-i.i (get_or c.loop-i.devices c.loop-i.i c.index-devices-i.result) c.index-devices-i.result (omega arith) c.loop-i.invariant.rest refl c.read_text.new.device;
      same = grind (arith, common_steps);
      running = map-set_same device_failed c.loop-i.devices c.loop-i.i c.read_text.new.device c.index-devices-i.result c.in-Ok.ensures.running ∙ c.loop-i.invariant.running;
      ended = AllWithin-more_set c.loop-i.devices c.loop-i.i c.read_text.new.device (omega arith) (IsReadToEnd g.R.Read.remaining) c.loop-i.invariant.ended c.in-Ok.ensures.end;
    }

pub returns-in-Err-clause-fault : goal.returns-in-Err-clause-fault
returns-in-Err-clause-fault g c =
    let before = at_old c.args.devices.now c.loop-i.devices c.loop-i.i (get_or c.loop-i.devices c.loop-i.i c.index-devices-i.result) c.index-devices-i.result (omega arith) c.loop-i.invariant.rest refl in
    let after : slice_get (slice_set c.loop-i.devices c.loop-i.i c.read_text.new.device) c.loop-i.i ≡ Some c.read_text.new.device = at_set c.loop-i.devices c.loop-i.i c.read_text.new.device (omega arith) in
    rw c.numbered.ensures (numbered_due g.R.Read.remaining _ _ _ _ _ c.in-Err.fault before after c.in-Err.ensures.fault)
