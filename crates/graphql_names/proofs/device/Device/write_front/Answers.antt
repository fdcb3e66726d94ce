use Rattle.std.proofs.Common.{arith}
use Rattle.std.proofs.Math.Seq.{take-add}
use Rattle.std.proofs.lemmas.List.{take_rest}
use Rattle.std.proofs.KnownBytes.{Appends-trans}
use Rattle.std.proofs.lemmas.Grind.{common_steps}
use Rattle.graphql_names.proofs.device.Device.write_front.Goals as goal

pub loop-out-preserved : goal.loop-out-preserved
loop-out-preserved g c = record {
  bound = grind (arith, common_steps);
  running = grind (arith, common_steps);
  written = rw take-add (Appends-trans _ _ _ _ _ c.loop-out.invariant.written (rw take_rest at c.in-Ok.ensures.bytes));
}
