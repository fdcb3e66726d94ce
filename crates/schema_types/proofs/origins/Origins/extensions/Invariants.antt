use Rattle.std.proofs.Common.{◌≡◌}
use Rattle.schema_types.specs.Origins.{extensions_in}
use Rattle.schema_types.proofs.origins.Origins.extensions.Given as goal

abbrev pub invariant-loop-origin : goal.invariant-loop-origin
invariant-loop-origin l = l.ids.keys ≡ extensions_in l.yielded
