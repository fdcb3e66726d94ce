use Rattle.std.proofs.Common.{◌≡◌, drop, map}
use Rattle.schema_components.specs.Lists.{is_among}
use Rattle.schema_building.proofs.built_in_types.is_among.Given as goal

abbrev pub invariant-loop-other : goal.invariant-loop-other
invariant-loop-other l = is_among l.name (map (λ n. n.now) l.names) ≡ is_among l.name (map (λ n. n.now) (drop l.other-index l.names))
