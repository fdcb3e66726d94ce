use Rattle.std.proofs.Common.{◌≡◌, map, take}
use Rattle.schema_components.specs.Given.{place_of}
use Rattle.rule_types.proofs.empty.places_of.Given as goal

abbrev pub invariant-loop-extension : goal.invariant-loop-extension
invariant-loop-extension l = l.places.items ≡ map place_of (take l.extension-index l.extension-items)
