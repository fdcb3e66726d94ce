use Rattle.std.proofs.Common.{◌≡◌, map, take}
use Rattle.graphql_checked_c.specs.HeldTexts.{path_of, text_of}
use Rattle.graphql_checked_c.proofs.held.with_lines.Given as goal

abbrev pub invariant-loop-index : goal.invariant-loop-index
invariant-loop-index l = (map path_of l.held.items ≡ map (λ t. t.now) (take l.index l.names)) × (map text_of l.held.items ≡ map (λ t. t.now) (take l.index l.texts))
