use Rattle.std.proofs.Common.{◌≡◌, map, take}
use Rattle.graphql_checked_c.specs.HeldTexts.{path_of, text_of}
use Rattle.graphql_checked_c.proofs.held.sources_of.Given as goal

abbrev pub invariant-loop-text : goal.invariant-loop-text
invariant-loop-text l = (map (λ s. s.path.now) l.sources.items ≡ map path_of (take l.text-index l.texts)) × (map (λ s. s.lines.now) l.sources.items ≡ map text_of (take l.text-index l.texts))
