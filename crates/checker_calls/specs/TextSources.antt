-- The sources of texts: each under its number, in order, and without a path.
use Rattle.std.specs.Prelude.{ℕ, ◌+◌, List, [], ◌∷◌, flat_map}
use Rattle.tree_definitions.specs.Sources.{Source}
use Rattle.verdict_definitions.specs.in_read.ReadFaults.{unnamed_source}
use Rattle.verdict_definitions.specs.Texts.{SourceText}

-- sources, each under its number
abbrev pub Sources : Type 0
Sources = List (ℕ × Source)

-- the sources of texts, the first of which has this number
abbrev pub text_sources : ℕ → List SourceText → Sources
text_sources first [] = []
text_sources first (text ∷ texts) = (first, unnamed_source text) ∷ text_sources (first + 1) texts
