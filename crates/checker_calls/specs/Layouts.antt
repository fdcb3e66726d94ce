-- What a layout says of a text.
use Rattle.std.specs.Prelude.{ℕ, List, Option, None, Some}
use Rattle.checker_calls.specs.declared.layout.Layout.{Layout}
use Rattle.checker_calls.specs.declared.layout.Layout.TheVariants.{OneLine, Indented}

-- the prefix that begins a line once for each level; none if all is on one line
abbrev pub prefix_of : Layout → Option (List ℕ)
prefix_of OneLine = None
prefix_of (Indented prefix) = Some prefix.now
