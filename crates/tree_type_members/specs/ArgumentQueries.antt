-- What can be asked of the arguments of a field's definition (GraphQL, October 2021, section 3.6).
use Rattle.std.specs.Prelude.{ℕ, List, [], ◌∷◌, Option, Some, None, if◌then◌else◌}
use Rattle.std.specs.Str.{bytes_eq}
use Rattle.tree_literals.specs.in_names.Placed.{Placed}
use Rattle.tree_directives.specs.DirectiveTree.{InputValueTree, InputValues}

-- the first argument of that name
abbrev pub argument_named : {P : Type 0} → List ℕ → InputValues P → Option (Placed P (InputValueTree P))
argument_named name [] = None
argument_named name (a ∷ rest) = if bytes_eq a.it.name.it name then Some a else argument_named name rest
