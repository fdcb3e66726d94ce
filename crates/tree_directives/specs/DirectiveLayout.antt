-- The texts of arguments and directives (GraphQL, October 2021, sections 2.6 and 2.12).
use Rattle.std.specs.Prelude.{ℕ, List, [], ◌∷◌, codes}
use Rattle.tree_literals.specs.Joined.{joined, further_text, separated}
use Rattle.tree_literals.specs.LineLayout.{Prefix, standing, parenthesized_text, texts_of}
use Rattle.tree_literals.specs.ValueLayout.{value_text, named_value_text}
use Rattle.tree_directives.specs.DirectiveTree.{ArgumentTree, Arguments, DirectiveTree, Directives}

abbrev pub argument_text : {P : Type 0} → ArgumentTree P → List ℕ
argument_text a = named_value_text a.name.it (value_text a.value.it)

-- (name: value, ..)
abbrev pub arguments_text : {P : Type 0} → Arguments P → List ℕ
arguments_text as' = parenthesized_text (texts_of argument_text as')

-- @name(arguments)
abbrev pub directive_text : {P : Type 0} → DirectiveTree P → List ℕ
directive_text d = joined (codes "@" ∷ d.name.it ∷ arguments_text d.arguments ∷ [])

-- directives after something else, each with a space before it
abbrev pub directives_text : {P : Type 0} → Directives P → List ℕ
directives_text ds = further_text (codes " ") (texts_of directive_text ds)

-- directives by themselves, with spaces between them
abbrev pub directive_list_text : {P : Type 0} → Directives P → List ℕ
directive_list_text ds = separated (codes " ") (texts_of directive_text ds)

-- the same as a whole text, with the start of its first line; the empty text without directives
abbrev pub directives_alone : {P : Type 0} → Prefix → ℕ → Directives P → List ℕ
directives_alone prefix level [] = joined []
directives_alone prefix level (d ∷ ds) = standing prefix level (directive_list_text (d ∷ ds))
