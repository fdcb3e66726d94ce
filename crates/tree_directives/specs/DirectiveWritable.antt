-- Directives and definitions of input values and directives that the grammar can write (GraphQL, October 2021,
-- appendix B). `const` says that no variable is allowed.
use Rattle.std.specs.Prelude.{Bool, true, false, not, ◌&&◌, List, [], ◌∷◌}
use Rattle.std.specs.List.{list_all}
use Rattle.tree_literals.specs.in_names.Placed.{Placed}
use Rattle.tree_literals.specs.ValueWritable.{value_writable, default_writable}
use Rattle.tree_directives.specs.DirectiveTree.{ArgumentTree, Arguments, DirectiveTree, Directives, InputValueTree, InputValues, DirectiveDefinitionTree}

abbrev pub argument_writable : {P : Type 0} → Bool → Placed P (ArgumentTree P) → Bool
argument_writable const a = value_writable const a.it.value.it

abbrev pub arguments_writable : {P : Type 0} → Bool → Arguments P → Bool
arguments_writable const as' = list_all (argument_writable const) as'

abbrev pub directive_writable : {P : Type 0} → Bool → DirectiveTree P → Bool
directive_writable const d = arguments_writable const d.arguments

abbrev pub directives_writable : {P : Type 0} → Bool → Directives P → Bool
directives_writable const ds = list_all (λ d. directive_writable const d.it) ds

abbrev pub is_none_of : {A : Type 0} → List A → Bool
is_none_of [] = true
is_none_of (x ∷ xs) = false

-- directives by themselves: at least one
abbrev pub directive_list_writable : {P : Type 0} → Directives P → Bool
directive_list_writable ds = not (is_none_of ds) && directives_writable false ds

abbrev pub input_value_writable : {P : Type 0} → InputValueTree P → Bool
input_value_writable v = default_writable v.default_value && directives_writable true v.directives

abbrev pub input_values_writable : {P : Type 0} → InputValues P → Bool
input_values_writable vs = list_all (λ v. input_value_writable v.it) vs

-- a directive definition has a location, and its arguments and its own directives can be written, these without variables
abbrev pub directive_definition_writable : {P : Type 0} → DirectiveDefinitionTree P → Bool
directive_definition_writable d = input_values_writable d.arguments && (directives_writable true d.directives && not (is_none_of d.locations))
