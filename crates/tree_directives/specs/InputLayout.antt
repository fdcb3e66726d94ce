-- The texts of definitions of arguments, input fields and directives (GraphQL, October 2021, sections 3.6.1, 3.10, 3.13).
use Rattle.std.specs.Prelude.{ℕ, ◌+◌, Bool, true, false, if◌then◌else◌, List, [], ◌∷◌, map, codes, None, Some, is_some}
use Rattle.std.specs.List.{list_any}
use Rattle.tree_literals.specs.Joined.{joined, further_text}
use Rattle.tree_literals.specs.in_names.Placed.{Placed}
use Rattle.tree_directives.specs.DirectiveTree.{InputValueTree, InputValues, DirectiveDefinitionTree}
use Rattle.tree_literals.specs.LineLayout.{Prefix, Leveled, break_text, members_text}
use Rattle.tree_literals.specs.StringLayout.{description_text}
use Rattle.tree_literals.specs.ValueLayout.{type_text, default_text}
use Rattle.tree_directives.specs.DirectiveLayout.{directives_text}
use Rattle.tree_literals.specs.LineLayout.{parenthesized_text, texts_of}
use Rattle.tree_directives.specs.declared.directive_location.DirectiveLocation.{DirectiveLocation}
use Rattle.tree_directives.specs.DirectivePlaces.{location_keyword}

-- description name: ty = default @directives
abbrev pub input_value_text : {P : Type 0} → Prefix → InputValueTree P → Leveled
input_value_text prefix v level =
    joined (description_text prefix level v.description ∷ v.name.it ∷ codes ": " ∷ type_text v.ty.it ∷ default_text v.default_value ∷ directives_text v.directives ∷ [])

-- input values, each on a line of its own
abbrev pub input_members_text : {P : Type 0} → Prefix → ℕ → InputValues P → List ℕ
input_members_text prefix level vs = members_text prefix level (texts_of (input_value_text prefix) vs)

abbrev pub is_described : {P : Type 0} → Placed P (InputValueTree P) → Bool
is_described v = is_some v.it.description

-- whether argument definitions are printed one on each line, if the layout has lines: exactly when one of them has a description
abbrev pub are_on_lines : {P : Type 0} → InputValues P → Bool
are_on_lines vs = list_any is_described vs

-- (arguments) on one line
abbrev pub arguments_in_line : {P : Type 0} → Prefix → InputValues P → ℕ → List ℕ
arguments_in_line prefix vs level = parenthesized_text (texts_of (λ v. input_value_text prefix v level) vs)

-- ( arguments ), one on each line, one level deeper, without commas
abbrev pub arguments_on_lines : {P : Type 0} → List ℕ → InputValues P → ℕ → List ℕ
arguments_on_lines prefix vs level =
    joined (codes "(" ∷ input_members_text (Some prefix) (level + 1) vs ∷ break_text (Some prefix) level ∷ codes ")" ∷ [])

abbrev pub argument_definitions_text : {P : Type 0} → Prefix → InputValues P → ℕ → List ℕ
argument_definitions_text None vs level = arguments_in_line None vs level
argument_definitions_text (Some prefix) vs level = if are_on_lines vs then arguments_on_lines prefix vs level else arguments_in_line (Some prefix) vs level

abbrev pub repeatable_text : Bool → List ℕ
repeatable_text true = codes " repeatable"
repeatable_text false = joined []

-- on A | B; the empty text without locations
abbrev pub locations_text : List DirectiveLocation → List ℕ
locations_text [] = joined []
locations_text (l ∷ ls) = joined (codes " on " ∷ location_keyword l ∷ further_text (codes " | ") (map location_keyword ls) ∷ [])

-- directive @name(arguments) @directives repeatable on locations
abbrev pub undescribed_directive_text : {P : Type 0} → Prefix → DirectiveDefinitionTree P → Leveled
undescribed_directive_text prefix d level =
    joined (codes "directive @" ∷ d.name.it ∷ argument_definitions_text prefix d.arguments level ∷ directives_text d.directives ∷ repeatable_text d.repeatable ∷ locations_text d.locations ∷ [])

-- the same after its description
abbrev pub directive_definition_text : {P : Type 0} → Prefix → DirectiveDefinitionTree P → Leveled
directive_definition_text prefix d level = joined (description_text prefix level d.description ∷ undescribed_directive_text prefix d level ∷ [])
