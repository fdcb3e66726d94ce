-- The layout of small directives and their definitions, computed. The texts are written by hand.
use Rattle.std.proofs.Common.{◌≡◌, ℕ, List, [], ◌∷◌, codes, true, false, Option, None, Some, refl}
use Rattle.tree_literals.specs.Joined.{joined}
use Rattle.tree_literals.specs.LineLayout.{Prefix}
use Rattle.tree_literals.specs.in_names.Placed.{Placed, Text}
use Rattle.tree_literals.specs.TypeTree.{NamedTree}
use Rattle.tree_literals.specs.ValueTree.{IntTree}
use Rattle.tree_directives.specs.DirectiveTree.{Directives, InputValueTree, DirectiveDefinitionTree}
use Rattle.tree_directives.specs.DirectiveLayout.{directive_list_text}
use Rattle.tree_directives.specs.InputLayout.{directive_definition_text}
use Rattle.tree_directives.specs.declared.directive_location.DirectiveLocation.TheVariants as location

abbrev U : Type 0
U = Unit {0}

abbrev text : List ℕ → Text U
text t = record { it = t; place = tt }

abbrev node : {A : Type 0} → A → Placed U A
node a = record { it = a; place = tt }

abbrev two : Prefix
two = Some (codes "  ")

-- @a @b(x: 1)
abbrev applied : Directives U
applied = node (record { name = text (codes "a"); arguments = [] }) ∷ node (record { name = text (codes "b"); arguments = node (record { name = text (codes "x"); value = node (IntTree (codes "1")) }) ∷ [] }) ∷ []

directives_alone : directive_list_text applied ≡ codes "@a @b(x: 1)"
unfolding joined
directives_alone = refl

-- directive @d(x: I) repeatable on FIELD | QUERY
abbrev input : Option (Text U) → List ℕ → Placed U (InputValueTree U)
input description name = node (record { description = description; name = text name; ty = node (NamedTree (text (codes "I"))); default_value = None; directives = [] })

abbrev directive_definition : List (Placed U (InputValueTree U)) → DirectiveDefinitionTree U
directive_definition inputs = record { description = None; name = text (codes "d"); arguments = inputs; directives = []; repeatable = false; locations = location.Field ∷ [] }

definition_in_line : directive_definition_text None (record (directive_definition (input None (codes "x") ∷ [])) { repeatable = true; locations = location.Field ∷ location.Query ∷ [] }) 0 ≡ codes "directive @d(x: I) repeatable on FIELD | QUERY"
unfolding joined
definition_in_line = refl

-- directives come after the arguments, each after a space
directed_in_line : directive_definition_text None (record (directive_definition (input None (codes "x") ∷ [])) { directives = applied; repeatable = true }) 0 ≡ codes "directive @d(x: I) @a @b(x: 1) repeatable on FIELD"
unfolding joined
directed_in_line = refl

undescribed_on_lines : directive_definition_text two (directive_definition (input None (codes "x") ∷ input None (codes "y") ∷ [])) 0 ≡ codes "directive @d(x: I, y: I) on FIELD"
unfolding joined
undescribed_on_lines = refl

described_on_lines : directive_definition_text two (directive_definition (input (Some (text (codes "a"))) (codes "x") ∷ input None (codes "y") ∷ [])) 0 ≡ codes "directive @d(\n  \"a\"\n  x: I\n  y: I\n) on FIELD"
unfolding joined
described_on_lines = refl

described_in_line : directive_definition_text None (directive_definition (input (Some (text (codes "a"))) (codes "x") ∷ [])) 0 ≡ codes "directive @d(\"a\" x: I) on FIELD"
unfolding joined
described_in_line = refl
