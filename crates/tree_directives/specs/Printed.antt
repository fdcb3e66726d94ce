-- Private: leads to `directive_definition_text`. Partial texts of its printers.
use Rattle.std.specs.Prelude.{ℕ, List, codes}
use Rattle.tree_literals.specs.in_names.declared.node.Node.{Node}
use Rattle.tree_literals.specs.Joined.{further_text}
use Rattle.tree_literals.specs.LineLayout.{Prefix, Leveled, member_text, texts_of}
use Rattle.tree_directives.specs.DirectiveTree.{input_value_tree, input_value_trees, directive_definition_tree}
use Rattle.tree_directives.specs.InputLayout.{input_value_text, undescribed_directive_text}
use Rattle.tree_directives.specs.declared.directive.DirectiveDefinition.{DirectiveDefinition}
use Rattle.tree_directives.specs.declared.input_value.InputValueDefinition.{InputValueDefinition}

-- argument definitions on one line, each after a comma
abbrev pub further_inputs_text : Prefix → List (Node InputValueDefinition) → Leveled
further_inputs_text prefix vs level = further_text (codes ", ") (texts_of (λ v. input_value_text prefix v level) (input_value_trees vs))

-- an input value on a line of its own
abbrev pub input_member_text : Prefix → ℕ → InputValueDefinition → List ℕ
input_member_text prefix level v = member_text prefix level (input_value_text prefix (input_value_tree v))

-- a directive's definition in memory, without its description
abbrev pub undescribed_text : Prefix → DirectiveDefinition → Leveled
undescribed_text prefix d level = undescribed_directive_text prefix (directive_definition_tree d) level
