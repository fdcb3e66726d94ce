-- The layout of small selections, operations and fragments, computed. The texts are written by hand.
use Rattle.std.proofs.Common.{◌≡◌, ℕ, List, [], ◌∷◌, codes, true, false, None, Some, refl}
use Rattle.tree_directives.specs.in_literals.Joined.{joined}
use Rattle.tree_directives.specs.in_literals.LineLayout.{Prefix}
use Rattle.tree_directives.specs.in_literals.in_names.Placed.{Placed, Text}
use Rattle.tree_directives.specs.in_literals.TypeTree.{NamedTree}
use Rattle.tree_directives.specs.in_literals.ValueTree.{IntTree}
use Rattle.tree_directives.specs.DirectiveTree.{DirectiveTree}
use Rattle.tree_operations.specs.SelectionTree.{SelectionTree, SelectionTrees, FieldTree, SpreadTree, InlineTree, no_selections, selection_then}
use Rattle.tree_operations.specs.OperationTree.{VariableDefinitionTree, OperationTree}
use Rattle.tree_operations.specs.OperationLayout.{variable_text, operation_text, fragment_text, selection_text}
use Rattle.tree_directives.specs.declared.operation_type.OperationType.TheVariants.{Query, Mutation}

abbrev U : Type 0
U = Unit {0}

abbrev text : List ℕ → Text U
text t = record { it = t; place = tt }

abbrev node : {A : Type 0} → A → Placed U A
node a = record { it = a; place = tt }

abbrev two : Prefix
two = Some (codes "  ")

abbrev directive : Placed U (DirectiveTree U)
directive = node (record { name = text (codes "d"); arguments = [] })

abbrev field : List ℕ → SelectionTrees U → SelectionTree U
field name = FieldTree tt (record { alias = None; name = text name; arguments = []; directives = [] })

abbrev one : SelectionTree U → SelectionTrees U
one s = selection_then s no_selections

abbrev plain_query : OperationTree U
plain_query = record { operation_type = Query; name = None; variables = []; directives = []; selections = one (field (codes "a") no_selections) }

-- selections
abbrev aliased_field : SelectionTree U
aliased_field = FieldTree tt (record {
  alias = Some (text (codes "a"));
  name = text (codes "f");
  arguments = node (record { name = text (codes "x"); value = node (IntTree (codes "1")) }) ∷ [];
  directives = directive ∷ [];
}) (one (field (codes "b") no_selections))

field_in_line : selection_text None aliased_field 0 ≡ codes "a: f(x: 1) @d { b }"
unfolding joined
field_in_line = refl

field_on_lines : selection_text two aliased_field 0 ≡ codes "a: f(x: 1) @d {\n  b\n}"
unfolding joined
field_on_lines = refl

spread : selection_text None (SpreadTree tt (text (codes "F")) (directive ∷ [])) 0 ≡ codes "...F @d"
unfolding joined
spread = refl

inline_under_tabs : selection_text (Some (codes "\t")) (InlineTree tt (Some (text (codes "T"))) (directive ∷ []) (one (field (codes "c") no_selections))) 1 ≡ codes "... on T @d {\n\t\tc\n\t}"
unfolding joined
inline_under_tabs = refl

inline_without_condition : selection_text None (InlineTree tt None [] (one (field (codes "a") no_selections))) 0 ≡ codes "... { a }"
unfolding joined
inline_without_condition = refl

-- operations
abbrev variable : VariableDefinitionTree U
variable = record {
  name = text (codes "v");
  ty = node (NamedTree (text (codes "I")));
  default_value = Some (node (IntTree (codes "1")));
  directives = directive ∷ [];
}

variable_in_line : variable_text variable ≡ codes "$v: I = 1 @d"
unfolding joined
variable_in_line = refl

abbrev plain_variable : VariableDefinitionTree U
plain_variable = record { name = text (codes "w"); ty = node (NamedTree (text (codes "I"))); default_value = None; directives = [] }

full_query : operation_text true None (record plain_query { name = Some (text (codes "Q")); variables = node plain_variable ∷ node plain_variable ∷ []; directives = directive ∷ [] }) 0 ≡ codes "query Q($w: I, $w: I) @d { a }"
unfolding joined
full_query = refl

query_on_lines : operation_text true two (record plain_query { name = Some (text (codes "Q")); selections = selection_then (field (codes "a") (one (field (codes "b") no_selections))) (one (field (codes "c") no_selections)) }) 0 ≡ codes "query Q {\n  a {\n    b\n  }\n  c\n}"
unfolding joined
query_on_lines = refl

-- the shorthand, at the start of the output and later
shorthand : operation_text true None plain_query 0 ≡ codes "{ a }"
unfolding joined
shorthand = refl

shorthand_on_lines : operation_text true two plain_query 0 ≡ codes "{\n  a\n}"
unfolding joined
shorthand_on_lines = refl

no_shorthand : operation_text false None plain_query 0 ≡ codes "query { a }"
unfolding joined
no_shorthand = refl

no_shorthand_with_directive : operation_text true None (record plain_query { directives = directive ∷ [] }) 0 ≡ codes "query @d { a }"
unfolding joined
no_shorthand_with_directive = refl

no_shorthand_for_mutation : operation_text true None (record plain_query { operation_type = Mutation }) 0 ≡ codes "mutation { a }"
unfolding joined
no_shorthand_for_mutation = refl

anonymous_with_variable : operation_text true None (record plain_query { variables = node plain_variable ∷ [] }) 0 ≡ codes "query($w: I) { a }"
unfolding joined
anonymous_with_variable = refl

fragment_in_line : fragment_text None (record { name = text (codes "F"); type_condition = text (codes "T"); directives = directive ∷ []; selections = one (field (codes "a") no_selections) }) 0 ≡ codes "fragment F on T @d { a }"
unfolding joined
fragment_in_line = refl
