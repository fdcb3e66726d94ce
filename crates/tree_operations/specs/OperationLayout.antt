-- The texts of selections, operations and fragments (GraphQL, October 2021, sections 2.3 to 2.5, 2.8, 2.10).
use Rattle.std.specs.Prelude.{ℕ, ◌==◌, Bool, true, false, ◌&&◌, ◌||◌, if◌then◌else◌, List, [], ◌∷◌, codes, Option, None, Some}
use Rattle.tree_directives.specs.in_literals.Joined.{joined}
use Rattle.tree_directives.specs.in_literals.in_names.Placed.{Placed, Text}
use Rattle.tree_directives.specs.DirectiveTree.{Directives}
use Rattle.tree_operations.specs.SelectionTree.{FieldHead, SelectionTree, FieldTree, SpreadTree, InlineTree, SelectionTrees, no_selections, selection_then}
use Rattle.tree_operations.specs.OperationTree.{VariableDefinitionTree, OperationTree, FragmentTree}
use Rattle.tree_directives.specs.in_literals.LineLayout.{Prefix, Leveled, braced_text, set_text}
use Rattle.tree_directives.specs.in_literals.ValueLayout.{type_text, default_text}
use Rattle.tree_directives.specs.DirectiveLayout.{arguments_text, directives_text}
use Rattle.tree_directives.specs.in_literals.LineLayout.{parenthesized_text, texts_of}
use Rattle.tree_operations.specs.OperationQueries.{operation_keyword}
use Rattle.tree_directives.specs.declared.operation_type.OperationType.{OperationType}
use Rattle.tree_directives.specs.declared.operation_type.OperationType.TheVariants.{Query, Mutation, Subscription}

-- alias: before a field
abbrev pub alias_text : {P : Type 0} → Option (Text P) → List ℕ
alias_text None = joined []
alias_text (Some n) = joined (n.it ∷ codes ": " ∷ [])

-- alias: name(arguments) @directives { selections }
abbrev pub field_text : {P : Type 0} → Prefix → FieldHead P → List Leveled → Leveled
field_text prefix f selections level =
    joined (alias_text f.alias ∷ f.name.it ∷ arguments_text f.arguments ∷ directives_text f.directives ∷ set_text prefix level selections ∷ [])

-- ...name @directives
abbrev pub spread_text : {P : Type 0} → Text P → Directives P → List ℕ
spread_text name ds = joined (codes "..." ∷ name.it ∷ directives_text ds ∷ [])

-- on condition
abbrev pub condition_text : {P : Type 0} → Option (Text P) → List ℕ
condition_text None = joined []
condition_text (Some n) = joined (codes " on " ∷ n.it ∷ [])

-- ... on condition @directives { selections }
abbrev pub inline_text : {P : Type 0} → Prefix → Option (Text P) → Directives P → List Leveled → Leveled
inline_text prefix condition ds selections level =
    joined (codes "..." ∷ condition_text condition ∷ directives_text ds ∷ set_text prefix level selections ∷ [])

abbrev mutual
  pub selection_text : {P : Type 0} → Prefix → SelectionTree P → Leveled
  selection_text prefix (FieldTree p f ts) = field_text prefix f (selection_texts prefix ts)
  selection_text prefix (SpreadTree p n ds) = λ level. spread_text n ds
  selection_text prefix (InlineTree p c ds ts) = inline_text prefix c ds (selection_texts prefix ts)

  pub selection_texts : {P : Type 0} → Prefix → SelectionTrees P → List Leveled
  selection_texts prefix no_selections = []
  selection_texts prefix (selection_then t ts) = selection_text prefix t ∷ selection_texts prefix ts

abbrev pub is_query : OperationType → Bool
is_query Query = true
is_query Mutation = false
is_query Subscription = false

-- $name: ty = default @directives
abbrev pub variable_text : {P : Type 0} → VariableDefinitionTree P → List ℕ
variable_text v = joined (codes "$" ∷ v.name.it ∷ codes ": " ∷ type_text v.ty.it ∷ default_text v.default_value ∷ directives_text v.directives ∷ [])

abbrev pub variables_text : {P : Type 0} → List (Placed P (VariableDefinitionTree P)) → List ℕ
variables_text vs = parenthesized_text (texts_of variable_text vs)

abbrev pub is_none : {A : Type 0} → Option A → Bool
is_none None = true
is_none (Some x) = false

abbrev pub is_empty : {A : Type 0} → List A → Bool
is_empty [] = true
is_empty (x ∷ xs) = false

-- an anonymous query without variables and directives
abbrev pub is_bare_query : {P : Type 0} → OperationTree P → Bool
is_bare_query o = is_query o.operation_type && is_none o.name && is_empty o.variables && is_empty o.directives

-- the name of an operation, after its type
abbrev pub operation_name_text : {P : Type 0} → Option (Text P) → List ℕ
operation_name_text None = joined []
operation_name_text (Some n) = joined (codes " " ∷ n.it ∷ [])

-- query name(variables) @directives { selections }
abbrev pub full_operation_text : {P : Type 0} → Prefix → OperationTree P → Leveled
full_operation_text prefix o level =
    joined (operation_keyword o.operation_type ∷ operation_name_text o.name ∷ variables_text o.variables ∷ directives_text o.directives ∷ set_text prefix level (selection_texts prefix o.selections) ∷ [])

-- the shorthand { selections } is used only at the very start of the output, and only for an anonymous query
-- without variables and directives
abbrev pub operation_text : {P : Type 0} → Bool → Prefix → OperationTree P → Leveled
operation_text at_start prefix o level =
    if at_start && is_bare_query o then braced_text prefix level (selection_texts prefix o.selections) else full_operation_text prefix o level

-- whether no byte comes before the first definition of a whole text
abbrev pub begins_output : Prefix → ℕ → Bool
begins_output None level = true
begins_output (Some prefix) level = (level == 0) || is_empty prefix

-- fragment name on type_condition @directives { selections }
abbrev pub fragment_text : {P : Type 0} → Prefix → FragmentTree P → Leveled
fragment_text prefix f level =
    joined (codes "fragment " ∷ f.name.it ∷ codes " on " ∷ f.type_condition.it ∷ directives_text f.directives ∷ set_text prefix level (selection_texts prefix f.selections) ∷ [])
