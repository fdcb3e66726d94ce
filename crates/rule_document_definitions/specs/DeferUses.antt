-- The uses of @defer, its labels and its conditions (not in October 2021: the proposal on incremental delivery).
use Rattle.std.specs.Prelude.{◌≡◌, ◌≢◌, Bool, true, false, List, flat_map, filter_map, codes, Contains, Option, Some, option_map, option_and_then, ◌⊎◌}
use Rattle.std.specs.List.{filter}
use Rattle.graphql_names.specs.Placed.{Placed, Text}
use Rattle.tree_literals.specs.ValueTree.{ValueTree}
use Rattle.tree_literals.specs.ValueQueries.{variable_name, string_text, boolean_value}
use Rattle.tree_directives.specs.DirectiveTree.{DirectiveTree, Directives}
use Rattle.tree_directives.specs.DirectiveQueries.{given_value, directive_has_name}
use Rattle.spec_document.specs.MeantTree.{MeantOperation, MeantDocument}
use Rattle.rule_definitions.specs.Words.{Present, AtSomeIndex}
use Rattle.rule_definitions.specs.Names.{directive_name}
use Rattle.rule_document_definitions.specs.Selected.{Standing, all_selections, own, selection_directives}
use Rattle.rule_document_definitions.specs.Reached.{Closed, LeadsInto}

module _ {P : Type 0} where
  -- the uses of @defer on a selection
  abbrev pub defers : Standing P → Directives P
  defers x = filter (directive_has_name (codes "defer")) (selection_directives x.it)

  -- the value that is given to a directive as `if`; below, that value if it is a Boolean literal
  abbrev pub given_if : Placed P (DirectiveTree P) → Option (Placed P (ValueTree P))
  given_if e = given_value (codes "if") e.it.arguments

  abbrev pub literal_if : Placed P (DirectiveTree P) → Option Bool
  literal_if e = option_and_then (λ v. boolean_value v.it) (given_if e)

  -- the selection may be left out: it has @skip whose `if` is not the literal false, or @include whose `if` is not the literal true
  abbrev pub MayBeLeftOut : Standing P → Type 0
  MayBeLeftOut x = AtSomeIndex (selection_directives x.it) (λ i e.
      ((directive_name e ≡ codes "skip") × (literal_if e ≢ Some false)) ⊎ ((directive_name e ≡ codes "include") × (literal_if e ≢ Some true)))

  -- ---- labels, over the whole kept document

  -- the values that are given as labels, in order; below, the strings among them
  abbrev pub labels : MeantDocument P → List (Placed P (ValueTree P))
  labels d = filter_map (λ e. given_value (codes "label") e.it.arguments) (flat_map defers (all_selections d))

  abbrev pub string_labels : MeantDocument P → List (Text P)
  string_labels d = filter_map (λ v. option_map (λ t. record { it = t; place = v.place }) (string_text v.it)) (labels d)

-- ---- in an operation

-- the value of `if` is the literal false, or a variable
abbrev pub IsConditional : {P : Type 0} → Placed P (DirectiveTree P) → Type 0
IsConditional e = (literal_if e ≡ Some false) ⊎ Present (given_if e) (λ v. Present (variable_name v.it) (λ n. Unit {0}))

module _ {P : Type 0} (d : MeantDocument P) (o : MeantOperation P) where
  -- the operation reaches the selection by a path on which no selection can be left out, this one included
  abbrev pub ReachedAlways : Standing P → Type 0
  ReachedAlways = Closed (λ x. Contains (own o) x × (MayBeLeftOut x → ⊥)) (λ x y. LeadsInto d x y × (MayBeLeftOut y → ⊥))
