-- Faults of arguments and of a variable that is given, from what is told of them.
use Rattle.std.proofs.Common.{◌≡◌, ℕ, ◌↔◌, List, [], ◌∷◌, ◌++◌, subst, Contains}
use Rattle.graphql_names.specs.Placed.{Placed, Place, node_tree}
use Rattle.tree_literals.specs.TypeTree.{unplaced_type}
use Rattle.tree_directives.specs.DirectiveTree.{ArgumentTree, InputValueTree, directive_tree, input_value_tree, unplaced_input_value}
use Rattle.tree_directives.specs.declared.directive.Directive.{Directive}
use Rattle.tree_directives.specs.declared.input_value.InputValueDefinition.{InputValueDefinition}
use Rattle.graphql_names.specs.Node.{content, place}
use Rattle.graphql_names.specs.declared.node.Node.{Node}
use Rattle.rule_definitions.specs.Diagnostics.{DisallowedVariableUsage}
use Rattle.rule_definitions.specs.Faults.{wrong}
use Rattle.rule_definitions.specs.Names.{defined_name, argument_name}
use Rattle.rule_definitions.specs.GivenValues.{Variables}
use Rattle.rule_definitions.specs.VariableUsage.{IsVariableUsageAllowed}
use Rattle.rule_definitions.specs.PlacedFaults.{PlacedFault}
use Rattle.rule_arguments.specs.GivenArguments.{Lists, DisallowedUsage}
use Rattle.rule_definitions.proofs.Firsts.{first_is_found}
use Rattle.graphql_rules.specs.Given.{Each, UsageBreaks}

-- the first variable of that name is the one that is found
pub usage_found : (variables : Variables Place) (v : InputValueTree Place) (a : Placed Place (ArgumentTree Place)) (f : PlacedFault) → UsageBreaks variables (unplaced_input_value v) a f ↔ DisallowedUsage variables v a f
usage_found variables v a f =
    let found = λ (n : List ℕ). first_is_found defined_name variables n
    (λ k x. (IsVariableUsageAllowed x.it (unplaced_input_value v) → ⊥) × (f ≡ wrong a.place (DisallowedVariableUsage n (unplaced_type x.it.ty.it) x.place (argument_name a) (unplaced_type v.ty.it) a.place)))
    (λ x. (IsVariableUsageAllowed x.it (unplaced_input_value v) → ⊥) × (f ≡ wrong a.place (DisallowedVariableUsage n (unplaced_type x.it.ty.it) x.place (argument_name a) (unplaced_type v.ty.it) a.place)))
    (λ k x there. (λ h. h, λ h. h)) in
    (λ h. (h.0, (h.1.0, (found h.0.it).0 h.1.1)), λ q. (q.0, (q.1.0, (found q.0.it).1 q.1.1)))

-- what is told of the definition that a node holds
pub usage_told : (variables : Variables Place) (n : Node InputValueDefinition) (a : Placed Place (ArgumentTree Place)) (l : List PlacedFault) (held : InputValueDefinition) → held ≡ content n
    → Lists l (DisallowedUsage variables (input_value_tree held) a) → (f : PlacedFault) → Contains l f ↔ UsageBreaks variables (unplaced_input_value (input_value_tree (content n))) a f
usage_told variables n a l held e told f =
    let given = subst (λ (d : InputValueDefinition). Lists l (DisallowedUsage variables (input_value_tree d) a)) e told in
    let found = usage_found variables (input_value_tree (content n)) a f in
    (λ h. found.1 ((given f).0 h), λ u. (given f).1 (found.0 u))

-- one more
pub each_more : {A B : Type 0} (Gives : A → B → Type 0) (xs : List A) (ys : List B) (x : A) (y : B) → Each Gives xs ys → Gives x y → Each Gives (xs ++ x ∷ []) (ys ++ y ∷ [])
each_more Gives [] [] x y e g = (g, tt)
each_more Gives [] (z ∷ ys) x y e g = absurd e
each_more Gives (z ∷ xs) [] x y e g = absurd e
each_more Gives (z ∷ xs) (w ∷ ys) x y e g = (e.0, each_more Gives xs ys x y e.1 g)

-- what has the same content and place is the same directive
pub same_node : (a b : Node Directive) → content a ≡ content b → place a ≡ place b → node_tree directive_tree a ≡ node_tree directive_tree b
same_node a b e h = cc
