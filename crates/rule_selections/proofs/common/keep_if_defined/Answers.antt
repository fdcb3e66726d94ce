use Rattle.std.proofs.Common.{◌≡◌, ◌∙◌, ◌++◌, ◌∷◌, [], ap, inl}
use Rattle.std.proofs.lemmas.List.{map-append}
use Rattle.graphql_names.specs.Placed.{node_tree}
use Rattle.tree_operations.specs.OperationTree.{variable_definition_tree}
use Rattle.rule_arguments.specs.in_rule_values.Wanting.{variables_of}
use Rattle.rule_selections.proofs.DefinedAlike.{one_kept}
use Rattle.rule_selections.proofs.common.keep_if_defined.Goals as goal

pub returns-then-not-is_defined_in : goal.returns-then-not-is_defined_in
returns-then-not-is_defined_in c = λ y k. inl k

pub returns : goal.returns
returns c =
    let n = c.in_ok-clone.field-0 in
    let x = node_tree variable_definition_tree c.args.variable.now in
    let old = c.args.kept.now.items in
    let same : node_tree variable_definition_tree n ≡ x = λ i. record { it = variable_definition_tree (c.in_ok-clone.ensures.cases.0 i); place = c.in_ok-clone.ensures.cases.1 i } in
    one_kept (variables_of c.args.variables.now) (variables_of old) (variables_of c.push.new.self.items) x
    (ap variables_of c.in_ok-push.ensures.items ∙ map-append (node_tree variable_definition_tree) old (n ∷ []) ∙ ap (λ y. variables_of old ++ y ∷ []) same)
    (c.is_defined_in.ensures c.if-not-is_defined_in.false)
