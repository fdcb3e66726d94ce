use Rattle.std.proofs.Common.{◌∙◌, List, map, refl, ap}
use Rattle.std.proofs.lemmas.Result.{on_ok_weaker}
use Rattle.graphql_names.specs.Placed.{node_tree}
use Rattle.graphql_names.specs.declared.node.Node.{Node}
use Rattle.tree_directives.specs.DirectiveTree.{directive_tree, directives_tree}
use Rattle.tree_directives.specs.declared.directive.Directive.{Directive}
use Rattle.tree_operations.specs.declared.operation.VariableDefinition.{VariableDefinition}
use Rattle.document_typed_selections.specs.TypedTree.{typed_set_tree}
use Rattle.document_typed_operations.specs.declared.operation.Operation.{Operation}
use Rattle.graphql_schema.specs.SchemaOf.{schema_tree}
use Rattle.spec_document.specs.MeantTree.{meant_of_set}
use Rattle.rule_definitions.specs.Judged.{judged}
use Rattle.rule_warnings.specs.Views.{uses_of}
use Rattle.rule_warnings.specs.Told.{variables_uses, directives_uses, set_uses}
use Rattle.rule_warnings.specs.Telling.{defined_variables}
use Rattle.rule_warnings.proofs.Found.{both_told}
use Rattle.rule_warnings.proofs.document.tell_operation.Goals as goal

pub returns : goal.returns
returns c =
    let s = schema_tree c.args.schema.now in
    let one = uses_of c.tell_variables.new.uses in
    let new = uses_of c.tell_set.new.uses in
    on_ok_weaker c.tell_set.result
    (λ told. both_told (uses_of c.args.uses.now) one new _ _ _ _ c.in_ok-tell_variables.ensures
    (both_told one (uses_of c.tell_directives.new.uses) new _ _ _ _ c.in_ok-tell_directives.ensures told
    (ap (λ (l : List (Node Directive)). directives_uses (judged s) (map (node_tree directive_tree) l)) c.as_slice-2.ensures.value
    ∙ ap (λ (o : Operation). directives_uses (judged s) (directives_tree o.directives)) c.content-own.ensures)
    (ap (λ (o : Operation). set_uses s (meant_of_set (typed_set_tree o.selection_set))) c.content-own.ensures))
    (ap (λ (l : List (Node VariableDefinition)). variables_uses (judged s) (defined_variables l)) (c.as_slice.ensures.value ∙ ap (λ (o : Operation). o.variables.items) c.content-own.ensures))
    refl)
    c.tell_set.ensures
