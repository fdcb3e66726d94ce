use Rattle.std.proofs.Common.{◌∙◌, List, map, ap}
use Rattle.std.proofs.lemmas.Result.{on_ok_weaker}
use Rattle.graphql_names.specs.Placed.{node_tree}
use Rattle.graphql_names.specs.declared.node.Node.{Node}
use Rattle.tree_directives.specs.DirectiveTree.{directive_tree, directives_tree}
use Rattle.tree_directives.specs.declared.directive.Directive.{Directive}
use Rattle.tree_operations.specs.OperationTree.{variable_definition_tree}
use Rattle.tree_operations.specs.declared.operation.VariableDefinition.{VariableDefinition}
use Rattle.graphql_schema.specs.SchemaOf.{schema_tree}
use Rattle.rule_definitions.specs.Judged.{judged}
use Rattle.rule_warnings.specs.Views.{uses_of}
use Rattle.rule_warnings.specs.Told.{default_uses, directives_uses}
use Rattle.rule_warnings.proofs.Found.{both_told}
use Rattle.rule_warnings.proofs.document.tell_variable.Goals as goal

pub returns : goal.returns
returns c =
    let s = judged (schema_tree c.args.schema.now) in
    on_ok_weaker c.tell_directives.result
    (λ told. both_told (uses_of c.args.uses.now) (uses_of c.tell_default.new.uses) (uses_of c.tell_directives.new.uses) _ _ _ _ c.in_ok-tell_default.ensures told
    (ap (λ (d : VariableDefinition). default_uses s (variable_definition_tree d)) c.content-own.ensures)
    (ap (λ (l : List (Node Directive)). directives_uses s (map (node_tree directive_tree) l)) c.as_slice.ensures.value
    ∙ ap (λ (d : VariableDefinition). directives_uses s (directives_tree d.directives)) c.content-own.ensures))
    c.tell_directives.ensures
