use Rattle.std.proofs.Common.{◌<◌, length, arith}
use Rattle.graphql_names.specs.Placed.{node_tree}
use Rattle.tree_operations.specs.OperationTree.{variable_definition_tree}
use Rattle.graphql_schema.specs.SchemaOf.{schema_tree}
use Rattle.rule_definitions.specs.Judged.{judged}
use Rattle.rule_warnings.specs.Views.{uses_of}
use Rattle.rule_warnings.specs.Told.{variable_uses}
use Rattle.rule_warnings.proofs.Found.{told_more, told_all}
use Rattle.rule_warnings.proofs.document.tell_variables.Goals as goal

pub loop-variable-preserved : goal.loop-variable-preserved
loop-variable-preserved c =
    let xs = c.args.variables.now in
    let i = c.loop-variable.variable-index in
    let h : i < length xs = omega arith in
    told_more (node_tree variable_definition_tree) (λ v. variable_uses (judged (schema_tree c.args.schema.now)) v.it) (uses_of c.args.uses.now) xs i
    (uses_of c.loop-variable.uses) (uses_of c.tell_variable.new.uses) c.variable-item.result h c.variable-item.is c.loop-variable.invariant c.in_ok-tell_variable.ensures

pub returns : goal.returns
returns c =
    told_all (node_tree variable_definition_tree) (λ v. variable_uses (judged (schema_tree c.args.schema.now)) v.it) (uses_of c.args.uses.now) c.args.variables.now
    c.loop-variable.variable-index (uses_of c.loop-variable.uses) c.loop-variable-test.false c.loop-variable.invariant
