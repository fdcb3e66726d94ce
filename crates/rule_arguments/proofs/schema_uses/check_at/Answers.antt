use Rattle.std.proofs.Common.{List, subst}
use Rattle.std.proofs.lemmas.Result.{on_ok_weaker}
use Rattle.graphql_names.specs.declared.node.Node.{Node}
use Rattle.tree_operations.specs.declared.operation.VariableDefinition.{VariableDefinition}
use Rattle.rule_values.specs.in_schema.in_schema_types.Addresses.{place_at}
use Rattle.rule_values.specs.in_schema.SchemaOf.{schema_tree}
use Rattle.rule_values.specs.in_rule_definitions.Judged.{judged}
use Rattle.rule_values.specs.in_rule_definitions.Uses.{UsesBreak}
use Rattle.rule_values.specs.in_fault_data.Adds.{Adds}
use Rattle.rule_values.specs.Wanting.{variables_of}
use Rattle.rule_arguments.specs.Trees.{directives_of}
use Rattle.rule_arguments.proofs.schema_uses.check_at.Goals as goal

pub returns : goal.returns
returns c =
    let s = schema_tree c.args.schema.now in
    on_ok_weaker c.check_uses.result
    (λ h. subst (λ (vs : List (Node VariableDefinition)). Adds c.args.faults.now c.check_uses.new.faults (UsesBreak (place_at s) (judged s) (variables_of vs) c.args.location (directives_of c.args.directives.now))) c.listed-variables.ensures h)
    c.check_uses.ensures
