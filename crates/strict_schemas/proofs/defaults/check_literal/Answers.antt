use Rattle.std.proofs.Common.{List, subst}
use Rattle.std.proofs.lemmas.Result.{on_ok_weaker}
use Rattle.graphql_names.specs.Node.{content, place}
use Rattle.graphql_names.specs.declared.node.Node.{Node}
use Rattle.tree_literals.specs.ValueTree.{value_tree}
use Rattle.tree_operations.specs.declared.operation.VariableDefinition.{VariableDefinition}
use Rattle.schema_types.specs.Addresses.{place_at}
use Rattle.graphql_schema.specs.SchemaOf.{schema_tree}
use Rattle.rule_definitions.specs.Judged.{judged}
use Rattle.rule_definitions.specs.Values.{TypeBreaks}
use Rattle.rule_definitions.proofs.Adding.{gains_both}
use Rattle.fault_data.specs.Adds.{Adds}
use Rattle.fault_data.specs.FaultView.{faults_of}
use Rattle.rule_values.specs.Wanting.{wanted_type, variables_of}
use Rattle.strict_schemas.proofs.defaults.check_literal.Goals as goal

pub returns : goal.returns
returns c =
    let s = schema_tree c.args.schema.now in
    let v = c.args.value.now in
    on_ok_weaker c.type_breaks.result
    (λ told. gains_both (faults_of c.args.faults.now) (faults_of c.unique_input_values.new.faults) (faults_of c.type_breaks.new.faults) c.in_ok-unique_input_values.ensures
    (subst (λ (vs : List (Node VariableDefinition)). Adds c.unique_input_values.new.faults c.type_breaks.new.faults (TypeBreaks (place_at s) (judged s) (variables_of vs) (wanted_type c.args.ty.now) (place v) (value_tree (content v)))) c.listed-variables.ensures told))
    c.type_breaks.ensures
