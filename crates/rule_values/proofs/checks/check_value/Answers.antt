use Rattle.std.proofs.lemmas.Result.{on_ok_weaker}
use Rattle.graphql_names.specs.Node.{content, place}
use Rattle.tree_literals.specs.ValueTree.{value_tree}
use Rattle.graphql_schema.specs.SchemaOf.{schema_tree}
use Rattle.graphql_schema.specs.in_schema_types.Addresses.{place_at}
use Rattle.fault_data.specs.in_rule_definitions.Judged.{judged}
use Rattle.fault_data.specs.in_rule_definitions.Values.{TypeBreaks, UndefinedVariableIn}
use Rattle.rule_values.specs.Wanting.{wanted_type, variables_of}
use Rattle.rule_values.proofs.Adding.{adds_both}
use Rattle.rule_values.proofs.checks.check_value.Goals as goal

pub returns : goal.returns
returns c =
    let s = schema_tree c.args.schema.now in
    let vs = variables_of c.args.variables.now in
    let p = place c.args.value.now in
    let v = value_tree (content c.args.value.now) in
    on_ok_weaker c.undefined_variables.result
    (adds_both c.args.faults.now c.type_breaks.new.faults c.undefined_variables.new.faults (TypeBreaks (place_at s) (judged s) vs (wanted_type c.args.ty.now) p v) (UndefinedVariableIn vs p v) c.in_ok-type_breaks.ensures)
    c.undefined_variables.ensures
