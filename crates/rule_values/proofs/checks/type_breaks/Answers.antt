use Rattle.std.proofs.lemmas.Result.{on_ok_weaker}
use Rattle.graphql_names.specs.Node.{content, place}
use Rattle.tree_literals.specs.TypeTree.{type_tree}
use Rattle.tree_literals.specs.ValueTree.{value_tree}
use Rattle.graphql_schema.specs.SchemaOf.{schema_tree}
use Rattle.graphql_schema.specs.in_schema_types.Addresses.{place_at}
use Rattle.fault_data.specs.in_rule_definitions.Judged.{judged}
use Rattle.fault_data.specs.in_rule_definitions.Values.{TypeBreaks}
use Rattle.rule_values.specs.Wanting.{wanted_type, variables_of}
use Rattle.rule_values.specs.ValueFaults.{type_faults}
use Rattle.rule_values.proofs.Adding.{adds_told}
use Rattle.rule_values.proofs.TypesTold.{types_told}
use Rattle.rule_values.proofs.checks.type_breaks.Goals as goal

pub returns : goal.returns
returns c =
    let s = schema_tree c.args.schema.now in
    let vs = variables_of c.args.variables.now in
    let ty = type_tree (content c.args.ty.now) in
    let q = place c.args.ty.now in
    let p = place c.args.value.now in
    let v = value_tree (content c.args.value.now) in
    on_ok_weaker c.tell_type_faults.result
    (adds_told c.args.faults.now c.tell_type_faults.new.faults (type_faults s vs ty q p v) (TypeBreaks (place_at s) (judged s) vs (wanted_type c.args.ty.now) p v) (types_told s vs ty q p v))
    c.tell_type_faults.ensures
