use Rattle.std.proofs.Common.{List, map, ap, subst}
use Rattle.std.proofs.lemmas.Result.{on_ok_weaker}
use Rattle.graphql_names.specs.Placed.{Place}
use Rattle.graphql_names.specs.Node.{content, place}
use Rattle.graphql_names.specs.declared.node.Node.{Node}
use Rattle.tree_literals.specs.ValueTree.{value_tree}
use Rattle.tree_operations.specs.declared.operation.VariableDefinition.{VariableDefinition}
use Rattle.rule_cycles.specs.in_schema.SchemaOf.{schema_tree}
use Rattle.rule_cycles.specs.in_schema.declared.schema.Schema.{Schema}
use Rattle.rule_definitions.specs.in_schema_types.Addresses.{place_at}
use Rattle.rule_definitions.specs.Judged.{judged}
use Rattle.rule_definitions.specs.Values.{ValueBreaks}
use Rattle.rule_definitions.proofs.Accepting.{accepts_where_quiet}
use Rattle.rule_arguments.specs.in_rule_values.Wanting.{wanted_type, variables_of}
use Rattle.fault_data.specs.FaultView.{fault_of, faults_of}
use Rattle.fault_data.specs.Adds.{Adds}
use Rattle.graphql_faults.specs.DetailsView.{diagnostics_of}
use Rattle.graphql_rules.proofs.Appended.{appends_first, silent_where_kept}
use Rattle.graphql_rules.proofs.values.value_of_correct_type.Goals as goal

pub returns-clause-told : goal.returns-clause-told
returns-clause-told c =
    let s = schema_tree c.args.schema.now in
    let v = c.args.value.now in
    let under = subst (λ (x : Schema). Adds c.new-faults.result c.check_value.new.faults (ValueBreaks (place_at (schema_tree x)) (judged (schema_tree x)) (variables_of c.in_ok-variables.variables) (wanted_type c.args.ty.now) (place v) (value_tree (content v)))) c.plain-schema.ensures c.in_ok-check_value.ensures in
    let checked = subst (λ (ds : List (Node VariableDefinition)). Adds c.new-faults.result c.check_value.new.faults (ValueBreaks (place_at s) (judged s) (variables_of ds) (wanted_type c.args.ty.now) (place v) (value_tree (content v)))) c.in_ok-variables.ensures under in
    on_ok_weaker c.append_faults.result
    (appends_first (diagnostics_of c.args.list.now) (diagnostics_of c.append_faults.new.self) (faults_of c.new-faults.result) (faults_of c.check_value.new.faults) _ (ap (λ l. map fault_of l) c.new-faults.ensures.items) checked)
    c.append_faults.ensures.added

pub returns-clause-silent : goal.returns-clause-silent
returns-clause-silent c =
    let s = schema_tree c.args.schema.now in
    let ty = wanted_type c.args.ty.now in
    let v = c.args.value.now in
    let under = subst (λ (x : Schema). Adds c.new-faults.result c.check_value.new.faults (ValueBreaks (place_at (schema_tree x)) (judged (schema_tree x)) (variables_of c.in_ok-variables.variables) ty (place v) (value_tree (content v)))) c.plain-schema.ensures c.in_ok-check_value.ensures in
    let checked = subst (λ (ds : List (Node VariableDefinition)). Adds c.new-faults.result c.check_value.new.faults (ValueBreaks (place_at s) (judged s) (variables_of ds) ty (place v) (value_tree (content v)))) c.in_ok-variables.ensures under in
    let a = accepts_where_quiet (List Place) (place_at s) (judged s) (variables_of c.args.variables.now) ty.it ty.place (place v) (value_tree (content v)) in
    on_ok_weaker c.append_faults.result
    (λ added. let k = silent_where_kept (diagnostics_of c.args.list.now) (diagnostics_of c.append_faults.new.self) _
    (appends_first (diagnostics_of c.args.list.now) (diagnostics_of c.append_faults.new.self) (faults_of c.new-faults.result) (faults_of c.check_value.new.faults) _ (ap (λ l. map fault_of l) c.new-faults.ensures.items) checked added) in
    (λ h. a.1 (k.0 h), λ h. k.1 (a.0 h)))
    c.append_faults.ensures.added
