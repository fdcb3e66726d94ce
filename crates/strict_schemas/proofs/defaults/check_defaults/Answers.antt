use Rattle.std.proofs.Common.{map, subst}
use Rattle.std.proofs.lemmas.Result.{on_ok_weaker}
use Rattle.graphql_schema.specs.SchemaOf.{schema_tree}
use Rattle.graphql_schema.specs.declared.schema.Schema.{Schema}
use Rattle.rule_definitions.proofs.Adding.{gains_both, gains_same}
use Rattle.fault_data.specs.Adds.{Adds}
use Rattle.fault_data.specs.FaultView.{faults_of}
use Rattle.strict_schemas.specs.FaultsIn.{TypesDefaults, DefinitionsDefaults}
use Rattle.strict_schemas.specs.Told.{type_entry, definition_entry}
use Rattle.strict_schemas.proofs.DefaultsTold.{defaults_told}
use Rattle.strict_schemas.proofs.defaults.check_defaults.Goals as goal

pub returns : goal.returns
returns c =
    let s = schema_tree c.args.schema.now in
    let a = faults_of c.args.faults.now in
    let b = faults_of c.check_types.new.faults in
    let d = faults_of c.check_definitions.new.faults in
    on_ok_weaker c.check_definitions.result
    (λ told. gains_same a d (defaults_told s)
    (gains_both a b d
    (subst (λ (x : Schema). Adds c.args.faults.now c.check_types.new.faults (TypesDefaults s (map type_entry x.types.entries))) c.schema-whole.ensures c.in_ok-check_types.ensures)
    (subst (λ (x : Schema). Adds c.check_types.new.faults c.check_definitions.new.faults (DefinitionsDefaults s (map definition_entry x.directive_definitions.entries))) c.schema-whole.ensures told)))
    c.check_definitions.ensures
