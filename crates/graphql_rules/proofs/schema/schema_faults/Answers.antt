use Rattle.std.proofs.Common.{sym, ap, map, subst}
use Rattle.rule_cycles.specs.in_schema.SchemaOf.{schema_tree}
use Rattle.rule_cycles.specs.in_schema.declared.schema.Schema.{Schema}
use Rattle.rule_definitions.specs.Distinct.{AreAllDistinct}
use Rattle.rule_definitions.specs.Rules.{SchemaUsesBreak}
use Rattle.rule_definitions.specs.PlacedFaults.{Told}
use Rattle.fault_data.specs.Adds.{Adds}
use Rattle.fault_data.specs.FaultView.{fault_of, faults_of}
use Rattle.graphql_rules.proofs.Whole.{all_told, first_told, tells_schema}
use Rattle.graphql_rules.proofs.schema.schema_faults.Goals as goal

pub check_schema_directives-requires : goal.check_schema_directives-requires
check_schema_directives-requires c = subst (λ (x : Schema). AreAllDistinct (schema_tree x)) (sym c.new-indexed.ensures) c.requires

pub returns : goal.returns
returns c =
    let s = schema_tree c.args.schema.now in
    let none = faults_of c.new-faults.result in
    let types = faults_of c.check_types.new.faults in
    let interfaces = faults_of c.check_interfaces.new.faults in
    let cycles = faults_of c.check_cycles.new.faults in
    let uses = faults_of c.check_schema_directives.new.faults in
    let is_none = ap (λ l. map fault_of l) c.new-faults.ensures.items in
    let uses_added = subst (λ (x : Schema). Adds c.check_cycles.new.faults c.check_schema_directives.new.faults (Told (schema_tree x) SchemaUsesBreak)) c.new-indexed.ensures c.in_ok-check_schema_directives.ensures in (
      all_told s none types interfaces cycles uses is_none c.in_ok-check_types.ensures c.in_ok-check_interfaces.ensures c.in_ok-check_cycles.ensures uses_added,
      (
        first_told s none types interfaces cycles uses is_none c.in_ok-check_types.ensures c.in_ok-check_interfaces.ensures c.in_ok-check_cycles.ensures uses_added,
        tells_schema s none types interfaces cycles uses is_none c.in_ok-check_types.ensures c.in_ok-check_interfaces.ensures c.in_ok-check_cycles.ensures uses_added,
      ),
    )
