use Rattle.std.proofs.Common.{ℕ, List, map, subst}
use Rattle.std.specs.Borrow.{Bor}
use Rattle.std.proofs.lemmas.Iterator.Consumers.{YieldsList-end, YieldsList-from_rest}
use Rattle.graphql_names.specs.NameValue.{NameValue}
use Rattle.graphql_names.specs.Placed.{Place}
use Rattle.schema_types.specs.SchemaTree.{SchemaType}
use Rattle.schema_types.specs.declared.extended_type.ExtendedType.{ExtendedType}
use Rattle.graphql_schema.specs.SchemaOf.{schema_tree}
use Rattle.rule_definitions.proofs.Adding.{gains_none, gains_more, gains_both}
use Rattle.fault_data.specs.Adds.{Adds}
use Rattle.fault_data.specs.FaultView.{faults_of}
use Rattle.strict_schemas.specs.FaultsIn.{TypeDefaults, TypesDefaults}
use Rattle.strict_schemas.specs.Told.{type_entry}
use Rattle.strict_schemas.proofs.Pairs.{pairs_more}
use Rattle.strict_schemas.proofs.defaults.check_types.Goals as goal

pub loop-ty-init : goal.loop-ty-init
loop-ty-init c = gains_none {X = List ℕ × SchemaType Place} (faults_of c.args.faults.now) (λ k e f. TypeDefaults (schema_tree c.args.schema.now) e.1 f)

pub loop-ty-preserved : goal.loop-ty-preserved
loop-ty-preserved c =
    let d : (Bor NameValue × Bor (ExtendedType)) → NameValue × ExtendedType = λ e. (e.0.now, e.1.now) in
    gains_more (faults_of c.args.faults.now) (faults_of c.loop-ty.faults) (faults_of c.check_inputs_of.new.faults) (map type_entry (map d c.loop-ty.yielded)) _ _
    (λ k e f. TypeDefaults (schema_tree c.args.schema.now) e.1 f) (pairs_more type_entry d c.loop-ty.yielded _) c.loop-ty.invariant
    (gains_both (faults_of c.loop-ty.faults) (faults_of c.check_fields_of.new.faults) (faults_of c.check_inputs_of.new.faults) c.in_ok-check_fields_of.ensures c.in_ok-check_inputs_of.ensures)

pub returns : goal.returns
returns c =
    let all = YieldsList-end (YieldsList-from_rest c.args.types.now.entries c.into_iter-ty-iterator.ensures.into_iter_gives.0) c.loop-ty.yielded c.loop-ty.ty-iterator c.loop-ty.yielded_by c.next.result c.next.new.self c.in-None.is c.next.ensures.steps in
    subst (λ (l : List (NameValue × ExtendedType)). Adds c.args.faults.now c.loop-ty.faults (TypesDefaults (schema_tree c.args.schema.now) (map type_entry l))) all.0 c.loop-ty.invariant
