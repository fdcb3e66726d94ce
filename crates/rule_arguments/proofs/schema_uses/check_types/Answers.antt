use Rattle.std.proofs.Common.{ℕ, List, map, subst}
use Rattle.std.specs.Borrow.{Bor}
use Rattle.std.proofs.lemmas.Iterator.Consumers.{YieldsList-end, YieldsList-from_rest}
use Rattle.graphql_names.specs.NameValue.{NameValue}
use Rattle.graphql_names.specs.Placed.{Place}
use Rattle.rule_values.specs.in_schema.in_schema_types.SchemaTree.{SchemaType}
use Rattle.rule_values.specs.in_schema.in_schema_types.TypeView.{name_text, extended_type}
use Rattle.rule_values.specs.in_schema.in_schema_types.declared.extended_type.ExtendedType.{ExtendedType}
use Rattle.rule_values.specs.in_schema.SchemaOf.{schema_tree}
use Rattle.rule_values.specs.in_fault_data.FaultView.{faults_of}
use Rattle.rule_values.specs.in_fault_data.Adds.{Adds}
use Rattle.rule_arguments.specs.SchemaUses.{TypeUses, TypesUses}
use Rattle.rule_values.proofs.in_fault_data.Adding.{gains_none, gains_more, gains_both}
use Rattle.rule_arguments.proofs.SchemaSteps.{pairs_more}
use Rattle.rule_arguments.proofs.schema_uses.check_types.Goals as goal

pub loop-ty-init : goal.loop-ty-init
loop-ty-init c =
    let s = schema_tree c.args.schema.now in
    gains_none {X = List ℕ × SchemaType Place} (faults_of c.args.faults.now) (λ k e f. TypeUses s e.1 f)

pub loop-ty-preserved : goal.loop-ty-preserved
loop-ty-preserved c =
    let s = schema_tree c.args.schema.now in
    let g : NameValue × ExtendedType → List ℕ × SchemaType Place = λ e. (name_text e.0, extended_type e.1) in
    let d : (Bor NameValue × Bor ExtendedType) → NameValue × ExtendedType = λ e. (e.0.now, e.1.now) in
    let now = faults_of c.loop-ty.faults in
    let after = faults_of c.check_parts.new.faults in
    gains_more (faults_of c.args.faults.now) now after (map g (map d c.loop-ty.yielded)) _ _
    (λ k e f. TypeUses s e.1 f) (pairs_more g d c.loop-ty.yielded _) c.loop-ty.invariant
    (gains_both now (faults_of c.check_own.new.faults) after c.in_ok-check_own.ensures c.in_ok-check_parts.ensures)

pub returns : goal.returns
returns c =
    let all = YieldsList-end (YieldsList-from_rest c.args.types.now.entries c.into_iter-ty-iterator.ensures.into_iter_gives.0) c.loop-ty.yielded c.loop-ty.ty-iterator c.loop-ty.yielded_by c.next.result c.next.new.self c.in-None.is c.next.ensures.steps in
    subst (λ (l : List (NameValue × ExtendedType)). Adds c.args.faults.now c.loop-ty.faults (TypesUses (schema_tree c.args.schema.now) (map (λ e. (name_text e.0, extended_type e.1)) l))) all.0 c.loop-ty.invariant
