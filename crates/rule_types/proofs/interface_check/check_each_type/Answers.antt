use Rattle.std.proofs.Common.{length, ap, ◌∙◌}
use Rattle.std.proofs.lemmas.Iterator.Consumers.{YieldsList-turn, YieldsList-so_far, YieldsList-from_rest}
use Rattle.graphql_names.specs.NameValue.{NameValue}
use Rattle.schema_types.specs.TypeView.{name_text, extended_type}
use Rattle.schema_types.specs.declared.extended_type.ExtendedType.{ExtendedType}
use Rattle.fault_data.specs.FaultView.{faults_of}
use Rattle.fault_data.specs.Room.{◌⊕◌}
use Rattle.rule_types.specs.InterfaceFaults.{type_faults, types_faults}
use Rattle.rule_types.specs.InterfaceTrees.{schema_of}
use Rattle.rule_types.proofs.Standing.{entry_stands}
use Rattle.rule_types.proofs.Telling.{full_rest}
use Rattle.rule_types.proofs.interface_check.check_each_type.Goals as goal

pub check_type-requires : goal.check_type-requires
check_type-requires c =
    let all = c.args.judging.now.schema.now.types.entries in
    let turn = YieldsList-turn (YieldsList-from_rest all c.into_iter-name-iterator.ensures.into_iter_gives.0) c.loop-name.yielded c.loop-name.name-iterator c.loop-name.yielded_by c.next.result c.next.new.self (c.in-Some.name, c.in-Some.ty) c.in-Some.is c.next.ensures.steps in
    (c.requires.inputs, entry_stands all _ (c.in-Some.name.now, c.in-Some.ty.now) c.requires.distinct.types turn.0 turn.1)

pub returns-then-is_full : goal.returns-then-is_full
returns-then-is_full c =
    let all = c.args.judging.now.schema.now.types.entries in
    let old = faults_of c.args.faults.now in
    let s = schema_of c.args.judging.now in
    let told = λ (e : NameValue × ExtendedType). type_faults s (name_text e.0) (extended_type e.1) in
    let seen = YieldsList-so_far (YieldsList-from_rest all c.into_iter-name-iterator.ensures.into_iter_gives.0) c.loop-name.yielded c.loop-name.name-iterator c.loop-name.yielded_by in
    full_rest told old _ all (length c.loop-name.yielded) (c.loop-name.invariant ∙ ap (λ es. old ⊕ types_faults s es) seen) (c.is_full.ensures.0 c.if-is_full.true)
