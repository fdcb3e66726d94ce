use Rattle.std.proofs.Common.{sym, ◌∙◌, subst}
use Rattle.rule_cycles.specs.in_schema.SchemaOf.{schema_tree}
use Rattle.fault_data.specs.FaultView.{faults_of}
use Rattle.rule_definitions.specs.Judged.{judged}
use Rattle.rule_reach.specs.Reach.{meant_fragments, reached_members, reached_fragments_of}
use Rattle.rule_fragments.specs.Possible.{ArePossible, ArePossibleIfFound}
use Rattle.rule_fragments.proofs.Spread.{gains_applications, gains_on_their_types}
use Rattle.rule_fragments.proofs.applications.check_applications.Goals as goal

pub returns-then-all_are_on_their_types-clause-told : goal.returns-then-all_are_on_their_types-clause-told
returns-then-all_are_on_their_types-clause-told c = λ d o reach same possible.
    let r = c.args.reach.now in
    gains_on_their_types d o (reached_members r) (reached_fragments_of r) reach (schema_tree c.args.schema.now) (meant_fragments c.args.fragments.now) same
    (sym c.all_are_on_their_types.ensures ∙ c.if-all_are_on_their_types.true)
    (faults_of c.args.faults.now) (faults_of c.check_targets.new.faults) (c.in_ok-check_targets.ensures d o reach)

pub returns-clause-told : goal.returns-clause-told
returns-clause-told c = λ d o reach same possible.
    let s = schema_tree c.args.schema.now in
    let r = c.args.reach.now in
    let right = c.in_ok-types.ensures.right (subst (ArePossibleIfFound (judged s)) (sym c.take.ensures.value) possible) in
    gains_applications d o (reached_members r) (reached_fragments_of r) reach s c.in_ok-types.types right (meant_fragments c.args.fragments.now) same
    (faults_of c.args.faults.now) (faults_of c.check_targets.new.faults) (faults_of c.check_fragment_spreads.new.faults) (c.in_ok-check_targets.ensures d o reach) c.in_ok-check_fragment_spreads.ensures.told

pub returns-clause-right : goal.returns-clause-right
returns-clause-right c = λ possible.
    let s = judged (schema_tree c.args.schema.now) in
    subst (ArePossible s) (sym c.in_ok-check_fragment_spreads.ensures.same) (c.in_ok-types.ensures.right (subst (ArePossibleIfFound s) (sym c.take.ensures.value) possible))
