use Rattle.std.proofs.Common.{take, ap, subst}
use Rattle.rule_cycles.specs.in_schema.SchemaOf.{schema_tree}
use Rattle.schema_types.specs.SchemaView.{types_view}
use Rattle.rule_definitions.specs.Judged.{judged}
use Rattle.rule_definitions.specs.Room.{most_told}
use Rattle.graphql_faults.specs.DetailsView.{diagnostics_of}
use Rattle.graphql_rules.specs.Appends.{AppendsThese}
use Rattle.graphql_rules.proofs.Whole.{silent_keeps, kept_is_silent}
use Rattle.graphql_rules.proofs.Appended.{nothing_after, after_nothing, none_of_all}
use Rattle.rule_schema_laws.proofs.Ordered.{ordered}
use Rattle.graphql_rules.proofs.Lawful.{left_is, ordered_left, literals_left}
use Rattle.graphql_rules.proofs.schema.validate_schema.Goals as goal

pub returns-clause-told : goal.returns-clause-told
returns-clause-told c =
    let all = c.in_ok-faults.ensures.0 in
    (all, (subst (AppendsThese (diagnostics_of c.args.list.now) (diagnostics_of c.append_faults.new.self)) c.in_ok-faults.ensures.1.0 c.in_ok-append_faults.ensures.added, c.in_ok-faults.ensures.1.1))

pub returns-clause-silent : goal.returns-clause-silent
unfolding returns-clause-told
returns-clause-silent c =
    let told = c.in_ok-faults.ensures in
    λ same. silent_keeps (schema_tree c.args.schema.now) told.0 told.1.1
    (none_of_all told.0 (nothing_after (diagnostics_of c.args.list.now) (diagnostics_of c.append_faults.new.self) (take most_told told.0) (returns-clause-told c).1.0 same))

pub returns-clause-accepts : goal.returns-clause-accepts
unfolding returns-clause-told
returns-clause-accepts c =
    let told = c.in_ok-faults.ensures in
    λ rules within. after_nothing (diagnostics_of c.args.list.now) (diagnostics_of c.append_faults.new.self) (take most_told told.0) (returns-clause-told c).1.0
    (ap (take most_told) (kept_is_silent (schema_tree c.args.schema.now) told.0 told.1.1 rules within))

pub returns-clause-kept : goal.returns-clause-kept
returns-clause-kept c = left_is (schema_tree c.args.schema.now) (types_view c.in_ok-types.types) c.in_ok-types.ensures

pub returns-clause-was_ordered : goal.returns-clause-was_ordered
returns-clause-was_ordered c = λ same. ordered (judged (schema_tree c.args.schema.now)) (returns-clause-silent c same)

pub returns-clause-ordered : goal.returns-clause-ordered
returns-clause-ordered c = λ same. ordered_left c.args.schema.now _ (returns-clause-kept c) c.names_differ.ensures (returns-clause-silent c same)

pub returns-clause-literals : goal.returns-clause-literals
returns-clause-literals c = λ same. literals_left c.args.schema.now _ (returns-clause-kept c) c.names_differ.ensures (returns-clause-silent c same)
