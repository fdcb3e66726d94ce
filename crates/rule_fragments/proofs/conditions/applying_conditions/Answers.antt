use Rattle.std.proofs.Common.{sym, subst}
use Rattle.rule_cycles.specs.in_schema.SchemaOf.{schema_tree}
use Rattle.rule_definitions.specs.Judged.{judged}
use Rattle.rule_fragments.specs.Applying.{MayApplyWhereNoted}
use Rattle.rule_fragments.proofs.WhatApplies.{none_apply}
use Rattle.rule_fragments.proofs.conditions.applying_conditions.Goals as goal
use Rattle.rule_fragments.proofs.conditions.applying_conditions.Goals.{then-len-gt1+in_ok-note_conditions, else-len-gt1}

pub returns-clause-applying : goal.returns-clause-applying
returns-clause-applying c =
    let s = judged (schema_tree c.args.schema.now) in
    elim c.if-len-gt1.branch [
      | then-len-gt1+in_ok-note_conditions w ↦ subst (λ m. MayApplyWhereNoted s m) (sym w.applying-is) w.in_ok-note_conditions.ensures.1
      | else-len-gt1 w ↦ subst (λ m. MayApplyWhereNoted s m) (sym w.applying-is) (none_apply s c.new-applying.result c.new-applying.ensures.empty)
    ]
