use Rattle.std.proofs.Common.{ap, sym, subst}
use Rattle.rule_field_groups.specs.in_definitions.Judged.{judged}
use Rattle.rule_field_groups.specs.in_sets.in_schema.SchemaOf.{schema_tree}
use Rattle.rule_field_groups.specs.in_sets.in_reach.Fields.{meant_fragments}
use Rattle.rule_field_groups.specs.Paid.{Account}
use Rattle.rule_merging.specs.Verdict.{IsCountedIn}
use Rattle.rule_field_groups.specs.MergeState.{kept_of}
use Rattle.rule_field_groups.specs.declared.pass.Pass.TheVariants.{Shapes, Selections}
use Rattle.rule_merging.proofs.Examining.{nothing_settled}
use Rattle.rule_merging.proofs.Counting.{none_counted}
use Rattle.rule_merging.proofs.operation.Examined.new.Goals as goal

pub returns-clause-sets : goal.returns-clause-sets
returns-clause-sets c = record {
  are = c.new.ensures.sets;
  schema = λ i. judged (schema_tree (c.new.ensures.schema i).now);
  fragments = λ i. meant_fragments (c.new.ensures.fragments i).now;
}

pub returns-clause-settled : goal.returns-clause-settled
returns-clause-settled c s d =
    let w = c.new.result in
    (nothing_settled Shapes s d (kept_of w c.new-2.result) (c.new-2.ensures.kept w), nothing_settled Selections s d (kept_of w c.new-3.result) (c.new-3.ensures.kept w))

pub returns-clause-none : goal.returns-clause-none
returns-clause-none c = ap (λ (a : Account). a.comparisons) (c.new-2.ensures.account c.new.result)

pub returns-clause-lists : goal.returns-clause-lists
returns-clause-lists c = ap (λ (a : Account). a.lists) (c.new-2.ensures.account c.new.result)

pub returns-clause-counted : goal.returns-clause-counted
returns-clause-counted c d os = subst (IsCountedIn d os) (sym (c.new-2.ensures.account c.new.result)) (none_counted d os)
