use Rattle.std.proofs.Common.{ap, subst, ◌∙◌}
use Rattle.std.proofs.lemmas.Result.{on_ok_weaker}
use Rattle.graphql_names.specs.Placed.{Place}
use Rattle.tree_directives.specs.DirectiveTree.{Directives}
use Rattle.rule_values.specs.in_schema.SchemaOf.{schema_tree}
use Rattle.rule_values.specs.in_fault_data.Adds.{Adds}
use Rattle.rule_arguments.specs.Trees.{directives_of}
use Rattle.rule_arguments.specs.SchemaUses.{UsesAt}
use Rattle.rule_arguments.proofs.schema_uses.check_applied.Goals as goal

pub returns : goal.returns
returns c =
    let s = schema_tree c.args.schema.now in
    on_ok_weaker c.check_at.result
    (λ h. subst (λ (l : Directives Place). Adds c.args.faults.now c.check_at.new.faults (UsesAt s c.args.location l)) (ap directives_of c.deref.ensures.value ∙ c.in_ok-nodes.ensures) h)
    c.check_at.ensures
