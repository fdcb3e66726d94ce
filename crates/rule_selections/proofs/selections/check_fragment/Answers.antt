use Rattle.std.proofs.Common.{ap, subst, ◌∙◌}
use Rattle.std.proofs.lemmas.Result.{on_ok_weaker}
use Rattle.graphql_names.specs.Placed.{Place}
use Rattle.tree_directives.specs.DirectiveTree.{Directives, directives_tree}
use Rattle.tree_directives.specs.declared.directive_location.DirectiveLocation.TheVariants as location
use Rattle.schema_types.specs.Addresses.{place_at}
use Rattle.graphql_schema.specs.SchemaOf.{schema_tree}
use Rattle.document_typed_operations.specs.declared.operation.Fragment.{Fragment}
use Rattle.fault_data.specs.Adds.{Adds}
use Rattle.rule_definitions.specs.Judged.{judged}
use Rattle.rule_definitions.specs.Uses.{UsesBreak}
use Rattle.rule_arguments.specs.in_rule_values.Wanting.{variables_of}
use Rattle.rule_arguments.specs.Trees.{directives_of}
use Rattle.rule_selections.proofs.selections.check_fragment.Goals as goal

pub returns : goal.returns
returns c =
    let s = schema_tree c.args.schema.now in
    on_ok_weaker c.check_uses.result
    (λ h. subst (λ (l : Directives Place). Adds c.args.faults.now c.check_uses.new.faults (UsesBreak (place_at s) (judged s) (variables_of c.args.variables.now) location.FragmentDefinition l))
    (ap directives_of c.deref.ensures.value ∙ ap (λ (g : Fragment). directives_tree g.directives) c.content.ensures) h)
    c.check_uses.ensures
