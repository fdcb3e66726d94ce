use Rattle.std.proofs.Common.{[], List, ap, subst, sym, ◌∙◌}
use Rattle.graphql_names.specs.declared.node.Node.{Node}
use Rattle.tree_operations.specs.declared.operation.VariableDefinition.{VariableDefinition}
use Rattle.graphql_schema.specs.SchemaOf.{schema_tree}
use Rattle.rule_reach.specs.in_typed_operations.DocumentView.{document_meant}
use Rattle.rule_reach.specs.Reach.{meant_fragments}
use Rattle.rule_arguments.specs.in_rule_values.Wanting.{variables_of}
use Rattle.schema_components.proofs.Places.{not_in_nil}
use Rattle.rule_selections.specs.Settled.{Terms, AreCommon}
use Rattle.rule_selections.proofs.Standing.{replaces_itself}
use Rattle.rule_selections.proofs.settled.settled_fragments.Goals as goal

pub returns-then-len-lt2 : goal.returns-then-len-lt2
returns-then-len-lt2 c = λ o among.
    let terms : Terms = record { schema = schema_tree c.args.schema.now; variables = [] } in
    ([], (λ x k. absurd (not_in_nil x k), replaces_itself terms (meant_fragments c.args.document.now.fragments)))

pub returns : goal.returns
returns c = λ o among.
    let common = subst (λ (vs : List (Node VariableDefinition)). AreCommon (document_meant c.args.document.now) (variables_of vs)) (sym (c.in_ok-variables.ensures ∙ c.as_slice.ensures.value)) c.in_ok-definitions.ensures in
    (variables_of c.in_ok-variables.variables, (common o among, c.in_ok-settled_under.ensures))
