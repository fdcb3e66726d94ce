use Rattle.std.proofs.Common.{List, ap, map, sym, subst}
use Rattle.std.proofs.lemmas.Result.{on_ok_weaker}
use Rattle.graphql_names.specs.declared.node.Node.{Node}
use Rattle.tree_directives.specs.declared.directive.Directive.{Directive}
use Rattle.tree_operations.specs.declared.operation.VariableDefinition.{VariableDefinition}
use Rattle.rule_definitions.specs.in_schema_types.Addresses.{place_at}
use Rattle.rule_definitions.specs.Judged.{judged}
use Rattle.rule_definitions.specs.Uses.{UsesBreak}
use Rattle.fault_data.specs.FaultView.{fault_of, faults_of}
use Rattle.fault_data.specs.Adds.{Adds}
use Rattle.rule_arguments.specs.in_rule_values.Wanting.{variables_of}
use Rattle.rule_arguments.specs.Trees.{directives_of, tree_of}
use Rattle.graphql_faults.specs.DetailsView.{diagnostics_of}
use Rattle.graphql_rules.specs.Given.{Each, LeadsToDirective}
use Rattle.graphql_rules.proofs.Appended.{appends_first}
use Rattle.graphql_rules.proofs.given.validate_directives.Goals as goal

pub returns-clause-told : goal.returns-clause-told
returns-clause-told g c =
    let given = c.in_ok-nodes.ensures in
    let s = tree_of c.args.schema in
    let checked = subst (λ (ds : List (Node VariableDefinition)). Adds c.new-faults.result c.check_directives.new.faults (UsesBreak (place_at s) (judged s) (variables_of ds) c.args.location (directives_of c.deref.result.now))) c.in_ok-variables.ensures c.in_ok-check_directives.ensures in
    on_ok_weaker c.append_faults.result
    (λ added. (
      given.0,
      (
        given.1.0,
        (
          given.1.1.0,
          (
            given.1.1.1.0,
            (
              directives_of c.deref.result.now,
              (
                subst (λ (l : List (Node Directive)). Each (LeadsToDirective g.D.Deref.deref_gives) given.1.1.0 (directives_of l)) (sym c.deref.ensures.value) given.1.1.1.1,
                appends_first (diagnostics_of c.args.list.now) (diagnostics_of c.append_faults.new.self) (faults_of c.new-faults.result) (faults_of c.check_directives.new.faults) _
                    (ap (λ l. map fault_of l) c.new-faults.ensures.items) checked added,
              ),
            ),
          ),
        ),
      ),
    ))
    c.append_faults.ensures.added
