use Rattle.std.proofs.Common.{ap, map}
use Rattle.std.proofs.lemmas.Result.{on_ok_weaker}
use Rattle.fault_data.specs.FaultView.{fault_of, faults_of}
use Rattle.rule_arguments.specs.Alone.{ArgumentsBreak}
use Rattle.rule_arguments.specs.Trees.{arguments_of}
use Rattle.graphql_faults.specs.DetailsView.{diagnostics_of}
use Rattle.graphql_rules.proofs.Appended.{appends_first}
use Rattle.graphql_rules.proofs.given.validate_arguments.Goals as goal

pub returns-clause-told : goal.returns-clause-told
returns-clause-told c =
    on_ok_weaker c.append_faults.result
    (appends_first (diagnostics_of c.args.list.now) (diagnostics_of c.append_faults.new.self) (faults_of c.new-faults.result) (faults_of c.check_arguments_alone.new.faults)
    (ArgumentsBreak (arguments_of c.args.arguments.now)) (ap (λ l. map fault_of l) c.new-faults.ensures.items) c.in_ok-check_arguments_alone.ensures)
    c.append_faults.ensures.added
