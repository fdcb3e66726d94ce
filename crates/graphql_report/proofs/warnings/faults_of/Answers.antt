use Rattle.std.proofs.Common.{◌≡◌, ◌∙◌, List, [], ◌++◌, map, take, ap, subst}
use Rattle.fault_data.specs.FaultView.{fault_of}
use Rattle.fault_data.specs.declared.fault.Fault.{Fault}
use Rattle.fault_data.specs.in_rule_definitions.PlacedFaults.{PlacedFault}
use Rattle.fault_data.specs.in_rule_definitions.Room.{◌⊕◌, most_told}
use Rattle.fault_data.proofs.in_rule_definitions.Room.{room_first}
use Rattle.graphql_faults.specs.DetailsTree.{DetailsAt, of_rule}
use Rattle.graphql_faults.specs.DetailsView.{diagnostics_of}
use Rattle.graphql_names.specs.Placed.{Place}
use Rattle.graphql_schema.specs.SchemaOf.{schema_tree}
use Rattle.graphql_schema.specs.declared.schema.Schema.{Schema}
use Rattle.graphql_report.specs.Warnings.{AreDefaultFaults}
use Rattle.graphql_report.proofs.warnings.faults_of.Goals as goal

pub returns : goal.returns
returns c =
    let (added, told) = c.in_ok-default_faults.ensures in
    let list = diagnostics_of c.append_faults.new.self in
    subst (λ (s : Schema). AreDefaultFaults (schema_tree s) list) c.indexed.ensures (
      added,
      (
        c.in_ok-append_faults.ensures.added ∙ ap (λ (l : List (DetailsAt Place (List Place))). l ++ map of_rule (map fault_of c.default_faults.new.faults.items)) c.new-list.ensures
            ∙ ap (map of_rule) (told.0 ∙ ap (λ (fs : List Fault). map fault_of fs ⊕ added) c.new-faults.ensures.items ∙ room_first added),
        told.1,
      ),
    )
