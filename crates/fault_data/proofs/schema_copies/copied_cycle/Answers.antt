use Rattle.std.proofs.Common.{rules}
use Rattle.graphql_names.proofs.Copies.{nodes-copies}
use Rattle.fault_data.specs.DiagnosticView.{plain_input, plain_directive, plain_spread}
use Rattle.fault_data.proofs.schema_copies.copied_cycle.Goals as goal

pub returns-in_ok-name-in-RecursiveInputObjectDefinition : goal.returns-in_ok-name-in-RecursiveInputObjectDefinition
returns-in_ok-name-in-RecursiveInputObjectDefinition c =
    let trace = nodes-copies plain_input _ _ c.in_ok-name-in-RecursiveInputObjectDefinition.ensures.1.0 in
    search (rules, trace)

pub returns-in_ok-name-in-RecursiveDirectiveDefinition : goal.returns-in_ok-name-in-RecursiveDirectiveDefinition
returns-in_ok-name-in-RecursiveDirectiveDefinition c =
    let trace = nodes-copies plain_directive _ _ c.in_ok-name-in-RecursiveDirectiveDefinition.ensures.1.0 in
    search (rules, trace)

pub returns-in_ok-name-in-RecursiveFragmentDefinition : goal.returns-in_ok-name-in-RecursiveFragmentDefinition
returns-in_ok-name-in-RecursiveFragmentDefinition c =
    let trace = nodes-copies plain_spread _ _ c.in_ok-name-in-RecursiveFragmentDefinition.ensures.1.0 in
    search (rules, trace)
