-- The places of a cycle.
use Rattle.std.proofs.Common.{◌≡◌, List, [], ◌∷◌, map, refl, ap}
use Rattle.std.specs.Prelude.{Vec}
use Rattle.std.specs.declared.alloc.Global.{Global}
use Rattle.graphql_names.specs.Node.{place}
use Rattle.graphql_names.specs.Placed.{node_tree}
use Rattle.graphql_names.specs.declared.node.Node.{Node}
use Rattle.tree_directives.specs.declared.directive.Directive.{Directive}
use Rattle.tree_directives.specs.declared.input_value.InputValueDefinition.{InputValueDefinition}
use Rattle.document_typed_selections.specs.declared.selection.FragmentSpread.{FragmentSpread}
use Rattle.fault_data.specs.DiagnosticView.{trace_of, plain_input, plain_directive, plain_spread}
use Rattle.graphql_report.specs.ToldPlaces.{in_cycle, each_in_cycle}

each_of : {A B : Type 0} (f : A → B) (ns : List (Node A)) → each_in_cycle (map (node_tree f) ns) ≡ map (λ node. in_cycle (place node)) ns
each_of f [] = refl
each_of f (n ∷ ns) = ap (λ l. in_cycle (place n) ∷ l) (each_of f ns)

pub inputs_in_cycle : (trace : Vec (Node InputValueDefinition) Global) → each_in_cycle (trace_of plain_input trace) ≡ map (λ node. in_cycle (place node)) trace.items
inputs_in_cycle trace = each_of plain_input trace.items

pub directives_in_cycle : (trace : Vec (Node Directive) Global) → each_in_cycle (trace_of plain_directive trace) ≡ map (λ node. in_cycle (place node)) trace.items
directives_in_cycle trace = each_of plain_directive trace.items

pub spreads_in_cycle : (trace : Vec (Node FragmentSpread) Global) → each_in_cycle (trace_of plain_spread trace) ≡ map (λ node. in_cycle (place node)) trace.items
spreads_in_cycle trace = each_of plain_spread trace.items
