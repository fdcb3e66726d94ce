-- What an iterator gives, and what is told of the directives that it gives, and of a variable that is given for an argument (GraphQL,
-- October 2021, sections 5.7 and 5.8.5).
use Rattle.std.specs.Prelude.{◌≡◌, List, [], ◌∷◌, ⊤, Option}
use Rattle.std.specs.Borrow.{Bor}
use Rattle.std.specs.Iterator.{DrainsIf}
use Rattle.graphql_names.specs.Node.{content}
use Rattle.graphql_names.specs.Placed.{Placed, Place, node_tree}
use Rattle.graphql_names.specs.declared.node.Node.{Node}
use Rattle.tree_literals.specs.TypeTree.{unplaced_type}
use Rattle.tree_literals.specs.ValueQueries.{variable_name}
use Rattle.tree_directives.specs.DirectiveTree.{ArgumentTree, DirectiveTree, Directives, InputValueTree, argument_tree, directive_tree, input_value_tree, unplaced_input_value}
use Rattle.tree_directives.specs.declared.directive.Argument.{Argument}
use Rattle.tree_directives.specs.declared.directive.Directive.{Directive}
use Rattle.tree_directives.specs.declared.directive_location.DirectiveLocation.{DirectiveLocation}
use Rattle.tree_directives.specs.declared.input_value.InputValueDefinition.{InputValueDefinition}
use Rattle.tree_operations.specs.declared.operation.VariableDefinition.{VariableDefinition}
use Rattle.rule_cycles.specs.in_schema.declared.schema.Schema.{Schema}
use Rattle.rule_definitions.specs.in_schema_types.Addresses.{place_at}
use Rattle.rule_definitions.specs.Diagnostics.{DisallowedVariableUsage}
use Rattle.rule_definitions.specs.Faults.{wrong}
use Rattle.rule_definitions.specs.Judged.{judged}
use Rattle.rule_definitions.specs.Words.{Present, FirstNamed}
use Rattle.rule_definitions.specs.Names.{defined_name, argument_name}
use Rattle.rule_definitions.specs.GivenValues.{Variables}
use Rattle.rule_definitions.specs.VariableUsage.{IsVariableUsageAllowed}
use Rattle.rule_definitions.specs.Uses.{UsesBreak}
use Rattle.rule_definitions.specs.PlacedFaults.{PlacedFault}
use Rattle.rule_arguments.specs.in_rule_values.Wanting.{variables_of}
use Rattle.rule_arguments.specs.Trees.{tree_of}
use Rattle.graphql_faults.specs.DetailsView.{diagnostics_of}
use Rattle.graphql_faults.specs.declared.diagnostic_list.DiagnosticList.{DiagnosticList}
use Rattle.graphql_faults.specs.DetailsTree.{Telling}
use Rattle.graphql_rules.specs.Appends.{Appends}

-- two lists of one length: `Gives` holds of the items at each index
abbrev pub Each : {A B : Type 0} → (A → B → Type 0) → List A → List B → Type 0
Each Gives [] [] = ⊤
Each Gives (x ∷ xs) (y ∷ ys) = Gives x y × Each Gives xs ys
Each Gives xs ys = ⊥

-- the item x leads to a node that is this directive
abbrev pub LeadsToDirective : {A : Type 0} → (A → Node Directive → Type 0) → A → Placed Place (DirectiveTree Place) → Type 0
LeadsToDirective Gives x d = (n : Node Directive) × (Gives x n × (node_tree directive_tree n ≡ d))

-- `gives` says into which iterator c is made, `steps` what the iterator's steps give, `leads` to which node an item leads
module _ {C S A : Type 0} (gives : C → S → Type 0) (steps : S → Option A → S → Type 0) (leads : A → Node Directive → Type 0) (c : C) where
  -- the items of an iterator made from c lead, in order, to directives that satisfy `AreSo`
  abbrev pub GivesDirectives : (Directives Place → Type 0) → Type 0
  GivesDirectives AreSo = (it : S) × (gives c it × ((all : List A) × (DrainsIf steps ⊤ it all × ((ds : Directives Place) × (Each (LeadsToDirective leads) all ds × AreSo ds)))))

  -- the new list is the old one, then the first 1,000 of the faults of these directives, used at one place of a schema or a document, with
  -- the variables of an operation or none
  abbrev pub UsesTold : Option (Bor Schema) → List (Node VariableDefinition) → DirectiveLocation → DiagnosticList → DiagnosticList → Type 0
  UsesTold schema variables location old new =
      GivesDirectives (λ ds. Appends (diagnostics_of old) (diagnostics_of new)
      (UsesBreak (place_at (tree_of schema)) (judged (tree_of schema)) (variables_of variables) location ds))

-- the value given for the argument is a defined variable that must not be used there, and this is the fault
abbrev pub UsageBreaks : Variables Place → InputValueTree (Unit {0}) → Placed Place (ArgumentTree Place) → PlacedFault → Type 0
UsageBreaks variables v a fault = Present (variable_name a.it.value.it) (λ n. FirstNamed defined_name variables n.it (λ k x.
    (IsVariableUsageAllowed x.it v → ⊥)
    × (fault ≡ wrong a.place (DisallowedVariableUsage n.it (unplaced_type x.it.ty.it) x.place (argument_name a) v.ty.it a.place))))

-- the new list is the old one, then the fault of the value given for the argument of this definition, if it is such a variable
abbrev pub UsageTold : List (Node VariableDefinition) → Node InputValueDefinition → Node Argument → Telling → Telling → Type 0
UsageTold variables definition argument old new =
    Appends old new (UsageBreaks (variables_of variables) (unplaced_input_value (input_value_tree (content definition))) (node_tree argument_tree argument))
