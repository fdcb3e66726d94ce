-- Private: leads to `UndefinedVariableIn`. The faults of the variables in a value as a list, in the order in which they are told.
use Rattle.std.specs.Prelude.{List, [], ◌∷◌, ◌++◌, find, bytes_eq}
use Rattle.std.specs.Option.{option_map_or}
use Rattle.graphql_names.specs.Placed.{Place, Text}
use Rattle.tree_literals.specs.ValueTree.{ValueTree, ItemTrees, EntryTrees, VariableTree, ListTree, ObjectTree, no_items, item_then, no_entries, entry_then}
use Rattle.fault_data.specs.in_rule_definitions.Diagnostics.{UndefinedVariable}
use Rattle.fault_data.specs.in_rule_definitions.Faults.{wrong}
use Rattle.fault_data.specs.in_rule_definitions.Names.{defined_name}
use Rattle.fault_data.specs.in_rule_definitions.GivenValues.{Variables}
use Rattle.fault_data.specs.in_rule_definitions.PlacedFaults.{PlacedFault}

module _ (variables : Variables Place) where
  abbrev pub undefined_variable : Place → Text Place → List PlacedFault
  undefined_variable p n = option_map_or (λ v. []) (find (λ v. bytes_eq (defined_name v) n.it) variables) (wrong p (UndefinedVariable n.it) ∷ [])

  abbrev mutual
    pub variable_faults : Place → ValueTree Place → List PlacedFault
    variable_faults p (VariableTree n) = undefined_variable p n
    variable_faults p (ListTree ts) = variable_faults_items ts
    variable_faults p (ObjectTree es) = variable_faults_entries es
    variable_faults p v = []

    pub variable_faults_items : ItemTrees Place → List PlacedFault
    variable_faults_items no_items = []
    variable_faults_items (item_then p v ts) = variable_faults p v ++ variable_faults_items ts

    pub variable_faults_entries : EntryTrees Place → List PlacedFault
    variable_faults_entries no_entries = []
    variable_faults_entries (entry_then n p v es) = variable_faults p v ++ variable_faults_entries es
