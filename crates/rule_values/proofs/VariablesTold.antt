-- The list of faults of the variables in a value tells the rule on them.
use Rattle.std.proofs.Common.{◌≡◌, zero, suc, Bool, true, false, List, [], ◌∷◌, find, bytes_eq, if◌then◌else◌, Some, refl, subst}
use Rattle.std.specs.Bool.{Decides}
use Rattle.std.specs.Option.{option_map_or}
use Rattle.std.proofs.lemmas.Slice.Eq.{bytes_eq-Decides}
use Rattle.graphql_names.specs.Placed.{Placed, Place}
use Rattle.tree_literals.specs.ValueTree.{ValueTree, ItemTrees, EntryTrees, NullTree, EnumTree, VariableTree, StringTree, FloatTree, IntTree, BooleanTree, ListTree, ObjectTree, no_items, item_then, no_entries, entry_then}
use Rattle.tree_operations.specs.OperationTree.{VariableDefinitionTree}
use Rattle.fault_data.specs.in_rule_definitions.Diagnostics.{UndefinedVariable}
use Rattle.fault_data.specs.in_rule_definitions.Words.{AtSomeIndex}
use Rattle.fault_data.specs.in_rule_definitions.Faults.{wrong}
use Rattle.fault_data.specs.in_rule_definitions.Names.{defined_name}
use Rattle.fault_data.specs.in_rule_definitions.GivenValues.{Variables}
use Rattle.fault_data.specs.in_rule_definitions.Values.{UndefinedVariableIn, UndefinedVariableInItems, UndefinedVariableInEntries}
use Rattle.rule_values.specs.VariableFaults.{variable_faults, variable_faults_items, variable_faults_entries}
use Rattle.rule_values.proofs.Tells.{no_true, no_some, not_in_nil, only, is_only, Tells, tells_both, tells_nothing}

-- none of these passes a test
module _ {X Y : Type 0} (test : X → Bool) (P : X → Type 0) (d : (x : X) → Decides (test x) (P x)) (told : Y) where
  abbrev NonePasses : List X → Type 0
  NonePasses xs = AtSomeIndex xs (λ i x. P x) → ⊥

  pub tells_lacking : (xs : List X) → Tells (option_map_or (λ v. []) (find test xs) (told ∷ [])) (λ f. NonePasses xs × (f ≡ told))
  tells_lacking [] = λ f. (λ h. (λ r. no_some r.1.0 r.1.1.0, only told f h), λ q. is_only told f q.1)
  tells_lacking (x ∷ xs) = by (test x) (d x) (tells_lacking xs)
    where
      later : (P x → ⊥) → AtSomeIndex (x ∷ xs) (λ i x. P x) → AtSomeIndex xs (λ i x. P x)
      later fails (zero, (y, (e, p))) = let same : y ≡ x = cc in absurd (fails (subst P same p))
      later fails (suc i, r) = (i, r)

      by : (b : Bool) → Decides b (P x) → Tells (option_map_or (λ v. []) (find test xs) (told ∷ [])) (λ f. NonePasses xs × (f ≡ told))
          → Tells (option_map_or (λ v. []) (if b then Some x else find test xs) (told ∷ [])) (λ f. NonePasses (x ∷ xs) × (f ≡ told))
      by true dx rest f = (λ h. not_in_nil f h, λ q. absurd (q.0 (zero, (x, (refl, dx.0 refl)))))
      by false dx rest f = (
        λ h. let r = (rest f).0 h in (λ a. r.0 (later (λ p. no_true (dx.1 p)) a), r.1),
        λ q. (rest f).1 (λ a. q.0 (suc a.0, a.1), q.1),
      )

module _ (variables : Variables Place) where
  mutual
    pub variables_told : (p : Place) (v : ValueTree Place) → Tells (variable_faults variables p v) (UndefinedVariableIn variables p v)
    variables_told p (VariableTree n) =
        tells_lacking (λ v. bytes_eq (defined_name v) n.it) (λ (v : Placed Place (VariableDefinitionTree Place)). defined_name v ≡ n.it) (λ v. bytes_eq-Decides (defined_name v) n.it)
        (wrong p (UndefinedVariable n.it)) variables
    variables_told p (ListTree ts) = items_told ts
    variables_told p (ObjectTree es) = entries_told es
    variables_told p NullTree = tells_nothing _ (λ f h. h)
    variables_told p (EnumTree n) = tells_nothing _ (λ f h. h)
    variables_told p (StringTree s) = tells_nothing _ (λ f h. h)
    variables_told p (FloatTree s) = tells_nothing _ (λ f h. h)
    variables_told p (IntTree s) = tells_nothing _ (λ f h. h)
    variables_told p (BooleanTree b) = tells_nothing _ (λ f h. h)

    items_told : (ts : ItemTrees Place) → Tells (variable_faults_items variables ts) (UndefinedVariableInItems variables ts)
    items_told no_items = tells_nothing _ (λ f h. h)
    items_told (item_then p v ts) = tells_both _ _ (UndefinedVariableIn variables p v) (UndefinedVariableInItems variables ts) (variables_told p v) (items_told ts)

    entries_told : (es : EntryTrees Place) → Tells (variable_faults_entries variables es) (UndefinedVariableInEntries variables es)
    entries_told no_entries = tells_nothing _ (λ f h. h)
    entries_told (entry_then n p v es) = tells_both _ _ (UndefinedVariableIn variables p v) (UndefinedVariableInEntries variables es) (variables_told p v) (entries_told es)
