-- What is told where lookups are known.
use Rattle.std.proofs.Common.{◌≡◌, ◌↔◌, false, [], ◌∷◌, refl, sym, ap, ◌∙◌, Option, None, Some, is_some, find, bytes_eq, true≢false}
use Rattle.std.specs.Option.{option_map}
use Rattle.graphql_names.specs.Placed.{Placed, Place, Text}
use Rattle.tree_literals.specs.TypeTree.{unplaced_type}
use Rattle.tree_literals.specs.ValueQueries.{variable_name}
use Rattle.tree_directives.specs.DirectiveTree.{ArgumentTree, InputValueTree, InputValues, unplaced_input_value}
use Rattle.tree_directives.specs.DirectiveQueries.{input_value_has_name}
use Rattle.tree_operations.specs.OperationTree.{VariableDefinitionTree}
use Rattle.rule_values.specs.in_schema.in_schema_types.SchemaTree.{SchemaTree}
use Rattle.rule_values.specs.in_rule_definitions.Diagnostics.{DisallowedVariableUsage}
use Rattle.rule_values.specs.in_rule_definitions.Words.{Present}
use Rattle.rule_values.specs.in_rule_definitions.Faults.{wrong}
use Rattle.rule_values.specs.in_rule_definitions.Names.{defined_name, argument_name}
use Rattle.rule_values.specs.in_rule_definitions.GivenValues.{Variables}
use Rattle.rule_values.specs.in_rule_definitions.VariableUsage.{IsVariableUsageAllowed}
use Rattle.rule_values.specs.in_rule_definitions.PlacedFaults.{PlacedFault}
use Rattle.rule_arguments.specs.GivenArguments.{DisallowedUsage, GivenArgumentBreaks, DefinedArgumentBreaks}
use Rattle.rule_values.proofs.in_rule_definitions.Listing.{Lists, lists_same, lists_nothing, lists_where, present_known}

pub absent : {X Y : Type 0} (f : X → Y) (o : Option X) → is_some o ≡ false → option_map f o ≡ None
absent f None e = refl
absent f (Some x) e = absurd (true≢false e)

-- an argument with its definition
pub defined_known : (s : SchemaTree Place) (variables : Variables Place) (definitions : InputValues Place) (a : Placed Place (ArgumentTree Place)) (v : Placed Place (InputValueTree Place))
    → find (input_value_has_name (argument_name a)) definitions ≡ Some v → (f : PlacedFault) → GivenArgumentBreaks s variables v.it a f ↔ DefinedArgumentBreaks s variables definitions a f
defined_known s variables definitions a v is f = present_known (find (input_value_has_name (argument_name a)) definitions) v (λ w. GivenArgumentBreaks s variables w.it a f) is

-- a variable that is given
module _ (variables : Variables Place) (v : InputValueTree Place) (a : Placed Place (ArgumentTree Place)) (n : Text Place) (given : variable_name a.it.value.it ≡ Some n) where
  abbrev told : Placed Place (VariableDefinitionTree Place) → PlacedFault
  told x = wrong a.place (DisallowedVariableUsage n.it (unplaced_type x.it.ty.it) x.place (argument_name a) (unplaced_type v.ty.it) a.place)

  abbrev OfName : PlacedFault → Text Place → Type 0
  OfName f m = Present (find (λ d. bytes_eq (defined_name d) m.it) variables) (λ x.
      (IsVariableUsageAllowed x.it (unplaced_input_value v) → ⊥)
      × (f ≡ wrong a.place (DisallowedVariableUsage m.it (unplaced_type x.it.ty.it) x.place (argument_name a) (unplaced_type v.ty.it) a.place)))

  of_name : (f : PlacedFault) → OfName f n ↔ DisallowedUsage variables v a f
  of_name f = present_known (variable_name a.it.value.it) n (OfName f) given

  pub usage_unknown : find (λ d. bytes_eq (defined_name d) n.it) variables ≡ None → Lists [] (DisallowedUsage variables v a)
  usage_unknown none = lists_nothing (DisallowedUsage variables v a) (λ f q. let p = (of_name f).1 q in true≢false (ap is_some (sym p.1.0 ∙ none)))

  module _ (x : Placed Place (VariableDefinitionTree Place)) (found : find (λ d. bytes_eq (defined_name d) n.it) variables ≡ Some x) where
    of_variable : (f : PlacedFault) → ((IsVariableUsageAllowed x.it (unplaced_input_value v) → ⊥) × (f ≡ told x)) ↔ DisallowedUsage variables v a f
    of_variable f =
        let known = present_known (find (λ d. bytes_eq (defined_name d) n.it) variables) x (λ y.
        (IsVariableUsageAllowed y.it (unplaced_input_value v) → ⊥)
        × (f ≡ wrong a.place (DisallowedVariableUsage n.it (unplaced_type y.it.ty.it) y.place (argument_name a) (unplaced_type v.ty.it) a.place))) found in
        (λ h. (of_name f).0 (known.0 h), λ q. known.1 ((of_name f).1 q))

    pub usage_fine : IsVariableUsageAllowed x.it (unplaced_input_value v) → Lists [] (DisallowedUsage variables v a)
    usage_fine fine = lists_nothing (DisallowedUsage variables v a) (λ f q. ((of_variable f).1 q).0 fine)

    pub usage_told : (IsVariableUsageAllowed x.it (unplaced_input_value v) → ⊥) → Lists (told x ∷ []) (DisallowedUsage variables v a)
    usage_told refused = lists_same (told x ∷ []) of_variable (lists_where (told x) refused)
