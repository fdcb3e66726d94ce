-- The required ones of the arguments that are defined are enough to tell which are not given.
use Rattle.std.proofs.Common.{◌≡◌, false, ◌&&◌, [], ◌∷◌, flat_map, sym, ap, ◌∙◌, if◌then◌else◌}
use Rattle.graphql_names.specs.Placed.{Placed, Place}
use Rattle.tree_literals.specs.TypeTree.{unplaced_type}
use Rattle.tree_directives.specs.DirectiveTree.{InputValueTree, InputValues}
use Rattle.tree_directives.specs.DirectiveQueries.{given_value, is_required_input}
use Rattle.rule_values.specs.in_inputs.Inputs.{required_inputs}
use Rattle.rule_values.proofs.in_inputs.KnownInputs.{only_those}
use Rattle.rule_values.specs.in_rule_definitions.Diagnostics.{RequiredArgument}
use Rattle.rule_values.specs.in_rule_definitions.Faults.{wrong}
use Rattle.rule_values.specs.in_rule_definitions.GivenValues.{is_absent_or_null}
use Rattle.rule_values.specs.in_rule_definitions.Names.{input_name}
use Rattle.rule_values.specs.in_rule_definitions.Uses.{Taker}
use Rattle.rule_arguments.specs.UseFaults.{required_argument}

module _ (t : Taker Place) where
  not_required : (v : Placed Place (InputValueTree Place)) → is_required_input v.it ≡ false → required_argument t v ≡ []
  not_required v e =
      ap (λ b. if b && is_absent_or_null (given_value (input_name v) t.given)
      then wrong t.place (RequiredArgument (input_name v) (t.argument_coordinate (input_name v)) (unplaced_type v.it.ty.it) v.place) ∷ [] else []) e

  pub required_only : (vs ws : InputValues Place) → required_inputs vs ≡ required_inputs ws → flat_map (required_argument t) vs ≡ flat_map (required_argument t) ws
  required_only vs ws e =
      sym (only_those (λ v. is_required_input v.it) (required_argument t) not_required vs) ∙ ap (flat_map (required_argument t)) e ∙ only_those (λ v. is_required_input v.it) (required_argument t) not_required ws
