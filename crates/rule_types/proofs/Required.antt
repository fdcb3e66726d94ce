-- The required ones of the arguments of a type's field are enough to tell which an interface's field lacks.
use Rattle.std.proofs.Common.{◌≡◌, ℕ, false, List, [], ◌∷◌, Option, None, Some, refl, sym, ap, ◌∙◌, if◌then◌else◌}
use Rattle.std.specs.List.{flat_map}
use Rattle.std.specs.Option.{option_map_or}
use Rattle.graphql_names.specs.Placed.{Place}
use Rattle.tree_directives.specs.DirectiveTree.{InputValues}
use Rattle.tree_directives.specs.DirectiveQueries.{is_required_input}
use Rattle.schema_inputs.specs.Inputs.{required_inputs}
use Rattle.schema_inputs.proofs.KnownInputs.{only_those}
use Rattle.fault_data.specs.in_rule_definitions.Diagnostics.{ExtraRequiredImplementationFieldArgument}
use Rattle.fault_data.specs.in_rule_definitions.Faults.{wrong}
use Rattle.rule_types.specs.FaultLists.{first_named}
use Rattle.rule_types.specs.InterfaceFaults.{Field, Input, extra_required_argument, own_fault, own_faults_among}

module _ (n i m : List ℕ) (wanted field : Field) (ws : InputValues Place) where
  not_required : (v : Input) → is_required_input v.it ≡ false → own_fault n i m wanted field ws v ≡ []
  not_required v e = by (first_named ws v.it.name.it)
    where
      by : (o : Option Input) → option_map_or (λ w. []) o (extra_required_argument n i m wanted field v) ≡ []
      by None = ap (λ b. if b then wrong v.place (ExtraRequiredImplementationFieldArgument n i m v.it.name.it v.place wanted.place) ∷ [] else []) e
      by (Some w) = refl

  pub required_own : (vs us : InputValues Place) → required_inputs vs ≡ required_inputs us → own_faults_among n i m wanted field ws vs ≡ own_faults_among n i m wanted field ws us
  required_own vs us e =
      sym (only_those (λ v. is_required_input v.it) (own_fault n i m wanted field ws) not_required vs) ∙ ap (flat_map (own_fault n i m wanted field ws)) e
      ∙ only_those (λ v. is_required_input v.it) (own_fault n i m wanted field ws) not_required us
