-- Required fields that an object does not give: the required ones are enough to tell them.
use Rattle.std.proofs.Common.{◌≡◌, ℕ, Bool, false, ◌&&◌, List, [], ◌∷◌, map, flat_map, sym, ap, ◌∙◌, if◌then◌else◌}
use Rattle.std.proofs.lemmas.List.Folds.{flat_map-map}
use Rattle.graphql_names.specs.NameValue.{NameValue}
use Rattle.graphql_names.specs.Placed.{Placed, Place}
use Rattle.tree_literals.specs.TypeTree.{unplaced_type}
use Rattle.tree_directives.specs.DirectiveTree.{InputValueTree}
use Rattle.tree_directives.specs.DirectiveQueries.{is_required_input}
use Rattle.tree_directives.specs.declared.input_value.InputValueDefinition.{InputValueDefinition}
use Rattle.schema_components.specs.Given.{Given}
use Rattle.schema_components.specs.declared.component.Component.{Component}
use Rattle.schema_coordinates.specs.Coordinate.{OfAttribute}
use Rattle.schema_inputs.specs.Inputs.{required_entries, listed_field}
use Rattle.schema_inputs.proofs.KnownInputs.{only_those}
use Rattle.fault_data.specs.in_rule_definitions.Diagnostics.{RequiredField}
use Rattle.fault_data.specs.in_rule_definitions.Faults.{wrong}
use Rattle.fault_data.specs.in_rule_definitions.PlacedFaults.{PlacedFault}
use Rattle.rule_values.specs.ValueFaults.{required_if}

module _ (missing : List ℕ → Bool) (n : List ℕ) (p : Place) where
  abbrev pub told_of : List ℕ × Given Place (Placed Place (InputValueTree Place)) → List PlacedFault
  told_of e = required_if (missing e.0) n p e.0 e.1

  not_required : (e : List ℕ × Given Place (Placed Place (InputValueTree Place))) → is_required_input e.1.it.it ≡ false → told_of e ≡ []
  not_required e t = ap (λ b. if b && missing e.0 then wrong p (RequiredField e.0 (OfAttribute n e.0) (unplaced_type e.1.it.it.ty.it) e.1.it.place) ∷ [] else []) t

  pub listed_required : (fields es : List (NameValue × Component InputValueDefinition)) → map listed_field fields ≡ required_entries (map listed_field es)
      → flat_map (λ (e : NameValue × Component InputValueDefinition). told_of (listed_field e)) fields ≡ flat_map (λ (e : NameValue × Component InputValueDefinition). told_of (listed_field e)) es
  listed_required fields es e =
      sym (flat_map-map told_of listed_field fields)
      ∙ ap (flat_map told_of) e
      ∙ only_those (λ e. is_required_input e.1.it.it) told_of not_required (map listed_field es)
      ∙ flat_map-map told_of listed_field es
