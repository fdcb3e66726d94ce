-- The faults of defaults entry by entry are those of all arguments and input fields.
use Rattle.std.proofs.Common.{◌⊎◌, ◌↔◌, List, map, flat_map}
use Rattle.graphql_names.specs.Placed.{Place}
use Rattle.schema_types.specs.SchemaTree.{SchemaType, SchemaTree}
use Rattle.rule_definitions.specs.Words.{AtSomeIndex}
use Rattle.rule_definitions.specs.PlacedFaults.{PlacedFault}
use Rattle.strict_schemas.specs.Inputs.{inputs_of_type}
use Rattle.strict_schemas.specs.Faults.{DefaultBreaks, DefaultsBreak}
use Rattle.strict_schemas.specs.FaultsIn.{TypeDefaults, TypesDefaults, DefinitionsDefaults}
use Rattle.strict_schemas.proofs.SomeIndex.{after, sums, at_each, in_either, in_mapped, in_flat}

module _ (s : SchemaTree Place) (f : PlacedFault) where
  in_type : (t : SchemaType Place) → TypeDefaults s t f ↔ AtSomeIndex (inputs_of_type t) (λ i v. DefaultBreaks s v f)
  in_type t =
      after (sums (in_flat (λ v. DefaultBreaks s v f) (λ e. e.1.it.it.arguments) t.fields) (in_mapped (λ v. DefaultBreaks s v f) (λ e. e.1.it) t.inputs))
      (in_either (λ v. DefaultBreaks s v f) (flat_map (λ e. e.1.it.it.arguments) t.fields) (map (λ e. e.1.it) t.inputs))

  pub defaults_told : (TypesDefaults s s.types f ⊎ DefinitionsDefaults s s.directives f) ↔ DefaultsBreak s f
  defaults_told =
      after
      (sums
      (after (at_each (λ e. TypeDefaults s e.1 f) (λ e. AtSomeIndex (inputs_of_type e.1) (λ i v. DefaultBreaks s v f)) s.types (λ e. in_type e.1)) (in_flat (λ v. DefaultBreaks s v f) (λ e. inputs_of_type e.1) s.types))
      (in_flat (λ v. DefaultBreaks s v f) (λ e. e.1.it.arguments) s.directives))
      (in_either (λ v. DefaultBreaks s v f) (flat_map (λ e. inputs_of_type e.1) s.types) (flat_map (λ e. e.1.it.arguments) s.directives))
