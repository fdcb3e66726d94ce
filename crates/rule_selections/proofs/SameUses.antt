-- The rules on the use of directives read no place of a field: the schema's places serve, wherever meta-fields stand.
use Rattle.std.proofs.Common.{◌≡◌, ◌⊎◌, refl}
use Rattle.graphql_names.specs.Placed.{Place}
use Rattle.tree_directives.specs.DirectiveTree.{Directives}
use Rattle.tree_directives.specs.declared.directive_location.DirectiveLocation.{DirectiveLocation}
use Rattle.schema_types.specs.SchemaTree.{SchemaTree}
use Rattle.schema_types.specs.Addresses.{TypeReferenceAt, place_at}
use Rattle.rule_definitions.specs.Words.{Present, AtSomeIndex}
use Rattle.rule_definitions.specs.Judged.{judged}
use Rattle.rule_definitions.specs.PlacedFaults.{PlacedFault}
use Rattle.rule_definitions.specs.GivenValues.{Variables}
use Rattle.rule_definitions.specs.Names.{directive_name}
use Rattle.rule_definitions.specs.Uses.{directive_taker, UniqueDirectiveAt, UndefinedDirectiveAt, UnsupportedLocationAt, GivenBreaks, AtArgumentGiven, UndefinedArgumentAt, RequiredArgumentAt, DisallowedVariableUsageAt, UsesBreak}
use Rattle.rule_document_definitions.specs.PlacedDocumentFaults.{place_or_built_in}
use Rattle.rule_arguments.specs.Trees.{TellSamePlaces}
use Rattle.rule_arguments.proofs.ReadPlaces.{same_type_breaks}

module _ (s : SchemaTree Place) where
  pub alike : TellSamePlaces (place_or_built_in s) (place_at s)
  alike = record { types = λ n. refl; inputs = λ n m. refl; references = λ n m. refl }

  pub same_uses : (variables : Variables Place) (location : DirectiveLocation) (ds : Directives Place) (f : PlacedFault)
      → UsesBreak (place_or_built_in s) (judged s) variables location ds f ≡ UsesBreak (place_at s) (judged s) variables location ds f
  same_uses variables location ds f = λ k.
      UniqueDirectiveAt (place_at s) (judged s) variables ds f ⊎ AtSomeIndex ds (λ i d.
      UndefinedDirectiveAt (place_at s) (judged s) variables d f ⊎ (UnsupportedLocationAt (place_at s) (judged s) variables location d f
      ⊎ (GivenBreaks (place_at s) (judged s) variables d.it.arguments f ⊎ Present ((judged s).directive (directive_name d)) (λ defined.
      UndefinedArgumentAt (place_at s) (judged s) variables (directive_taker d defined.arguments) f
      ⊎ (RequiredArgumentAt (place_at s) (judged s) variables (directive_taker d defined.arguments) f
      ⊎ (DisallowedVariableUsageAt (place_at s) (judged s) variables (directive_taker d defined.arguments) f
      ⊎ AtArgumentGiven (place_at s) (judged s) variables (directive_taker d defined.arguments) f (λ at v a.
      same_type_breaks (place_or_built_in s) (place_at s) alike (judged s) variables (record { it = v.ty.it; place = place_at s (TypeReferenceAt at) }) a.it.value.place a.it.value.it f k)))))))
