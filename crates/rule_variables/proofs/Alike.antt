-- The places that the rules on values and on directives read are those of the schema: none of them is of a meta-field.
use Rattle.std.proofs.Common.{◌≡◌, ◌⊎◌, refl}
use Rattle.graphql_names.specs.Placed.{Place}
use Rattle.tree_literals.specs.ValueTree.{ValueTree}
use Rattle.tree_directives.specs.DirectiveTree.{Directives}
use Rattle.tree_directives.specs.declared.directive_location.DirectiveLocation.{DirectiveLocation}
use Rattle.schema_types.specs.SchemaTree.{SchemaTree}
use Rattle.schema_types.specs.Addresses.{TypeReferenceAt, place_at}
use Rattle.rule_definitions.specs.Words.{Present, AtSomeIndex}
use Rattle.rule_definitions.specs.Judged.{judged}
use Rattle.rule_definitions.specs.GivenValues.{Variables, Wanted}
use Rattle.rule_definitions.specs.Values.{UndefinedVariableIn, ValueBreaks}
use Rattle.rule_definitions.specs.Names.{directive_name}
use Rattle.rule_definitions.specs.Uses.{directive_taker, UniqueDirectiveAt, UndefinedDirectiveAt, UnsupportedLocationAt, GivenBreaks, UndefinedArgumentAt, RequiredArgumentAt, DisallowedVariableUsageAt, AtArgumentGiven, UsesBreak}
use Rattle.rule_definitions.specs.PlacedFaults.{PlacedFault}
use Rattle.rule_document_definitions.specs.PlacedDocumentFaults.{place_or_built_in}
use Rattle.rule_arguments.specs.Trees.{TellSamePlaces}
use Rattle.rule_arguments.proofs.ReadPlaces.{same_type_breaks}

module _ (s : SchemaTree Place) (variables : Variables Place) where
  alike : TellSamePlaces (place_or_built_in s) (place_at s)
  alike = record { types = λ n. refl; inputs = λ n m. refl; references = λ n m. refl }

  pub same_value_breaks : (ty : Wanted Place) (p : Place) (v : ValueTree Place) (f : PlacedFault)
      → ValueBreaks (place_or_built_in s) (judged s) variables ty p v f ≡ ValueBreaks (place_at s) (judged s) variables ty p v f
  same_value_breaks ty p v f = λ i. same_type_breaks (place_or_built_in s) (place_at s) alike (judged s) variables ty p v f i ⊎ UndefinedVariableIn variables p v f

  pub same_uses_break : (location : DirectiveLocation) (ds : Directives Place) (f : PlacedFault)
      → UsesBreak (place_or_built_in s) (judged s) variables location ds f ≡ UsesBreak (place_at s) (judged s) variables location ds f
  same_uses_break location ds f = λ i.
      UniqueDirectiveAt (place_at s) (judged s) variables ds f ⊎ AtSomeIndex ds (λ k d.
      UndefinedDirectiveAt (place_at s) (judged s) variables d f ⊎ (UnsupportedLocationAt (place_at s) (judged s) variables location d f
      ⊎ (GivenBreaks (place_at s) (judged s) variables d.it.arguments f ⊎ Present ((judged s).directive (directive_name d)) (λ defined.
      UndefinedArgumentAt (place_at s) (judged s) variables (directive_taker d defined.arguments) f
      ⊎ (RequiredArgumentAt (place_at s) (judged s) variables (directive_taker d defined.arguments) f
      ⊎ (DisallowedVariableUsageAt (place_at s) (judged s) variables (directive_taker d defined.arguments) f
      ⊎ AtArgumentGiven (place_at s) (judged s) variables (directive_taker d defined.arguments) f (λ at v a.
      same_type_breaks (place_or_built_in s) (place_at s) alike (judged s) variables (record { it = v.ty.it; place = place_at s (TypeReferenceAt at) }) a.it.value.place a.it.value.it f i)))))))
