-- Private: leads to `IsWarningReport` and `IsSchemaWarningReport`. Warnings as the program has them.
use Rattle.std.specs.Prelude.{◌≡◌, ℕ, Vec, List, [], ◌++◌, map, take}
use Rattle.std.specs.declared.alloc.Global.{Global}
use Rattle.graphql_names.specs.Placed.{Place}
use Rattle.schema_types.specs.SchemaTree.{SchemaTree}
use Rattle.spec_document.specs.MeantTree.{MeantDocument}
use Rattle.fault_data.specs.in_rule_definitions.Room.{most_told}
use Rattle.graphql_faults.specs.DetailsView.{details_of, diagnostics_of}
use Rattle.rule_warnings.specs.Views.{use_tree, uses_of, TellsDeprecatedUses}
use Rattle.strict_documents.specs.DepartureViews.{departure_tree, departures_of}
use Rattle.strict_documents.specs.Characters.{TellsCharacters}
use Rattle.strict_documents.specs.Views.{TellsDepartures}
use Rattle.strict_schemas.specs.Departing.{departures_of_schema}
use Rattle.report_forms.specs.declared.source.Source.{Source}
use Rattle.graphql_report.specs.Warnings.{About, OfUse, OfDeparture, OfFault, warnings, TellsTexts, AreDefaultFaults}
use Rattle.graphql_report.specs.declared.warnings.Warning.{Warning}
use Rattle.graphql_report.specs.declared.warnings.Warning.TheVariants as rust
use Rattle.graphql_report.specs.declared.warnings.Found.{Found}

abbrev pub about_of : Warning → About
about_of (rust.OfUse u) = OfUse (use_tree u.now)
about_of (rust.OfDeparture d) = OfDeparture (departure_tree d.now)
about_of (rust.OfFault f) = OfFault (details_of f.now)

abbrev pub told_at : Place × Warning → Place × About
told_at t = (t.0, about_of t.1)

abbrev pub told_of : Vec (Place × Warning) Global → List (Place × About)
told_of told = map told_at told.items

abbrev pub told_in : Found → List (Place × About)
told_in f = warnings (uses_of f.uses) (departures_of f.departures) (departures_of f.characters) (diagnostics_of f.faults)

-- what is found in a document whose text is that of this file
pub record IsFoundInDocument (schema : SchemaTree Place) (meant : MeantDocument Place) (file : ℕ) (text : List ℕ) (f : Found) : Type 0 where
  pub used : TellsDeprecatedUses schema meant f.uses
  pub departing : TellsDepartures schema meant f.departures
  pub spelled : TellsCharacters file text f.characters
  pub faultless : diagnostics_of f.faults ≡ []

-- what is found in a schema of these texts
pub record IsFoundInSchema (schema : SchemaTree Place) (sources : List Source) (f : Found) : Type 0 where
  pub unused : uses_of f.uses ≡ []
  pub departing : departures_of f.departures ≡ take most_told (departures_of_schema schema)
  pub spelled : TellsTexts sources f.characters
  pub break : AreDefaultFaults schema (diagnostics_of f.faults)
