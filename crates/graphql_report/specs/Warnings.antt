-- What a report tells of a schema or a document that is accepted: uses of what is deprecated, what the specification does not allow and
-- the checker lets pass, and faults of rules that it does not ask of a schema.
use Rattle.std.specs.Prelude.{◌≡◌, ◌↔◌, ℕ, suc, ◌+◌, Vec, List, [], ◌∷◌, ◌++◌, map, take, length, Contains, Option, string_bytes}
use Rattle.std.specs.Str.{chars}
use Rattle.std.specs.declared.alloc.Global.{Global}
use Rattle.graphql_names.specs.Placed.{Place}
use Rattle.schema_types.specs.SchemaTree.{SchemaTree}
use Rattle.spec_document.specs.MeantTree.{MeantDocument}
use Rattle.fault_data.specs.in_rule_definitions.PlacedFaults.{PlacedFault}
use Rattle.fault_data.specs.in_rule_definitions.Room.{most_told}
use Rattle.graphql_faults.specs.DetailsTree.{DetailsTree, DetailsAt, of_rule}
use Rattle.graphql_faults.specs.DetailsNames.{details_name}
use Rattle.graphql_faults.specs.DetailsMessages.{details_message}
use Rattle.rule_warnings.specs.Deprecated.{DeprecatedUse}
use Rattle.rule_warnings.specs.Views.{warning_name, warning_text, uses_of, TellsDeprecatedUses}
use Rattle.rule_warnings.specs.declared.deprecated_use.DeprecatedUse.{DeprecatedUse as RustUse}
use Rattle.strict_documents.specs.Departure.{Departure}
use Rattle.strict_documents.specs.DepartureViews.{departure_name, departure_text, departures_of}
use Rattle.strict_documents.specs.Characters.{Stretch, character_departures, stretches_of, TellsCharacters}
use Rattle.strict_documents.specs.declared.departure.Departure.{Departure as RustDeparture}
use Rattle.strict_documents.specs.Views.{TellsDepartures}
use Rattle.strict_schemas.specs.Departing.{departures_of_schema}
use Rattle.strict_schemas.specs.Faults.{StrictBreaks}
use Rattle.report_forms.specs.Order.{IsOrder}
use Rattle.report_forms.specs.Places.{IsLocated}
use Rattle.report_forms.specs.declared.entry.Entry.{Entry}
use Rattle.report_forms.specs.declared.order.Rank.{Rank}
use Rattle.report_forms.specs.declared.severity.Severity.TheVariants.{Warning}
use Rattle.report_forms.specs.declared.source.Source.{Source}
use Rattle.graphql_report.specs.Alike.{each_once}
use Rattle.graphql_report.specs.Reports.{AreRanked}

-- what a warning is about
pub data About : Type 0 where
  OfUse : DeprecatedUse Place → About
  OfDeparture : Departure Place → About
  OfFault : DetailsTree Place (List Place) → About

-- its name and its text
abbrev pub name_of : About → List ℕ
name_of (OfUse u) = warning_name u.kind
name_of (OfDeparture d) = departure_name d.kind
name_of (OfFault f) = details_name f

abbrev pub text_of : About → List ℕ
text_of (OfUse u) = warning_text u
text_of (OfDeparture d) = departure_text d
text_of (OfFault f) = details_message f

-- each with its place
abbrev pub about_use : DeprecatedUse Place → Place × About
about_use u = (u.place, OfUse u)

abbrev pub about_departure : Departure Place → Place × About
about_departure d = (d.place, OfDeparture d)

abbrev pub about_fault : DetailsAt Place (List Place) → Place × About
about_fault f = (f.place, OfFault f.details)

-- all that is told: the uses, the departures and the characters that no text may have, each once, and the faults
abbrev pub warnings : List (DeprecatedUse Place) → List (Departure Place) → List (Departure Place) → List (DetailsAt Place (List Place)) → List (Place × About)
warnings uses departures characters faults = ((map about_use uses ++ map about_departure (each_once departures)) ++ map about_departure (each_once characters)) ++ map about_fault faults

-- the entry is a warning: it has the name of the text and the place, the name of the warning, and its text
pub record Warns (sources : List Source) (name : List ℕ) (told : Place × About) (e : Entry) : Type 0 where
  pub place : IsLocated sources name told.0 e
  pub severity : e.severity ≡ Warning
  pub rule : e.rule.now ≡ name_of told.1
  pub message : string_bytes e.message ≡ text_of told.1

-- the entries are these warnings, each once, in the order of texts and places
pub record AreInOrder (sources : List Source) (name : List ℕ) (told : List (Place × About)) (entries : List Entry) : Type 0 where
  pub ranks : List Rank
  pub order : IsOrder (map (λ (t : Place × About). t.0) told) ranks
  pub warned : AreRanked (Warns sources name) told ranks entries

-- the warnings about a document: its text comes after those of the schema
pub record IsWarningReport (schemas : List Source) (path text : List ℕ) (schema : SchemaTree Place) (meant : MeantDocument Place) (entries : List Entry) : Type 0 where
  pub document : Source
  pub named : document.path.now ≡ path
  pub text_is : document.lines.now ≡ text
  pub uses : Vec RustUse Global
  pub used : TellsDeprecatedUses schema meant uses
  pub departures : Vec RustDeparture Global
  pub departing : TellsDepartures schema meant departures
  pub characters : Vec RustDeparture Global
  pub spelled : TellsCharacters (length (schemas ++ document ∷ [])) text characters
  pub warned : AreInOrder (schemas ++ document ∷ []) path (warnings (uses_of uses) (departures_of departures) (departures_of characters) []) entries

-- the characters of these texts that no text may have; the first text has this number
abbrev pub texts_departures : ℕ → List Source → List (Departure (Option Stretch))
texts_departures n [] = []
texts_departures n (s ∷ ss) = character_departures n 0 (chars s.lines.now) ++ texts_departures (suc n) ss

-- the first 1,000 of them
abbrev pub TellsTexts : List Source → Vec RustDeparture Global → Type 0
TellsTexts sources told = stretches_of told ≡ take most_told (texts_departures 1 sources)

-- the first 1,000 of all faults of the rules on defaults and built-in scalars
abbrev pub AreDefaultFaults : SchemaTree Place → List (DetailsAt Place (List Place)) → Type 0
AreDefaultFaults schema told = (all : List PlacedFault) × ((told ≡ map of_rule (take most_told all)) × ((fault : PlacedFault) → Contains all fault ↔ StrictBreaks schema fault))

-- the warnings about a schema of these texts
pub record IsSchemaWarningReport (sources : List Source) (path : List ℕ) (schema : SchemaTree Place) (entries : List Entry) : Type 0 where
  pub characters : Vec RustDeparture Global
  pub spelled : TellsTexts sources characters
  pub faults : List (DetailsAt Place (List Place))
  pub break : AreDefaultFaults schema faults
  pub warned : AreInOrder sources path (warnings [] (take most_told (departures_of_schema schema)) (departures_of characters) faults) entries
