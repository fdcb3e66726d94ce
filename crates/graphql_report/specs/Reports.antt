-- What a report tells.
use Rattle.std.specs.Prelude.{◌≡◌, ℕ, List, [], ◌∷◌, ◌++◌, map, IsSomeAnd, ⊤, slice_get, string_bytes}
use Rattle.graphql_names.specs.Placed.{Place}
use Rattle.graphql_faults.specs.DetailsTree.{DetailsTree, DetailsAt}
use Rattle.graphql_faults.specs.DetailsNames.{details_name}
use Rattle.graphql_faults.specs.DetailsMessages.{details_message}
use Rattle.report_forms.specs.Noted.{others, AreRelated}
use Rattle.report_forms.specs.Order.{IsOrder}
use Rattle.report_forms.specs.Places.{IsLocated}
use Rattle.report_forms.specs.declared.entry.Entry.{Entry}
use Rattle.report_forms.specs.declared.entry.Related.{Related}
use Rattle.report_forms.specs.declared.noted.Noted.{Noted}
use Rattle.report_forms.specs.declared.order.Rank.{Rank}
use Rattle.report_forms.specs.declared.severity.Severity.TheVariants.{Error}
use Rattle.report_forms.specs.declared.source.Source.{Source}
use Rattle.graphql_report.specs.FoundPlaces.{AreFound}
use Rattle.graphql_report.specs.ToldPlaces.{plain, places_of, AddsOperation}

-- the related places: those that the data of a fault have apart from its own, in order, with their words, one that is found in the texts, and the operation
pub record HasPlaces (sources : List Source) (own : Place) (details : DetailsTree Place (List Place)) (related : List Related) : Type 0 where
  pub noted : List Noted
  pub found : List (Place × List ℕ)
  pub from_data : map plain noted ≡ places_of details ++ found
  pub are_found : AreFound sources own details found
  pub places : List Related
  pub each : AreRelated sources (others own noted) places
  pub operation : AddsOperation details places related

-- the entry is a fault: it has the name of the fault's text, its place, the name of its rule, its message, and the other places that its data have
pub record Tells (sources : List Source) (name : List ℕ) (fault : DetailsAt Place (List Place)) (e : Entry) : Type 0 where
  pub place : IsLocated sources name fault.place e
  pub severity : e.severity ≡ Error
  pub rule : e.rule.now ≡ details_name fault.details
  pub message : string_bytes e.message ≡ details_message fault.details
  pub related : HasPlaces sources fault.place fault.details e.related.items

-- the entries are of what has these ranks among all that is told, one after another
abbrev pub AreRanked : {A : Type 0} → (A → Entry → Type 0) → List A → List Rank → List Entry → Type 0
AreRanked Says all [] [] = ⊤
AreRanked Says all [] (e ∷ es) = ⊥
AreRanked Says all (r ∷ rs) [] = ⊥
AreRanked Says all (r ∷ rs) (e ∷ es) = IsSomeAnd (slice_get all r.told) (λ a. Says a e) × AreRanked Says all rs es

-- the entries tell the faults, each once, in the order of texts and places
pub record IsReport (sources : List Source) (name : List ℕ) (faults : List (DetailsAt Place (List Place))) (entries : List Entry) : Type 0 where
  pub ranks : List Rank
  pub order : IsOrder (map (λ (f : DetailsAt Place (List Place)). f.place) faults) ranks
  pub told : AreRanked (Tells sources name) faults ranks entries

-- the report of a document's faults: its text comes after those of the schema
pub record IsDocumentReport (schemas : List Source) (path text : List ℕ) (faults : List (DetailsAt Place (List Place))) (entries : List Entry) : Type 0 where
  pub document : Source
  pub named : document.path.now ≡ path
  pub text_is : document.lines.now ≡ text
  pub report : IsReport (schemas ++ document ∷ []) path faults entries
