-- What there is to warn of, one more, and each entry at its rank.
use Rattle.std.proofs.Common.{◌≡◌, ℕ, ◌+◌, ◌<◌, List, [], ◌∷◌, ◌++◌, length, map, get_or, take, refl, sym, ◌∙◌, ap, subst, append_assoc}
use Rattle.std.proofs.lemmas.List.{map-append, map_more}
use Rattle.graphql_names.specs.Placed.{Place}
use Rattle.schema_types.specs.SchemaTree.{SchemaTree}
use Rattle.spec_document.specs.MeantTree.{MeantDocument}
use Rattle.fault_data.specs.in_rule_definitions.Room.{most_told}
use Rattle.graphql_faults.specs.DetailsTree.{DetailsAt}
use Rattle.graphql_faults.specs.DetailsView.{diagnostics_of}
use Rattle.rule_warnings.specs.Deprecated.{DeprecatedUse}
use Rattle.rule_warnings.specs.Views.{uses_of}
use Rattle.strict_documents.specs.Departure.{Departure}
use Rattle.strict_documents.specs.DepartureViews.{departures_of}
use Rattle.strict_documents.specs.Characters.{TellsCharacters}
use Rattle.strict_schemas.specs.Departing.{departures_of_schema}
use Rattle.report_forms.specs.Order.{IsOrder}
use Rattle.report_forms.specs.declared.entry.Entry.{Entry}
use Rattle.report_forms.specs.declared.order.Rank.{Rank}
use Rattle.report_forms.specs.declared.source.Source.{Source}
use Rattle.graphql_report.specs.Reports.{AreRanked}
use Rattle.graphql_report.specs.Warnings.{About, Warns, AreInOrder, IsWarningReport, IsSchemaWarningReport, warnings}
use Rattle.graphql_report.specs.WarningViews.{told_at, told_in, IsFoundInDocument, IsFoundInSchema}
use Rattle.graphql_report.specs.declared.warnings.Found.{Found}
use Rattle.graphql_report.specs.declared.warnings.Warning.{Warning}
use Rattle.graphql_report.proofs.Reporting.{rank_inside, ranked_entries}

-- one more is told
pub told_more : {X Y : Type 0} (tree : X → Y) (about : Y → Place × About) (base : List (Place × About)) (xs : List X) (k : ℕ) (d : X) (old new : List (Place × Warning)) (w : Place × Warning)
    → k < length xs → new ≡ old ++ w ∷ [] → told_at w ≡ about (tree (get_or xs k d)) → map told_at old ≡ base ++ map about (map tree (take k xs))
    → map told_at new ≡ base ++ map about (map tree (take (k + 1) xs))
told_more tree about base xs k d old new w less grown is h =
    let before = map about (map tree (take k xs)) in
    ap (map told_at) grown ∙ map-append told_at old (w ∷ []) ∙ ap (λ l. l ++ told_at w ∷ []) h ∙ append_assoc base before (told_at w ∷ [])
    ∙ ap (λ t. base ++ (before ++ t ∷ [])) is
    ∙ ap (λ l. base ++ l) (sym (ap (map about) (map_more tree xs k d less) ∙ map-append about (map tree (take k xs)) (tree (get_or xs k d) ∷ [])))

places_are : (told : List (Place × Warning)) → map (λ (t : Place × Warning). t.0) told ≡ map (λ (t : Place × About). t.0) (map told_at told)
places_are [] = refl
places_are (t ∷ told) = ap (λ l. t.0 ∷ l) (places_are told)

-- the whole
pub in_order : (sources : List Source) (name : List ℕ) (all : List (Place × About)) (told : List (Place × Warning)) (ranks : List Rank) (entries : List Entry)
    → map told_at told ≡ all → IsOrder (map (λ (t : Place × Warning). t.0) told) ranks → AreRanked (Warns sources name) (map told_at told) ranks entries
    → AreInOrder sources name all entries
in_order sources name all told ranks entries is order h = record {
  ranks = ranks;
  order = subst (λ (l : List Place). IsOrder l ranks) (places_are told ∙ ap (map (λ (t : Place × About). t.0)) is) order;
  warned = subst (λ (l : List (Place × About)). AreRanked (Warns sources name) l ranks entries) is h;
}

-- a rank is that of something that is told
pub rank_among : (told : List (Place × Warning)) (ranks : List Rank) (k : ℕ) (d : Rank) → IsOrder (map (λ (t : Place × Warning). t.0) told) ranks → k < length ranks
    → (get_or ranks k d).told < length told
rank_among told ranks k d order less = rank_inside told ranks k d order less

-- one more warning
pub warned_more : (sources : List Source) (name : List ℕ) (told : List (Place × Warning)) (ranks : List Rank) (k : ℕ) (d : Rank) (one : Place × Warning) (old new : List Entry) (e : Entry)
    → k < length ranks → (get_or ranks k d).told < length told → one ≡ get_or told (get_or ranks k d).told one → Warns sources name (told_at one) e → new ≡ old ++ e ∷ []
    → AreRanked (Warns sources name) (map told_at told) (take k ranks) old → AreRanked (Warns sources name) (map told_at told) (take (k + 1) ranks) new
warned_more sources name told ranks k d one old new e less within at t grown h = ranked_entries (Warns sources name) told_at told ranks k d one old new e less within at t grown h

-- the reports
pub warning_report : (schemas sources : List Source) (document : Source) (path text : List ℕ) (schema : SchemaTree Place) (meant : MeantDocument Place) (file : ℕ) (found : Found) (entries : List Entry)
    → document.path.now ≡ path → document.lines.now ≡ text → sources ≡ schemas ++ document ∷ [] → file ≡ length sources
    → IsFoundInDocument schema meant file text found → AreInOrder sources path (told_in found) entries
    → IsWarningReport schemas path text schema meant entries
warning_report schemas sources document path text schema meant file found entries named is all numbered f h =
    let us = uses_of found.uses in
    let ds = departures_of found.departures in
    let cs = departures_of found.characters in
    record {
      document = document;
      named = named;
      text_is = is;
      uses = found.uses;
      used = f.used;
      departures = found.departures;
      departing = f.departing;
      characters = found.characters;
      spelled = subst (λ n. TellsCharacters n text found.characters) (numbered ∙ ap length all) f.spelled;
      warned = subst (λ (l : List Source). AreInOrder l path (warnings us ds cs []) entries) all
          (subst (λ (fs : List (DetailsAt Place (List Place))). AreInOrder sources path (warnings us ds cs fs) entries) f.faultless h);
    }

pub schema_report : (sources : List Source) (path : List ℕ) (schema : SchemaTree Place) (found : Found) (entries : List Entry)
    → IsFoundInSchema schema sources found → AreInOrder sources path (told_in found) entries
    → IsSchemaWarningReport sources path schema entries
schema_report sources path schema found entries f h =
    let cs = departures_of found.characters in
    let fs = diagnostics_of found.faults in
    record {
      characters = found.characters;
      spelled = f.spelled;
      faults = fs;
      break = f.break;
      warned = subst (λ (us : List (DeprecatedUse Place)). AreInOrder sources path (warnings us (take most_told (departures_of_schema schema)) cs fs) entries) f.unused
          (subst (λ (ds : List (Departure Place)). AreInOrder sources path (warnings (uses_of found.uses) ds cs fs) entries) f.departing h);
    }
