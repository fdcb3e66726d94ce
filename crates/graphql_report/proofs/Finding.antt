-- Places that are found.
use Rattle.std.proofs.Common.{◌≡◌, ◌<◌, ◌+◌, ℕ, true, List, [], ◌∷◌, ◌++◌, map, take, drop, append-nil, sym, ◌∙◌, ap, refl}
use Rattle.std.specs.Prelude.{Some}
use Rattle.std.proofs.lemmas.Option.{none-some}
use Rattle.std.proofs.lemmas.List.{map-append, append_assoc}
use Rattle.graphql_names.specs.Placed.{Place}
use Rattle.graphql_names.specs.declared.span.SourceSpan.{SourceSpan}
use Rattle.graphql_faults.specs.DetailsTree.{DetailsTree, Syntax, Nesting, Spent, SchemaBuild, DocumentBuild, Data, RecursionLimitError}
use Rattle.graphql_read.specs.declared.fault.SyntaxFaultKind.{SyntaxFaultKind}
use Rattle.report_forms.specs.Noted.{others, AreRelated}
use Rattle.report_forms.specs.declared.entry.Related.{Related}
use Rattle.report_forms.specs.declared.noted.Noted.{Noted}
use Rattle.report_forms.specs.declared.source.Source.{Source}
use Rattle.graphql_report.specs.FoundPlaces.{AddsFound, AreFound, Fits, FitsIn, is_bracket, named_again}
use Rattle.graphql_report.specs.Reports.{HasPlaces}
use Rattle.graphql_report.specs.ToldPlaces.{plain, places_of, AddsOperation}

pub bracket_fits : (text here : List ℕ) (own span : SourceSpan) (kind : SyntaxFaultKind) → here ≡ drop span.offset (take (span.offset + span.length) text) → is_bracket here ≡ true
    → span.file_id ≡ own.file_id → span.offset < own.offset → FitsIn text own (Syntax kind) span
bracket_fits text here own span kind is bracket file before = record { bracket = ap is_bracket (sym is) ∙ bracket; file = file; before = before }

pub name_fits : (text here name : List ℕ) (own span : SourceSpan) (details : DetailsTree Place (List Place)) → Some name ≡ named_again details
    → here ≡ drop span.offset (take (span.offset + span.length) text) → here ≡ name → FitsIn text own details span
name_fits text here name own span (Syntax kind) again is same = absurd (none-some name (sym again))
name_fits text here name own span Nesting again is same = absurd (none-some name (sym again))
name_fits text here name own span Spent again is same = absurd (none-some name (sym again))
name_fits text here name own span (SchemaBuild breach) again is same = ap Some (sym is ∙ same) ∙ again
name_fits text here name own span (DocumentBuild breach) again is same = ap Some (sym is ∙ same) ∙ again
name_fits text here name own span (Data diagnostic) again is same = absurd (none-some name (sym again))
name_fits text here name own span RecursionLimitError again is same = absurd (none-some name (sym again))

pub finds_none : (sources : List Source) (own : Place) (details : DetailsTree Place (List Place)) (old new : List Noted) → new ≡ old → AddsFound sources own details old new
finds_none sources own details old new e = record { found = []; adds = ap (map plain) e ∙ sym (append-nil (map plain old)); each = tt }

pub finds_one : (sources : List Source) (own span : SourceSpan) (details : DetailsTree Place (List Place)) (old new : List Noted) (n : Noted)
    → n.place ≡ Some span → Fits sources own details span → new ≡ old ++ n ∷ [] → AddsFound sources (Some own) details old new
finds_one sources own span details old new n at fits e = record {
  found = (Some span, n.words.now) ∷ [];
  adds = ap (map plain) e ∙ map-append plain old (n ∷ []) ∙ (λ i. map plain old ++ (at i, n.words.now) ∷ []);
  each = (fits, tt);
}

found_append : (sources : List Source) (own : Place) (details : DetailsTree Place (List Place)) (fs gs : List (Place × List ℕ)) → AreFound sources own details fs
    → AreFound sources own details gs → AreFound sources own details (fs ++ gs)
found_append sources own details [] gs a b = b
found_append sources own details (f ∷ fs) gs a b = (a.0, found_append sources own details fs gs a.1 b)

-- one after another
pub finds_both : (sources : List Source) (own : Place) (details : DetailsTree Place (List Place)) (old new last : List Noted) → AddsFound sources own details old new
    → AddsFound sources own details new last → AddsFound sources own details old last
finds_both sources own details old new last a b = record {
  found = a.found ++ b.found;
  adds = b.adds ∙ ap (λ l. l ++ b.found) a.adds ∙ append_assoc (map plain old) a.found b.found;
  each = found_append sources own details a.found b.found a.each b.each;
}

pub with_found : (sources : List Source) (own : Place) (details : DetailsTree Place (List Place)) (first all : List Noted) (places related : List Related)
    → map plain first ≡ places_of details → AddsFound sources own details first all → AreRelated sources (others own all) places → AddsOperation details places related
    → HasPlaces sources own details related
with_found sources own details first all places related told found each operation = record {
  noted = all;
  found = found.found;
  from_data = found.adds ∙ (λ i. told i ++ found.found);
  are_found = found.each;
  places = places;
  each = each;
  operation = operation;
}
