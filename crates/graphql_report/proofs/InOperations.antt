-- The operation that the data of a fault name, and the report of a document.
use Rattle.std.proofs.Common.{◌≡◌, ℕ, List, [], ◌∷◌, ◌++◌, append-nil, sym, ◌∙◌, ap, subst}
use Rattle.std.specs.Prelude.{None, Some, string_bytes}
use Rattle.graphql_names.specs.Placed.{Place}
use Rattle.graphql_faults.specs.DetailsTree.{DetailsTree, DetailsAt}
use Rattle.report_forms.specs.declared.entry.Entry.{Entry}
use Rattle.report_forms.specs.declared.entry.Related.{Related}
use Rattle.report_forms.specs.declared.source.Source.{Source}
use Rattle.graphql_report.specs.Reports.{IsReport, IsDocumentReport}
use Rattle.graphql_report.specs.ToldPlaces.{operation_of, operation_words, words_in, AddsOperation}

pub adds_none : (details : DetailsTree Place (List Place)) (old new : List Related) → None ≡ operation_of details → new ≡ old → AddsOperation details old new
adds_none details old new none e = record { operation = []; named = ap words_in none; adds = e ∙ sym (append-nil old) }

pub adds_one : (details : DetailsTree Place (List Place)) (old new : List Related) (r : Related) (name : List ℕ) → Some name ≡ operation_of details
    → string_bytes r.words ≡ operation_words name → new ≡ old ++ r ∷ [] → AddsOperation details old new
adds_one details old new r name some words e = record { operation = r ∷ []; named = ap (λ w. w ∷ []) words ∙ ap words_in some; adds = e }

pub document_report : (schemas sources : List Source) (document : Source) (path text : List ℕ) (faults : List (DetailsAt Place (List Place))) (entries : List Entry)
    → document.path.now ≡ path → document.lines.now ≡ text → sources ≡ schemas ++ document ∷ [] → IsReport sources path faults entries
    → IsDocumentReport schemas path text faults entries
document_report schemas sources document path text faults entries named is e h = record {
  document = document;
  named = named;
  text_is = is;
  report = subst (λ (l : List Source). IsReport l path faults entries) e h;
}
