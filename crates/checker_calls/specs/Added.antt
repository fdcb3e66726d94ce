-- Private: leads to what `Checker::finish` answers. How a checker keeps the schema texts that it was given: what reading them gave.
use Rattle.std.specs.Prelude.{◌≡◌, ◌≢◌, ℕ, ◌+◌, ◌^◌, ◌<◌, ◌⊎◌, List, [], ◌∷◌, ◌++◌, Some}
use Rattle.verdict_definitions.specs.in_faults.DetailsView.{details_at}
use Rattle.verdict_definitions.specs.Texts.{SourceText, Tree, Terms, ReadsAll, document_number}
use Rattle.verdict_definitions.specs.Says.{AnyFault}
use Rattle.verdict_definitions.specs.Answer.{UnreadFaults}
use Rattle.checker_calls.specs.TextSources.{Sources, text_sources}
use Rattle.checker_calls.specs.declared.reading.Unread.{Unread}
use Rattle.checker_calls.specs.declared.reading.Unread.TheVariants as unread

-- the next text gets this number, or no number is left and there is a fault
abbrev pub IsNextNumber : Terms → List SourceText → List AnyFault → ℕ → Type 0
IsNextNumber terms texts faults number =
    (number ≡ document_number terms texts)
    ⊎ ((number + 1 ≡ 2 ^ 64) × ((number < document_number terms texts) × (faults ≢ [])))

-- What reading the texts gave: these faults, one for each unread text; if there is none, these trees and sources.
pub record AreAdded (terms : Terms) (texts : List SourceText) (number : ℕ) (trees : List Tree) (origins : Sources) (faults : List AnyFault) : Type 0 where
  pub unread : UnreadFaults terms.nesting terms.first_text texts faults
  pub kept : faults ≡ [] → ReadsAll terms.first_text texts trees
  pub sources : faults ≡ [] → origins ≡ text_sources terms.first_text texts
  pub next : IsNextNumber terms texts faults number

-- the fault of an unread text is added after the others
abbrev pub IsToldAfter : Unread → List AnyFault → List AnyFault → Type 0
IsToldAfter (unread.Fault place details) old new = new ≡ old ++ details_at (Some place, details) ∷ []
IsToldAfter unread.Memory old new = ⊥
