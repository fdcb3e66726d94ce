-- What the verdict on whole texts says.
use Rattle.std.specs.Prelude.{ℕ, List}
use Rattle.graphql_faults.specs.DetailsView.{diagnostics_of}
use Rattle.book_validity.specs.in_verdict_definitions.Texts.{SourceText, Terms}
use Rattle.book_validity.specs.in_verdict_definitions.Answer.{Refuses}
use Rattle.book_validity.specs.Yes.{IsYes}
use Rattle.checker_calls.specs.declared.verdict.Verdict.{Verdict}
use Rattle.checker_calls.specs.declared.verdict.Verdict.TheVariants.{Accepted, Refused}

-- texts and extensions are counted from 1
abbrev pub first_terms : ℕ → Terms
first_terms nesting = record { nesting = nesting; first_text = 1; first_extension = 1 }

-- The verdict is right: if it is `Accepted`, the book says yes; if it is `Refused`, the pair is refused with
-- these faults.
abbrev pub IsVerdict : Terms → List SourceText → SourceText → Verdict → Type 0
IsVerdict terms schemas document Accepted = IsYes terms schemas document
IsVerdict terms schemas document (Refused list) = Refuses terms schemas document (diagnostics_of list)
