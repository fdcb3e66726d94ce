-- The places that belong to a fault and are found in the texts.
use Rattle.std.specs.Prelude.{◌≡◌, ℕ, Bool, true, false, ◌<◌, ◌+◌, List, [], ◌∷◌, ◌++◌, codes, map, take, drop, Option, None, Some, IsSomeAnd, ◌==◌, ◌||◌, ⊤}
use Rattle.graphql_names.specs.Placed.{Place}
use Rattle.graphql_names.specs.declared.span.SourceSpan.{SourceSpan}
use Rattle.schema_fold.specs.BuildErrors as folding
use Rattle.schema_fold.specs.BuildErrors.{Breach}
use Rattle.fault_document_errors.specs.DocumentBreaches as document
use Rattle.fault_document_errors.specs.DocumentBreaches.{DocumentBreach}
use Rattle.graphql_faults.specs.DetailsTree.{DetailsTree, Syntax, SchemaBuild, DocumentBuild}
use Rattle.report_forms.specs.Places.{source_at}
use Rattle.report_forms.specs.declared.noted.Noted.{Noted}
use Rattle.report_forms.specs.declared.source.Source.{Source}
use Rattle.graphql_report.specs.ToldPlaces.{plain}

-- the name that a fault of folding tells to be there twice
abbrev pub folded_again : Breach → Option (List ℕ)
folded_again folding.SchemaDefinitionCollision = Some (codes "schema")
folded_again (folding.DirectiveDefinitionCollision name) = Some name
folded_again (folding.TypeDefinitionCollision name) = Some name
folded_again (folding.DuplicateImplementsInterfaceInObject type name) = Some name
folded_again (folding.DuplicateImplementsInterfaceInInterface type name) = Some name
folded_again (folding.ObjectFieldNameCollision type name) = Some name
folded_again (folding.InterfaceFieldNameCollision type name) = Some name
folded_again (folding.EnumValueNameCollision type name) = Some name
folded_again (folding.UnionMemberNameCollision type name) = Some name
folded_again (folding.InputFieldNameCollision type name) = Some name
folded_again _ = None

-- the name that a fault of a document tells to be there twice
abbrev pub written_again : DocumentBreach Place → Option (List ℕ)
written_again (document.OperationNameCollision name) = Some name
written_again (document.FragmentNameCollision name) = Some name
written_again _ = None

abbrev pub named_again : DetailsTree Place (List Place) → Option (List ℕ)
named_again (SchemaBuild breach) = folded_again breach
named_again (DocumentBuild breach) = written_again breach
named_again _ = None

-- the bytes of a text from a place on
abbrev pub bytes_at : List ℕ → SourceSpan → List ℕ
bytes_at text span = drop span.offset (take (span.offset + span.length) text)

-- `{`, `(` or `[`
abbrev pub is_bracket : List ℕ → Bool
is_bracket (b ∷ []) = b == 123 || (b == 40 || b == 91)
is_bracket _ = false

-- a bracket opens at the place, before that of the fault
pub record OpensBefore (text : List ℕ) (own span : SourceSpan) : Type 0 where
  pub bracket : is_bracket (bytes_at text span) ≡ true
  pub file : span.file_id ≡ own.file_id
  pub before : span.offset < own.offset

-- a place that belongs to a fault: where a bracket opens, or where the name is that is there twice
abbrev pub FitsIn : List ℕ → SourceSpan → DetailsTree Place (List Place) → SourceSpan → Type 0
FitsIn text own (Syntax kind) span = OpensBefore text own span
FitsIn text own details span = Some (bytes_at text span) ≡ named_again details

abbrev pub Fits : List Source → SourceSpan → DetailsTree Place (List Place) → SourceSpan → Type 0
Fits sources own details span = IsSomeAnd (source_at sources span) (λ source. FitsIn source.lines.now own details span)

-- a place that is found for a fault that has a place
abbrev pub IsFound : List Source → Place → DetailsTree Place (List Place) → Place × List ℕ → Type 0
IsFound sources (Some own) details (Some span, words) = Fits sources own details span
IsFound sources _ details _ = ⊥

-- each of the places is found
abbrev pub AreFound : List Source → Place → DetailsTree Place (List Place) → List (Place × List ℕ) → Type 0
AreFound sources own details [] = ⊤
AreFound sources own details (f ∷ fs) = IsFound sources own details f × AreFound sources own details fs

-- what is found is added
pub record AddsFound (sources : List Source) (own : Place) (details : DetailsTree Place (List Place)) (old new : List Noted) : Type 0 where
  pub found : List (Place × List ℕ)
  pub adds : map plain new ≡ map plain old ++ found
  pub each : AreFound sources own details found
