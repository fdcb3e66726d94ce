-- Where faults are: the text that a place is in, and its lines and columns.
use Rattle.std.specs.Prelude.{◌≡◌, ℕ, ◌+◌, ◌-◌, ◌==◌, List, codes, string_bytes, Option, None, Some, slice_get, if◌then◌else◌, ⊤}
use Rattle.graphql_names.specs.declared.span.SourceSpan.{SourceSpan}
use Rattle.report_forms.specs.Positions.{IsPosition}
use Rattle.report_forms.specs.declared.entry.Entry.{Entry}
use Rattle.report_forms.specs.declared.entry.Place.{Place}
use Rattle.report_forms.specs.declared.source.Source.{Source}

-- the text that a place is in: text n is the n-th; none for a place in a built-in definition
abbrev pub source_at : List Source → SourceSpan → Option Source
source_at sources span = if span.file_id.0 == 0 then None else slice_get sources (span.file_id.0 - 1)

-- the name of a text
abbrev pub path_of : Option Source → List ℕ
path_of None = codes "<built in>"
path_of (Some source) = source.path.now

-- the name of the text that a place is in; `name` if there is no place
abbrev pub path_at : List Source → List ℕ → Option SourceSpan → List ℕ
path_at sources name None = name
path_at sources name (Some span) = path_of (source_at sources span)

-- the place in a text, in lines and columns
pub record IsPlaceIn (text : List ℕ) (span : SourceSpan) (place : Place) : Type 0 where
  pub start : IsPosition text span.offset place.start
  pub end : IsPosition text (span.offset + span.length) place.end
  pub offset : place.offset ≡ span.offset
  pub length : place.length ≡ span.length

abbrev pub IsPlaceInSource : Option Source → SourceSpan → Option Place → Type 0
IsPlaceInSource None span None = ⊤
IsPlaceInSource None span (Some place) = ⊥
IsPlaceInSource (Some source) span None = ⊥
IsPlaceInSource (Some source) span (Some place) = IsPlaceIn source.lines.now span place

-- the place in the text that it is in, in lines and columns; none if it is in no text
abbrev pub IsPlaceAt : List Source → Option SourceSpan → Option Place → Type 0
IsPlaceAt sources None place = place ≡ None
IsPlaceAt sources (Some span) place = IsPlaceInSource (source_at sources span) span place

-- an entry under the name of the text that the place is in, at the place
abbrev pub IsLocated : List Source → List ℕ → Option SourceSpan → Entry → Type 0
IsLocated sources name at e = (string_bytes e.path ≡ path_at sources name at) × IsPlaceAt sources at e.place
