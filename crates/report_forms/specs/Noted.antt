-- The places that belong to a fault, apart from its own.
use Rattle.std.specs.Prelude.{◌≡◌, Bool, true, false, not, ◌&&◌, ◌==◌, List, [], ◌∷◌, Option, None, Some, string_bytes, filter, option_map, ⊤}
use Rattle.graphql_names.specs.declared.span.SourceSpan.{SourceSpan}
use Rattle.report_forms.specs.declared.entry.Place.{Place}
use Rattle.report_forms.specs.declared.entry.Related.{Related}
use Rattle.report_forms.specs.declared.noted.Noted.{Noted}
use Rattle.report_forms.specs.declared.source.Source.{Source}
use Rattle.report_forms.specs.Places.{path_at, IsPlaceAt}

abbrev pub same_span : SourceSpan → SourceSpan → Bool
same_span a b = a.file_id.0 == b.file_id.0 && (a.offset == b.offset && a.length == b.length)

-- a place that is not the fault's own
abbrev pub is_other : Option SourceSpan → Option SourceSpan → Bool
is_other own None = false
is_other None (Some span) = true
is_other (Some own) (Some span) = not (same_span span own)

abbrev pub others : Option SourceSpan → List Noted → List Noted
others own noted = filter (λ (n : Noted). is_other own n.place) noted

-- the name of its text, the position where it begins, and the words of the place
pub record IsRelated (sources : List Source) (noted : Noted) (related : Related) : Type 0 where
  pub path : string_bytes related.path ≡ path_at sources [] noted.place
  pub words : string_bytes related.words ≡ noted.words.now
  pub start : (place : Option Place) × IsPlaceAt sources noted.place place × (related.start ≡ option_map (λ (p : Place). p.start) place)

-- each of the places is told, in order
abbrev pub AreRelated : List Source → List Noted → List Related → Type 0
AreRelated sources [] [] = ⊤
AreRelated sources [] (r ∷ rs) = ⊥
AreRelated sources (n ∷ ns) [] = ⊥
AreRelated sources (n ∷ ns) (r ∷ rs) = IsRelated sources n r × AreRelated sources ns rs
