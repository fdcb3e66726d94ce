-- Places in files.
use Rattle.std.specs.Prelude.{ℕ, ◌≡◌, ◌≢◌, ◌+◌, ◌<◌, ◌≤◌, ◌==◌, Option, Some, None, Bool, false}
use Rattle.graphql_names.specs.declared.span.SourceSpan.{SourceSpan}

-- where a place ends
abbrev pub span_end : SourceSpan → ℕ
span_end s = s.offset + s.length

-- whether a place is in the file of the built-in definitions
abbrev pub is_built_in : Option SourceSpan → Bool
is_built_in None = false
is_built_in (Some s) = s.file_id.0 == 0

-- `whole` is the place from where `start` begins to where `end` ends
pub record Reaches (start end whole : SourceSpan) : Type 0 where
  pub file : whole.file_id ≡ start.file_id
  pub begins : whole.offset ≡ start.offset
  pub ends : span_end whole ≡ span_end end

-- two places joined, by cases: in different files, `end` wholly before `start`, and all others
pub record RecomposesBoth (start end whole : SourceSpan) : Type 0 where
  pub other_file : start.file_id ≢ end.file_id → whole ≡ end
  pub before : start.file_id ≡ end.file_id → span_end end < start.offset → whole ≡ start
  pub reaches : start.file_id ≡ end.file_id → start.offset ≤ span_end end → Reaches start end whole

-- `whole` is the place from `start` to `end`; if one of them is missing, it is the other
abbrev pub Recomposes : Option SourceSpan → Option SourceSpan → Option SourceSpan → Type 0
Recomposes None end whole = whole ≡ end
Recomposes (Some start) None whole = whole ≡ Some start
Recomposes (Some start) (Some end) None = ⊥
Recomposes (Some start) (Some end) (Some whole) = RecomposesBoth start end whole
