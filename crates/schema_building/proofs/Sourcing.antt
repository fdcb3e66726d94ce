-- Lemmas on sources.
use Rattle.std.proofs.Common.{◌≡◌, Bool, true, false, List, [], ◌∷◌, map, refl, ap, cond, nat_eq}
use Rattle.graphql_names.specs.declared.span.FileId.{FileId}
use Rattle.schema_built_in.specs.in_definitions.Sources.{source_of, numbered_source}
use Rattle.schema_built_in.specs.in_definitions.declared.document.SourceFile.{SourceFile}
use Rattle.indexmap.specs.IndexMap.{insert_entry}

pub insert_viewed : (es : List (FileId × SourceFile)) (file : FileId) (source : SourceFile)
    → map numbered_source (insert_entry (λ a b. nat_eq a.0 b.0) es file source) ≡ insert_entry nat_eq (map numbered_source es) file.0 (source_of source)
insert_viewed [] file source = refl
insert_viewed (e ∷ es) file source = by (nat_eq file.0 e.0.0) (insert_viewed es file source)
  where
    by : (b : Bool) → map numbered_source (insert_entry (λ a b. nat_eq a.0 b.0) es file source) ≡ insert_entry nat_eq (map numbered_source es) file.0 (source_of source)
        → map numbered_source (cond b ((e.0, source) ∷ es) (e ∷ insert_entry (λ a b. nat_eq a.0 b.0) es file source)) ≡ cond b ((e.0.0, source_of source) ∷ map numbered_source es) (numbered_source e ∷ insert_entry nat_eq (map numbered_source es) file.0 (source_of source))
    by true h = refl
    by false h = ap (λ l. numbered_source e ∷ l) h
