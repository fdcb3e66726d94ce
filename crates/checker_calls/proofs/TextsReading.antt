-- What a checker keeps of a text, whether it is read or not.
use Rattle.std.proofs.Common.{◌≡◌, ◌≢◌, ◌+◌, ◌<◌, ◌^◌, ◌++◌, ◌∷◌, ℕ, List, [], Some, sym, ap, ◌∙◌, subst, arith}
use Rattle.graphql_names.specs.declared.span.FileId.{FileId}
use Rattle.verdict_definitions.specs.in_read.Reads.{NestingBound}
use Rattle.verdict_definitions.specs.in_read.ReadFaults.{unnamed_source}
use Rattle.verdict_definitions.specs.in_faults.DetailsView.{details_at, diagnostics_of}
use Rattle.verdict_definitions.specs.Texts.{SourceText, Tree, ReadsText}
use Rattle.verdict_definitions.specs.Says.{AnyFault, spent}
use Rattle.checker_calls.specs.Unread.{IsUnread}
use Rattle.checker_calls.specs.declared.reading.Unread.{Unread}
use Rattle.checker_calls.specs.declared.reading.Unread.TheVariants as unread
use Rattle.checker_calls.specs.Added.{AreAdded, IsToldAfter}
use Rattle.checker_calls.specs.TextSources.{Sources}
use Rattle.checker_calls.specs.TextsView.{terms_of, texts_of, trees_of, all_sources, IsReadingAt, IsReadingOf, IsBefore}
use Rattle.checker_calls.specs.declared.schema_texts.SchemaTexts.{SchemaTexts}
use Rattle.checker_calls.proofs.Adding.{spent_added, fault_added, after_added, tree_added}

-- with the number that comes next
pub reading_of : (texts : List SourceText) (s : SchemaTexts) (number : ℕ) → s.files ≡ number → IsReadingAt texts number s → IsReadingOf texts s
reading_of texts s number next is = subst (λ n. IsReadingAt texts n s) (sym next) is

-- the next text has the number that was taken
pub before_next : (s : SchemaTexts) (files : ℕ) (file : FileId) → IsReadingOf (texts_of s) s → file.0 ≡ s.files → files ≡ s.files + 1 → s.files + 1 < 2 ^ 64 → IsBefore (texts_of s) file (record s { files = files })
before_next s files file is given next left = record {
  added = subst (λ n. IsReadingAt (texts_of s) n s) (sym given) is;
  number = next ∙ ap (λ n. n + 1) (sym given);
  left = omega (arith, given, left);
}

-- one without a number
pub spent_kept : (s : SchemaTexts) → IsReadingOf (texts_of s) s → s.files + 1 ≡ 2 ^ 64 → (text : SourceText) (faults : List AnyFault) → faults ≡ diagnostics_of s.unread ++ spent ∷ []
    → AreAdded (terms_of s) (texts_of s ++ text ∷ []) s.files (trees_of s) (all_sources s.documents.items) faults
spent_kept s is none text faults told =
    subst (AreAdded (terms_of s) (texts_of s ++ text ∷ []) s.files (trees_of s) (all_sources s.documents.items)) (sym told)
    (spent_added (terms_of s) (texts_of s) s.files text (trees_of s) (all_sources s.documents.items) (diagnostics_of s.unread) is none)

module _ (s : SchemaTexts) (file : FileId) (before : IsBefore (texts_of s) file s) (text : SourceText) where
  -- one that is not read
  pub unread_kept : (u : Unread) → IsUnread s.nesting file.0 text u → (faults : List AnyFault) → IsToldAfter u (diagnostics_of s.unread) faults
      → AreAdded (terms_of s) (texts_of s ++ text ∷ []) (file.0 + 1) (trees_of s) (all_sources s.documents.items) faults
  unread_kept unread.Memory is faults told = absurd told
  unread_kept (unread.Fault place details) is faults told =
      subst (AreAdded (terms_of s) (texts_of s ++ text ∷ []) (file.0 + 1) (trees_of s) (all_sources s.documents.items)) (sym told)
      (fault_added (terms_of s) (texts_of s) file.0 text (trees_of s) (all_sources s.documents.items) (diagnostics_of s.unread) before.added before.left (details_at (Some place, details)) is)

  module _ (tree : Tree) (reads : ReadsText file.0 text tree) (nests : NestingBound s.nesting text → ⊥) where
    -- one that is read, after one that is not
    pub after_kept : diagnostics_of s.unread ≢ [] → AreAdded (terms_of s) (texts_of s ++ text ∷ []) (file.0 + 1) (trees_of s) (all_sources s.documents.items) (diagnostics_of s.unread)
    after_kept some = after_added (terms_of s) (texts_of s) file.0 text (trees_of s) (all_sources s.documents.items) (diagnostics_of s.unread) before.added before.left tree reads nests some

    -- one of which the tree is kept
    pub tree_kept : (trees : List Tree) (sources : Sources) → trees ≡ trees_of s ++ tree ∷ [] → sources ≡ all_sources s.documents.items ++ (file.0, unnamed_source text) ∷ []
        → AreAdded (terms_of s) (texts_of s ++ text ∷ []) (file.0 + 1) trees sources (diagnostics_of s.unread)
    tree_kept trees sources is come =
        subst (λ ts. AreAdded (terms_of s) (texts_of s ++ text ∷ []) (file.0 + 1) ts sources (diagnostics_of s.unread)) (sym is)
        (subst (λ ss. AreAdded (terms_of s) (texts_of s ++ text ∷ []) (file.0 + 1) (trees_of s ++ tree ∷ []) ss (diagnostics_of s.unread)) (sym come)
        (tree_added (terms_of s) (texts_of s) file.0 text (trees_of s) (all_sources s.documents.items) (diagnostics_of s.unread) before.added before.left tree reads nests))
