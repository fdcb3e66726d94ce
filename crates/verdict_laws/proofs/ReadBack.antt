-- What is written of definitions that are well-formed and can be written is read back, within the limit that the definitions keep.
use Rattle.std.proofs.Common.{◌≡◌, ◌≢◌, ℕ, ◌+◌, ◌≤◌, ◌<◌, max, Bool, true, false, List, [], ◌∷◌, ◌++◌, Some, None, codes, inl, inr, refl, sym, ap, subst, ◌∙◌, arith, suc, ltb, ltb-true, ltb-false}
use Rattle.std.specs.List.{list_all}
use Rattle.std.proofs.lemmas.Bool.{and_parts}
use Rattle.std.proofs.lemmas.List.{append-nil}
use Rattle.graphql_names.specs.declared.span.FileId.{FileId}
use Rattle.tree_definitions.specs.DefinitionTree.{unplaced_document}
use Rattle.tree_definitions.specs.DocumentLayout.{document_text}
use Rattle.tree_definitions.specs.Writable.{has_some, definition_writable, document_writable}
use Rattle.read_grammar.specs.Depth.{depth}
use Rattle.read_grammar.specs.Grammar.{Derives}
use Rattle.read_operations.specs.Meanings.{in_file}
use Rattle.graphql_read.specs.Reads.{HasTree, NestingBound}
use Rattle.graphql_read.proofs.Bounds.{not_passed}
use Rattle.graphql_read.proofs.Soundness.{document_sound}
use Rattle.round_trip.specs.Definitions.{definition_well_formed}
use Rattle.round_trip.specs.ReadsAlone.{ReadsAlone}
use Rattle.round_trip.proofs.Alone.{literals_read, document_alone}
use Rattle.round_trip.proofs.Unplaced.{document_same}
use Rattle.round_trip.specs.TreeDepth.{document_depth}
use Rattle.round_trip.proofs.DocumentsNest.{derived_depth}
use Rattle.round_trip.proofs.NestAlike.{document_read_depth}
use Rattle.rule_schema_laws.specs.ReadTexts.{Texts, AreReadElsewhere}
use Rattle.verdict_laws.specs.ReadTexts.{all_of}
use Rattle.verdict_laws.specs.Elsewhere.{AreAllElsewhere}
use Rattle.verdict_laws.proofs.ReadTexts.{texts_elsewhere}
use Rattle.verdict_definitions.specs.Texts.{SourceText, Tree, ReadsText, ReadsAll, DerivesIn, IsWithin, AreWithin}
use Rattle.verdict_definitions.specs.Meaning.{all_definitions}
use Rattle.verdict_definitions.specs.Out.{Layout, layout_text, as_lines}
use Rattle.verdict_laws.specs.RoadBack.{IsPlainLayout, IsLaidOutText, IsSameTree, IsWrittenAlike}
use Rattle.verdict_laws.proofs.LineFeeds.{document_line}

-- The text has this number and is read as the definitions, apart from places; and it nests no deeper than they.
pub record ReadsBack (number : ℕ) (text : SourceText) (ds : Tree) : Type 0 where
  pub tree : Tree
  pub read : ReadsText number text tree
  pub same : IsSameTree tree ds
  pub nests : (nesting : ℕ) → document_depth ds ≤ nesting → NestingBound nesting text → ⊥

-- a text that is read as these definitions alone
of_alone : (number : ℕ) (text : SourceText) (ds : Tree) → ReadsAlone (Derives (in_file (record { 0 = number }))) unplaced_document text (unplaced_document ds) → ReadsBack number text ds
of_alone number text ds r =
    let read : HasTree (DerivesIn number) text r.tree = record { tokens = r.tokens; lexed = r.lexed; derived = r.derived } in
    record {
      tree = r.tree;
      read = read;
      same = r.same;
      nests = λ nesting deep.
          let size : depth r.tokens ≡ document_depth ds = document_read_depth (in_file (record { 0 = number })) text ds r in
          not_passed (DerivesIn number) nesting text r.tree (record { reads = read; within = omega (arith, size, deep) });
    }

pub reads_back : (number : ℕ) (layout : Layout) → IsPlainLayout layout → (ds : Tree) → list_all definition_well_formed ds ≡ true → document_writable ds ≡ true → (text : SourceText) → IsLaidOutText layout ds text → ReadsBack number text ds
reads_back number layout plain [] formed writable text is = absurd cc
reads_back number layout plain (d ∷ ds) formed writable text is = by is
  where
    file : FileId
    file = record { 0 = number }

    each : list_all definition_writable (d ∷ ds) ≡ true
    each = (and_parts (has_some (d ∷ ds)) (list_all definition_writable (d ∷ ds)) writable).1

    bare : ReadsBack number (layout_text layout (d ∷ ds)) (d ∷ ds)
    bare = of_alone number (layout_text layout (d ∷ ds)) (d ∷ ds) (document_alone (in_file file) literals_read layout 0 d ds plain formed each)

    lines : (l : Layout) → IsPlainLayout l → ReadsBack number (layout_text l (d ∷ ds)) (d ∷ ds) → ReadsBack number (as_lines l (layout_text l (d ∷ ds))) (d ∷ ds)
    lines None plain' back = of_alone number (layout_text None (d ∷ ds) ++ codes "\n") (d ∷ ds) (document_line (in_file file) literals_read None d ds plain' formed each)
    lines (Some prefix) plain' back = back

    by : IsLaidOutText layout (d ∷ ds) text → ReadsBack number text (d ∷ ds)
    by (inl e) = subst (λ t. ReadsBack number t (d ∷ ds)) (sym e) bare
    by (inr e) = subst (λ t. ReadsBack number t (d ∷ ds)) (sym e) (lines layout plain bare)

-- what is equal, apart from places, is written alike
pub written_alike : (a b : Tree) → IsSameTree a b → IsWrittenAlike a b
written_alike a b same layout = document_same layout 0 a ∙ ap (document_text layout 0) same ∙ sym (document_same layout 0 b)

-- ---- how deep the definitions of texts within a bound are

no_more : (a b : ℕ) → (b < a → ⊥) → a ≤ b
no_more a b h = by (ltb b a) refl
  where
    by : (t : Bool) → ltb b a ≡ t → a ≤ b
    by true e = absurd (h (ltb-true b a e))
    by false e = ltb-false b a e

pub text_depth : (nesting number : ℕ) (text : SourceText) (tree : Tree) → ReadsText number text tree → IsWithin nesting number text → document_depth tree ≤ nesting
text_depth nesting number text tree r within =
    let size : depth r.tokens ≡ document_depth tree = derived_depth (in_file (record { 0 = number })) r.tokens tree r.derived in
    let few : depth r.tokens ≤ nesting = no_more (depth r.tokens) nesting (λ above. within.nests (record { tokens = r.tokens; following = []; lexed = r.lexed; above = above })) in
    omega (arith, size, few)

pub depth_append : (xs ys : Tree) → document_depth (xs ++ ys) ≡ max (document_depth xs) (document_depth ys)
depth_append [] ys = omega arith
depth_append (x ∷ xs) ys = let rest = depth_append xs ys in omega (arith, rest)

pub texts_depth : (nesting first : ℕ) (texts : List SourceText) (trees : List Tree) → ReadsAll first texts trees → AreWithin nesting first texts → document_depth (all_definitions trees) ≤ nesting
texts_depth nesting first [] [] read within = omega arith
texts_depth nesting first [] (tree ∷ trees) read within = absurd read
texts_depth nesting first (text ∷ texts) [] read within = absurd read
texts_depth nesting first (text ∷ texts) (tree ∷ trees) read within =
    let here = text_depth nesting first text tree read.0 within.0 in
    let rest = texts_depth nesting (first + 1) texts trees read.1 within.1 in
    let both = depth_append tree (all_definitions trees) in
    omega (arith, here, rest, both)

-- ---- what is read under other numbers than that of what is built in stands elsewhere

numbered_texts : ℕ → List Tree → Texts
numbered_texts first [] = []
numbered_texts first (tree ∷ trees) = (first, tree) ∷ numbered_texts (first + 1) trees

numbered_all : (first : ℕ) (trees : List Tree) → all_of (numbered_texts first trees) ≡ all_definitions trees
unfolding numbered_texts
numbered_all first [] = refl
numbered_all first (tree ∷ trees) = ap (λ l. tree ++ l) (numbered_all (first + 1) trees)

numbered_read : (first : ℕ) (texts : List SourceText) (trees : List Tree) → first ≢ 0 → ReadsAll first texts trees → AreReadElsewhere (numbered_texts first trees)
unfolding numbered_texts
numbered_read first [] [] some read = tt
numbered_read first [] (tree ∷ trees) some read = absurd read
numbered_read first (text ∷ texts) [] some read = absurd read
numbered_read first (text ∷ texts) (tree ∷ trees) some read = (
  (some, document_sound (record { 0 = first }) text tree read.0),
  numbered_read (first + 1) texts trees (λ e. let bad : suc first ≡ 0 = omega (arith, e) in cc) read.1,
)

pub read_elsewhere : (first : ℕ) (texts : List SourceText) (trees : List Tree) → first ≢ 0 → ReadsAll first texts trees → AreAllElsewhere (all_definitions trees)
read_elsewhere first texts trees some read = subst AreAllElsewhere (numbered_all first trees) (texts_elsewhere (numbered_texts first trees) (numbered_read first texts trees some read))

-- the definitions of one tree
pub one_tree : (tree : Tree) → all_definitions (tree ∷ []) ≡ tree
one_tree tree = append-nil tree
