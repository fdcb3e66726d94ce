use Rattle.std.proofs.Common.{◌≡◌, ◌+◌, ◌++◌, ◌∷◌, [], map, ap, ◌∙◌, append-nil, arith}
use Rattle.std.specs.Prelude.{flat_map}
use Rattle.std.proofs.lemmas.List.Concat.{flat_map-append}
use Rattle.std.proofs.lemmas.Grind.{common_steps}
use Rattle.tree_definitions.specs.DefinitionTree.{document_tree}
use Rattle.tree_definitions.specs.Sources.{sources_of}
use Rattle.verdict_definitions.specs.in_read.ReadFaults.{unnamed_source}
use Rattle.checker_calls.specs.TextsView.{texts_of, trees_of, all_sources}
use Rattle.checker_calls.proofs.TextsReading.{reading_of, after_kept, tree_kept}
use Rattle.checker_calls.proofs.schema_texts.SchemaTexts.keep.Goals as goal

pub returns-then-not-is_empty-clause-reading : goal.returns-then-not-is_empty-clause-reading
returns-then-not-is_empty-clause-reading c = λ text reads nests given.
    let old = c.args.self.now in
    reading_of (texts_of old ++ text ∷ []) old (c.args.file.0 + 1) c.requires.number
    (after_kept old c.args.file c.requires text _ reads nests (λ e. let h = c.if-not-is_empty.ensures.1 e in absurd cc))

pub returns-clause-reading : goal.returns-clause-reading
returns-clause-reading c = λ text reads nests given.
    let old = c.args.self.now in
    let new = record old { documents = c.push.new.self } in
    let pushed : trees_of new ≡ trees_of old ++ document_tree c.args.document ∷ [] = grind (arith, common_steps) in
    let come : map sources_of new.documents.items ≡ map sources_of old.documents.items ++ sources_of c.args.document ∷ [] = grind (arith, common_steps) in
    let sources : all_sources new.documents.items ≡ all_sources old.documents.items ++ (c.args.file.0, unnamed_source text) ∷ [] =
    ap (flat_map (λ ss. ss)) come ∙ flat_map-append (λ ss. ss) (map sources_of old.documents.items) (sources_of c.args.document ∷ [])
    ∙ ap (λ l. all_sources old.documents.items ++ l) (append-nil (sources_of c.args.document) ∙ given) in
    reading_of (texts_of old ++ text ∷ []) new (c.args.file.0 + 1) c.requires.number
    (tree_kept old c.args.file c.requires text _ reads nests (trees_of new) (all_sources new.documents.items) pushed sources)
