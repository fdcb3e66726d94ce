use Rattle.std.proofs.Common.{◌≤◌, sym, subst, ◌∙◌}
use Rattle.std.specs.Option.{option_copied}
use Rattle.tree_definitions.specs.DefinitionTree.{document_tree, unplaced_document}
use Rattle.graphql_read.specs.in_grammar.Grammar.{Derives}
use Rattle.graphql_read.specs.in_read_operations.Meanings.{in_file}
use Rattle.round_trip.proofs.NestAlike.{document_read_depth}
use Rattle.round_trip.specs.ReadsAgain.{laid_out}
use Rattle.round_trip.proofs.SameTree.{same_of, within_of, document_reads}
use Rattle.round_trip.proofs.again.reread_document.Goals as goal

pub returns-clause-same : goal.returns-clause-same
returns-clause-same c = λ ready.
    same_of (Derives (in_file c.args.file)) unplaced_document document_tree c.args.nesting (laid_out c.args.layout) (unplaced_document (document_tree c.args.layout.tree.now))
    (document_reads c.args.file (option_copied c.args.layout.prefix) c.args.layout.level c.args.layout.tree.now.definitions.items ready.0 ready.1)
    c.deref.result.now (c.deref.ensures ∙ c.in_ok-text.ensures) c.parse_document.result c.parse_document.ensures.found c.parse_document.ensures.fault

pub returns-clause-within : goal.returns-clause-within
returns-clause-within c = λ ready shallow.
    let tree = document_tree c.args.layout.tree.now in
    let reads = document_reads c.args.file (option_copied c.args.layout.prefix) c.args.layout.level c.args.layout.tree.now.definitions.items ready.0 ready.1 in
    within_of (Derives (in_file c.args.file)) unplaced_document document_tree c.args.nesting (laid_out c.args.layout) (unplaced_document tree) reads
    c.deref.result.now (c.deref.ensures ∙ c.in_ok-text.ensures) c.parse_document.result c.parse_document.ensures.only
    (subst (λ deep. deep ≤ c.args.nesting) (sym (document_read_depth (in_file c.args.file) (laid_out c.args.layout) tree reads)) shallow)
