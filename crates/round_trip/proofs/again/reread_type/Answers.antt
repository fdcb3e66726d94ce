use Rattle.std.proofs.Common.{◌≤◌, sym, subst, ◌∙◌}
use Rattle.tree_literals.specs.ValueLayout.{type_text}
use Rattle.tree_literals.specs.TypeTree.{type_tree, unplaced_type}
use Rattle.graphql_read.specs.in_grammar.Grammar.{DerivesType}
use Rattle.graphql_read.specs.in_read_operations.Meanings.{in_file}
use Rattle.round_trip.proofs.NestAlike.{type_read_depth}
use Rattle.round_trip.proofs.SameTree.{same_of, within_of, type_reads, standing_on_one_line}
use Rattle.round_trip.proofs.again.reread_type.Goals as goal

pub returns-clause-same : goal.returns-clause-same
returns-clause-same c =
    same_of (DerivesType (in_file c.args.file)) unplaced_type type_tree c.args.nesting (type_text (type_tree c.args.ty.now)) (unplaced_type (type_tree c.args.ty.now))
    (type_reads c.args.file c.args.ty.now)
    c.deref.result.now (c.deref.ensures ∙ c.in_ok-text.ensures ∙ standing_on_one_line 0 (type_text (type_tree c.args.ty.now))) c.parse_type.result c.parse_type.ensures.found c.parse_type.ensures.fault

pub returns-clause-within : goal.returns-clause-within
returns-clause-within c = λ shallow.
    let tree = type_tree c.args.ty.now in
    let reads = type_reads c.args.file c.args.ty.now in
    within_of (DerivesType (in_file c.args.file)) unplaced_type type_tree c.args.nesting (type_text tree) (unplaced_type tree) reads
    c.deref.result.now (c.deref.ensures ∙ c.in_ok-text.ensures ∙ standing_on_one_line 0 (type_text tree)) c.parse_type.result c.parse_type.ensures.only
    (subst (λ deep. deep ≤ c.args.nesting) (sym (type_read_depth (in_file c.args.file) (type_text tree) tree reads)) shallow)
