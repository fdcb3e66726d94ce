use Rattle.std.proofs.Common.{◌≡◌, ◌∙◌, ◌++◌, ◌∷◌, [], ◌+◌, refl, sym, ap, subst, length}
use Rattle.std.proofs.lemmas.List.{length_push}
use Rattle.document_typed_selections.specs.TypedTree.{typed_set_tree}
use Rattle.rule_field_sets.specs.Numbered.{tables_of, nodes_of}
use Rattle.rule_field_sets.specs.Nodes.{IsNodeOf, AreNodes, set_nodes, fragment_nodes, fragments_in, schema_in}
use Rattle.rule_field_sets.specs.Added.{IsNextFragment}
use Rattle.rule_field_sets.proofs.Kept.{with_start, next_on, nodes_sets}
use Rattle.rule_field_sets.proofs.Growing.{grows_same}
use Rattle.rule_field_sets.proofs.field_sets.FieldSets.add_fragment.Goals as goal

pub returns : goal.returns
returns c =
    let a = c.args.self.now in
    let w = c.add_nodes.new.self in
    let n = c.in_ok-start.start in
    let grown = c.add_nodes.ensures.grown in
    let pushed = c.in_ok-push.ensures.items in
    let next : IsNextFragment w (typed_set_tree c.args.set.now) = next_on a w (typed_set_tree c.args.set.now) grown c.requires.fragment in
    record {
      sets = with_start (schema_in w) (fragments_in w) (tables_of w.numbers) (nodes_of w.numbers) w.begun (set_nodes w) (fragment_nodes w) c.push.new.self.items n pushed
          next.0 next.1.0 (subst (IsNodeOf (set_nodes w) n) (sym next.1.1) c.in_ok-start.ensures.node) c.add_nodes.ensures.sets;
      grown = record {
        schema = grown.schema;
        fragments = grown.fragments;
        tables = grown.tables;
        nodes = grown.nodes;
        starts = (n ∷ [], pushed ∙ ap (λ l. l ++ n ∷ []) grown.starts);
      };
      more = ap length pushed ∙ length_push (fragment_nodes w) n ∙ ap (λ l. length l + 1) grown.starts;
    }

pub returns-in_err-start-clause-sets : goal.returns-in_err-start-clause-sets
returns-in_err-start-clause-sets c = c.add_nodes.ensures.sets

pub returns-in_err-start-clause-grown : goal.returns-in_err-start-clause-grown
returns-in_err-start-clause-grown c = nodes_sets c.args.self.now c.add_nodes.new.self c.add_nodes.ensures.grown

pub returns-in_err-push-clause-sets : goal.returns-in_err-push-clause-sets
returns-in_err-push-clause-sets c =
    let w = c.add_nodes.new.self in
    subst (AreNodes (schema_in w) (fragments_in w) (tables_of w.numbers) (nodes_of w.numbers) w.begun (set_nodes w)) (sym c.in_err-push.ensures.items) c.add_nodes.ensures.sets

pub returns-in_err-push-clause-grown : goal.returns-in_err-push-clause-grown
returns-in_err-push-clause-grown c =
    let a = c.args.self.now in
    let grown = c.add_nodes.ensures.grown in
    record {
      schema = grown.schema;
      fragments = grown.fragments;
      tables = grown.tables;
      nodes = grown.nodes;
      starts = grows_same (fragment_nodes a) c.push.new.self.items (c.in_err-push.ensures.items ∙ grown.starts);
    }
