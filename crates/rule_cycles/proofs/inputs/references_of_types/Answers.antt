use Rattle.std.proofs.Common.{◌≡◌, ◌≤◌, ℕ, [], length, sym, ◌∙◌, arith}
use Rattle.std.proofs.lemmas.List.{length-map}
use Rattle.graphql_names.specs.Placed.{node_tree}
use Rattle.tree_directives.specs.DirectiveTree.{input_value_tree}
use Rattle.schema_types.specs.TypeView.{name_text, extended_type}
use Rattle.graphql_schema.specs.SchemaOf.{schema_tree}
use Rattle.rule_cycles.specs.Numbers.{input_references}
use Rattle.rule_cycles.specs.FaultLists.{input_fields_at}
use Rattle.rule_cycles.proofs.InputGraphs.{past_the_last}
use Rattle.rule_cycles.proofs.ReferenceFacts.{AreNoted-none, AreNoted-more, AreNoted-refers, AreNoted-labels}
use Rattle.rule_cycles.proofs.inputs.references_of_types.Goals as goal

pub loop-number-init : goal.loop-number-init
loop-number-init c = record {
  none_first = c.new-all.ensures.first_kind;
  all_roots = c.new-all.ensures.roots;
  bound = c.new-all.ensures.bound;
  noted = AreNoted-none (node_tree input_value_tree) (input_fields_at (schema_tree c.args.schema.now)) c.new-all.result c.new-all.ensures.references c.new-all.ensures.firsts;
}

pub loop-number-preserved : goal.loop-number-preserved
loop-number-preserved c =
    let i = c.loop-number.invariant in
    let adds = c.in_ok-push.ensures in
    record {
      none_first = adds.first_kind ∙ i.none_first;
      all_roots = adds.roots ∙ i.all_roots;
      bound = adds.bound ∙ i.bound;
      noted = AreNoted-more (node_tree input_value_tree) (input_fields_at (schema_tree c.args.schema.now)) c.loop-number.number c.loop-number.all c.push.new.self c.in_ok-input_references.field-0.items i.noted adds c.in_ok-input_references.ensures;
    }

pub returns : goal.returns
returns c =
    let i = c.loop-number.invariant in
    let s = schema_tree c.args.schema.now in
    let all : c.len-roots.result ≡ length s.types = c.len-roots.ensures.len ∙ sym (length-map c.args.schema.now.types.entries (λ e. (name_text e.0, extended_type e.1))) in
    let last : c.len-roots.result ≡ c.loop-number.number = omega arith in
    let none : (j : ℕ) → c.loop-number.number ≤ j → input_fields_at s j ≡ [] = λ j h. past_the_last (input_references s.types) s.types j (omega (arith, all, last, h)) in
    record {
      graph = record {
        none_first = i.none_first;
        all_roots = i.all_roots ∙ all;
        bound = i.bound;
        refers = AreNoted-refers (node_tree input_value_tree) (input_fields_at s) c.loop-number.number c.loop-number.all i.noted none;
      };
      labels = AreNoted-labels (node_tree input_value_tree) (input_fields_at s) c.loop-number.number c.loop-number.all i.noted none;
    }
